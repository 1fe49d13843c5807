use Rattle.laws.proofs.EqualClients.{store_and_index_do_not_show}
use Rattle.laws.proofs.stores.store_and_index_do_not_show.Goals as goal

pub returns : goal.returns
returns c = store_and_index_do_not_show
