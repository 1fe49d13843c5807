use Rattle.laws.proofs.TopList.{top_list_is_all_addresses}
use Rattle.laws.proofs.rounds.top_list_is_all_addresses.Goals as goal

pub returns : goal.returns
returns c = top_list_is_all_addresses
