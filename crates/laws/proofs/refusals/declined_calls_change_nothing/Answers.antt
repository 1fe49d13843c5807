use Rattle.laws.proofs.Grounds.{unchanged}
use Rattle.laws.proofs.refusals.declined_calls_change_nothing.Goals as goal

pub returns : goal.returns
returns c = unchanged
