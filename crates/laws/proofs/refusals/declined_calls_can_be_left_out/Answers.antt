use Rattle.laws.proofs.Grounds.{left_out}
use Rattle.laws.proofs.refusals.declined_calls_can_be_left_out.Goals as goal

pub returns : goal.returns
returns c = left_out
