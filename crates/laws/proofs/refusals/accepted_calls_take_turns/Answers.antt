use Rattle.laws.proofs.Turns.{counts}
use Rattle.laws.proofs.refusals.accepted_calls_take_turns.Goals as goal

pub returns : goal.returns
returns c = counts
