use Rattle.laws.proofs.Grounds.{call_by_call}
use Rattle.laws.proofs.refusals.runs_go_call_by_call.Goals as goal

pub returns : goal.returns
returns c = call_by_call
