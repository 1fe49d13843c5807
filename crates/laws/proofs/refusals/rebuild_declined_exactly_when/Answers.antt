use Rattle.laws.proofs.Grounds.{rebuild_exactly}
use Rattle.laws.proofs.refusals.rebuild_declined_exactly_when.Goals as goal

pub returns : goal.returns
returns c = rebuild_exactly
