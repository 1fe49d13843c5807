use Rattle.laws.proofs.Grounds.{opening_exactly}
use Rattle.laws.proofs.refusals.opening_refuses_exactly_when.Goals as goal

pub returns : goal.returns
returns c = opening_exactly
