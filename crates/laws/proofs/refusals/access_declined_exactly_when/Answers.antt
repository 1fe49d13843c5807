use Rattle.laws.proofs.Grounds.{access_exactly}
use Rattle.laws.proofs.refusals.access_declined_exactly_when.Goals as goal

pub returns : goal.returns
returns c = access_exactly
