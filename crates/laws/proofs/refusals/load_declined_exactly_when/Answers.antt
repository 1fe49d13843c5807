use Rattle.laws.proofs.Grounds.{load_exactly}
use Rattle.laws.proofs.refusals.load_declined_exactly_when.Goals as goal

pub returns : goal.returns
returns c = load_exactly
