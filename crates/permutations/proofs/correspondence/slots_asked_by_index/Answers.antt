use Rattle.permutations.proofs.AskedSlots.{slots_asked_by_index}
use Rattle.permutations.proofs.correspondence.slots_asked_by_index.Goals as goal

pub returns : goal.returns
returns c = slots_asked_by_index
