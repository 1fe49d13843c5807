use Rattle.laws.proofs.Grounds.{entries_fill}
use Rattle.laws.proofs.refusals.entries_fill_the_room.Goals as goal

pub returns : goal.returns
returns c = entries_fill
