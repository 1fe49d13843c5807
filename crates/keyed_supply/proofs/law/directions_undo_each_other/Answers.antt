use Rattle.keyed_supply.specs.Undoing.{directions_undo_each_other}
use Rattle.keyed_supply.proofs.law.directions_undo_each_other.Goals as goal

pub returns : goal.returns
returns c = directions_undo_each_other
