use Rattle.laws.proofs.OneSlot.{one_slot_in_every_occupied_level}
use Rattle.laws.proofs.rounds.one_slot_in_every_occupied_level.Goals as goal

pub returns : goal.returns
returns c = one_slot_in_every_occupied_level
