use Rattle.laws.proofs.Seats.{every_slot_at_its_seat}
use Rattle.laws.proofs.latest.every_slot_at_its_seat.Goals as goal

pub returns : goal.returns
returns c = every_slot_at_its_seat
