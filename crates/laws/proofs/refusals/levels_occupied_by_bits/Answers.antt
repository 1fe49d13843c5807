use Rattle.laws.proofs.Turns.{occupation}
use Rattle.laws.proofs.refusals.levels_occupied_by_bits.Goals as goal

pub returns : goal.returns
returns c = occupation
