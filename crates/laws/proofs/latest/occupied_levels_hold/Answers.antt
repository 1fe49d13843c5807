use Rattle.laws.proofs.Bytes.{occupied_levels_hold}
use Rattle.laws.proofs.latest.occupied_levels_hold.Goals as goal

pub returns : goal.returns
returns c = occupied_levels_hold
