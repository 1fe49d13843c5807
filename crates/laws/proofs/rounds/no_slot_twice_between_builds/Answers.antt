use Rattle.laws.proofs.NoSlotTwice.{no_slot_twice_between_builds}
use Rattle.laws.proofs.rounds.no_slot_twice_between_builds.Goals as goal

pub returns : goal.returns
returns c = no_slot_twice_between_builds
