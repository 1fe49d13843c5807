use Rattle.std.proofs.Common.{refl}
use Rattle.rules.specs.Loading.{load_requests, loading}
use Rattle.rules.specs.Accessing.{accessing}
use Rattle.rules.specs.Rebuilding.{untouched_slots, items, batch_step, gathered, rebuild_steps, rebuilding}
use Rattle.laws.proofs.refusals.refusals_by_example.Goals as goal

pub returns : goal.returns
unfolding load_requests loading accessing untouched_slots items batch_step gathered rebuild_steps rebuilding
returns c = record {
  numbers = refl;
  entries = refl;
  not_opened = refl;
  opened = refl;
  no_level = refl;
  too_wide = refl;
  other_width = refl;
  place_short = refl;
  index_filled = refl;
  other_supply = refl;
}
