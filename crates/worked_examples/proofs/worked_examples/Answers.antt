use Rattle.std.proofs.Common.{refl}
use Rattle.gap_index.specs.Gaps.{gaps_from}
use Rattle.rules.specs.Loading.{load_requests, loading}
use Rattle.rules.specs.Accessing.{accessing}
use Rattle.rules.specs.Rebuilding.{untouched_slots, items, batch_step, gathered, rebuild_steps, rebuilding}
use Rattle.worked_examples.proofs.worked_examples.Goals as goal

pub returns : goal.returns
unfolding gaps_from load_requests loading accessing untouched_slots items batch_step gathered rebuild_steps rebuilding
returns c = record {
  rank_of_7 = refl;
  position_2 = refl;
  gaps = refl;
  builds = refl;
  level_starts = refl;
  scratch = refl;
  needed = refl;
  seat_of_70 = refl;
  seat_of_3 = refl;
  session_entries = refl;
  session_places = refl;
  session_bytes = refl;
  in_turn_places = refl;
}
