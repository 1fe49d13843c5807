-- The keyed supply is lawful: an instance of the law of the rounds, at the widths of each build's level.
use Rattle.std.specs.Prelude.{ℕ, ◌<◌, ◌≤◌, List}
use Rattle.std.proofs.Common.{subst, arith}
use Rattle.shape.specs.Numbers.{level_of_build}
use Rattle.supply.specs.Choice.{Lawful, build_slots}
use Rattle.keyed_supply.specs.Rounds.{Undone, numbers}
use Rattle.keyed_supply.specs.Keyed.{keyed, network}
use Rattle.keyed_supply.specs.Undoing.{directions_undo_each_other}
use Rattle.keyed_supply.specs.Widths.{within_numbers, numbers_are_slots}

pub keyed_lawful : (L : ℕ) (key : List ℕ) → 1 ≤ L → L ≤ 12 → Lawful (keyed L key)
keyed_lawful L key low high = record {
  levels_low = low;
  levels_high = high;
  builds_low = omega arith;
  builds_high = omega arith;
  slot_below = λ b i h l. below b (undone b i l).forth_below;
  index_below = λ b s h l. below b (undone b s l).back_below;
  index_undoes_slot = λ b i h l. (undone b i l).back_of_forth;
  slot_undoes_index = λ b s h l. (undone b s l).forth_of_back;
}
  where
    undone : (b x : ℕ) → x < build_slots (keyed L key) b → Undone (network key b (level_of_build L b)) x
    undone b x l = directions_undo_each_other (network key b (level_of_build L b)) x (within_numbers (level_of_build L b) x l)

    below : (b : ℕ) {y : ℕ} → y < numbers (network key b (level_of_build L b)) → y < build_slots (keyed L key) b
    below b {y} = subst (λ (m : ℕ). y < m) (numbers_are_slots (level_of_build L b))
