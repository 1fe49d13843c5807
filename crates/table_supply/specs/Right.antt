-- A right table is a lawful supply.
use Rattle.std.specs.Prelude.{◌≡◌, ℕ, ◌+◌, ◌<◌, ◌≤◌, List, drop, slice_index}
use Rattle.std.proofs.Common.{sym, ap, ◌∙◌, arith}
use Rattle.std.proofs.lemmas.List.{get_or-take, get_or-drop}
use Rattle.permutations.specs.Tables.{position}
use Rattle.permutations.proofs.Tables.{onto}
use Rattle.supply.specs.Choice.{Lawful}
use Rattle.table_supply.specs.Table.{part_slots, slots_before, part, Permuted, table_choice}

pub table_lawful : (L K : ℕ) (slots : List ℕ) → 1 ≤ L → L ≤ 12 → 1 ≤ K → K ≤ 1000000 → Permuted L slots K → Lawful (table_choice L K slots)
table_lawful L K slots low high some most all = record {
  levels_low = low;
  levels_high = high;
  builds_low = some;
  builds_high = most;
  slot_below = λ b i h k. omega (arith, slot b i k, (all b h).below i k);
  index_below = λ b s h k. (onto (part_slots L b) (part L slots b) (all b h)).position_below s k;
  index_undoes_slot = λ b i h k. ap (position (part L slots b)) (slot b i k) ∙ (onto (part_slots L b) (part L slots b) (all b h)).nowhere_else i k;
  slot_undoes_index = λ b s h k. let there = onto (part_slots L b) (part L slots b) (all b h) in slot b (position (part L slots b) s) (there.position_below s k) ∙ there.stands_there s k;
}
  where
    slot : (b i : ℕ) → i < part_slots L b → slice_index slots (slots_before L b + i) ≡ slice_index (part L slots b) i
    slot b i k = sym (get_or-take (part_slots L b) (drop (slots_before L b) slots) i 0 k ∙ get_or-drop (slots_before L b) slots i 0)
