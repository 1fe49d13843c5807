-- A table whose every slot lies within its build and is found at its own index has permutations alone.
use Rattle.std.proofs.Common.{◌≡◌, ℕ, ◌<◌, List, length, sym, ap, ◌∙◌, arith, length-take, length-drop}
use Rattle.std.specs.Prelude.{slice_index}
use Rattle.permutations.specs.Tables.{position}
use Rattle.table_supply.specs.Table.{part_slots, slots_before, part, Permuted}
use Rattle.table_supply.proofs.Sums.{part_inside}

pub permuted_from : (L : ℕ) (slots : List ℕ) (n : ℕ) → length slots ≡ slots_before L n
    → ((b i : ℕ) → b < n → i < part_slots L b → slice_index (part L slots b) i < part_slots L b)
    → ((b i : ℕ) → b < n → i < part_slots L b → position (part L slots b) (slice_index (part L slots b) i) ≡ i)
    → Permuted L slots n
permuted_from L slots n whole below found b h = record {
  sized = simp (length-take, length-drop) (omega (arith, part_inside L b n h));
  below = λ i k. below b i h k;
  apart = λ i j k l e. sym (found b i h k) ∙ ap (position (part L slots b)) e ∙ found b j h l;
}
