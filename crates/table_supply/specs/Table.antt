-- A table of permutations: one part for each build, and in a part the slot of every index in order. K is the number of builds.
use Rattle.std.specs.Prelude.{◌≡◌, ℕ, zero, suc, ◌+◌, ◌<◌, Bool, true, false, ◌&&◌, ◌⊎◌, List, length, take, drop, ◌==◌, nat_le, slice_index}
use Rattle.shape.specs.Numbers.{levels_fit, level_slots, level_of_build}
use Rattle.shape.specs.declared.make_error.MakeError.{MakeError}
use Rattle.shape.specs.declared.make_error.MakeError.TheVariants.{Refused, NoMemory}
use Rattle.shape.specs.declared.refusal.Refusal.TheVariants.{OutOfRange, WrongTable}
use Rattle.permutations.specs.Tables.{IsPermutation, position}
use Rattle.supply.specs.Choice.{Choice}

-- the size of a build's part: the slots of the build's level
abbrev pub part_slots : ℕ → ℕ → ℕ
part_slots L b = level_slots (level_of_build L b)

-- the slots of the builds before b, which is where the part of b starts
unfoldable pub slots_before : ℕ → ℕ → ℕ
slots_before L zero = 0
slots_before L (suc b) = slots_before L b + part_slots L b

-- the part of build b
abbrev pub part : ℕ → List ℕ → ℕ → List ℕ
part L slots b = take (part_slots L b) (drop (slots_before L b) slots)

-- the parts of the first n builds are permutations
abbrev pub Permuted : ℕ → List ℕ → ℕ → Type 0
Permuted L slots n = (b : ℕ) → b < n → IsPermutation (part_slots L b) (part L slots b)

-- K is 1 to 1,000,000, and a table of n slots has those of K builds
abbrev pub right_size : ℕ → ℕ → ℕ → Bool
right_size L K n = nat_le 1 K && (nat_le K 1000000 && n == slots_before L K)

-- of the right size, and every part is a permutation of the slots of its build
pub record RightTable (L K : ℕ) (slots : List ℕ) : Type 0 where
  pub sized : right_size L K (length slots) ≡ true
  pub permuted : Permuted L slots K

-- why a table is not taken: L is checked first, the size second, the permutations last, and those want memory
abbrev pub Reason : ℕ → ℕ → List ℕ → MakeError → Type 0
Reason L K slots (Refused f) = ((levels_fit L ≡ false) × (f ≡ OutOfRange)) ⊎ ((levels_fit L ≡ true) × (RightTable L K slots → ⊥) × (f ≡ WrongTable))
Reason L K slots NoMemory = (levels_fit L ≡ true) × (right_size L K (length slots) ≡ true)

-- the supply that a table is
abbrev pub table_choice : ℕ → ℕ → List ℕ → Choice
table_choice L K slots = record {
  levels = L;
  builds = K;
  slot_of = λ b i. slice_index slots (slots_before L b + i);
  index_of = λ b s. position (part L slots b) s;
}
