-- The inverse of a table, which holds for each build the index of every slot, and how it is made.
use Rattle.std.specs.Prelude.{◌≡◌, ℕ, ◌+◌, ◌<◌, ◌≤◌, Bool, ◌&&◌, List, length, ◌==◌, nat_lt, slice_index}
use Rattle.permutations.specs.Tables.{IsPermutation, position}
use Rattle.table_supply.specs.Table.{part_slots, slots_before, part}

-- x is a number of build b, which is one of the first n
abbrev pub Within : ℕ → ℕ → ℕ → ℕ → Type 0
Within L n b x = (b < n) × (x < part_slots L b)

-- for the first n builds the second table holds the index of every slot
abbrev pub Inverse : ℕ → List ℕ → ℕ → List ℕ → Type 0
Inverse L slots n indices = (b s : ℕ) → Within L n b s → slice_index indices (slots_before L b + s) ≡ position (part L slots b) s

-- a part of n slots is a permutation, and the second table holds its inverse from a place on
abbrev pub Inverted : ℕ → List ℕ → List ℕ → ℕ → Type 0
Inverted n p indices start = IsPermutation n p × ((s : ℕ) → s < n → slice_index indices (start + s) ≡ position p s)

-- the mark of a slot that has no index yet
abbrev pub no_index : ℕ
no_index = 4294967295

-- a slot lies within the part, and has no index yet
abbrev pub is_free : List ℕ → ℕ → Bool
is_free indices s = nat_lt s (length indices) && slice_index indices s == no_index

-- in a run of places no slot has an index yet
abbrev pub Unnoted : List ℕ → ℕ → ℕ → Type 0
Unnoted indices from to = (k : ℕ) → from ≤ k → k < to → slice_index indices k ≡ no_index
