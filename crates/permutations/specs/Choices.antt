-- A choice: one permutation for each build, of the size of that build. And collections that correspond one to one.
use Rattle.std.specs.Prelude.{◌≡◌, ℕ, ◌<◌, List, [], length, slice_index, slice_index_or}
use Rattle.permutations.specs.Tables.{IsPermutation}

-- the size of build b; beyond the sizes 0
abbrev pub size_of : List ℕ → ℕ → ℕ
size_of ns b = slice_index ns b

-- the table of build b
abbrev pub table_of : List (List ℕ) → ℕ → List ℕ
table_of ts b = slice_index_or ts b []

-- the slot of an index in a table
abbrev pub slot_in : List ℕ → ℕ → ℕ
slot_in p i = slice_index p i

-- the slot of an index in build b
abbrev pub slot_of : List (List ℕ) → ℕ → ℕ → ℕ
slot_of ts b = slot_in (table_of ts b)

-- as many tables as sizes, each a permutation of its size
pub record IsChoice (ns : List ℕ) (ts : List (List ℕ)) : Type 0 where
  pub counted : length ts ≡ length ns
  pub tables : (b : ℕ) → b < length ns → IsPermutation (size_of ns b) (table_of ts b)

-- f takes each P to a Q, g takes each Q to a P, and they undo each other
pub record OneToOne {X Y : Type 0} (P : X → Type 0) (Q : Y → Type 0) (f : X → Y) (g : Y → X) : Type 0 where
  pub there : (x : X) → P x → Q (f x)
  pub back : (y : Y) → Q y → P (g y)
  pub there_and_back : (x : X) → P x → g (f x) ≡ x
  pub back_and_there : (y : Y) → Q y → f (g y) ≡ y
