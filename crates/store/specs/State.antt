-- What a store means, whatever its kind.
use Rattle.std.specs.Prelude.{◌≡◌, ℕ, ◌<◌, List, [], length, slice_index_or}

-- a slot holds a 32-bit key and as many payload bytes as the store is wide
pub record Slot : Type 0 where
  pub key : ℕ
  pub bytes : List ℕ

-- `served` counts the places asked so far, modulo 2^64; `trail` is a number that the rule takes on with every place asked
pub record State : Type 0 where
  pub width : ℕ
  pub slots : List Slot
  pub served : ℕ
  pub trail : ℕ
  pub rule : ℕ → ℕ → ℕ

-- the slot at a place
abbrev pub slot_at : List Slot → ℕ → Slot
slot_at slots p = slice_index_or slots p (record { key = 0; bytes = [] })

-- every slot has as many bytes as the store is wide
abbrev pub Wide : State → Type 0
Wide s = (p : ℕ) → p < length s.slots → length (slot_at s.slots p).bytes ≡ s.width
