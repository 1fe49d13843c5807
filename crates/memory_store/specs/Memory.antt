-- How slots lie in memory: one after another, each its key, four bytes little endian, and then its payload.
use Rattle.std.specs.Prelude.{ℕ, ◌+◌, ◌*◌, ◌/◌, ◌%◌, min, List, [], ◌∷◌, ◌++◌, map, length, take, drop, slice_index}
use Rattle.std.specs.List.{range_with_len}
use Rattle.store.specs.State.{Slot}

-- the bytes of a slot
abbrev pub span : ℕ → ℕ
span w = 4 + w

-- the key that begins a run of bytes
abbrev pub key_of : List ℕ → ℕ
key_of bs = slice_index bs 0 + slice_index bs 1 * 256 + slice_index bs 2 * 65536 + slice_index bs 3 * 16777216

-- the bytes of a key
abbrev pub key_bytes : ℕ → List ℕ
key_bytes k = (k % 256) ∷ (k / 256 % 256) ∷ (k / 65536 % 256) ∷ (k / 16777216 % 256) ∷ []

-- the slot of width w that begins at a byte
abbrev pub slot_from : ℕ → List ℕ → ℕ → Slot
slot_from w bs from = record { key = key_of (drop from bs); bytes = take w (drop (from + 4) bs) }

-- the first n slots of width w
abbrev pub decoded : ℕ → ℕ → List ℕ → List Slot
decoded w n bs = map (λ p. slot_from w bs (p * span w)) (range_with_len 0 n)

-- as many whole slots as fit, at most 1,000,000
abbrev pub whole_slots : ℕ → ℕ → ℕ
whole_slots w len = min (len / span w) 1000000

-- the bytes with ys written over them from a byte on
abbrev pub overwritten : List ℕ → ℕ → List ℕ → List ℕ
overwritten xs from ys = take from xs ++ (ys ++ drop (from + length ys) xs)

-- the bytes after a put: keys and payloads written in order
abbrev pub stored : ℕ → List ℕ → List ℕ → List ℕ → List ℕ → List ℕ
stored w [] ks bs mem = mem
stored w (p ∷ ps) ks bs mem =
    stored w ps (drop 1 ks) (drop w bs) (overwritten mem (p * span w) (key_bytes (slice_index ks 0) ++ take w bs))
