-- The slots that bytes decode to: how many they are, each of them, and that they are as wide as the store.
use Rattle.std.specs.Prelude.{◌≡◌, ℕ, ◌*◌, ◌<◌, ◌≤◌, List, length, slice_index_or}
use Rattle.std.proofs.Common.{arith, length-take, length-drop}
use Rattle.std.proofs.lemmas.List.FromFn.{length-map-range_with_len, get_or-map-range_with_len}
use Rattle.shape.proofs.Products.{part_fits}
use Rattle.store.specs.State.{Slot, slot_at}
use Rattle.memory_store.specs.Memory.{span, slot_from, decoded}

pub decoded_length : (w n : ℕ) (bs : List ℕ) → length (decoded w n bs) ≡ n
decoded_length w n bs = length-map-range_with_len (λ p. slot_from w bs (p * span w)) 0 n

pub decoded_at : (w n : ℕ) (bs : List ℕ) (p : ℕ) (d : Slot) → p < n → slice_index_or (decoded w n bs) p d ≡ slot_from w bs (p * span w)
decoded_at w n bs p d h = get_or-map-range_with_len (λ q. slot_from w bs (q * span w)) 0 n p p d h (omega arith)

pub decoded_wide : (w n : ℕ) (bs : List ℕ) (p : ℕ) → n * span w ≤ length bs → p < length (decoded w n bs) → length (slot_at (decoded w n bs) p).bytes ≡ w
decoded_wide w n bs p fits h =
    let below : p < n = omega (arith, decoded_length w n bs) in
    rw (decoded_at w n bs p _ below) (simp (length-take, length-drop) (omega (arith, part_fits n p (span w) (length bs) below fits)))
