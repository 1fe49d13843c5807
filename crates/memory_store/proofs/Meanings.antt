-- The checks before a round, read on the store's own numbers.
use Rattle.std.proofs.Common.{◌≡◌, ℕ, ◌^◌, ◌<◌, List, Ok, vec_items, vec_len, sym, ap, ◌∙◌, arith}
use Rattle.std.proofs.lemmas.Nat.{mul-le}
use Rattle.store.specs.Rounds.{verdict, answer}
use Rattle.store.proofs.Admitted.{Admitted, admitted}
use Rattle.store.proofs.Rounds.{inside_at}
use Rattle.memory_store.specs.declared.memory.MemoryStore.{MemoryStore}
use Rattle.memory_store.specs.Memory.{span}
use Rattle.memory_store.specs.Meaning.{meaning}
use Rattle.memory_store.specs.Slots.{decoded_length}

pub answer_is : (m : MemoryStore) (ps : List ℕ) (k b : ℕ) → answer (meaning m) ps k b ≡ verdict m.width m.places ps k b
answer_is m ps k b = ap (λ n. verdict m.width n ps k b) (decoded_length m.width m.places (vec_items m.bytes))

pub accepted : (m : MemoryStore) (ps : List ℕ) (k b : ℕ) → Ok tt ≡ answer (meaning m) ps k b → Admitted m.width m.places ps k b
accepted m ps k b e = admitted m.width m.places ps k b (sym (e ∙ answer_is m ps k b))

-- an accepted round has a place, so a slot fits
pub span_small : (m : MemoryStore) (ps : List ℕ) (k b : ℕ) → Admitted m.width m.places ps k b → vec_len m.bytes < 2 ^ 64 → span m.width < 2 ^ 64
span_small m ps k b a small =
    let some = inside_at m.places ps 0 a.places a.some in
    omega (arith, mul-le 1 (span m.width) m.places (span m.width) (omega arith) (omega arith), m.fits)
