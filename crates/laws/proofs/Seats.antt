-- What the batches of a fill write, one after another: each slot of the level at its batch and its seat.
use Rattle.std.proofs.Common.{◌≡◌, ℕ, zero, suc, ◌+◌, ◌*◌, ◌/◌, ◌%◌, ◌<◌, List, [], ◌∷◌, ◌++◌, map, Some, None, Option, ltb, sym, refl, ap, ap₂, ◌∙◌, suc-add, suc-mul, arith}
use Rattle.std.specs.List.{range_with_len, flat_map}
use Rattle.std.proofs.Math.Nat.{mul-le-mul_right}
use Rattle.std.proofs.lemmas.Nat.{div-mul-add, mod-mul-add}
use Rattle.std.proofs.lemmas.List.{map-append}
use Rattle.std.proofs.lemmas.List.Elements.{filter-append}
use Rattle.std.proofs.lemmas.Bool.{cond-true, lt-ltb}
use Rattle.shape.specs.Numbers.{level_slots, level_start, scratch_start, batch_slots, batch_and_seat}
use Rattle.store.specs.State.{Slot, slot_at}
use Rattle.store.specs.Requests.{Request}
use Rattle.rules.specs.Checks.{batches}
use Rattle.rules.specs.Slots.{read_round, write_round}
use Rattle.rules.specs.Rebuilding.{Placed, blank, kept_for, batch_step}
use Rattle.laws.specs.Seats.{seated, writes, EverySlotAtItsSeat}
use Rattle.laws.proofs.AfterRebuild.{batches_fill}

-- ---- counting

counting_split : (a n m : ℕ) → range_with_len a (n + m) ≡ range_with_len a n ++ range_with_len (a + n) m
counting_split a zero m = grind arith
counting_split a (suc n) m = grind (arith, suc-add n m, counting_split (a + 1) n m)

module _ {X : Type 0} where
  counted_on : (f : ℕ → X) (a c n : ℕ) → map (λ s. f (a + s)) (range_with_len c n) ≡ map f (range_with_len (a + c) n)
  counted_on f a c zero = refl
  counted_on f a c (suc n) =
      let e : a + (c + 1) ≡ (a + c) + 1 = omega arith in
      ap (λ xs. f (a + c) ∷ xs) (counted_on f a (c + 1) n ∙ ap (λ k. map f (range_with_len k n)) e)

  counted_alike : (f g : ℕ → X) (a n : ℕ) → ((i : ℕ) → i < a + n → f i ≡ g i) → map f (range_with_len a n) ≡ map g (range_with_len a n)
  counted_alike f g a zero h = refl
  counted_alike f g a (suc n) h = ap₂ (λ x xs. x ∷ xs) (h a (omega arith)) (counted_alike f g (a + 1) n (λ i m. h i (omega arith)))

  -- n pieces of B each, from piece b on
  pieces : (B : ℕ) (f : ℕ → X) (piece : ℕ → List X) (b n : ℕ) → ((i : ℕ) → i < b + n → piece i ≡ map (λ s. f (i * B + s)) (range_with_len 0 B)) →
      flat_map piece (range_with_len b n) ≡ map f (range_with_len (b * B) (n * B))
  pieces B f piece b zero h =
      let none : 0 ≡ 0 * B = omega arith in
      ap (λ n. map f (range_with_len (b * B) n)) none
  pieces B f piece b (suc n) h =
      let first : b * B + 0 ≡ b * B = omega arith in
      let next : (b + 1) * B ≡ b * B + B = omega arith in
      let all : B + n * B ≡ suc n * B = omega (arith, suc-mul n B) in
      ap₂ (λ xs ys. xs ++ ys)
      (h b (omega arith) ∙ counted_on f (b * B) 0 B ∙ ap (λ k. map f (range_with_len k B)) first)
      (pieces B f piece (b + 1) n (λ i m. h i (omega arith)) ∙ ap (λ k. map f (range_with_len k (n * B))) next)
      ∙ sym (map-append f (range_with_len (b * B) B) (range_with_len (b * B + B) (n * B)))
      ∙ ap (map f) (sym (counting_split (b * B) B (n * B)) ∙ ap (λ k. range_with_len (b * B) k) all)

-- ---- the writes of a batch

no_writes : (p : ℕ → ℕ) (read : ℕ → Slot) (ks : List ℕ) → writes (map (λ k. read_round (p k) (read k)) ks) ≡ []
no_writes p read [] = refl
no_writes p read (k ∷ ks) = no_writes p read ks

all_writes : (p : ℕ → ℕ) (keep : ℕ → Slot) (ks : List ℕ) → writes (map (λ k. write_round (p k) (keep k)) ks) ≡ map (λ k. write_round (p k) (keep k)) ks
all_writes p keep [] = refl
all_writes p keep (k ∷ ks) = ap (λ rs. write_round (p k) (keep k) ∷ rs) (all_writes p keep ks)

batch_writes : (L W t l : ℕ) (ts : List (List ℕ)) (slots : List Slot) (gs : List Placed) (b : ℕ) →
    let B = batch_slots (level_slots l) in
    writes (batch_step L W ts t l slots gs b)
    ≡ map (λ s. write_round (level_start l + (b * B + s)) (kept_for ts t (b * B + s) (blank W) gs)) (range_with_len 0 B)
unfolding batch_step
batch_writes L W t l ts slots gs b =
    let N = level_slots l in
    let B = batch_slots N in
    let reads = map (λ k. read_round (scratch_start L + k) (slot_at slots (scratch_start L + k))) (range_with_len 0 N) in
    let puts = map (λ s. write_round (level_start l + (b * B + s)) (kept_for ts t (b * B + s) (blank W) gs)) (range_with_len 0 B) in
    filter-append (λ (r : Request). r.entry.write) reads puts
    ∙ ap₂ (λ (xs ys : List Request). xs ++ ys)
    (no_writes (λ k. scratch_start L + k) (λ k. slot_at slots (scratch_start L + k)) (range_with_len 0 N))
    (all_writes (λ s. level_start l + (b * B + s)) (λ s. kept_for ts t (b * B + s) (blank W) gs) (range_with_len 0 B))

seated_counting : (b : ℕ) (f : ℕ → Request) (a n : ℕ) → seated b a (map f (range_with_len a n)) ≡ map (λ s. (Some (b, s), f s)) (range_with_len a n)
seated_counting b f a zero = refl
seated_counting b f a (suc n) = ap (λ xs. (Some (b, a), f a) ∷ xs) (seated_counting b f (a + 1) n)

-- ---- the seat of a slot

seat_is : (l b s : ℕ) → b < batches l → s < batch_slots (level_slots l) →
    batch_and_seat (level_slots l) (b * batch_slots (level_slots l) + s) ≡ Some (b, s)
seat_is l b s h m =
    let N = level_slots l in
    let B = batch_slots N in
    let inside : b * B + s < N = omega (arith, batches_fill l, suc-mul b B, mul-le-mul_right B h) in
    cond-true (ltb (b * B + s) N) (Some ((b * B + s) / B, (b * B + s) % B)) None (lt-ltb (b * B + s) N inside)
    ∙ ap₂ {C = Option (ℕ × ℕ)} (λ (x y : ℕ). Some (x, y)) (div-mul-add b B s m) (mod-mul-add b B s m)

pub every_slot_at_its_seat : EverySlotAtItsSeat
every_slot_at_its_seat L W t l ts slots gs =
    let N = level_slots l in
    let B = batch_slots N in
    let put : ℕ → Request = λ d. write_round (level_start l + d) (kept_for ts t d (blank W) gs) in
    let at : ℕ → Option (ℕ × ℕ) × Request = λ d. (batch_and_seat N d, put d) in
    let none : 0 * B ≡ 0 = omega arith in
    pieces B at (λ b. seated b 0 (writes (batch_step L W ts t l slots gs b))) 0 (batches l)
    (λ b h.
    ap (seated b 0) (batch_writes L W t l ts slots gs b)
    ∙ seated_counting b (λ s. put (b * B + s)) 0 B
    ∙ counted_alike (λ s. (Some (b, s), put (b * B + s))) (λ s. at (b * B + s)) 0 B
    (λ s m. ap (λ (o : Option (ℕ × ℕ)). (o, put (b * B + s))) (sym (seat_is l b s (omega arith) (omega arith)))))
    ∙ ap₂ (λ (a n : ℕ). map at (range_with_len a n)) none (batches_fill l)
