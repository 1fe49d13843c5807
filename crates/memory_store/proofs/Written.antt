-- A slot that is written is the slot that is read, and every other stays.
use Rattle.std.proofs.Common.{◌≡◌, ℕ, ◌+◌, ◌*◌, ◌/◌, ◌^◌, ◌<◌, ◌≤◌, Bool, true, false, ◌⊎◌, List, [], ◌∷◌, ◌++◌, length, get_or, take, drop, set, nat_lt, refl, inl, inr, ap, ◌∙◌, sym, suc-mul, div-mul-le_self, mod-eq_of_lt, arith, length-append, length-take, length-drop, length-set, drop-drop, get_or-drop, get_or-take, drop_at, take_at, get_or-set_same, get_or-set_other}
use Rattle.std.proofs.lemmas.List.{same_lists, length-take-le, drop-take}
use Rattle.std.proofs.lemmas.Nat.{mod-pow-add, mul-le}
use Rattle.std.proofs.lemmas.Slice.{take-put_mid_below, drop-put_mid}
use Rattle.std.proofs.lemmas.Bool.{cases_order, ltb-true, and_parts}
use borrow.Rule.Slice.PartMut.{put_mid}
use Rattle.shape.proofs.Products.{part_fits}
use Rattle.store.specs.State.{Slot}
use Rattle.store.specs.Requests.{wrote}
use Rattle.store.specs.Rounds.{inside, putting}
use Rattle.memory_store.specs.Memory.{span, key_of, key_bytes, slot_from, decoded, overwritten, stored, whole_slots}
use Rattle.memory_store.specs.Slots.{decoded_length, decoded_at}

-- as many whole slots as fit do fit
pub whole_slots_fit : (w len : ℕ) → whole_slots w len * span w ≤ len
whole_slots_fit w len =
    let most = div-mul-le_self len (span w) in
    omega (arith, mul-le (whole_slots w len) (span w) (len / span w) (span w) (omega arith) (omega arith))

-- a write over part of a slice, as the check shows it
overwritten_is : (xs ys : List ℕ) (a : ℕ) → overwritten xs a ys ≡ put_mid a (length ys) xs ys
overwritten_is xs ys a = ap (λ l. take a xs ++ (ys ++ l)) (sym (drop-drop (length ys) a xs))

length_overwritten : (xs ys : List ℕ) (a : ℕ) → a + length ys ≤ length xs → length (overwritten xs a ys) ≡ length xs
length_overwritten xs ys a fits = simp (length-append, length-take, length-drop) (omega arith)

-- what lies beyond a write
drop_overwritten : (xs ys : List ℕ) (a b : ℕ) → a + length ys ≤ length xs → a + length ys ≤ b → drop b (overwritten xs a ys) ≡ drop b xs
drop_overwritten xs ys a b fits h = rw (overwritten_is xs ys a) (drop-put_mid a (length ys) xs ys b h (omega arith) refl)

-- a slot is told from its own bytes
slot_stays : (w b : ℕ) (xs ys : List ℕ) → take (span w) (drop b xs) ≡ take (span w) (drop b ys) → slot_from w xs b ≡ slot_from w ys b
slot_stays w b xs ys e =
    let at : (k : ℕ) → k < span w → get_or (drop b xs) k 0 ≡ get_or (drop b ys) k 0 =
    λ k h. sym (get_or-take (span w) (drop b xs) k 0 h) ∙ ap (λ l. get_or l k 0) e ∙ get_or-take (span w) (drop b ys) k 0 h in
    let bytes : (zs : List ℕ) → take w (drop (b + 4) zs) ≡ drop 4 (take (span w) (drop b zs)) = λ zs. ap (take w) (sym (drop-drop 4 b zs)) ∙ sym (drop-take 4 w (drop b zs)) in
    rw (at 0 (omega arith), at 1 (omega arith), at 2 (omega arith), at 3 (omega arith), bytes xs, e, ← bytes ys) refl

-- a slot that ends before a write
slot_before : (w : ℕ) (xs ys : List ℕ) (a b : ℕ) → a ≤ length xs → b + span w ≤ a → slot_from w (overwritten xs a ys) b ≡ slot_from w xs b
slot_before w xs ys a b fits h =
    slot_stays w b _ _ (rw (← drop-take b (span w) (overwritten xs a ys), overwritten_is xs ys a, take-put_mid_below a (length ys) xs ys (b + span w) h fits, drop-take b (span w) xs) refl)

-- a slot that begins beyond it
slot_beyond : (w : ℕ) (xs ys : List ℕ) (a b : ℕ) → a + length ys ≤ length xs → a + length ys ≤ b → slot_from w (overwritten xs a ys) b ≡ slot_from w xs b
slot_beyond w xs ys a b fits h = slot_stays w b _ _ (ap (take (span w)) (drop_overwritten xs ys a b fits h))

-- four bytes give their key back
key_read_back : (k : ℕ) → k < 2 ^ 32 → key_of (key_bytes k) ≡ k
key_read_back k small = omega (arith, mod-pow-add k 8 8, mod-pow-add k 8 16, mod-pow-add k 8 24, mod-eq_of_lt small)

-- the slot that was written
slot_written : (w : ℕ) (xs pl : List ℕ) (a k : ℕ) → a + span w ≤ length xs → length pl ≡ w → k < 2 ^ 32 → slot_from w (overwritten xs a (key_bytes k ++ pl)) a ≡ record { key = k; bytes = pl }
slot_written w xs pl a k fits long small =
    let rest = drop (a + length (key_bytes k ++ pl)) xs in
    let here = drop_at (take a xs) ((key_bytes k ++ pl) ++ rest) a (length-take-le a xs (omega arith)) in
    rw (← drop-drop 4 a (overwritten xs a (key_bytes k ++ pl)), here, key_read_back k small, take_at pl rest w long) refl

-- the slots after a write
module _ (w n : ℕ) (xs pl : List ℕ) (p k : ℕ) (h : p < n) (fits : n * span w ≤ length xs) (long : length pl ≡ w) (small : k < 2 ^ 32) where
  slot : Slot
  slot = record { key = k; bytes = pl }

  after : List ℕ
  after = overwritten xs (p * span w) (key_bytes k ++ pl)

  inner : p * span w + span w ≤ length xs
  inner = part_fits n p (span w) (length xs) h fits

  here : (q : ℕ) (d : Slot) → q < n → (q ≡ p) ⊎ ((q < p) ⊎ (p < q)) → slot_from w after (q * span w) ≡ get_or (set (decoded w n xs) p slot) q d
  unfolding after slot
  here q d l (inl e) =
      rw (e, get_or-set_same (decoded w n xs) p slot d (rw (decoded_length w n xs) h)) (slot_written w xs pl (p * span w) k inner long small)
  here q d l (inr (inl lt)) =
      rw (get_or-set_other (decoded w n xs) p q slot d (λ e. omega arith), decoded_at w n xs q d l)
      (slot_before w xs (key_bytes k ++ pl) (p * span w) (q * span w) (omega (arith, inner)) (part_fits p q (span w) (p * span w) lt (omega arith)))
  here q d l (inr (inr gt)) =
      rw (get_or-set_other (decoded w n xs) p q slot d (λ e. omega arith), decoded_at w n xs q d l)
      (slot_beyond w xs (key_bytes k ++ pl) (p * span w) (q * span w) (omega (arith, inner)) (omega (arith, part_fits q p (span w) (q * span w) gt (omega arith))))

  pub decoded_write : decoded w n (overwritten xs (p * span w) (key_bytes k ++ pl)) ≡ set (decoded w n xs) p (record { key = k; bytes = pl })
  unfolding after slot
  decoded_write =
      let size = decoded_length w n after in
      same_lists _ _ (size ∙ sym (length-set (decoded w n xs) p slot ∙ decoded_length w n xs)) (λ q d l.
      let below : q < n = omega arith in
      decoded_at w n after q d below ∙ here q d below (cases_order q p))

-- what a put stores decodes to what it writes; the bytes beyond the slots stay, and so does their number
pub stored_decodes : (b : Bool) (w n : ℕ) (ps ks bs xs : List ℕ) → inside n ps ≡ true → n * span w ≤ length xs → length bs ≡ length ps * w → ((i : ℕ) → get_or ks i 0 < 2 ^ 32) →
    (decoded w n (stored w ps ks bs xs) ≡ wrote (decoded w n xs) (putting b w ps ks bs))
    × (drop (n * span w) (stored w ps ks bs xs) ≡ drop (n * span w) xs)
    × (length (stored w ps ks bs xs) ≡ length xs)
stored_decodes b w n [] ks bs xs ins fits long small = (refl, refl, refl)
stored_decodes b w n (p ∷ ps) ks bs xs ins fits long small =
    let both = and_parts (nat_lt p n) (inside n ps) ins in
    let h = ltb-true p n both.0 in
    let k = get_or ks 0 0 in
    let ys = key_bytes k ++ take w bs in
    let more : length (p ∷ ps) * w ≡ length ps * w + w = suc-mul (length ps) w in
    let payload : length (take w bs) ≡ w = simp length-take (omega arith) in
    let left : length (drop w bs) ≡ length ps * w = simp length-drop (omega arith) in
    let inner = part_fits n p (span w) (length xs) h fits in
    let size = length_overwritten xs ys (p * span w) (omega arith) in
    let rest = stored_decodes false w n ps (drop 1 ks) (drop w bs) (overwritten xs (p * span w) ys) both.1 (omega arith) left (λ i. rw (get_or-drop 1 ks i 0) (small (1 + i))) in (
      rest.0 ∙ ap (λ slots. wrote slots (putting false w ps (drop 1 ks) (drop w bs))) (decoded_write w n xs (take w bs) p k h fits payload (small 0)),
      rest.1 ∙ drop_overwritten xs ys (p * span w) (n * span w) (omega arith) (omega (arith, part_fits n p (span w) (n * span w) h (omega arith))),
      rest.2 ∙ size,
    )
