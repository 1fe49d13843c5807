-- The rounds forth and back as one round that tests the parity of its number: it undoes itself, and so each direction undoes the other.
use Rattle.std.specs.Prelude.{◌≡◌, ℕ, zero, suc, ◌+◌, ◌-◌, ◌%◌, ◌^◌, ◌<◌, Bool, true, false, not, bit_xor}
use Rattle.std.proofs.Math.Path.{refl, ap, ap₂, subst}
use Rattle.std.proofs.Common.{sym, ◌∙◌, mod-lt, mul_comm, arith, pow_pos, pow-add}
use Rattle.std.proofs.Math.Nat.{div-add-mod'}
use Rattle.std.specs.Int.Bits.{xor_self, xor_assoc, xor_zero_r, xor_lt}
use Rattle.std.proofs.lemmas.Bool.{not-true, not-false}
use Rattle.std.proofs.lemmas.Nat.{div-mul-add, mod-mul-add, mul-add-lt, shr_below}
use Rattle.keyed_supply.specs.Rounds.{Network, left_changed, right_changed, from_even, from_odd, back_even, back_odd, left_half, right_half, joined, forth, back, numbers, Undone, DirectionsUndoEachOther}

even : ℕ → Bool
even zero = true
even (suc n) = not (even n)

-- exclusive-or twice with the same number
xor_twice : (x y : ℕ) → bit_xor (bit_xor x y) y ≡ x
xor_twice x y = xor_assoc x y y ∙ ap (bit_xor x) (xor_self y) ∙ xor_zero_r x

module _ (net : Network) where
  -- round i on both halves
  round : Bool → ℕ → ℕ × ℕ → ℕ × ℕ
  round true i h = (left_changed net i h.0 h.1, h.1)
  round false i h = (h.0, right_changed net i h.0 h.1)

  round_twice : (e : Bool) (i : ℕ) (h : ℕ × ℕ) → round e i (round e i h) ≡ h
  unfolding round
  round_twice true i (l, r) = ap (λ (x : ℕ). (x, r)) (xor_twice l (net.F i r % 2 ^ net.left_bits))
  round_twice false i (l, r) = ap (λ (x : ℕ). (l, x)) (xor_twice r (net.F i l % 2 ^ net.right_bits))

  -- the first n rounds, and these back
  rounds : ℕ → ℕ × ℕ → ℕ × ℕ
  rounds zero h = h
  rounds (suc n) h = round (even n) n (rounds n h)

  rounds_back : ℕ → ℕ × ℕ → ℕ × ℕ
  rounds_back zero h = h
  rounds_back (suc n) h = rounds_back n (round (even n) n h)

  back_undoes : (n : ℕ) (h : ℕ × ℕ) → rounds_back n (rounds n h) ≡ h
  unfolding rounds rounds_back
  back_undoes zero h = refl
  back_undoes (suc n) h = ap (rounds_back n) (round_twice (even n) n (rounds n h)) ∙ back_undoes n h

  forth_undoes : (n : ℕ) (h : ℕ × ℕ) → rounds n (rounds_back n h) ≡ h
  unfolding rounds rounds_back
  forth_undoes zero h = refl
  forth_undoes (suc n) h = ap (round (even n) n) (forth_undoes n (round (even n) n h)) ∙ round_twice (even n) n h

  -- from an even round on, and from an odd round on, what is left completes the first i rounds to all eight
  mutual
    unfolding from_even from_odd round rounds even

    even_rest : (n i : ℕ) → i + n ≡ 8 → even i ≡ true → (h : ℕ × ℕ) → from_even net n (rounds i h).0 (rounds i h).1 ≡ rounds 8 h
    even_rest zero i p e h = ap (λ (k : ℕ). rounds k h) {x = i} {y = 8} (omega (arith, p))
    even_rest (suc n) i p e h =
        ap (λ (k : ℕ). from_odd net n (left_changed net k (rounds i h).0 (rounds i h).1) (rounds i h).1) {x = 7 - n} {y = i} (omega (arith, p))
        ∙ sym (ap (λ (b : Bool). from_odd net n (round b i (rounds i h)).0 (round b i (rounds i h)).1) e)
        ∙ odd_rest n (suc i) (omega (arith, p)) (ap not e) h

    odd_rest : (n i : ℕ) → i + n ≡ 8 → even i ≡ false → (h : ℕ × ℕ) → from_odd net n (rounds i h).0 (rounds i h).1 ≡ rounds 8 h
    odd_rest zero i p e h = ap (λ (k : ℕ). rounds k h) {x = i} {y = 8} (omega (arith, p))
    odd_rest (suc n) i p e h =
        ap (λ (k : ℕ). from_even net n (rounds i h).0 (right_changed net k (rounds i h).0 (rounds i h).1)) {x = 7 - n} {y = i} (omega (arith, p))
        ∙ sym (ap (λ (b : Bool). from_even net n (round b i (rounds i h)).0 (round b i (rounds i h)).1) e)
        ∙ even_rest n (suc i) (omega (arith, p)) (ap not e) h

  mutual
    unfolding back_odd back_even round rounds_back even

    odd_back_rest : (n : ℕ) → even n ≡ true → (h : ℕ × ℕ) → back_odd net n h.0 h.1 ≡ rounds_back n h
    odd_back_rest zero e h = refl
    odd_back_rest (suc n) e h =
        sym (ap (λ (b : Bool). back_even net n (round b n h).0 (round b n h).1) (not-true (even n) e))
        ∙ even_back_rest n (not-true (even n) e) (round (even n) n h)

    even_back_rest : (n : ℕ) → even n ≡ false → (h : ℕ × ℕ) → back_even net n h.0 h.1 ≡ rounds_back n h
    even_back_rest zero e h = refl
    even_back_rest (suc n) e h =
        sym (ap (λ (b : Bool). back_odd net n (round b n h).0 (round b n h).1) (not-false (even n) e))
        ∙ odd_back_rest n (not-false (even n) e) (round (even n) n h)

  -- the halves keep to their widths
  abbrev pub Kept : ℕ × ℕ → Type 0
  Kept h = (h.0 < 2 ^ net.left_bits) × (h.1 < 2 ^ net.right_bits)

  cut_below : (w k : ℕ) → w % 2 ^ k < 2 ^ k
  cut_below w k = mod-lt w (pow_pos k)

  round_keeps : (e : Bool) (i : ℕ) (h : ℕ × ℕ) → Kept h → Kept (round e i h)
  unfolding round
  round_keeps true i h k = (xor_lt net.left_bits h.0 _ k.0 (cut_below (net.F i h.1) net.left_bits), k.1)
  round_keeps false i h k = (k.0, xor_lt net.right_bits h.1 _ k.1 (cut_below (net.F i h.0) net.right_bits))

  rounds_keep : (n : ℕ) (h : ℕ × ℕ) → Kept h → Kept (rounds n h)
  unfolding rounds
  rounds_keep zero h k = k
  rounds_keep (suc n) h k = round_keeps (even n) n (rounds n h) (rounds_keep n h k)

  rounds_back_keep : (n : ℕ) (h : ℕ × ℕ) → Kept h → Kept (rounds_back n h)
  unfolding rounds_back
  rounds_back_keep zero h k = k
  rounds_back_keep (suc n) h k = rounds_back_keep n (round (even n) n h) (round_keeps (even n) n h k)

  -- a number and its halves
  halves : ℕ → ℕ × ℕ
  halves x = (left_half net x, right_half net x)

  halves_keep : (x : ℕ) → x < numbers net → Kept (halves x)
  unfolding halves
  halves_keep x h = (shr_below x net.left_bits net.right_bits h, cut_below x net.right_bits)

  joined_below : (h : ℕ × ℕ) → Kept h → joined net h < numbers net
  joined_below h k =
      subst (λ (m : ℕ). joined net h < m) (mul_comm (2 ^ net.right_bits) (2 ^ net.left_bits) ∙ sym (pow-add 2 net.left_bits net.right_bits))
      (mul-add-lt h.0 (2 ^ net.right_bits) h.1 (2 ^ net.left_bits) k.0 k.1)

  halves_of_joined : (h : ℕ × ℕ) → Kept h → halves (joined net h) ≡ h
  unfolding halves
  halves_of_joined h k =
      ap₂ (λ (l r : ℕ). (l, r)) (div-mul-add h.0 (2 ^ net.right_bits) h.1 k.1) (mod-mul-add h.0 (2 ^ net.right_bits) h.1 k.1)

  joined_of_halves : (x : ℕ) → joined net (halves x) ≡ x
  unfolding halves
  joined_of_halves x = div-add-mod' x (2 ^ net.right_bits)

  -- the halves at the end keep to their widths too
  pub forth_kept : (x : ℕ) → x < numbers net → Kept (from_even net 8 (left_half net x) (right_half net x))
  unfolding halves even rounds
  forth_kept x h = subst Kept (sym (even_rest 8 0 refl refl (halves x))) (rounds_keep 8 (halves x) (halves_keep x h))

  pub back_kept : (x : ℕ) → x < numbers net → Kept (back_odd net 8 (left_half net x) (right_half net x))
  unfolding halves even
  back_kept x h = subst Kept (sym (odd_back_rest 8 refl (halves x))) (rounds_back_keep 8 (halves x) (halves_keep x h))

  forth_is : (x : ℕ) → forth net x ≡ joined net (rounds 8 (halves x))
  unfolding forth halves even rounds
  forth_is x = ap (joined net) (even_rest 8 0 refl refl (halves x))

  back_is : (x : ℕ) → back net x ≡ joined net (rounds_back 8 (halves x))
  unfolding back halves even
  back_is x = ap (joined net) (odd_back_rest 8 refl (halves x))

  undone : (x : ℕ) → x < numbers net → Undone net x
  undone x h = record {
    forth_below = subst (λ (y : ℕ). y < numbers net) (sym (forth_is x)) (joined_below (rounds 8 (halves x)) kept);
    back_below = subst (λ (y : ℕ). y < numbers net) (sym (back_is x)) (joined_below (rounds_back 8 (halves x)) kept');
    back_of_forth =
        ap (back net) (forth_is x) ∙ back_is (joined net (rounds 8 (halves x)))
        ∙ ap (λ (k : ℕ × ℕ). joined net (rounds_back 8 k)) (halves_of_joined (rounds 8 (halves x)) kept)
        ∙ ap (joined net) (back_undoes 8 (halves x)) ∙ joined_of_halves x;
    forth_of_back =
        ap (forth net) (back_is x) ∙ forth_is (joined net (rounds_back 8 (halves x)))
        ∙ ap (λ (k : ℕ × ℕ). joined net (rounds 8 k)) (halves_of_joined (rounds_back 8 (halves x)) kept')
        ∙ ap (joined net) (forth_undoes 8 (halves x)) ∙ joined_of_halves x;
  }
    where
      kept : Kept (rounds 8 (halves x))
      kept = rounds_keep 8 (halves x) (halves_keep x h)

      kept' : Kept (rounds_back 8 (halves x))
      kept' = rounds_back_keep 8 (halves x) (halves_keep x h)

pub directions_undo_each_other : DirectionsUndoEachOther
directions_undo_each_other = undone
