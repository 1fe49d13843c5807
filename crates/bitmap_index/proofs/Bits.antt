-- Bits of words: what setting one leaves, and how many there are.
use Rattle.std.specs.Prelude.{◌≡◌, ℕ, zero, suc, ◌+◌, ◌-◌, ◌/◌, ◌%◌, ◌^◌, ◌<◌, ◌≤◌, true, false, cond, ◌≢◌, List, [], ◌∷◌, map, length, filter, drop, ◌==◌, bit_and, bit_or, nat_eq, slice_index, refl}
use Rattle.std.proofs.Common.{sym, ap, ◌∙◌, pow-suc, mod-lt, mod-eq_of_lt, arith, pow_pos, shr-shr}
use Rattle.std.specs.Int.Bits.{and_step, and_self}
use Rattle.std.proofs.lemmas.Nat.{ones_cat, mod-pow-add}
use Rattle.std.specs.Int.Count.{ones, ones_in, count_trailing_zeros}
use Rattle.std.proofs.lemmas.Bool.{eq-eqb}
use Rattle.std.proofs.lemmas.List.{length-drop, drop-drop, get_or-drop}
use Rattle.std.specs.List.{range_with_len}
use Rattle.std.specs.Int.{bit_at}
use Rattle.std.proofs.lemmas.Nat.Bits.{bit_at_or, bit_at-pow_same, bit_at-pow_other, bit_at-zero}
use Rattle.std.proofs.lemmas.Grind.{common_steps}
use Rattle.std.proofs.lemmas.Bool.Decides.{nat_tests}
use Rattle.bitmap_index.specs.Bitmap.{word_bit, places_of}
use Rattle.bitmap_index.proofs.Kept.{kept_split, kept_same, kept_none, kept_shift}

pub or_sets : (w k : ℕ) → word_bit (bit_or w (2 ^ k)) k ≡ true
unfolding word_bit
or_sets w k = eq-eqb (bit_at (bit_or w (2 ^ k)) k) 1 (omega (arith, bit_at_or w (2 ^ k) k, bit_at-pow_same k))

pub or_keeps : (w k j : ℕ) → j ≢ k → word_bit (bit_or w (2 ^ k)) j ≡ word_bit w j
unfolding word_bit
or_keeps w k j ne = ap (λ (x : ℕ). nat_eq x 1) {x = bit_at (bit_or w (2 ^ k)) j} {y = bit_at w j} (omega (arith, bit_at_or w (2 ^ k) j, bit_at-pow_other k j ne))

pub zero_clear : (k : ℕ) → word_bit 0 k ≡ false
unfolding word_bit
zero_clear k = ap (λ (x : ℕ). nat_eq x 1) (bit_at-zero k)

-- ---- the set bits among the k lowest of a word

abbrev bits : ℕ → ℕ → List ℕ
bits k w = filter (word_bit w) (range_with_len 0 k)

digit_ones : (d : ℕ) → d < 2 → ones d ≡ d
unfolding ones ones_in
digit_ones zero h = refl
digit_ones (suc zero) h = refl
digit_ones (suc (suc d)) h = absurd (omega arith)

-- there are as many as the population count of the masked word
pub length_bits : (k w : ℕ) → length (filter (word_bit w) (range_with_len 0 k)) ≡ ones (w % 2 ^ k)
unfolding word_bit
length_bits zero w = let e : w % 1 ≡ 0 = omega arith in sym (ap ones e ∙ digit_ones 0 (omega arith))
length_bits (suc k) w =
    let d = w / 2 ^ k % 2 in
    let cat : ones (w % 2 ^ suc k) ≡ ones d + ones (w % 2 ^ k) = ap (λ (m : ℕ). ones (w % 2 ^ m)) {x = suc k} {y = 1 + k} (omega arith) ∙ ap ones (mod-pow-add w 1 k) ∙ ones_cat k d (w % 2 ^ k) (mod-lt w (pow_pos k)) in
    grind (arith, common_steps, kept_split (word_bit w) 0 k 1, cat, length_bits k w, digit_ones d (omega arith))

-- the lowest bit, and the bits of the rest
bits_step : (k w : ℕ) → bits (suc k) w ≡ cond (w % 2 == 1) (0 ∷ map (λ j. 1 + j) (bits k (w / 2))) (map (λ j. 1 + j) (bits k (w / 2)))
unfolding word_bit
bits_step k w = grind (arith, nat_tests, kept_shift (word_bit w) 1 0 1 k (omega arith), kept_same (λ j. word_bit w (1 + j)) (word_bit (w / 2)) 0 k (λ j l m. ap (λ (x : ℕ). nat_eq (x % 2) 1) (sym (shr-shr w 1 j))))

-- clearing the lowest set bit leaves the others
bits_lowest : (k w : ℕ) → 0 < w → w < 2 ^ k → filter (word_bit w) (range_with_len 0 k) ≡ count_trailing_zeros k w ∷ filter (word_bit (bit_and w (w - 1))) (range_with_len 0 k)
unfolding count_trailing_zeros
bits_lowest zero w p h = absurd (omega arith)
bits_lowest (suc k) w p h =
    let step : (w - 1) / 2 ≡ w / 2 - (1 - w % 2) = omega arith in
    grind (arith, pow-suc 2 k, step, and_step w (w - 1), and_self (w / 2), bits_step k w, bits_step k (bit_and w (w - 1)), bits_lowest k (w / 2))

-- ---- a whole word

pub length_places : (w : ℕ) → w < 2 ^ 64 → length (places_of w) ≡ ones w
unfolding places_of
length_places w h = length_bits 64 w ∙ ap ones (mod-eq_of_lt h)

places_lowest : (w : ℕ) → 0 < w → w < 2 ^ 64 → places_of w ≡ count_trailing_zeros 64 w ∷ places_of (bit_and w (w - 1))
unfolding places_of
places_lowest w p h = bits_lowest 64 w p h

places_none : places_of 0 ≡ []
unfolding places_of
places_none = kept_none (word_bit 0) 0 64 (λ k l m. zero_clear k)

-- ---- a word w whose n lowest set bits are cleared

pub places_positive : (w rest n : ℕ) → places_of rest ≡ drop n (places_of w) → n < length (places_of w) → 1 ≤ rest
places_positive w rest n e h = grind (arith, e, places_none, length-drop n (places_of w))

lowest : (w rest n : ℕ) → places_of rest ≡ drop n (places_of w) → rest < 2 ^ 64 → n < length (places_of w) → drop n (places_of w) ≡ count_trailing_zeros 64 rest ∷ places_of (bit_and rest (rest - 1))
lowest w rest n e fits h = grind (arith, e, places_lowest rest (places_positive w rest n e h) fits)

pub places_first : (w rest n : ℕ) → places_of rest ≡ drop n (places_of w) → rest < 2 ^ 64 → n < length (places_of w) → count_trailing_zeros 64 rest ≡ slice_index (places_of w) n
places_first w rest n e fits h = grind (arith, lowest w rest n e fits h, get_or-drop n (places_of w) 0 0)

pub places_next : (w rest n : ℕ) → places_of rest ≡ drop n (places_of w) → rest < 2 ^ 64 → n < length (places_of w) → places_of (bit_and rest (rest - 1)) ≡ drop (n + 1) (places_of w)
places_next w rest n e fits h = sym (ap (drop 1) (lowest w rest n e fits h)) ∙ drop-drop 1 n (places_of w)

-- what the loop over the places of a word rests on
pub ruleset place_facts = (places_positive, places_first, places_next)
