-- The members of a row, word by word: how many lie below an address, and which stands at a position.
use Rattle.std.proofs.Common.{◌≡◌, ℕ, zero, suc, ◌+◌, ◌-◌, ◌*◌, ◌/◌, ◌%◌, ◌^◌, ◌<◌, ◌≤◌, false, not, List, ◌∷◌, ◌++◌, map, length, get_or, filter, take, sum_by, [], refl, mod-eq_of_lt, arith}
use lib.Count.{ones}
use lib.Bits.{bit_and, and_mask}
use Rattle.std.proofs.lemmas.Nat.{one_shl}
use Rattle.std.specs.List.{range_with_len}
use Rattle.std.proofs.lemmas.List.{take_more}
use Rattle.std.proofs.lemmas.List.Sums.{sum_by-append}
use Rattle.std.proofs.lemmas.List.Filters.{length-filter_both}
use Rattle.std.proofs.lemmas.List.FromFn.{length-range_with_len}
use Rattle.bitmap_index.specs.Bitmap.{word_bit, bit_of, members, places_of}
use Rattle.index.specs.Lists.{has, smaller}
use Rattle.std.proofs.lemmas.Grind.{common_steps}
use Rattle.std.proofs.lemmas.Bool.Decides.{nat_tests}
use Rattle.bitmap_index.specs.Members.{kept_below}
use Rattle.bitmap_index.proofs.Kept.{kept_split, kept_same, kept_shift, kept_has, smaller_kept}
use Rattle.bitmap_index.proofs.Bits.{length_bits, length_places}

-- the first k bits of word i add their addresses
members_word : (ws : List ℕ) (i k : ℕ) → k ≤ 64 → members (64 * i + k) ws ≡ members (64 * i) ws ++ map (λ j. 64 * i + j) (filter (word_bit (get_or ws i 0)) (range_with_len 0 k))
unfolding members bit_of
members_word ws i k h = grind (arith, kept_split (bit_of ws) 0 (64 * i) k, kept_shift (bit_of ws) (64 * i) 0 (64 * i) k (omega arith), kept_same (λ j. bit_of ws (64 * i + j)) (word_bit (get_or ws i 0)) 0 k bit)
  where
    bit : (j : ℕ) → 0 ≤ j → j < 0 + k → bit_of ws (64 * i + j) ≡ word_bit (get_or ws i 0) j
    bit j l m =
        let q : (64 * i + j) / 64 ≡ i = omega arith in
        let r : (64 * i + j) % 64 ≡ j = omega arith in
        rw (q, r) refl

count_word : (ws : List ℕ) (i k : ℕ) → k ≤ 64 → length (members (64 * i + k) ws) ≡ length (members (64 * i) ws) + ones (get_or ws i 0 % 2 ^ k)
count_word ws i k h = grind (arith, common_steps, members_word ws i k h, length_bits k (get_or ws i 0))

-- one more word
pub count_more : (ws : List ℕ) (i w : ℕ) → w ≡ get_or ws i 0 → w < 2 ^ 64 → length (members (64 * (i + 1)) ws) ≡ length (members (64 * i) ws) + ones w
count_more ws i w e h = grind (arith, e, count_word ws i 64 (omega arith), mod-eq_of_lt h)

-- an address inside its word
count_inside : (ws : List ℕ) (a : ℕ) → length (members a ws) ≡ length (members (64 * (a / 64)) ws) + ones (get_or ws (a / 64) 0 % 2 ^ (a % 64))
count_inside ws a = grind (arith, count_word ws (a / 64) (a % 64) (omega arith))

pub members_zero : (ws : List ℕ) → length (members 0 ws) ≡ 0
unfolding members
members_zero ws = refl

-- the whole words below word i
count_words : (ws : List ℕ) (i : ℕ) → i ≤ length ws → ((k : ℕ) → get_or ws k 0 < 2 ^ 64) → sum_by ones (take i ws) ≡ length (members (64 * i) ws)
count_words ws zero h fits = grind (arith, members_zero ws)
count_words ws (suc i) h fits = grind (arith, take_more ws i 0, sum_by-append ones (take i ws) (get_or ws i 0 ∷ []), count_words ws i (omega arith) fits, count_more ws i (get_or ws i 0) refl (fits i))

pub count_masked : (ws : List ℕ) (a : ℕ) → a < 64 * length ws → ((k : ℕ) → get_or ws k 0 < 2 ^ 64) → sum_by ones (take (a / 64) ws) + ones (bit_and (get_or ws (a / 64) 0) ((1 * 2 ^ (a % 64)) % 18446744073709551616 - 1)) ≡ length (members a ws)
count_masked ws a below fits = grind (arith, one_shl (a % 64) 64 (omega arith), and_mask (get_or ws (a / 64) 0) (a % 64), count_words ws (a / 64) (omega arith) fits, count_inside ws a)

pub members_few : (n : ℕ) (ws : List ℕ) → length (members n ws) ≤ n
unfolding members
members_few n ws =
    omega (arith, length-filter_both (bit_of ws) (λ a. not (bit_of ws a)) (λ a. refl) (range_with_len 0 n), length-range_with_len 0 n)

-- more addresses add members only at the end
pub members_more : (m n : ℕ) (ws : List ℕ) → m ≤ n → (p : ℕ) → p < length (members m ws) → get_or (members n ws) p 0 ≡ get_or (members m ws) p 0
unfolding members
members_more m n ws h p i = grind (arith, common_steps, kept_split (bit_of ws) 0 m (n - m))

pub members_grow : (m n : ℕ) (ws : List ℕ) → m ≤ n → length (members m ws) ≤ length (members n ws)
unfolding members
members_grow m n ws h = grind (arith, common_steps, kept_split (bit_of ws) 0 m (n - m))

-- a whole word
members_whole : (ws : List ℕ) (i : ℕ) → members (64 * i + 64) ws ≡ members (64 * i) ws ++ map (λ j. 64 * i + j) (places_of (get_or ws i 0))
unfolding places_of
members_whole ws i = members_word ws i 64 (omega arith)

-- the member at a position that lies in word i
pub member_in_word : (ws : List ℕ) (i left w : ℕ) → i < length ws → w ≡ get_or ws i 0 → w < 2 ^ 64 → left < ones w → 64 * i + get_or (places_of w) left 0 ≡ get_or (members (64 * length ws) ws) (left + length (members (64 * i) ws)) 0
member_in_word ws i left w h e fits small = grind (arith, common_steps, e, length_places w fits, members_whole ws i, members_more (64 * i + 64) (64 * length ws) ws (omega arith) (left + length (members (64 * i) ws)))

-- a position that no word before i reaches lies in a word that there is
pub word_inside : (ws : List ℕ) (i left p : ℕ) → left + length (members (64 * i) ws) ≡ p → p < length (members (64 * length ws) ws) → i ≤ length ws → i < length ws
word_inside ws i left p e h l = grind (arith, e)

pub places_below : (w p : ℕ) → p < length (places_of w) → get_or (places_of w) p 0 < 64
unfolding places_of
places_below w p h = kept_below (word_bit w) 64 p h

-- ---- an address among the members

pub members_have : (n : ℕ) (ws : List ℕ) (a : ℕ) → a < n → has (members n ws) a ≡ bit_of ws a
unfolding members
members_have n ws a h = grind (arith, nat_tests, kept_has (bit_of ws) 0 n a)

pub members_lack : (n : ℕ) (ws : List ℕ) (a : ℕ) → n ≤ a → has (members n ws) a ≡ false
unfolding members
members_lack n ws a h = grind (arith, nat_tests, kept_has (bit_of ws) 0 n a)

pub members_smaller : (n : ℕ) (ws : List ℕ) (a : ℕ) → a ≤ n → smaller (members n ws) a ≡ length (members a ws)
unfolding members
members_smaller n ws a h = smaller_kept (bit_of ws) 0 n a a (omega arith) h

-- what the counting of bits rests on
pub ruleset word_facts = (length_places, members_zero, count_more, word_inside, places_below, member_in_word, members_few, count_masked)
