-- What a bitmap index means: each level has a row of 64-bit words, and bit a of the row tells whether address a is a member.
use Rattle.std.specs.Prelude.{ℕ, ◌+◌, ◌/◌, ◌%◌, ◌^◌, max, Bool, List, [], ◌∷◌, filter, ◌==◌, bit_or, slice_index, slice_set}
use Rattle.std.specs.List.{range_with_len}

-- bit k of a word
unfoldable pub word_bit : ℕ → ℕ → Bool
word_bit w k = w / 2 ^ k % 2 == 1

-- the bit of address a in a row
unfoldable pub bit_of : List ℕ → ℕ → Bool
bit_of ws a = word_bit (slice_index ws (a / 64)) (a % 64)

-- the members of a row: the addresses below n whose bit is set, in rising order
unfoldable pub members : ℕ → List ℕ → List ℕ
members n ws = filter (bit_of ws) (range_with_len 0 n)

-- one more than the largest member; 0 where there is none
abbrev pub past_last : List ℕ → ℕ
past_last [] = 0
past_last (x ∷ xs) = max (x + 1) (past_last xs)

-- a row with the bit of address a set
unfoldable pub with_bit : List ℕ → ℕ → List ℕ
with_bit ws a = slice_set ws (a / 64) (bit_or (slice_index ws (a / 64)) (2 ^ (a % 64)))

-- the places of the set bits of a word, from the lowest
unfoldable pub places_of : ℕ → List ℕ
places_of w = filter (word_bit w) (range_with_len 0 64)
