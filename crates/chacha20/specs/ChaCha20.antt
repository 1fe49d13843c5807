-- The ChaCha20 block function as RFC 8439 has it, sections 2.1 to 2.3. A word is a number below 2^32; a state is a list of sixteen words.
use Rattle.std.specs.Prelude.{ℕ, zero, suc, ◌+◌, ◌-◌, ◌*◌, ◌/◌, ◌%◌, ◌^◌, List, [], ◌∷◌, map, bit_or, bit_xor, slice_index, slice_set}
use Rattle.std.specs.List.{range_with_len}

-- a + b, the carry out of the word dropped
abbrev pub sum : ℕ → ℕ → ℕ
sum a b = (a + b) % 2 ^ 32

-- a <<< n, where n is 1 to 31: the bits that leave at the top come back at the bottom
abbrev pub rolled : ℕ → ℕ → ℕ
rolled a n = bit_or (a * 2 ^ n % 2 ^ 32) (a / 2 ^ (32 - n))

-- two steps on the words at places of a state
abbrev pub add_at : List ℕ → ℕ → ℕ → List ℕ
add_at state a b = slice_set state a (sum (slice_index state a) (slice_index state b))

abbrev pub mix_at : List ℕ → ℕ → ℕ → ℕ → List ℕ
mix_at state d a n = slice_set state d (rolled (bit_xor (slice_index state d) (slice_index state a)) n)

-- a line of the quarter round: a += b; d ^= a; d <<<= n
unfoldable pub line : List ℕ → ℕ → ℕ → ℕ → ℕ → List ℕ
line state a b d n = mix_at (add_at state a b) d a n

-- the quarter round on the words at a, b, c, d
abbrev pub quarter_round : List ℕ → ℕ → ℕ → ℕ → ℕ → List ℕ
quarter_round s0 a b c d =
    let s1 = line s0 a b d 16 in
    let s2 = line s1 c d b 12 in
    let s3 = line s2 a b d 8 in
    line s3 c d b 7

-- four rounds on the columns
abbrev pub column_round : List ℕ → List ℕ
column_round s0 =
    let s1 = quarter_round s0 0 4 8 12 in
    let s2 = quarter_round s1 1 5 9 13 in
    let s3 = quarter_round s2 2 6 10 14 in
    quarter_round s3 3 7 11 15

-- four rounds on the diagonals
abbrev pub diagonal_round : List ℕ → List ℕ
diagonal_round s0 =
    let s1 = quarter_round s0 0 5 10 15 in
    let s2 = quarter_round s1 1 6 11 12 in
    let s3 = quarter_round s2 2 7 8 13 in
    quarter_round s3 3 4 9 14

abbrev pub inner_block : List ℕ → List ℕ
inner_block state = diagonal_round (column_round state)

-- the inner block so many times
unfoldable pub inner_blocks : ℕ → List ℕ → List ℕ
inner_blocks zero state = state
inner_blocks (suc n) state = inner_block (inner_blocks n state)

-- four words of constants, eight of the key, the counter, and three words of the nonce
abbrev pub initial : List ℕ → ℕ → List ℕ → List ℕ
initial key counter nonce =
    0x61707865 ∷ 0x3320646e ∷ 0x79622d32 ∷ 0x6b206574
    ∷ slice_index key 0 ∷ slice_index key 1 ∷ slice_index key 2 ∷ slice_index key 3
    ∷ slice_index key 4 ∷ slice_index key 5 ∷ slice_index key 6 ∷ slice_index key 7
    ∷ counter ∷ slice_index nonce 0 ∷ slice_index nonce 1 ∷ slice_index nonce 2 ∷ []

-- the sums of the words of two states, place by place
abbrev pub sums : List ℕ → List ℕ → List ℕ
sums xs ys = map (λ i. sum (slice_index xs i) (slice_index ys i)) (range_with_len 0 16)

-- the block of a key (eight words), a counter and a nonce (three words)
unfoldable pub block : List ℕ → ℕ → List ℕ → List ℕ
block key counter nonce = sums (inner_blocks 10 (initial key counter nonce)) (initial key counter nonce)

-- word i of a run of bytes, little endian
abbrev pub word_of : List ℕ → ℕ → ℕ
word_of bytes i =
    slice_index bytes (4 * i) + slice_index bytes (4 * i + 1) * 256 + slice_index bytes (4 * i + 2) * 65536 + slice_index bytes (4 * i + 3) * 16777216

-- the eight words of a key of 32 bytes
abbrev pub key_words : List ℕ → List ℕ
key_words bytes = map (word_of bytes) (range_with_len 0 8)
