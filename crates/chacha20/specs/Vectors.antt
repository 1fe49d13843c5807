-- Worked examples of RFC 8439, sections 2.1.1, 2.2.1 and 2.3.2.
use Rattle.std.specs.Prelude.{◌≡◌, [], ◌∷◌}
use Rattle.chacha20.specs.ChaCha20.{quarter_round, block, key_words}
use Rattle.std.specs.List.{range_with_len}

-- the quarter round on four words
abbrev pub QuarterRoundExample : Type 0
QuarterRoundExample =
    quarter_round (0x11111111 ∷ 0x01020304 ∷ 0x9b8d6f43 ∷ 0x01234567 ∷ []) 0 1 2 3
    ≡ 0xea2a92f4 ∷ 0xcb1cf8ce ∷ 0x4581472e ∷ 0x5881c4bb ∷ []

-- the quarter round on the words at 2, 7, 8 and 13 of a state
abbrev pub StateExample : Type 0
StateExample =
    quarter_round
    (0x879531e0 ∷ 0xc5ecf37d ∷ 0x516461b1 ∷ 0xc9a62f8a
    ∷ 0x44c20ef3 ∷ 0x3390af7f ∷ 0xd9fc690b ∷ 0x2a5f714c
    ∷ 0x53372767 ∷ 0xb00a5631 ∷ 0x974c541a ∷ 0x359e9963
    ∷ 0x5c971061 ∷ 0x3d631689 ∷ 0x2098d9d6 ∷ 0x91dbd320 ∷ [])
    2 7 8 13
    ≡ 0x879531e0 ∷ 0xc5ecf37d ∷ 0xbdb886dc ∷ 0xc9a62f8a
    ∷ 0x44c20ef3 ∷ 0x3390af7f ∷ 0xd9fc690b ∷ 0xcfacafd2
    ∷ 0xe46bea80 ∷ 0xb00a5631 ∷ 0x974c541a ∷ 0x359e9963
    ∷ 0x5c971061 ∷ 0xccc07c79 ∷ 0x2098d9d6 ∷ 0x91dbd320 ∷ []

-- the block of the key of bytes 0 to 31, counter 1, and the nonce 00:00:00:09:00:00:00:4a:00:00:00:00
abbrev pub BlockExample : Type 0
BlockExample =
    block (key_words (range_with_len 0 32)) 1 (0x09000000 ∷ 0x4a000000 ∷ 0x00000000 ∷ [])
    ≡ 0xe4e7f110 ∷ 0x15593bd1 ∷ 0x1fdd0f50 ∷ 0xc47120a3
    ∷ 0xc7f4d1c7 ∷ 0x0368c033 ∷ 0x9aaa2204 ∷ 0x4e6cd4c3
    ∷ 0x466482d2 ∷ 0x09aa9f07 ∷ 0x05d7c214 ∷ 0xa2028bd9
    ∷ 0xd19c12b5 ∷ 0xb94e16de ∷ 0xe883d0cb ∷ 0x4e3c50a2 ∷ []
