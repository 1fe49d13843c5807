-- The keyed supply: in each of 1,000,000 builds the permutation that a key of eight words gives.
use Rattle.std.specs.Prelude.{ℕ, ◌+◌, ◌/◌, List, [], ◌∷◌, slice_index}
use Rattle.chacha20.specs.ChaCha20.{block}
use Rattle.shape.specs.Numbers.{level_of_build}
use Rattle.supply.specs.Choice.{Choice}
use Rattle.keyed_supply.specs.declared.rounds.Permutation.{Permutation}
use Rattle.keyed_supply.specs.Rounds.{Network, forth, back}

-- word 0 of the ChaCha20 block whose counter is a half, and whose nonce is build, level and round
unfoldable pub drawn : List ℕ → ℕ → ℕ → ℕ → ℕ → ℕ
drawn key build level round half = slice_index (block key half (build ∷ level ∷ round ∷ [])) 0

-- of the level + 1 bits of an index the left half has the high ones, rounded up, and the right half the rest
abbrev pub left_width : ℕ → ℕ
left_width level = (level + 2) / 2

abbrev pub right_width : ℕ → ℕ
right_width level = (level + 1) / 2

abbrev pub network : List ℕ → ℕ → ℕ → Network
network key build level = record { left_bits = left_width level; right_bits = right_width level; F = drawn key build level }

abbrev pub network_of : Permutation → Network
network_of p = network p.key.now.words p.build p.level.number

abbrev pub keyed : ℕ → List ℕ → Choice
keyed L key = record {
  levels = L;
  builds = 1000000;
  slot_of = λ b i. forth (network key b (level_of_build L b)) i;
  index_of = λ b s. back (network key b (level_of_build L b)) s;
}
