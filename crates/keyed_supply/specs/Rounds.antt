-- Eight rounds on two halves of a number, forth and back, for halves of any width and any function F of a round's number and a half.
use Rattle.std.specs.Prelude.{◌≡◌, ℕ, zero, suc, ◌+◌, ◌-◌, ◌*◌, ◌/◌, ◌%◌, ◌^◌, ◌<◌, bit_xor}

-- the widths of the halves in bits, and F
pub record Network : Type 0 where
  pub left_bits : ℕ
  pub right_bits : ℕ
  pub F : ℕ → ℕ → ℕ

-- round i on the left half: exclusive-or with F of the right half, cut to the width of the left
abbrev pub left_changed : Network → ℕ → ℕ → ℕ → ℕ
left_changed net i left right = bit_xor left (net.F i right % 2 ^ net.left_bits)

-- round i on the right half, the reverse
abbrev pub right_changed : Network → ℕ → ℕ → ℕ → ℕ
right_changed net i left right = bit_xor right (net.F i left % 2 ^ net.right_bits)

-- the rest of rounds 0 to 7 from an even round on, and from an odd round on; with n + 1 rounds left, round 7 - n is next
unfoldable mutual
  pub from_even : Network → ℕ → ℕ → ℕ → ℕ × ℕ
  from_even net zero left right = (left, right)
  from_even net (suc n) left right = from_odd net n (left_changed net (7 - n) left right) right

  pub from_odd : Network → ℕ → ℕ → ℕ → ℕ × ℕ
  from_odd net zero left right = (left, right)
  from_odd net (suc n) left right = from_even net n left (right_changed net (7 - n) left right)

-- the rounds back, from an odd round down and from an even round down; with n + 1 rounds left, round n is next
unfoldable mutual
  pub back_odd : Network → ℕ → ℕ → ℕ → ℕ × ℕ
  back_odd net zero left right = (left, right)
  back_odd net (suc n) left right = back_even net n left (right_changed net n left right)

  pub back_even : Network → ℕ → ℕ → ℕ → ℕ × ℕ
  back_even net zero left right = (left, right)
  back_even net (suc n) left right = back_odd net n (left_changed net n left right) right

-- the halves of a number, and the number of two halves
abbrev pub left_half : Network → ℕ → ℕ
left_half net x = x / 2 ^ net.right_bits

abbrev pub right_half : Network → ℕ → ℕ
right_half net x = x % 2 ^ net.right_bits

abbrev pub joined : Network → ℕ × ℕ → ℕ
joined net halves = halves.0 * 2 ^ net.right_bits + halves.1

-- all eight rounds
unfoldable pub forth : Network → ℕ → ℕ
forth net x = joined net (from_even net 8 (left_half net x) (right_half net x))

unfoldable pub back : Network → ℕ → ℕ
back net x = joined net (back_odd net 8 (left_half net x) (right_half net x))

-- how many numbers the two halves can hold
abbrev pub numbers : Network → ℕ
numbers net = 2 ^ (net.left_bits + net.right_bits)

-- each direction keeps to these numbers, and undoes the other: for every width and every F
pub record Undone (net : Network) (x : ℕ) : Type 0 where
  pub forth_below : forth net x < numbers net
  pub back_below : back net x < numbers net
  pub back_of_forth : back net (forth net x) ≡ x
  pub forth_of_back : forth net (back net x) ≡ x

abbrev pub DirectionsUndoEachOther : Type 0
DirectionsUndoEachOther = (net : Network) (x : ℕ) → x < numbers net → Undone net x
