-- The halves of a level's numbers: they hold as many numbers as the level has slots, and are few.
use Rattle.std.specs.Prelude.{◌≡◌, ℕ, ◌+◌, ◌*◌, ◌^◌, ◌<◌, ◌≤◌}
use Rattle.std.proofs.Common.{ap, arith, pow_mono}
use Rattle.std.proofs.lemmas.Nat.{mul-le}
use Rattle.shape.specs.Numbers.{level_slots}
use Rattle.keyed_supply.specs.Keyed.{left_width, right_width}

pub numbers_are_slots : (l : ℕ) → 2 ^ (left_width l + right_width l) ≡ level_slots l
numbers_are_slots l = ap (λ (k : ℕ). 2 ^ k) (omega arith)

pub within_numbers : (l x : ℕ) → x < level_slots l → x < 2 ^ (left_width l + right_width l)
within_numbers l x h = rw (numbers_are_slots l) h

pub left_few : (l : ℕ) → l ≤ 12 → 2 ^ left_width l ≤ 128
left_few l h = pow_mono {i = left_width l} {j = 7} (omega (arith, h))

pub right_few : (l : ℕ) → l ≤ 12 → 2 ^ right_width l ≤ 64
right_few l h = pow_mono {i = right_width l} {j = 6} (omega (arith, h))

-- a left half shifted up
pub shifted_few : (l left : ℕ) → l ≤ 12 → left < 2 ^ left_width l → left * 2 ^ right_width l ≤ 8192
shifted_few l left h k = mul-le left (2 ^ right_width l) 128 64 (omega (arith, k, left_few l h)) (right_few l h)
