-- The level of a build is what counting its trailing zero bits gives, cut to the levels there are.
use Rattle.std.proofs.Common.{◌≡◌, ℕ, zero, suc, ◌/◌, ◌%◌, ◌≤◌, min, refl, ap, ◌∙◌, arith}
use lib.Count.{under, count_trailing_zeros}
use Rattle.shape.specs.Numbers.{level_of_build}

under_min : (d t k : ℕ) → min (suc k) (under d t) ≡ under d (min k t)
under_min zero t k = omega arith
under_min (suc d) t k = omega arith

pub level_is_trailing_zeros : (k L b : ℕ) → L ≤ k → min L (count_trailing_zeros k b) ≡ level_of_build L b
unfolding count_trailing_zeros
level_is_trailing_zeros k zero b h = omega arith
level_is_trailing_zeros zero (suc L) b h = omega arith
level_is_trailing_zeros (suc k) (suc L) b h =
    under_min (b % 2) (count_trailing_zeros k (b / 2)) L ∙ ap (under (b % 2)) (level_is_trailing_zeros k L (b / 2) (omega arith))

pub level_at_most : (L b : ℕ) → level_of_build L b ≤ L
level_at_most zero b = omega arith
level_at_most (suc L) b = at_most (b % 2) (level_of_build L (b / 2)) (level_at_most L (b / 2))
  where
    at_most : (d t : ℕ) → t ≤ L → under d t ≤ suc L
    at_most zero t h = omega arith
    at_most (suc d) t h = omega arith

pub build_zero : (L : ℕ) → level_of_build L 0 ≡ L
build_zero zero = refl
build_zero (suc L) = ap suc (build_zero L)
