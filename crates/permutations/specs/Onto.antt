-- A permutation leaves no number out: every number below n stands in its table, once, and `position` finds it.
use Rattle.std.specs.Prelude.{◌≡◌, ℕ, ◌<◌, List, slice_index}
use Rattle.permutations.specs.Tables.{IsPermutation, position}

-- every number below n has a position, stands there, and stands nowhere else
pub record Onto (n : ℕ) (p : List ℕ) : Type 0 where
  pub position_below : (x : ℕ) → x < n → position p x < n
  pub stands_there : (x : ℕ) → x < n → slice_index p (position p x) ≡ x
  pub nowhere_else : (i : ℕ) → i < n → position p (slice_index p i) ≡ i

abbrev pub EveryNumberStandsOnce : Type 0
EveryNumberStandsOnce = (n : ℕ) (p : List ℕ) → IsPermutation n p → Onto n p
