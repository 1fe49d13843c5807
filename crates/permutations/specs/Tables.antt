-- A permutation of the numbers below n as its table, the list of where each number goes; and where a number stands in a table.
use Rattle.std.specs.Prelude.{◌≡◌, ℕ, suc, ◌<◌, cond, List, [], ◌∷◌, length, ◌==◌, slice_index}

-- one entry for each number below n, each below n, and no two alike
pub record IsPermutation (n : ℕ) (p : List ℕ) : Type 0 where
  pub sized : length p ≡ n
  pub below : (i : ℕ) → i < n → slice_index p i < n
  pub apart : (i j : ℕ) → i < n → j < n → slice_index p i ≡ slice_index p j → i ≡ j

-- the first position at which x stands; the length where it stands nowhere
abbrev pub position : List ℕ → ℕ → ℕ
position [] x = 0
position (y ∷ ys) x = cond (y == x) 0 (suc (position ys x))
