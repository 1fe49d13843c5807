-- Lists of numbers: what stands in one, and lists in which no number stands twice.
use Rattle.std.specs.Prelude.{◌≡◌, ℕ, ◌<◌, Bool, false, ◌||◌, List, [], ◌∷◌, ◌==◌}
use Rattle.std.specs.List.{AllByRecursion}

-- x stands in the list
abbrev pub among : List ℕ → ℕ → Bool
among [] x = false
among (y ∷ ys) x = y == x || among ys x

-- no number stands twice
abbrev pub Apart : List ℕ → Type 0
Apart [] = Unit {0}
Apart (x ∷ xs) = (among xs x ≡ false) × Apart xs

-- numbers below n, and no two alike
pub record AreIndexes (n : ℕ) (xs : List ℕ) : Type 0 where
  pub below : AllByRecursion (λ x. x < n) xs
  pub apart : Apart xs
