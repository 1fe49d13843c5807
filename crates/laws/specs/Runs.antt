-- The choices that a supply of some L and K may mean, and the bits of a number.
use Rattle.std.specs.Prelude.{ℕ, zero, suc, ◌/◌, ◌%◌, Bool, List, map, ◌==◌}
use Rattle.std.specs.List.{range_with_len}
use Rattle.shape.specs.Numbers.{level_slots, level_of_build}
use Rattle.permutations.specs.Choices.{IsChoice}

-- the sizes of K builds, for levels up to L: what a supply of that L and K permutes
abbrev pub build_sizes : ℕ → ℕ → List ℕ
build_sizes L K = map (λ b. level_slots (level_of_build L b)) (range_with_len 0 K)

-- all choices that a supply of that L and K may mean
abbrev pub Choices : ℕ → ℕ → List (List ℕ) → Type 0
Choices L K = IsChoice (build_sizes L K)

-- bit i of a number
abbrev pub bit : ℕ → ℕ → Bool
bit zero c = c % 2 == 1
bit (suc i) c = bit i (c / 2)
