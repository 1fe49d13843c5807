-- A permutation that takes one list of numbers to another, and what it makes of a table.
use Rattle.std.specs.Prelude.{ℕ, cond, List, [], ◌∷◌, map, ◌==◌}
use Rattle.std.specs.List.{range_with_len}
use Rattle.permutations.specs.Choices.{slot_in}

-- a and b change places, and every other number stays
abbrev pub swap : ℕ → ℕ → ℕ → ℕ
swap a b x = cond (x == a) b (cond (x == b) a x)

-- where a number goes when `from` is taken to `to`, member by member: as for the rest of the lists, and then a swap sets the heads right
abbrev pub carried : List ℕ → List ℕ → ℕ → ℕ
carried [] to x = x
carried (a ∷ from) [] x = x
carried (a ∷ from) (b ∷ to) x = swap (carried from to a) b (carried from to x)

-- the table of size n that asks p where it has carried the index to
abbrev pub moved : ℕ → List ℕ → List ℕ → List ℕ → List ℕ
moved n from to p = map (λ i. slot_in p (carried from to i)) (range_with_len 0 n)
