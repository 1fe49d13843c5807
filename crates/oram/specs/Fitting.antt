-- When a store, an index and a supply can serve a client of highest level L and width W.
use Rattle.std.specs.Prelude.{ℕ, Bool, true, ◌&&◌, List, [], ◌∷◌, length, ◌==◌, nat_le}
use Rattle.shape.specs.Numbers.{levels_fit, width_fits, places_needed}
use Rattle.store.specs.State.{State}
use Rattle.supply.specs.Choice.{Choice}

-- L is 1 to 12 and W is 1 to 512
abbrev pub in_range : ℕ → ℕ → Bool
in_range L W = levels_fit L && width_fits W

-- the store is W wide and has the places needed
abbrev pub store_suits : ℕ → ℕ → State → Bool
store_suits L W s = s.width == W && nat_le (places_needed L) (length s.slots)

-- index and supply were made for L
abbrev pub made_for : ℕ → List (List ℕ) → Choice → Bool
made_for L lists c = length lists == L && c.levels == L

abbrev pub suits : ℕ → ℕ → State → List (List ℕ) → Choice → Bool
suits L W s lists c = in_range L W && (store_suits L W s && made_for L lists c)

-- every list is empty
abbrev pub all_empty : List (List ℕ) → Bool
all_empty [] = true
all_empty (xs ∷ lists) = length xs == 0 && all_empty lists
