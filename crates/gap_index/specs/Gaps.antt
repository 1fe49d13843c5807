-- What a gap index means: a rising list is kept as its gaps. The first gap is the first address plus 1, each further gap is the
-- difference of two neighbours; so the members are the running sums of the gaps, minus 1.
use Rattle.std.specs.Prelude.{◌≡◌, ℕ, ◌+◌, ◌-◌, ◌<◌, List, [], ◌∷◌, length, slice_index}
use Rattle.index.specs.Lists.{Rising}

-- the gaps of a list whose members begin at an address
unfoldable pub gaps_from : ℕ → List ℕ → List ℕ
gaps_from start [] = []
gaps_from start (x ∷ xs) = (x + 1 - start) ∷ gaps_from (x + 1) xs

-- the gaps of a list
abbrev pub gaps_of : List ℕ → List ℕ
gaps_of xs = gaps_from 0 xs

-- the list of gaps that are counted from an address
unfoldable pub listed_from : ℕ → List ℕ → List ℕ
listed_from start [] = []
listed_from start (g ∷ gs) = (start + g - 1) ∷ listed_from (start + g) gs

-- the list of the gaps
abbrev pub listed : List ℕ → List ℕ
listed gs = listed_from 0 gs

-- every gap is at least 1
abbrev pub Positive : List ℕ → Type 0
Positive gs = (p : ℕ) → p < length gs → 0 < slice_index gs p

-- each undoes the other
abbrev pub GapsGiveTheList : Type 0
GapsGiveTheList = (xs : List ℕ) → Rising xs → listed (gaps_of xs) ≡ xs

abbrev pub ListGivesTheGaps : Type 0
ListGivesTheGaps = (gs : List ℕ) → Positive gs → gaps_of (listed gs) ≡ gs
