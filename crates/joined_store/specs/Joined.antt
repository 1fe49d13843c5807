-- Two stores end to end: the places of the first, and then those of the second.
use Rattle.std.specs.Prelude.{ℕ, ◌+◌, ◌-◌, Bool, cond, not, ◌&&◌, List, [], ◌∷◌, ◌++◌, length, take, drop, ◌==◌, nat_le, nat_lt}
use Rattle.joined_store.specs.declared.part.Part.{Part}
use Rattle.joined_store.specs.declared.part.Part.TheVariants.{First, Second}
use Rattle.store.specs.State.{Slot, State}
use Rattle.store.specs.Requests.{Request}
use Rattle.store.specs.Rounds.{fetch_round, put_round}
use Rattle.store.specs.Rule.{multiplied}

-- two stores of these widths and with m and n places fit together at the width w: both have it, and at most 1,000,000 places between them
abbrev pub fit : ℕ → ℕ → ℕ → ℕ → ℕ → Bool
fit w wa wb m n = wa == w && (wb == w && nat_le (m + n) 1000000)

abbrev pub joins : ℕ → State → State → Bool
joins w a b = fit w a.width b.width (length a.slots) (length b.slots)

-- the width at which two stores are joined: their own, but 0 where they do not fit together
abbrev pub common_width : State → State → ℕ
common_width a b = cond (joins a.width a b) a.width 0

abbrev pub joined_slots : ℕ → State → State → List Slot
joined_slots w a b = cond (joins w a b) (a.slots ++ b.slots) []

-- two stores joined at the width w, with this count and trail of their own; there are no places where they do not fit together
abbrev pub joined_state : ℕ → State → State → ℕ → ℕ → State
joined_state w a b served trail = record {
  width = w;
  slots = joined_slots w a b;
  served = served;
  trail = trail;
  rule = multiplied;
}

-- two stores newly joined: of their width and with the places of both; where they do not fit together, of width 0 and with no places
abbrev pub newly_joined : State → State → State
newly_joined a b = record {
  width = common_width a b;
  slots = joined_slots a.width a b;
  served = 0;
  trail = 0;
  rule = multiplied;
}

-- where the first part has n places: whether a place of the joined store lies in the part
abbrev pub lies_in : Part → ℕ → ℕ → Bool
lies_in First n p = nat_lt p n
lies_in Second n p = not (nat_lt p n)

-- a place of the joined store as its part numbers it
abbrev pub numbered : Part → ℕ → ℕ → ℕ
numbered First n p = p
numbered Second n p = p - n

-- of these places those of one part, in their order, as the part numbers them
abbrev pub places_in : Part → ℕ → List ℕ → List ℕ
places_in part n [] = []
places_in part n (p ∷ ps) =
    cond (lies_in part n p) (numbered part n p ∷ places_in part n ps) (places_in part n ps)

-- of a list with w items to a place: those that belong to the places of one part, in their order
abbrev pub items_in : {X : Type 0} → Part → ℕ → ℕ → List ℕ → List X → List X
items_in part n w [] xs = []
items_in part n w (p ∷ ps) xs =
    cond (lies_in part n p) (take w xs ++ items_in part n w ps (drop w xs)) (items_in part n w ps (drop w xs))

-- the requests that a fetch of the joined store makes of one part
abbrev pub fetch_of : Part → ℕ → State → List ℕ → List Request
fetch_of part n s ps = fetch_round s (places_in part n ps)

-- the requests that a put to the joined store makes of one part: the keys and payloads of its places
abbrev pub put_of : Part → ℕ → State → List ℕ → List ℕ → List ℕ → List Request
put_of part n s ps ks bs = put_round s (places_in part n ps) (items_in part n 1 ps ks) (items_in part n s.width ps bs)
