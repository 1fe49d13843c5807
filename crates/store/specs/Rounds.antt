-- A round: a list of places fetched or put together. The first of them begins the round.
use Rattle.std.specs.Prelude.{ℕ, ◌*◌, Bool, true, false, cond, ◌&&◌, List, [], ◌∷◌, map, length, take, drop, Ok, Err, Result, ◌==◌, nat_le, nat_lt, slice_index}
use Rattle.std.specs.List.{flat_map}
use Rattle.shape.specs.declared.refusal.Refusal.{Refusal}
use Rattle.shape.specs.declared.refusal.Refusal.TheVariants.{WrongRound, PlaceBeyondStore}
use Rattle.store.specs.declared.entry.Entry.{Entry}
use Rattle.store.specs.State.{Slot, State, slot_at}
use Rattle.store.specs.Requests.{Request, entry_of}

-- the entries of a round, reading or writing; the flag tells whether the first place begins it
abbrev pub marked : Bool → Bool → List ℕ → List Entry
marked b w [] = []
marked b w (p ∷ ps) = entry_of b w p ∷ marked false w ps

abbrev pub round : Bool → List ℕ → List Entry
round w ps = marked true w ps

-- the requests of a fetch: at every place the slot that lies there
abbrev pub fetching : Bool → List Slot → List ℕ → List Request
fetching b slots [] = []
fetching b slots (p ∷ ps) = record { entry = entry_of b false p; slot = slot_at slots p } ∷ fetching false slots ps

abbrev pub fetch_round : State → List ℕ → List Request
fetch_round s ps = fetching true s.slots ps

-- the requests of a put: keys and bytes in the order of the places, w bytes to a slot
abbrev pub putting : Bool → ℕ → List ℕ → List ℕ → List ℕ → List Request
putting b w [] ks bs = []
putting b w (p ∷ ps) ks bs =
    record { entry = entry_of b true p; slot = record { key = slice_index ks 0; bytes = take w bs } } ∷ putting false w ps (drop 1 ks) (drop w bs)

abbrev pub put_round : State → List ℕ → List ℕ → List ℕ → List Request
put_round s ps ks bs = putting true s.width ps ks bs

-- what a fetch fills in: keys and bytes in the order of the places
abbrev pub keys_at : List Slot → List ℕ → List ℕ
keys_at slots ps = map (λ p. (slot_at slots p).key) ps

abbrev pub bytes_at : List Slot → List ℕ → List ℕ
bytes_at slots ps = flat_map (λ p. (slot_at slots p).bytes) ps

-- 1 to 13 places, as many keys, and the bytes of so many slots
abbrev pub well_formed : ℕ → ℕ → ℕ → ℕ → Bool
well_formed w m k b = nat_le 1 m && (nat_le m 13 && (k == m && b == m * w))

-- every place lies below n
abbrev pub inside : ℕ → List ℕ → Bool
inside n [] = true
inside n (p ∷ ps) = nat_lt p n && inside n ps

-- the answer to a round of these places with k keys and b bytes, at a store of width w with n places
abbrev pub verdict : ℕ → ℕ → List ℕ → ℕ → ℕ → Result (Unit {0}) Refusal
verdict w n ps k b =
    cond (well_formed w (length ps) k b) (cond (inside n ps) (Ok tt) (Err PlaceBeyondStore)) (Err WrongRound)

abbrev pub answer : State → List ℕ → ℕ → ℕ → Result (Unit {0}) Refusal
answer s ps k b = verdict s.width (length s.slots) ps k b
