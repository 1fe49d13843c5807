-- One round, one slot in every occupied level, and no slot twice between builds.
use Rattle.std.specs.Prelude.{◌≡◌, ℕ, ◌+◌, ◌<◌, ◌≤◌, true, false, List, [], ◌∷◌, ◌++◌, map, length, filter, ◌≢◌}
use Rattle.std.specs.List.{range_with_len}
use Rattle.shape.specs.Numbers.{level_slots, level_start}
use Rattle.store.specs.declared.entry.Entry.{Entry}
use Rattle.store.specs.Requests.{entry_of}
use Rattle.index.specs.Lists.{has}
use Rattle.rules.specs.Calls.{Call, access, accepted}
use Rattle.rules.specs.Opening.{Parts, opening}
use Rattle.rules.specs.Runs.{performed, after}
use Rattle.laws.specs.Runs.{Choices, bit}
use Rattle.laws.specs.Keeping.{NoneBuilds, addresses}

-- the levels that are occupied after t accesses: below L those whose bit of t is set, and L
abbrev pub occupied_levels : ℕ → ℕ → List ℕ
occupied_levels L t = filter (λ i. bit i t) (range_with_len 0 L) ++ (L ∷ [])

-- one round that reads these places
abbrev pub one_round : List ℕ → List Entry
one_round [] = []
one_round (p ∷ ps) = entry_of true false p ∷ map (entry_of false false) ps

-- each accepted access is one round that asks exactly one slot in every occupied level, and no other place
abbrev pub OneSlotInEveryOccupiedLevel : Type 0
OneSlotInEveryOccupiedLevel =
    (L W K : ℕ) (p : Parts) (ts : List (List ℕ)) → 1 ≤ K → Choices p.supply_top K ts →
    (cs : List Call) (j op a room : ℕ) (run bytes : List ℕ) (es : List Entry) →
    (performed ts (after ts (opening L W p) cs) (access j op a run room)).answer ≡ accepted bytes es →
    (slot : ℕ → ℕ) × ((l : ℕ) → l ≤ L → slot l < level_slots l)
    × (es ≡ one_round (map (λ l. level_start l + slot l) (occupied_levels L (length (addresses ts (opening L W p) cs)))))

-- the places of entries
abbrev pub places : List Entry → List ℕ
places = map (λ e. e.place)

-- of two accepted accesses with no build of level l between them, no slot of level l is asked by both
abbrev pub NoSlotTwiceBetweenBuilds : Type 0
NoSlotTwiceBetweenBuilds =
    (L W K : ℕ) (p : Parts) (ts : List (List ℕ)) → 1 ≤ K → Choices p.supply_top K ts →
    (cs ds : List Call) (j op a room j' op' a' room' : ℕ) (run run' bytes bytes' : List ℕ) (es es' : List Entry) →
    let before = after ts (opening L W p) cs in
    let first = performed ts before (access j op a run room) in
    let later = after ts first.world ds in
    let second = performed ts later (access j' op' a' run' room') in
    first.answer ≡ accepted bytes es → second.answer ≡ accepted bytes' es' →
    (l s : ℕ) → l ≤ L → s < level_slots l → NoneBuilds ts first.world l ds →
    has (places es) (level_start l + s) ≡ true → has (places es') (level_start l + s) ≢ true
