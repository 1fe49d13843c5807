-- A rebuild keeps every block, and every occupied level always holds what its list says.
use Rattle.std.specs.Prelude.{◌≡◌, ℕ, ◌+◌, ◌-◌, ◌^◌, ◌<◌, ◌≤◌, Bool, true, false, cond, List, [], ◌∷◌, ◌++◌, map, length, take, drop, filter, ◌==◌, nat_lt, slice_index, slice_index_or}
use Rattle.std.specs.List.{range_with_len}
use Rattle.shape.specs.Numbers.{blocks, level_slots, level_start}
use Rattle.store.specs.State.{Slot, slot_at}
use Rattle.store.specs.declared.entry.Entry.{Entry}
use Rattle.index.specs.Lists.{has}
use Rattle.permutations.specs.Lists.{Apart}
use Rattle.permutations.specs.Choices.{slot_of}
use Rattle.rules.specs.World.{Level, Client, World, size, vacant}
use Rattle.rules.specs.Calls.{Call, load, access, rebuild, Answer, accepted, declined}
use Rattle.rules.specs.Opening.{Parts, opening}
use Rattle.rules.specs.Checks.{rebuild_level}
use Rattle.rules.specs.Slots.{block_slot, dummy_slot}
use Rattle.rules.specs.Rebuilding.{gathered}
use Rattle.rules.specs.Runs.{performed, after}
use Rattle.laws.specs.Runs.{Choices}
use Rattle.laws.specs.LatestWrite.{latest}

-- level l of a client
abbrev pub level_at : Client → ℕ → Level
level_at k l = slice_index_or k.levels l vacant

-- what index j of a level holds: its member, with its bytes, or from the size on the dummy of that index, with zero bytes
abbrev pub said : ℕ → (ℕ → List ℕ) → Level → ℕ → Slot
said W bytes v j = cond (nat_lt j (size v)) (block_slot (slice_index v.members j) (bytes (slice_index v.members j))) (dummy_slot W j)

-- every slot of level l holds what its index under the level's build says
abbrev pub Holds : List (List ℕ) → World → ℕ → (ℕ → List ℕ) → Type 0
Holds ts w l bytes =
    let v = level_at w.client l in
    (j : ℕ) → j < level_slots l → slot_at w.slots (level_start l + slot_of ts v.build j) ≡ said w.client.width bytes v j

-- an accepted rebuild gathers exactly 2^(l+1) items with distinct indexes, and every slot of its level then holds what its index says
pub record Kept (ts : List (List ℕ)) (before : World) (bytes : ℕ → List ℕ) (rebuilt : World) : Type 0 where
  pub all_gathered : length (gathered ts before) ≡ level_slots (rebuild_level before.client)
  pub apart : Apart (map (λ g. g.index) (gathered ts before))
  pub holds : Holds ts rebuilt (rebuild_level before.client) bytes

abbrev pub RebuildsKeepEveryBlock : Type 0
RebuildsKeepEveryBlock =
    (L W K : ℕ) (p : Parts) (ts : List (List ℕ)) → 1 ≤ K → Choices p.supply_top K ts →
    (cs : List Call) (j room : ℕ) (bytes : List ℕ) (es : List Entry) →
    let w = after ts (opening L W p) cs in
    (performed ts w (rebuild j room)).answer ≡ accepted bytes es →
    Kept ts w (λ a. latest ts (opening L W p) a [] cs) (performed ts w (rebuild j room)).world

-- the call builds level l: an accepted load builds L, an accepted rebuild the level that it goes to
abbrev pub builds : ℕ → World → Call → Answer → Bool
builds l w c (declined r) = false
builds l w (load all room) (accepted bytes es) = l == w.client.top
builds l w (access j op a run room) (accepted bytes es) = false
builds l w (rebuild j room) (accepted bytes es) = l == rebuild_level w.client

-- none of these calls builds level l
abbrev pub NoneBuilds : List (List ℕ) → World → ℕ → List Call → Type 0
NoneBuilds ts w l [] = Unit {0}
NoneBuilds ts w l (c ∷ cs) = (builds l w c (performed ts w c).answer ≡ false) × NoneBuilds ts (performed ts w c).world l cs

-- the addresses of the accepted accesses of a list, in order
abbrev pub accessed : Call → Answer → List ℕ
accessed c (declined r) = []
accessed (load all room) (accepted bytes es) = []
accessed (access j op a run room) (accepted bytes es) = a ∷ []
accessed (rebuild j room) (accepted bytes es) = []

abbrev pub addresses : List (List ℕ) → World → List Call → List ℕ
addresses ts w [] = []
addresses ts w (c ∷ cs) = accessed c (performed ts w c).answer ++ addresses ts (performed ts w c).world cs

-- After any run an occupied level was built by one of its calls, and by none later. The level's build is the number of accesses accepted before that
-- call, and every slot of the level holds what its index says, its members with the bytes that they had after that call.
abbrev pub OccupiedLevelsHold : Type 0
OccupiedLevelsHold =
    (L W K : ℕ) (p : Parts) (ts : List (List ℕ)) → 1 ≤ K → Choices p.supply_top K ts →
    (cs : List Call) (l : ℕ) →
    let start = opening L W p in
    let v = level_at (after ts start cs).client l in
    v.occupied ≡ true →
    (before : List Call) × (c : Call) × (later : List Call) × (cs ≡ before ++ (c ∷ later))
    × (let w = after ts start before in builds l w c (performed ts w c).answer ≡ true)
    × NoneBuilds ts (after ts start (before ++ (c ∷ []))) l later
    × (v.build ≡ length (addresses ts start before))
    × Holds ts (after ts start cs) l (λ a. latest ts start a [] (before ++ (c ∷ [])))

-- the list of an occupied level l below L is the set of the addresses of the 2^l accesses up to its build
abbrev pub ListsAreRecentAddresses : Type 0
ListsAreRecentAddresses =
    (L W K : ℕ) (p : Parts) (ts : List (List ℕ)) → 1 ≤ K → Choices p.supply_top K ts →
    (cs : List Call) (l : ℕ) → l < L →
    let start = opening L W p in
    let v = level_at (after ts start cs).client l in
    v.occupied ≡ true →
    (2 ^ l ≤ v.build) × (v.build ≤ length (addresses ts start cs))
    × (v.members ≡ filter (has (take (2 ^ l) (drop (v.build - 2 ^ l) (addresses ts start cs)))) (range_with_len 0 (blocks L)))

-- the list of level L, whenever that is occupied, is all addresses, from 0 to n - 1
abbrev pub TopListIsAllAddresses : Type 0
TopListIsAllAddresses =
    (L W : ℕ) (p : Parts) (ts : List (List ℕ)) (cs : List Call) →
    let v = level_at (after ts (opening L W p) cs).client L in
    v.occupied ≡ true → v.members ≡ range_with_len 0 (blocks L)
