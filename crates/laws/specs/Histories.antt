-- What happened to a client so far: what it was opened with, the choice of tables, and the calls made, accepted and declined.
use Rattle.std.specs.Prelude.{◌≡◌, ℕ, suc, ◌+◌, ◌-◌, ◌/◌, ◌<◌, min, Bool, true, false, cond, ◌&&◌, List, [], ◌∷◌, ◌++◌, length, slice_index_or}
use Rattle.shape.specs.declared.refusal.Refusal.{Refusal}
use Rattle.rules.specs.World.{World, vacant}
use Rattle.rules.specs.Calls.{Call, load, access, rebuild, Answer, accepted, declined, Outcome, entries_of}
use Rattle.rules.specs.Opening.{Parts, opening}
use Rattle.rules.specs.Runs.{performed, outcomes, after, trace}
use Rattle.laws.specs.Runs.{bit}

pub record History : Type 0 where
  pub top : ℕ
  pub width : ℕ
  pub parts : Parts
  pub tables : List (List ℕ)
  pub calls : List Call

-- the world after it
abbrev pub world_of : History → World
world_of h = after h.tables (opening h.top h.width h.parts) h.calls

-- K, the number of builds that the choice has tables for
abbrev pub build_count : History → ℕ
build_count h = length h.tables

-- ---- how many calls were accepted

abbrev pub took : Answer → Bool
took (accepted bytes es) = true
took (declined r) = false

-- the calls of a kind that are accepted, from a world on
abbrev pub tally : List (List ℕ) → (Call → Bool) → World → List Call → ℕ
tally ts kind w [] = 0
tally ts kind w (c ∷ cs) =
    let rest = tally ts kind (performed ts w c).world cs in
    cond (kind c && took (performed ts w c).answer) (suc rest) rest

abbrev pub any_call : Call → Bool
any_call c = true

abbrev pub is_load : Call → Bool
is_load (load bytes room) = true
is_load (access j op a bytes room) = false
is_load (rebuild j room) = false

abbrev pub is_access : Call → Bool
is_access (load bytes room) = false
is_access (access j op a bytes room) = true
is_access (rebuild j room) = false

abbrev pub is_rebuild : Call → Bool
is_rebuild (load bytes room) = false
is_rebuild (access j op a bytes room) = false
is_rebuild (rebuild j room) = true

abbrev pub accepted_so_far : (Call → Bool) → History → ℕ
accepted_so_far kind h = tally h.tables kind (opening h.top h.width h.parts) h.calls

abbrev pub calls_so_far : History → ℕ
calls_so_far = accepted_so_far any_call

abbrev pub loads_so_far : History → ℕ
loads_so_far = accepted_so_far is_load

abbrev pub accesses_so_far : History → ℕ
accesses_so_far = accepted_so_far is_access

abbrev pub rebuilds_so_far : History → ℕ
rebuilds_so_far = accepted_so_far is_rebuild

-- the client's turn number is the number of accepted calls, and its accesses are the accepted accesses; the first accepted call is a load,
-- and from then on accesses and rebuilds take turns, an access first
pub record Counts (h : History) : Type 0 where
  pub number : (world_of h).client.number ≡ calls_so_far h
  pub accesses : (world_of h).client.accesses ≡ accesses_so_far h
  pub one_load : loads_so_far h ≡ min 1 (calls_so_far h)
  pub half_accesses : accesses_so_far h ≡ calls_so_far h / 2
  pub half_rebuilds : rebuilds_so_far h ≡ (calls_so_far h - 1) / 2
  pub all_kinds : calls_so_far h ≡ loads_so_far h + accesses_so_far h + rebuilds_so_far h

abbrev pub AcceptedCallsTakeTurns : Type 0
AcceptedCallsTakeTurns = (h : History) → Counts h

-- ---- the next call

abbrev pub outcome_of : History → Call → Outcome
outcome_of h c = performed h.tables (world_of h) c

abbrev pub Declined : History → Call → Refusal → Type 0
Declined h c r = (outcome_of h c).answer ≡ declined r

abbrev pub Accepted : History → Call → Type 0
Accepted h c = took (outcome_of h c).answer ≡ true

-- a run goes call by call: at any place of a list of calls, the outcome is that of the next call after those before, and the later calls begin
-- with the world that it left
abbrev pub RunsGoCallByCall : Type 0
RunsGoCallByCall =
    (h : History) (c : Call) (later : List Call) →
    let w = opening h.top h.width h.parts in
    outcomes h.tables w (h.calls ++ (c ∷ later))
    ≡ outcomes h.tables w h.calls ++ (outcome_of h c ∷ outcomes h.tables (outcome_of h c).world later)

-- a call that is declined changes nothing, asks nothing of the store, and makes no entry
pub record Unchanged (h : History) (c : Call) : Type 0 where
  pub world : (outcome_of h c).world ≡ world_of h
  pub requests : (outcome_of h c).requests ≡ []
  pub entries : entries_of (outcome_of h c).answer ≡ []

abbrev pub DeclinedCallsChangeNothing : Type 0
DeclinedCallsChangeNothing = (h : History) (c : Call) (r : Refusal) → Declined h c r → Unchanged h c

-- the accepted ones of these calls
abbrev pub accepted_only : List (List ℕ) → World → List Call → List Call
accepted_only ts w [] = []
accepted_only ts w (c ∷ cs) =
    let rest = accepted_only ts (performed ts w c).world cs in
    cond (took (performed ts w c).answer) (c ∷ rest) rest

-- without the declined ones they leave the same world and make the same trace
abbrev pub DeclinedCallsCanBeLeftOut : Type 0
DeclinedCallsCanBeLeftOut =
    (ts : List (List ℕ)) (w : World) (cs : List Call) →
    (after ts w (accepted_only ts w cs) ≡ after ts w cs) × (trace ts w (accepted_only ts w cs) ≡ trace ts w cs)

-- ---- the levels

-- before the load no level is occupied; after it a level below L is occupied exactly if its bit is set in the number of rebuilds so far, which at rest
-- is the number of accesses, and L is always occupied
pub record Occupation (h : History) : Type 0 where
  pub level_count : length (world_of h).client.levels ≡ suc h.top
  pub unloaded : calls_so_far h ≡ 0 → (i : ℕ) → (slice_index_or (world_of h).client.levels i vacant).occupied ≡ false
  pub below_top : 0 < calls_so_far h → (i : ℕ) → i < h.top → (slice_index_or (world_of h).client.levels i vacant).occupied ≡ bit i (rebuilds_so_far h)
  pub at_top : 0 < calls_so_far h → (slice_index_or (world_of h).client.levels h.top vacant).occupied ≡ true

abbrev pub LevelsOccupiedByBits : Type 0
LevelsOccupiedByBits = (h : History) → Occupation h
