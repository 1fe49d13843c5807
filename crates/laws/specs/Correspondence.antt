-- Traces correspond: what the host sees tells nothing of the blocks named, of reading or writing, and of the bytes.
use Rattle.std.specs.Prelude.{◌≡◌, ℕ, ◌*◌, ◌≤◌, List, [], ◌∷◌, map, length, Some, None, Option, ◌==◌, nat_le, nat_lt}
use Rattle.shape.specs.Numbers.{blocks}
use Rattle.shape.specs.declared.refusal.Refusal.{Refusal}
use Rattle.shape.specs.declared.refusal.Refusal.TheVariants.{UnknownOperation, UnknownAddress, WrongByteLength}
use Rattle.permutations.specs.Choices.{OneToOne}
use Rattle.rules.specs.World.{World}
use Rattle.rules.specs.Calls.{Call, load, access, rebuild, turn_of, Answer, accepted, declined}
use Rattle.rules.specs.Checks.{check, first_failing}
use Rattle.rules.specs.Opening.{Parts, opening_answer, opening}
use Rattle.rules.specs.Runs.{answers, trace}
use Rattle.laws.specs.Runs.{Choices}

-- the kinds of call
pub data Kind : Type 0 where
  loads : Kind
  accesses : Kind
  rebuilds : Kind

abbrev pub kind_of : Call → Kind
kind_of (load bytes room) = loads
kind_of (access j op a bytes room) = accesses
kind_of (rebuild j room) = rebuilds

-- the length of the trace that a call brings
abbrev pub room_of : Call → ℕ
room_of (load bytes room) = room
room_of (access j op a bytes room) = room
room_of (rebuild j room) = room

-- the refusal of the first argument that is invalid: operation, address, byte length
abbrev pub fault_of : ℕ → ℕ → Call → Option Refusal
fault_of L W (load bytes room) = first_failing (check (length bytes == blocks L * W) WrongByteLength ∷ [])
fault_of L W (access j op a bytes room) =
    first_failing (
    check (nat_le op 1) UnknownOperation
    ∷ check (nat_lt a (blocks L)) UnknownAddress
    ∷ check (length bytes == W) WrongByteLength ∷ [])
fault_of L W (rebuild j room) = None

-- two calls are alike: of one kind, with an equal turn number and equal room; an invalid argument stands against one with the same refusal
pub record AlikeCalls (L W : ℕ) (c d : Call) : Type 0 where
  pub kinds : kind_of c ≡ kind_of d
  pub turns : turn_of c ≡ turn_of d
  pub rooms : room_of c ≡ room_of d
  pub faults : fault_of L W c ≡ fault_of L W d

-- two lists of calls are alike, call by call
abbrev pub Alike : ℕ → ℕ → List Call → List Call → Type 0
Alike L W [] [] = Unit {0}
Alike L W [] (d ∷ ds) = ⊥
Alike L W (c ∷ cs) [] = ⊥
Alike L W (c ∷ cs) (d ∷ ds) = AlikeCalls L W c d × Alike L W cs ds

-- which calls were declined, and by which numbers
abbrev pub refusal_of : Answer → Option Refusal
refusal_of (accepted bytes es) = None
refusal_of (declined r) = Some r

abbrev pub refusals : List (List ℕ) → World → List Call → List (Option Refusal)
refusals ts w cs = map refusal_of (answers ts w cs)

-- the host sees the same of two runs: traces and refusals are equal
pub record SameForTheHost (ts us : List (List ℕ)) (v w : World) (cs ds : List Call) : Type 0 where
  pub traces : trace ts v cs ≡ trace us w ds
  pub declined : refusals ts v cs ≡ refusals us w ds

-- Of two openings with the same L, W and answer, over supplies of equal L and K, and two lists of calls that are alike: the choices for the
-- one correspond one to one with those for the other, and under partners the host sees the same.
abbrev pub TracesCorrespond : Type 0
TracesCorrespond =
    (L W K : ℕ) (p q : Parts) (cs ds : List Call) → 1 ≤ K →
    p.supply_top ≡ q.supply_top → opening_answer L W p ≡ opening_answer L W q → Alike L W cs ds →
    (f : List (List ℕ) → List (List ℕ)) × (g : List (List ℕ) → List (List ℕ)) ×
    OneToOne (Choices p.supply_top K) (Choices p.supply_top K) f g
    × ((ts : List (List ℕ)) → Choices p.supply_top K ts → SameForTheHost ts (f ts) (opening L W p) (opening L W q) cs ds)

-- Trace and refusals depend on the choice, the answer at opening and the calls alone, whatever the store and index.
abbrev pub StoreAndIndexDoNotShow : Type 0
StoreAndIndexDoNotShow =
    (L W : ℕ) (p q : Parts) (cs : List Call) (ts : List (List ℕ)) → opening_answer L W p ≡ opening_answer L W q →
    SameForTheHost ts ts (opening L W p) (opening L W q) cs cs
