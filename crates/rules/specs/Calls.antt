-- The calls to a client, and what they answer.
use Rattle.std.specs.Prelude.{ℕ, ◌+◌, ◌*◌, List, []}
use Rattle.shape.specs.declared.refusal.Refusal.{Refusal}
use Rattle.store.specs.declared.entry.Entry.{Entry}
use Rattle.store.specs.Requests.{Request}
use Rattle.rules.specs.World.{World}

-- Each brings a turn, and room for so many entries. There is one unloaded turn, numbered 0; the k-th resting turn is numbered 2k + 1,
-- the k-th due turn 2k + 2. A load brings the bytes of all blocks; an access its turn, operation, address and byte run.
pub data Call : Type 0 where
  load : List ℕ → ℕ → Call
  access : ℕ → ℕ → ℕ → List ℕ → ℕ → Call
  rebuild : ℕ → ℕ → Call

-- the number of the turn that a call brings
abbrev pub turn_of : Call → ℕ
turn_of (load bytes room) = 0
turn_of (access k op a bytes room) = 2 * k + 1
turn_of (rebuild k room) = 2 * k + 2

-- accepted: the byte run after the call (a load's or rebuild's is none), and the entries made; or declined by a number, with no entry
pub data Answer : Type 0 where
  accepted : List ℕ → List Entry → Answer
  declined : Refusal → Answer

-- what a call answers, what it asks of the store, and the world after it
pub record Outcome : Type 0 where
  pub answer : Answer
  pub requests : List Request
  pub world : World

-- a call that is declined changes nothing
abbrev pub decline : World → Refusal → Outcome
decline w r = record { answer = declined r; requests = []; world = w }

-- the entries of an answer
abbrev pub entries_of : Answer → List Entry
entries_of (accepted bytes es) = es
entries_of (declined r) = []
