-- A read gives the latest write.
use Rattle.std.specs.Prelude.{◌≡◌, ℕ, ◌≤◌, cond, ◌&&◌, List, [], ◌∷◌, ◌==◌}
use Rattle.store.specs.declared.entry.Entry.{Entry}
use Rattle.rules.specs.World.{World}
use Rattle.rules.specs.Calls.{Call, load, access, rebuild, Answer, accepted, declined}
use Rattle.rules.specs.Opening.{Parts, opening}
use Rattle.rules.specs.Slots.{block_bytes}
use Rattle.rules.specs.Runs.{performed, after}
use Rattle.laws.specs.Runs.{Choices}

-- the bytes of block a after a call with this answer, where it had these before: an accepted load sets them, and so does an accepted write to a
abbrev pub set_by : ℕ → ℕ → Call → Answer → List ℕ → List ℕ
set_by W a c (declined r) before = before
set_by W a (load all room) (accepted bytes es) before = block_bytes W all a
set_by W a (access j op x run room) (accepted bytes es) before = cond (op == 1 && x == a) run before
set_by W a (rebuild j room) (accepted bytes es) before = before

-- the bytes of block a after a list of calls: those of the latest accepted write to it, or the loaded bytes where there was none
abbrev pub latest : List (List ℕ) → World → ℕ → List ℕ → List Call → List ℕ
latest ts w a before [] = before
latest ts w a before (c ∷ cs) =
    latest ts (performed ts w c).world a (set_by w.client.width a c (performed ts w c).answer before) cs

abbrev pub ReadsGiveTheLatestWrite : Type 0
ReadsGiveTheLatestWrite =
    (L W K : ℕ) (p : Parts) (ts : List (List ℕ)) → 1 ≤ K → Choices p.supply_top K ts →
    (cs : List Call) (j a room : ℕ) (run bytes : List ℕ) (es : List Entry) →
    (performed ts (after ts (opening L W p) cs) (access j 0 a run room)).answer ≡ accepted bytes es →
    bytes ≡ latest ts (opening L W p) a [] cs
