-- A run: an opening and a list of calls, each on what the calls before it left. A choice is a list of tables, one for each build.
use Rattle.std.specs.Prelude.{ℕ, List, [], ◌∷◌, map, length, Some, None}
use Rattle.std.specs.List.{flat_map}
use Rattle.store.specs.declared.entry.Entry.{Entry}
use Rattle.rules.specs.World.{World}
use Rattle.rules.specs.Calls.{Call, load, access, rebuild, Answer, Outcome, decline, entries_of}
use Rattle.rules.specs.Checks.{verdict}
use Rattle.rules.specs.Loading.{loading}
use Rattle.rules.specs.Accessing.{accessing}
use Rattle.rules.specs.Rebuilding.{rebuilding}

-- a call that is accepted
abbrev pub accept : List (List ℕ) → World → Call → Outcome
accept ts w (load bytes room) = loading ts w bytes
accept ts w (access j op a bytes room) = accessing ts w op a bytes
accept ts w (rebuild j room) = rebuilding ts w

-- one call: declined, where a check fails, and then nothing has changed; or accepted
abbrev pub performed : List (List ℕ) → World → Call → Outcome
performed ts w c = elim (verdict (length ts) w.client c) [ Some r ↦ decline w r | None ↦ accept ts w c ]

-- the outcomes of calls, one after another, and the world that they leave
abbrev pub outcomes : List (List ℕ) → World → List Call → List Outcome
outcomes ts w [] = []
outcomes ts w (c ∷ cs) = performed ts w c ∷ outcomes ts (performed ts w c).world cs

abbrev pub after : List (List ℕ) → World → List Call → World
after ts w [] = w
after ts w (c ∷ cs) = after ts (performed ts w c).world cs

abbrev pub answers : List (List ℕ) → World → List Call → List Answer
answers ts w cs = map (λ o. o.answer) (outcomes ts w cs)

-- the trace of the list: its calls' entries in order
abbrev pub trace : List (List ℕ) → World → List Call → List Entry
trace ts w cs = flat_map entries_of (answers ts w cs)
