-- A run by the definitions agrees with what another program answered, and with what it left.
use Rattle.std.specs.Prelude.{◌≡◌, ℕ, List, Option}
use Rattle.shape.specs.declared.refusal.Refusal.{Refusal}
use Rattle.store.specs.State.{Slot}
use Rattle.rules.specs.World.{Level}
use Rattle.rules.specs.Calls.{Call, Answer}
use Rattle.rules.specs.Opening.{Parts, opening_answer, opening}
use Rattle.rules.specs.Runs.{answers, after}

-- the answer at opening, every call's answer with its entries and bytes, the slots of the store, the levels with their lists, the turn number
pub record Agrees (L W : ℕ) (p : Parts) (ts : List (List ℕ)) (cs : List Call)
    (opened : Option Refusal) (answered : List Answer) (slots : List Slot) (levels : List Level) (number : ℕ) : Type 0 where
  pub opened_so : opening_answer L W p ≡ opened
  pub answered_so : answers ts (opening L W p) cs ≡ answered
  pub slots_so : (after ts (opening L W p) cs).slots ≡ slots
  pub levels_so : (after ts (opening L W p) cs).client.levels ≡ levels
  pub number_so : (after ts (opening L W p) cs).client.number ≡ number
