-- Opening a client over a store, an index and a supply.
use Rattle.std.specs.Prelude.{ℕ, suc, Bool, true, cond, ◌&&◌, List, [], ◌∷◌, length, replicate, Some, None, Option, ◌==◌, nat_le}
use Rattle.shape.specs.Numbers.{levels_fit, width_fits, places_needed}
use Rattle.shape.specs.declared.refusal.Refusal.{Refusal}
use Rattle.shape.specs.declared.refusal.Refusal.TheVariants.{OutOfRange, StoreUnfit, IndexOrSupplyUnfit}
use Rattle.store.specs.State.{Slot}
use Rattle.rules.specs.World.{Client, World, vacant}

-- what a client is opened over: the width and slots of a store, the lists of an index, and the L of a supply
pub record Parts : Type 0 where
  pub store_width : ℕ
  pub store_slots : List Slot
  pub index_lists : List (List ℕ)
  pub supply_top : ℕ

-- every list is empty
abbrev pub all_empty : List (List ℕ) → Bool
all_empty [] = true
all_empty (xs ∷ lists) = length xs == 0 && all_empty lists

-- the answer at opening, in the order of the checks: none, or a refusal
abbrev pub opening_answer : ℕ → ℕ → Parts → Option Refusal
opening_answer L W p =
    cond (levels_fit L && width_fits W)
    (cond (p.store_width == W && nat_le (places_needed L) (length p.store_slots))
    (cond (length p.index_lists == L && (p.supply_top == L && all_empty p.index_lists))
    None
    (Some IndexOrSupplyUnfit))
    (Some StoreUnfit))
    (Some OutOfRange)

-- the client of that answer: turn number 0, no accesses, nothing held, and all levels vacant
abbrev pub opened : ℕ → ℕ → Option Refusal → Client
opened L W refusal = record {
  refusal = refusal;
  top = L;
  width = W;
  number = 0;
  accesses = 0;
  held = None;
  levels = replicate (suc L) vacant;
}

abbrev pub opening : ℕ → ℕ → Parts → World
opening L W p = record { client = opened L W (opening_answer L W p); held_bytes = []; slots = p.store_slots }
