-- Opening a client.
use Rattle.std.specs.Prelude.{ℕ, Bool, true, false, cond, ◌&&◌, List, Some, None, Option}
use Rattle.shape.specs.declared.refusal.Refusal.{Refusal}
use Rattle.shape.specs.declared.refusal.Refusal.TheVariants.{OutOfRange, StoreUnfit, IndexOrSupplyUnfit}
use Rattle.store.specs.State.{State}
use Rattle.supply.specs.Choice.{Choice}
use Rattle.oram.specs.declared.client.Core.{Core}
use Rattle.oram.specs.Fitting.{in_range, store_suits, made_for, suits, all_empty}
use Rattle.oram.specs.Records.{vacant_table}

-- why a client is opened with a refusal, in the order of the checks
abbrev pub opening_refusal : ℕ → ℕ → State → List (List ℕ) → Choice → Option Refusal
opening_refusal L W s lists c =
    cond (in_range L W)
    (cond (store_suits L W s) (cond (made_for L lists c && all_empty lists) None (Some IndexOrSupplyUnfit)) (Some StoreUnfit))
    (Some OutOfRange)

-- what a client knows when it is opened
abbrev pub opened : Option Refusal → ℕ → ℕ → Core
opened refusal L W = record { refusal = refusal; levels = L; width = W; number = 0; accesses = 0; table = vacant_table }

abbrev pub unrefused : Option Refusal → Bool
unrefused None = true
unrefused (Some r) = false

-- the client was opened without a refusal, and its parts serve it
abbrev pub stands : Core → State → List (List ℕ) → Choice → Bool
stands k s lists c = unrefused k.refusal && suits k.levels k.width s lists c
