-- A small run in which each number is given, most often to a call that has more than one fault.
use Rattle.std.specs.Prelude.{◌≡◌, ℕ, List, [], ◌∷◌, map, length, replicate, Some, None}
use Rattle.shape.specs.Refusals.{number_of}
use Rattle.rules.specs.Calls.{Call, load, access, rebuild, Answer, accepted, declined, entries_of}
use Rattle.rules.specs.Opening.{Parts, opening}
use Rattle.rules.specs.Slots.{block_slot}
use Rattle.rules.specs.Runs.{answers}

-- the number of the refusal, and 0 where there is none
abbrev pub answer_number : Answer → ℕ
answer_number (accepted bytes es) = 0
answer_number (declined r) = number_of r

abbrev pub opening_number : ℕ → ℕ → Parts → ℕ
opening_number L W p = elim (opening L W p).client.refusal [ Some r ↦ number_of r | None ↦ 0 ]

-- a store of this many places of one byte, an index with these lists, and a supply of this L
abbrev pub parts_of : ℕ → List (List ℕ) → ℕ → Parts
parts_of places lists top =
    record { store_width = 1; store_slots = replicate places (block_slot 0 (0 ∷ [])); index_lists = lists; supply_top = top }

-- two builds: of level 1, and of level 0
abbrev pub two_tables : List (List ℕ)
two_tables = (2 ∷ 0 ∷ 3 ∷ 1 ∷ []) ∷ (1 ∷ 0 ∷ []) ∷ []

abbrev pub faulty_calls : List Call
faulty_calls =
    access 0 7 9 [] 0 ∷ rebuild 0 0 ∷ load (5 ∷ []) 0 ∷ load (5 ∷ 6 ∷ []) 3 ∷ load (5 ∷ 6 ∷ []) 4
    ∷ load [] 0 ∷ access 0 7 9 [] 0 ∷ access 0 1 2 [] 0 ∷ access 0 1 1 [] 0 ∷ access 0 0 1 (0 ∷ []) 0 ∷ access 0 0 1 (0 ∷ []) 1
    ∷ access 0 0 1 (0 ∷ []) 1 ∷ rebuild 0 5 ∷ rebuild 0 6
    ∷ access 1 0 0 [] 0 ∷ access 1 0 0 (0 ∷ []) 0 ∷ rebuild 0 6 ∷ []

pub record RefusalsByExample : Type 0 where
  pub numbers :
      map answer_number (answers two_tables (opening 1 1 (parts_of 10 ([] ∷ []) 1)) faulty_calls)
      ≡ 14 ∷ 14 ∷ 6 ∷ 7 ∷ 0 ∷ 14 ∷ 4 ∷ 5 ∷ 6 ∷ 7 ∷ 0 ∷ 14 ∷ 7 ∷ 0 ∷ 6 ∷ 15 ∷ 14 ∷ []
  pub entries :
      map (λ a. length (entries_of a)) (answers two_tables (opening 1 1 (parts_of 10 ([] ∷ []) 1)) faulty_calls)
      ≡ 0 ∷ 0 ∷ 0 ∷ 0 ∷ 4 ∷ 0 ∷ 0 ∷ 0 ∷ 0 ∷ 0 ∷ 1 ∷ 0 ∷ 0 ∷ 6 ∷ 0 ∷ 0 ∷ 0 ∷ []
  pub not_opened :
      map answer_number (answers two_tables (opening 1 1 (parts_of 9 ([] ∷ []) 1)) (load (5 ∷ 6 ∷ []) 4 ∷ access 7 7 9 [] 0 ∷ rebuild 0 0 ∷ []))
      ≡ 16 ∷ 16 ∷ 16 ∷ []
  pub opened : opening_number 1 1 (parts_of 10 ([] ∷ []) 1) ≡ 0
  pub no_level : opening_number 0 1 (parts_of 0 [] 1) ≡ 1
  pub too_wide : opening_number 1 513 (parts_of 0 [] 1) ≡ 1
  pub other_width : opening_number 1 2 (parts_of 10 [] 0) ≡ 2
  pub place_short : opening_number 1 1 (parts_of 9 [] 0) ≡ 2
  pub index_filled : opening_number 1 1 (parts_of 10 ((0 ∷ []) ∷ []) 1) ≡ 3
  pub other_supply : opening_number 1 1 (parts_of 10 ([] ∷ []) 2) ≡ 3
