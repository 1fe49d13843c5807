-- Runs that the independent program made, with what it answered: written by `reference/compare/write`, and not by hand.
use Rattle.std.specs.Prelude.{ℕ, true, false, List, [], ◌∷◌, replicate, Some, None}
use Rattle.std.specs.List.{range_with_len}
use Rattle.shape.specs.declared.refusal.Refusal.TheVariants.{OutOfRange, StoreUnfit, IndexOrSupplyUnfit, UnknownOperation, UnknownAddress, WrongByteLength, TraceTooShort, WrongTurn, BuildsUsedUp, NotOpened}
use Rattle.store.specs.State.{Slot}
use Rattle.store.specs.Requests.{entry_of}
use Rattle.rules.specs.World.{Level, vacant}
use Rattle.rules.specs.Calls.{Call, load, access, rebuild, Answer, accepted, declined}
use Rattle.rules.specs.Opening.{Parts}
use Rattle.rules.specs.Slots.{block_slot}
use Rattle.worked_examples.specs.Agreement.{Agrees}

-- run 0, number 460 of seed 1: L = 3, W = 2; refused: opening by 3, rebuild by 16, access by 16, load by 16
abbrev pub parts_0 : Parts
parts_0 = record {
  store_width = 2;
  store_slots = replicate 46 (block_slot 0 (replicate 2 0));
  index_lists = replicate 3 [];
  supply_top = 1;
}

abbrev pub tables_0 : List (List ℕ)
tables_0 =
    (2 ∷ 1 ∷ 3 ∷ 0 ∷ []) ∷ []

abbrev pub calls_0 : List Call
calls_0 =
    rebuild 1 13 ∷
    access 1 0 0 (138 ∷ 86 ∷ []) 0 ∷
    rebuild 0 6 ∷
    load (49 ∷ 184 ∷ 134 ∷ 60 ∷ 110 ∷ 46 ∷ 162 ∷ 188 ∷ 159 ∷ 191 ∷ 42 ∷ 16 ∷ 216 ∷ 100 ∷ 3 ∷ 81 ∷ []) 17 ∷ []

abbrev pub answers_0 : List Answer
answers_0 =
    declined NotOpened ∷
    declined NotOpened ∷
    declined NotOpened ∷
    declined NotOpened ∷ []

abbrev pub slots_0 : List Slot
slots_0 =
    block_slot 0 (0 ∷ 0 ∷ []) ∷
    block_slot 0 (0 ∷ 0 ∷ []) ∷
    block_slot 0 (0 ∷ 0 ∷ []) ∷
    block_slot 0 (0 ∷ 0 ∷ []) ∷
    block_slot 0 (0 ∷ 0 ∷ []) ∷
    block_slot 0 (0 ∷ 0 ∷ []) ∷
    block_slot 0 (0 ∷ 0 ∷ []) ∷
    block_slot 0 (0 ∷ 0 ∷ []) ∷
    block_slot 0 (0 ∷ 0 ∷ []) ∷
    block_slot 0 (0 ∷ 0 ∷ []) ∷
    block_slot 0 (0 ∷ 0 ∷ []) ∷
    block_slot 0 (0 ∷ 0 ∷ []) ∷
    block_slot 0 (0 ∷ 0 ∷ []) ∷
    block_slot 0 (0 ∷ 0 ∷ []) ∷
    block_slot 0 (0 ∷ 0 ∷ []) ∷
    block_slot 0 (0 ∷ 0 ∷ []) ∷
    block_slot 0 (0 ∷ 0 ∷ []) ∷
    block_slot 0 (0 ∷ 0 ∷ []) ∷
    block_slot 0 (0 ∷ 0 ∷ []) ∷
    block_slot 0 (0 ∷ 0 ∷ []) ∷
    block_slot 0 (0 ∷ 0 ∷ []) ∷
    block_slot 0 (0 ∷ 0 ∷ []) ∷
    block_slot 0 (0 ∷ 0 ∷ []) ∷
    block_slot 0 (0 ∷ 0 ∷ []) ∷
    block_slot 0 (0 ∷ 0 ∷ []) ∷
    block_slot 0 (0 ∷ 0 ∷ []) ∷
    block_slot 0 (0 ∷ 0 ∷ []) ∷
    block_slot 0 (0 ∷ 0 ∷ []) ∷
    block_slot 0 (0 ∷ 0 ∷ []) ∷
    block_slot 0 (0 ∷ 0 ∷ []) ∷
    block_slot 0 (0 ∷ 0 ∷ []) ∷
    block_slot 0 (0 ∷ 0 ∷ []) ∷
    block_slot 0 (0 ∷ 0 ∷ []) ∷
    block_slot 0 (0 ∷ 0 ∷ []) ∷
    block_slot 0 (0 ∷ 0 ∷ []) ∷
    block_slot 0 (0 ∷ 0 ∷ []) ∷
    block_slot 0 (0 ∷ 0 ∷ []) ∷
    block_slot 0 (0 ∷ 0 ∷ []) ∷
    block_slot 0 (0 ∷ 0 ∷ []) ∷
    block_slot 0 (0 ∷ 0 ∷ []) ∷
    block_slot 0 (0 ∷ 0 ∷ []) ∷
    block_slot 0 (0 ∷ 0 ∷ []) ∷
    block_slot 0 (0 ∷ 0 ∷ []) ∷
    block_slot 0 (0 ∷ 0 ∷ []) ∷
    block_slot 0 (0 ∷ 0 ∷ []) ∷
    block_slot 0 (0 ∷ 0 ∷ []) ∷ []

abbrev pub levels_0 : List Level
levels_0 = replicate 4 vacant

abbrev pub Run0 : Type 0
Run0 = Agrees 3 2 parts_0 tables_0 calls_0 (Some IndexOrSupplyUnfit) answers_0 slots_0 levels_0 0

-- run 1, number 903 of seed 1: L = 1, W = 1; refused: load by 6, access by 7, access by 5, access by 4, access by 14, rebuild by 14, rebuild by 7
abbrev pub parts_1 : Parts
parts_1 = record {
  store_width = 1;
  store_slots = replicate 10 (block_slot 0 (replicate 1 0));
  index_lists = replicate 1 [];
  supply_top = 1;
}

abbrev pub tables_1 : List (List ℕ)
tables_1 =
    (1 ∷ 3 ∷ 2 ∷ 0 ∷ []) ∷
    (1 ∷ 0 ∷ []) ∷
    (3 ∷ 0 ∷ 2 ∷ 1 ∷ []) ∷
    (1 ∷ 0 ∷ []) ∷
    (3 ∷ 1 ∷ 2 ∷ 0 ∷ []) ∷
    (0 ∷ 1 ∷ []) ∷
    (1 ∷ 3 ∷ 0 ∷ 2 ∷ []) ∷
    (0 ∷ 1 ∷ []) ∷
    (0 ∷ 1 ∷ 3 ∷ 2 ∷ []) ∷
    (1 ∷ 0 ∷ []) ∷ []

abbrev pub calls_1 : List Call
calls_1 =
    load [] 3 ∷
    load (188 ∷ 159 ∷ []) 6 ∷
    access 0 0 0 (21 ∷ []) 0 ∷
    access 0 1 3 (31 ∷ []) 3 ∷
    access 0 0 0 (27 ∷ []) 6 ∷
    rebuild 0 7 ∷
    access 1 1 0 (120 ∷ []) 2 ∷
    rebuild 1 17 ∷
    access 2 0 1 (171 ∷ []) 4 ∷
    rebuild 2 6 ∷
    access 3 1 1 (183 ∷ []) 6 ∷
    rebuild 3 15 ∷
    access 4 3 0 (150 ∷ []) 1 ∷
    access 4 1 0 (125 ∷ []) 1 ∷
    rebuild 4 12 ∷
    access 3 2 0 [] 2 ∷
    access 5 1 0 (22 ∷ []) 2 ∷
    rebuild 7 15 ∷
    rebuild 5 14 ∷
    rebuild 5 16 ∷
    access 6 0 0 (54 ∷ []) 1 ∷
    rebuild 5 5 ∷ []

abbrev pub answers_1 : List Answer
answers_1 =
    declined WrongByteLength ∷
    accepted [] (entry_of true true 2 ∷ entry_of true true 3 ∷ entry_of true true 4 ∷ entry_of true true 5 ∷ []) ∷
    declined TraceTooShort ∷
    declined UnknownAddress ∷
    accepted (188 ∷ []) (entry_of true false 3 ∷ []) ∷
    accepted [] (entry_of true true 6 ∷ entry_of true true 7 ∷ entry_of true false 6 ∷ entry_of true false 7 ∷ entry_of true true 0 ∷ entry_of true true 1 ∷ []) ∷
    accepted (120 ∷ []) (entry_of true false 1 ∷ entry_of false false 4 ∷ []) ∷
    accepted [] (entry_of true true 6 ∷ entry_of true false 0 ∷ entry_of true true 7 ∷ entry_of true false 2 ∷ entry_of true true 8 ∷ entry_of true false 5 ∷ entry_of true true 9 ∷ entry_of true false 6 ∷ entry_of true false 7 ∷ entry_of true false 8 ∷ entry_of true false 9 ∷ entry_of true true 2 ∷ entry_of true true 3 ∷ entry_of true true 4 ∷ entry_of true true 5 ∷ []) ∷
    accepted (159 ∷ []) (entry_of true false 2 ∷ []) ∷
    accepted [] (entry_of true true 6 ∷ entry_of true true 7 ∷ entry_of true false 6 ∷ entry_of true false 7 ∷ entry_of true true 0 ∷ entry_of true true 1 ∷ []) ∷
    accepted (183 ∷ []) (entry_of true false 1 ∷ entry_of false false 4 ∷ []) ∷
    accepted [] (entry_of true true 6 ∷ entry_of true false 0 ∷ entry_of true true 7 ∷ entry_of true false 3 ∷ entry_of true true 8 ∷ entry_of true false 5 ∷ entry_of true true 9 ∷ entry_of true false 6 ∷ entry_of true false 7 ∷ entry_of true false 8 ∷ entry_of true false 9 ∷ entry_of true true 2 ∷ entry_of true true 3 ∷ entry_of true true 4 ∷ entry_of true true 5 ∷ []) ∷
    declined UnknownOperation ∷
    accepted (125 ∷ []) (entry_of true false 5 ∷ []) ∷
    accepted [] (entry_of true true 6 ∷ entry_of true true 7 ∷ entry_of true false 6 ∷ entry_of true false 7 ∷ entry_of true true 0 ∷ entry_of true true 1 ∷ []) ∷
    declined WrongTurn ∷
    accepted (22 ∷ []) (entry_of true false 0 ∷ entry_of false false 4 ∷ []) ∷
    declined WrongTurn ∷
    declined TraceTooShort ∷
    accepted [] (entry_of true true 6 ∷ entry_of true false 1 ∷ entry_of true true 7 ∷ entry_of true false 2 ∷ entry_of true true 8 ∷ entry_of true false 3 ∷ entry_of true true 9 ∷ entry_of true false 6 ∷ entry_of true false 7 ∷ entry_of true false 8 ∷ entry_of true false 9 ∷ entry_of true true 2 ∷ entry_of true true 3 ∷ entry_of true true 4 ∷ entry_of true true 5 ∷ []) ∷
    accepted (22 ∷ []) (entry_of true false 3 ∷ []) ∷
    declined WrongTurn ∷ []

abbrev pub slots_1 : List Slot
slots_1 =
    block_slot 0 (125 ∷ []) ∷
    block_slot 65537 (0 ∷ []) ∷
    block_slot 65538 (0 ∷ []) ∷
    block_slot 0 (22 ∷ []) ∷
    block_slot 65539 (0 ∷ []) ∷
    block_slot 1 (183 ∷ []) ∷
    block_slot 0 (22 ∷ []) ∷
    block_slot 65538 (0 ∷ []) ∷
    block_slot 65539 (0 ∷ []) ∷
    block_slot 1 (183 ∷ []) ∷ []

abbrev pub levels_1 : List Level
levels_1 =
    record { occupied = false; members = []; counter = 0; build = 0 } ∷
    record { occupied = true; members = range_with_len 0 2; counter = 2; build = 6 } ∷ []

abbrev pub Run1 : Type 0
Run1 = Agrees 1 1 parts_1 tables_1 calls_1 (None) answers_1 slots_1 levels_1 14

-- run 2, number 910 of seed 1: L = 3, W = 1; refused: access by 6, access by 15
abbrev pub parts_2 : Parts
parts_2 = record {
  store_width = 1;
  store_slots = replicate 48 (block_slot 0 (replicate 1 0));
  index_lists = replicate 3 [];
  supply_top = 3;
}

abbrev pub tables_2 : List (List ℕ)
tables_2 =
    (4 ∷ 7 ∷ 15 ∷ 0 ∷ 1 ∷ 5 ∷ 3 ∷ 11 ∷ 12 ∷ 2 ∷ 6 ∷ 10 ∷ 13 ∷ 14 ∷ 9 ∷ 8 ∷ []) ∷
    (0 ∷ 1 ∷ []) ∷
    (3 ∷ 2 ∷ 1 ∷ 0 ∷ []) ∷
    (1 ∷ 0 ∷ []) ∷
    (7 ∷ 5 ∷ 1 ∷ 0 ∷ 4 ∷ 3 ∷ 6 ∷ 2 ∷ []) ∷
    (0 ∷ 1 ∷ []) ∷
    (3 ∷ 2 ∷ 1 ∷ 0 ∷ []) ∷
    (0 ∷ 1 ∷ []) ∷
    (13 ∷ 3 ∷ 2 ∷ 12 ∷ 8 ∷ 14 ∷ 6 ∷ 7 ∷ 11 ∷ 4 ∷ 10 ∷ 15 ∷ 0 ∷ 9 ∷ 1 ∷ 5 ∷ []) ∷ []

abbrev pub calls_2 : List Call
calls_2 =
    load (162 ∷ 48 ∷ 2 ∷ 241 ∷ 104 ∷ 83 ∷ 53 ∷ 128 ∷ []) 16 ∷
    access 0 0 3 (51 ∷ []) 1 ∷
    rebuild 0 6 ∷
    access 1 0 6 (123 ∷ []) 2 ∷
    rebuild 1 16 ∷
    access 2 1 6 (231 ∷ []) 3 ∷
    rebuild 2 6 ∷
    access 3 0 5 (232 ∷ []) 4 ∷
    rebuild 3 27 ∷
    access 4 0 5 (55 ∷ []) 6 ∷
    rebuild 4 9 ∷
    access 5 0 1 (192 ∷ []) 5 ∷
    rebuild 5 19 ∷
    access 6 0 5 (222 ∷ []) 5 ∷
    rebuild 6 6 ∷
    access 7 0 5 (206 ∷ []) 4 ∷
    rebuild 7 65 ∷
    access 8 0 0 [] 5 ∷
    access 8 0 0 (90 ∷ 12 ∷ []) 1 ∷
    access 8 1 0 (64 ∷ []) 0 ∷
    access 8 1 0 (77 ∷ []) 2 ∷ []

abbrev pub answers_2 : List Answer
answers_2 =
    accepted [] (entry_of true true 14 ∷ entry_of true true 15 ∷ entry_of true true 16 ∷ entry_of true true 17 ∷ entry_of true true 18 ∷ entry_of true true 19 ∷ entry_of true true 20 ∷ entry_of true true 21 ∷ entry_of true true 22 ∷ entry_of true true 23 ∷ entry_of true true 24 ∷ entry_of true true 25 ∷ entry_of true true 26 ∷ entry_of true true 27 ∷ entry_of true true 28 ∷ entry_of true true 29 ∷ []) ∷
    accepted (241 ∷ []) (entry_of true false 14 ∷ []) ∷
    accepted [] (entry_of true true 30 ∷ entry_of true true 31 ∷ entry_of true false 30 ∷ entry_of true false 31 ∷ entry_of true true 0 ∷ entry_of true true 1 ∷ []) ∷
    accepted (53 ∷ []) (entry_of true false 1 ∷ entry_of false false 17 ∷ []) ∷
    accepted [] (entry_of true true 30 ∷ entry_of true false 0 ∷ entry_of true true 31 ∷ entry_of true true 32 ∷ entry_of true true 33 ∷ entry_of true false 30 ∷ entry_of true false 31 ∷ entry_of true false 32 ∷ entry_of true false 33 ∷ entry_of true true 2 ∷ entry_of true true 3 ∷ entry_of true true 4 ∷ entry_of true true 5 ∷ []) ∷
    accepted (231 ∷ []) (entry_of true false 4 ∷ entry_of false false 26 ∷ []) ∷
    accepted [] (entry_of true true 30 ∷ entry_of true true 31 ∷ entry_of true false 30 ∷ entry_of true false 31 ∷ entry_of true true 0 ∷ entry_of true true 1 ∷ []) ∷
    accepted (83 ∷ []) (entry_of true false 0 ∷ entry_of false false 3 ∷ entry_of false false 19 ∷ []) ∷
    accepted [] (entry_of true true 30 ∷ entry_of true false 1 ∷ entry_of true true 31 ∷ entry_of true false 2 ∷ entry_of true true 32 ∷ entry_of true false 5 ∷ entry_of true true 33 ∷ entry_of true true 34 ∷ entry_of true true 35 ∷ entry_of true true 36 ∷ entry_of true true 37 ∷ entry_of true false 30 ∷ entry_of true false 31 ∷ entry_of true false 32 ∷ entry_of true false 33 ∷ entry_of true false 34 ∷ entry_of true false 35 ∷ entry_of true false 36 ∷ entry_of true false 37 ∷ entry_of true true 6 ∷ entry_of true true 7 ∷ entry_of true true 8 ∷ entry_of true true 9 ∷ entry_of true true 10 ∷ entry_of true true 11 ∷ entry_of true true 12 ∷ entry_of true true 13 ∷ []) ∷
    accepted (83 ∷ []) (entry_of true false 11 ∷ entry_of false false 16 ∷ []) ∷
    accepted [] (entry_of true true 30 ∷ entry_of true true 31 ∷ entry_of true false 30 ∷ entry_of true false 31 ∷ entry_of true true 0 ∷ entry_of true true 1 ∷ []) ∷
    accepted (48 ∷ []) (entry_of true false 1 ∷ entry_of false false 6 ∷ entry_of false false 21 ∷ []) ∷
    accepted [] (entry_of true true 30 ∷ entry_of true false 0 ∷ entry_of true true 31 ∷ entry_of true true 32 ∷ entry_of true true 33 ∷ entry_of true false 30 ∷ entry_of true false 31 ∷ entry_of true false 32 ∷ entry_of true false 33 ∷ entry_of true true 2 ∷ entry_of true true 3 ∷ entry_of true true 4 ∷ entry_of true true 5 ∷ []) ∷
    accepted (83 ∷ []) (entry_of true false 4 ∷ entry_of false false 10 ∷ entry_of false false 20 ∷ []) ∷
    accepted [] (entry_of true true 30 ∷ entry_of true true 31 ∷ entry_of true false 30 ∷ entry_of true false 31 ∷ entry_of true true 0 ∷ entry_of true true 1 ∷ []) ∷
    accepted (83 ∷ []) (entry_of true false 0 ∷ entry_of false false 3 ∷ entry_of false false 9 ∷ entry_of false false 24 ∷ []) ∷
    accepted [] (entry_of true true 30 ∷ entry_of true false 1 ∷ entry_of true true 31 ∷ entry_of true false 2 ∷ entry_of true true 32 ∷ entry_of true false 5 ∷ entry_of true true 33 ∷ entry_of true false 7 ∷ entry_of true true 34 ∷ entry_of true false 8 ∷ entry_of true true 35 ∷ entry_of true false 12 ∷ entry_of true true 36 ∷ entry_of true false 13 ∷ entry_of true true 37 ∷ entry_of true false 15 ∷ entry_of true true 38 ∷ entry_of true false 18 ∷ entry_of true true 39 ∷ entry_of true false 22 ∷ entry_of true true 40 ∷ entry_of true false 23 ∷ entry_of true true 41 ∷ entry_of true false 25 ∷ entry_of true true 42 ∷ entry_of true false 27 ∷ entry_of true true 43 ∷ entry_of true false 28 ∷ entry_of true true 44 ∷ entry_of true false 29 ∷ entry_of true true 45 ∷ entry_of true false 30 ∷ entry_of true false 31 ∷ entry_of true false 32 ∷ entry_of true false 33 ∷ entry_of true false 34 ∷ entry_of true false 35 ∷ entry_of true false 36 ∷ entry_of true false 37 ∷ entry_of true false 38 ∷ entry_of true false 39 ∷ entry_of true false 40 ∷ entry_of true false 41 ∷ entry_of true false 42 ∷ entry_of true false 43 ∷ entry_of true false 44 ∷ entry_of true false 45 ∷ entry_of true true 14 ∷ entry_of true true 15 ∷ entry_of true true 16 ∷ entry_of true true 17 ∷ entry_of true true 18 ∷ entry_of true true 19 ∷ entry_of true true 20 ∷ entry_of true true 21 ∷ entry_of true true 22 ∷ entry_of true true 23 ∷ entry_of true true 24 ∷ entry_of true true 25 ∷ entry_of true true 26 ∷ entry_of true true 27 ∷ entry_of true true 28 ∷ entry_of true true 29 ∷ []) ∷
    declined WrongByteLength ∷
    declined WrongByteLength ∷
    declined BuildsUsedUp ∷
    declined BuildsUsedUp ∷ []

abbrev pub slots_2 : List Slot
slots_2 =
    block_slot 5 (83 ∷ []) ∷
    block_slot 65537 (0 ∷ []) ∷
    block_slot 65539 (0 ∷ []) ∷
    block_slot 65538 (0 ∷ []) ∷
    block_slot 5 (83 ∷ []) ∷
    block_slot 1 (48 ∷ []) ∷
    block_slot 65539 (0 ∷ []) ∷
    block_slot 6 (231 ∷ []) ∷
    block_slot 65543 (0 ∷ []) ∷
    block_slot 65541 (0 ∷ []) ∷
    block_slot 65540 (0 ∷ []) ∷
    block_slot 5 (83 ∷ []) ∷
    block_slot 65542 (0 ∷ []) ∷
    block_slot 3 (241 ∷ []) ∷
    block_slot 65548 (0 ∷ []) ∷
    block_slot 65550 (0 ∷ []) ∷
    block_slot 2 (2 ∷ []) ∷
    block_slot 1 (48 ∷ []) ∷
    block_slot 65545 (0 ∷ []) ∷
    block_slot 65551 (0 ∷ []) ∷
    block_slot 6 (231 ∷ []) ∷
    block_slot 7 (128 ∷ []) ∷
    block_slot 4 (104 ∷ []) ∷
    block_slot 65549 (0 ∷ []) ∷
    block_slot 65546 (0 ∷ []) ∷
    block_slot 65544 (0 ∷ []) ∷
    block_slot 3 (241 ∷ []) ∷
    block_slot 0 (162 ∷ []) ∷
    block_slot 5 (83 ∷ []) ∷
    block_slot 65547 (0 ∷ []) ∷
    block_slot 5 (83 ∷ []) ∷
    block_slot 65544 (0 ∷ []) ∷
    block_slot 65545 (0 ∷ []) ∷
    block_slot 1 (48 ∷ []) ∷
    block_slot 6 (231 ∷ []) ∷
    block_slot 65546 (0 ∷ []) ∷
    block_slot 65547 (0 ∷ []) ∷
    block_slot 3 (241 ∷ []) ∷
    block_slot 4 (104 ∷ []) ∷
    block_slot 0 (162 ∷ []) ∷
    block_slot 65548 (0 ∷ []) ∷
    block_slot 65549 (0 ∷ []) ∷
    block_slot 7 (128 ∷ []) ∷
    block_slot 65550 (0 ∷ []) ∷
    block_slot 65551 (0 ∷ []) ∷
    block_slot 2 (2 ∷ []) ∷
    block_slot 0 (0 ∷ []) ∷
    block_slot 0 (0 ∷ []) ∷ []

abbrev pub levels_2 : List Level
levels_2 =
    record { occupied = false; members = []; counter = 0; build = 0 } ∷
    record { occupied = false; members = []; counter = 0; build = 0 } ∷
    record { occupied = false; members = []; counter = 0; build = 0 } ∷
    record { occupied = true; members = range_with_len 0 8; counter = 8; build = 8 } ∷ []

abbrev pub Run2 : Type 0
Run2 = Agrees 3 1 parts_2 tables_2 calls_2 (None) answers_2 slots_2 levels_2 17

-- run 3, number 933 of seed 1: L = 2, W = 1025; refused: opening by 1, access by 16, load by 16, rebuild by 16
abbrev pub parts_3 : Parts
parts_3 = record {
  store_width = 1;
  store_slots = replicate 22 (block_slot 0 (replicate 1 0));
  index_lists = replicate 1 [];
  supply_top = 2;
}

abbrev pub tables_3 : List (List ℕ)
tables_3 =
    (2 ∷ 0 ∷ 6 ∷ 5 ∷ 1 ∷ 4 ∷ 3 ∷ 7 ∷ []) ∷
    (0 ∷ 1 ∷ []) ∷ []

abbrev pub calls_3 : List Call
calls_3 =
    access 1 2 0 (116 ∷ []) 0 ∷
    load (50 ∷ 254 ∷ []) 0 ∷
    load (234 ∷ []) 6 ∷
    rebuild 0 6 ∷ []

abbrev pub answers_3 : List Answer
answers_3 =
    declined NotOpened ∷
    declined NotOpened ∷
    declined NotOpened ∷
    declined NotOpened ∷ []

abbrev pub slots_3 : List Slot
slots_3 =
    block_slot 0 (0 ∷ []) ∷
    block_slot 0 (0 ∷ []) ∷
    block_slot 0 (0 ∷ []) ∷
    block_slot 0 (0 ∷ []) ∷
    block_slot 0 (0 ∷ []) ∷
    block_slot 0 (0 ∷ []) ∷
    block_slot 0 (0 ∷ []) ∷
    block_slot 0 (0 ∷ []) ∷
    block_slot 0 (0 ∷ []) ∷
    block_slot 0 (0 ∷ []) ∷
    block_slot 0 (0 ∷ []) ∷
    block_slot 0 (0 ∷ []) ∷
    block_slot 0 (0 ∷ []) ∷
    block_slot 0 (0 ∷ []) ∷
    block_slot 0 (0 ∷ []) ∷
    block_slot 0 (0 ∷ []) ∷
    block_slot 0 (0 ∷ []) ∷
    block_slot 0 (0 ∷ []) ∷
    block_slot 0 (0 ∷ []) ∷
    block_slot 0 (0 ∷ []) ∷
    block_slot 0 (0 ∷ []) ∷
    block_slot 0 (0 ∷ []) ∷ []

abbrev pub levels_3 : List Level
levels_3 = replicate 3 vacant

abbrev pub Run3 : Type 0
Run3 = Agrees 2 1025 parts_3 tables_3 calls_3 (Some OutOfRange) answers_3 slots_3 levels_3 0

-- run 4, number 1031 of seed 1: L = 3, W = 3; refused: access by 15, access by 5
abbrev pub parts_4 : Parts
parts_4 = record {
  store_width = 3;
  store_slots = replicate 46 (block_slot 0 (replicate 3 0));
  index_lists = replicate 3 [];
  supply_top = 3;
}

abbrev pub tables_4 : List (List ℕ)
tables_4 =
    (1 ∷ 11 ∷ 6 ∷ 13 ∷ 5 ∷ 10 ∷ 7 ∷ 9 ∷ 0 ∷ 8 ∷ 4 ∷ 15 ∷ 3 ∷ 14 ∷ 12 ∷ 2 ∷ []) ∷
    (1 ∷ 0 ∷ []) ∷
    (2 ∷ 0 ∷ 1 ∷ 3 ∷ []) ∷
    (1 ∷ 0 ∷ []) ∷
    (6 ∷ 7 ∷ 4 ∷ 1 ∷ 3 ∷ 0 ∷ 2 ∷ 5 ∷ []) ∷
    (0 ∷ 1 ∷ []) ∷
    (1 ∷ 0 ∷ 2 ∷ 3 ∷ []) ∷
    (0 ∷ 1 ∷ []) ∷
    (1 ∷ 8 ∷ 15 ∷ 12 ∷ 9 ∷ 10 ∷ 0 ∷ 11 ∷ 2 ∷ 7 ∷ 13 ∷ 3 ∷ 6 ∷ 5 ∷ 4 ∷ 14 ∷ []) ∷
    (0 ∷ 1 ∷ []) ∷
    (3 ∷ 2 ∷ 0 ∷ 1 ∷ []) ∷ []

abbrev pub calls_4 : List Call
calls_4 =
    load (197 ∷ 201 ∷ 106 ∷ 144 ∷ 116 ∷ 240 ∷ 78 ∷ 42 ∷ 217 ∷ 1 ∷ 250 ∷ 206 ∷ 123 ∷ 108 ∷ 146 ∷ 215 ∷ 205 ∷ 109 ∷ 79 ∷ 172 ∷ 249 ∷ 117 ∷ 185 ∷ 122 ∷ []) 16 ∷
    access 0 1 6 (218 ∷ 133 ∷ 171 ∷ []) 1 ∷
    rebuild 0 9 ∷
    access 1 0 6 (49 ∷ 63 ∷ 95 ∷ []) 3 ∷
    rebuild 1 15 ∷
    access 2 0 7 (139 ∷ 148 ∷ 249 ∷ []) 8 ∷
    rebuild 2 6 ∷
    access 3 1 0 (227 ∷ 95 ∷ 103 ∷ []) 6 ∷
    rebuild 3 27 ∷
    access 4 0 0 (30 ∷ 127 ∷ 178 ∷ []) 2 ∷
    rebuild 4 12 ∷
    access 5 1 5 (172 ∷ 224 ∷ 147 ∷ []) 9 ∷
    rebuild 5 14 ∷
    access 6 0 0 (232 ∷ 73 ∷ 242 ∷ []) 3 ∷
    rebuild 6 6 ∷
    access 7 1 3 (211 ∷ 30 ∷ 205 ∷ []) 4 ∷
    rebuild 7 68 ∷
    access 8 1 3 (106 ∷ 224 ∷ 227 ∷ []) 1 ∷
    rebuild 8 8 ∷
    access 9 0 3 (36 ∷ 31 ∷ 142 ∷ []) 4 ∷
    rebuild 9 13 ∷
    access 10 0 3 (220 ∷ 173 ∷ 112 ∷ []) 2 ∷
    access 10 1 3 (130 ∷ 48 ∷ 13 ∷ []) 2 ∷
    access 10 1 1 (59 ∷ 169 ∷ 156 ∷ []) 2 ∷
    access 10 1 9 [] 1 ∷ []

abbrev pub answers_4 : List Answer
answers_4 =
    accepted [] (entry_of true true 14 ∷ entry_of true true 15 ∷ entry_of true true 16 ∷ entry_of true true 17 ∷ entry_of true true 18 ∷ entry_of true true 19 ∷ entry_of true true 20 ∷ entry_of true true 21 ∷ entry_of true true 22 ∷ entry_of true true 23 ∷ entry_of true true 24 ∷ entry_of true true 25 ∷ entry_of true true 26 ∷ entry_of true true 27 ∷ entry_of true true 28 ∷ entry_of true true 29 ∷ []) ∷
    accepted (218 ∷ 133 ∷ 171 ∷ []) (entry_of true false 21 ∷ []) ∷
    accepted [] (entry_of true true 30 ∷ entry_of true true 31 ∷ entry_of true false 30 ∷ entry_of true false 31 ∷ entry_of true true 0 ∷ entry_of true true 1 ∷ []) ∷
    accepted (218 ∷ 133 ∷ 171 ∷ []) (entry_of true false 1 ∷ entry_of false false 14 ∷ []) ∷
    accepted [] (entry_of true true 30 ∷ entry_of true false 0 ∷ entry_of true true 31 ∷ entry_of true true 32 ∷ entry_of true true 33 ∷ entry_of true false 30 ∷ entry_of true false 31 ∷ entry_of true false 32 ∷ entry_of true false 33 ∷ entry_of true true 2 ∷ entry_of true true 3 ∷ entry_of true true 4 ∷ entry_of true true 5 ∷ []) ∷
    accepted (117 ∷ 185 ∷ 122 ∷ []) (entry_of true false 2 ∷ entry_of false false 23 ∷ []) ∷
    accepted [] (entry_of true true 30 ∷ entry_of true true 31 ∷ entry_of true false 30 ∷ entry_of true false 31 ∷ entry_of true true 0 ∷ entry_of true true 1 ∷ []) ∷
    accepted (227 ∷ 95 ∷ 103 ∷ []) (entry_of true false 0 ∷ entry_of false false 3 ∷ entry_of false false 15 ∷ []) ∷
    accepted [] (entry_of true true 30 ∷ entry_of true false 1 ∷ entry_of true true 31 ∷ entry_of true false 4 ∷ entry_of true true 32 ∷ entry_of true false 5 ∷ entry_of true true 33 ∷ entry_of true true 34 ∷ entry_of true true 35 ∷ entry_of true true 36 ∷ entry_of true true 37 ∷ entry_of true false 30 ∷ entry_of true false 31 ∷ entry_of true false 32 ∷ entry_of true false 33 ∷ entry_of true false 34 ∷ entry_of true false 35 ∷ entry_of true false 36 ∷ entry_of true false 37 ∷ entry_of true true 6 ∷ entry_of true true 7 ∷ entry_of true true 8 ∷ entry_of true true 9 ∷ entry_of true true 10 ∷ entry_of true true 11 ∷ entry_of true true 12 ∷ entry_of true true 13 ∷ []) ∷
    accepted (227 ∷ 95 ∷ 103 ∷ []) (entry_of true false 12 ∷ entry_of false false 22 ∷ []) ∷
    accepted [] (entry_of true true 30 ∷ entry_of true true 31 ∷ entry_of true false 30 ∷ entry_of true false 31 ∷ entry_of true true 0 ∷ entry_of true true 1 ∷ []) ∷
    accepted (172 ∷ 224 ∷ 147 ∷ []) (entry_of true false 1 ∷ entry_of false false 7 ∷ entry_of false false 24 ∷ []) ∷
    accepted [] (entry_of true true 30 ∷ entry_of true false 0 ∷ entry_of true true 31 ∷ entry_of true true 32 ∷ entry_of true true 33 ∷ entry_of true false 30 ∷ entry_of true false 31 ∷ entry_of true false 32 ∷ entry_of true false 33 ∷ entry_of true true 2 ∷ entry_of true true 3 ∷ entry_of true true 4 ∷ entry_of true true 5 ∷ []) ∷
    accepted (227 ∷ 95 ∷ 103 ∷ []) (entry_of true false 3 ∷ entry_of false false 9 ∷ entry_of false false 18 ∷ []) ∷
    accepted [] (entry_of true true 30 ∷ entry_of true true 31 ∷ entry_of true false 30 ∷ entry_of true false 31 ∷ entry_of true true 0 ∷ entry_of true true 1 ∷ []) ∷
    accepted (211 ∷ 30 ∷ 205 ∷ []) (entry_of true false 1 ∷ entry_of false false 4 ∷ entry_of false false 6 ∷ entry_of false false 27 ∷ []) ∷
    accepted [] (entry_of true true 30 ∷ entry_of true false 0 ∷ entry_of true true 31 ∷ entry_of true false 2 ∷ entry_of true true 32 ∷ entry_of true false 5 ∷ entry_of true true 33 ∷ entry_of true false 8 ∷ entry_of true true 34 ∷ entry_of true false 10 ∷ entry_of true true 35 ∷ entry_of true false 11 ∷ entry_of true true 36 ∷ entry_of true false 13 ∷ entry_of true true 37 ∷ entry_of true false 16 ∷ entry_of true true 38 ∷ entry_of true false 17 ∷ entry_of true true 39 ∷ entry_of true false 19 ∷ entry_of true true 40 ∷ entry_of true false 20 ∷ entry_of true true 41 ∷ entry_of true false 25 ∷ entry_of true true 42 ∷ entry_of true false 26 ∷ entry_of true true 43 ∷ entry_of true false 28 ∷ entry_of true true 44 ∷ entry_of true false 29 ∷ entry_of true true 45 ∷ entry_of true false 30 ∷ entry_of true false 31 ∷ entry_of true false 32 ∷ entry_of true false 33 ∷ entry_of true false 34 ∷ entry_of true false 35 ∷ entry_of true false 36 ∷ entry_of true false 37 ∷ entry_of true false 38 ∷ entry_of true false 39 ∷ entry_of true false 40 ∷ entry_of true false 41 ∷ entry_of true false 42 ∷ entry_of true false 43 ∷ entry_of true false 44 ∷ entry_of true false 45 ∷ entry_of true true 14 ∷ entry_of true true 15 ∷ entry_of true true 16 ∷ entry_of true true 17 ∷ entry_of true true 18 ∷ entry_of true true 19 ∷ entry_of true true 20 ∷ entry_of true true 21 ∷ entry_of true true 22 ∷ entry_of true true 23 ∷ entry_of true true 24 ∷ entry_of true true 25 ∷ entry_of true true 26 ∷ entry_of true true 27 ∷ entry_of true true 28 ∷ entry_of true true 29 ∷ []) ∷
    accepted (106 ∷ 224 ∷ 227 ∷ []) (entry_of true false 26 ∷ []) ∷
    accepted [] (entry_of true true 30 ∷ entry_of true true 31 ∷ entry_of true false 30 ∷ entry_of true false 31 ∷ entry_of true true 0 ∷ entry_of true true 1 ∷ []) ∷
    accepted (106 ∷ 224 ∷ 227 ∷ []) (entry_of true false 0 ∷ entry_of false false 16 ∷ []) ∷
    accepted [] (entry_of true true 30 ∷ entry_of true false 1 ∷ entry_of true true 31 ∷ entry_of true true 32 ∷ entry_of true true 33 ∷ entry_of true false 30 ∷ entry_of true false 31 ∷ entry_of true false 32 ∷ entry_of true false 33 ∷ entry_of true true 2 ∷ entry_of true true 3 ∷ entry_of true true 4 ∷ entry_of true true 5 ∷ []) ∷
    declined BuildsUsedUp ∷
    declined BuildsUsedUp ∷
    declined BuildsUsedUp ∷
    declined UnknownAddress ∷ []

abbrev pub slots_4 : List Slot
slots_4 =
    block_slot 3 (106 ∷ 224 ∷ 227 ∷ []) ∷
    block_slot 65537 (0 ∷ 0 ∷ 0 ∷ []) ∷
    block_slot 65538 (0 ∷ 0 ∷ 0 ∷ []) ∷
    block_slot 65539 (0 ∷ 0 ∷ 0 ∷ []) ∷
    block_slot 65537 (0 ∷ 0 ∷ 0 ∷ []) ∷
    block_slot 3 (106 ∷ 224 ∷ 227 ∷ []) ∷
    block_slot 65541 (0 ∷ 0 ∷ 0 ∷ []) ∷
    block_slot 65539 (0 ∷ 0 ∷ 0 ∷ []) ∷
    block_slot 65542 (0 ∷ 0 ∷ 0 ∷ []) ∷
    block_slot 65540 (0 ∷ 0 ∷ 0 ∷ []) ∷
    block_slot 7 (117 ∷ 185 ∷ 122 ∷ []) ∷
    block_slot 65543 (0 ∷ 0 ∷ 0 ∷ []) ∷
    block_slot 0 (227 ∷ 95 ∷ 103 ∷ []) ∷
    block_slot 6 (218 ∷ 133 ∷ 171 ∷ []) ∷
    block_slot 6 (218 ∷ 133 ∷ 171 ∷ []) ∷
    block_slot 0 (227 ∷ 95 ∷ 103 ∷ []) ∷
    block_slot 65544 (0 ∷ 0 ∷ 0 ∷ []) ∷
    block_slot 65547 (0 ∷ 0 ∷ 0 ∷ []) ∷
    block_slot 65550 (0 ∷ 0 ∷ 0 ∷ []) ∷
    block_slot 65549 (0 ∷ 0 ∷ 0 ∷ []) ∷
    block_slot 65548 (0 ∷ 0 ∷ 0 ∷ []) ∷
    block_slot 65545 (0 ∷ 0 ∷ 0 ∷ []) ∷
    block_slot 1 (144 ∷ 116 ∷ 240 ∷ []) ∷
    block_slot 4 (123 ∷ 108 ∷ 146 ∷ []) ∷
    block_slot 5 (172 ∷ 224 ∷ 147 ∷ []) ∷
    block_slot 7 (117 ∷ 185 ∷ 122 ∷ []) ∷
    block_slot 3 (211 ∷ 30 ∷ 205 ∷ []) ∷
    block_slot 65546 (0 ∷ 0 ∷ 0 ∷ []) ∷
    block_slot 65551 (0 ∷ 0 ∷ 0 ∷ []) ∷
    block_slot 2 (78 ∷ 42 ∷ 217 ∷ []) ∷
    block_slot 3 (106 ∷ 224 ∷ 227 ∷ []) ∷
    block_slot 65537 (0 ∷ 0 ∷ 0 ∷ []) ∷
    block_slot 65538 (0 ∷ 0 ∷ 0 ∷ []) ∷
    block_slot 65539 (0 ∷ 0 ∷ 0 ∷ []) ∷
    block_slot 65545 (0 ∷ 0 ∷ 0 ∷ []) ∷
    block_slot 7 (117 ∷ 185 ∷ 122 ∷ []) ∷
    block_slot 65546 (0 ∷ 0 ∷ 0 ∷ []) ∷
    block_slot 6 (218 ∷ 133 ∷ 171 ∷ []) ∷
    block_slot 65547 (0 ∷ 0 ∷ 0 ∷ []) ∷
    block_slot 65548 (0 ∷ 0 ∷ 0 ∷ []) ∷
    block_slot 4 (123 ∷ 108 ∷ 146 ∷ []) ∷
    block_slot 2 (78 ∷ 42 ∷ 217 ∷ []) ∷
    block_slot 1 (144 ∷ 116 ∷ 240 ∷ []) ∷
    block_slot 65549 (0 ∷ 0 ∷ 0 ∷ []) ∷
    block_slot 65550 (0 ∷ 0 ∷ 0 ∷ []) ∷
    block_slot 65551 (0 ∷ 0 ∷ 0 ∷ []) ∷ []

abbrev pub levels_4 : List Level
levels_4 =
    record { occupied = false; members = []; counter = 0; build = 0 } ∷
    record { occupied = true; members = (3 ∷ []); counter = 1; build = 10 } ∷
    record { occupied = false; members = []; counter = 0; build = 0 } ∷
    record { occupied = true; members = range_with_len 0 8; counter = 9; build = 8 } ∷ []

abbrev pub Run4 : Type 0
Run4 = Agrees 3 3 parts_4 tables_4 calls_4 (None) answers_4 slots_4 levels_4 21

-- run 5, number 1125 of seed 1: L = 1, W = 2; refused: access by 7, rebuild by 7, load by 14, access by 15, access by 6
abbrev pub parts_5 : Parts
parts_5 = record {
  store_width = 2;
  store_slots = replicate 10 (block_slot 0 (replicate 2 0));
  index_lists = replicate 1 [];
  supply_top = 1;
}

abbrev pub tables_5 : List (List ℕ)
tables_5 =
    (2 ∷ 3 ∷ 1 ∷ 0 ∷ []) ∷
    (1 ∷ 0 ∷ []) ∷
    (2 ∷ 1 ∷ 0 ∷ 3 ∷ []) ∷
    (0 ∷ 1 ∷ []) ∷
    (0 ∷ 1 ∷ 2 ∷ 3 ∷ []) ∷ []

abbrev pub calls_5 : List Call
calls_5 =
    load (209 ∷ 110 ∷ 48 ∷ 143 ∷ []) 4 ∷
    access 0 0 1 (232 ∷ 12 ∷ []) 0 ∷
    access 0 0 1 (61 ∷ 0 ∷ []) 1 ∷
    rebuild 0 5 ∷
    rebuild 0 7 ∷
    access 1 0 1 (6 ∷ 75 ∷ []) 5 ∷
    rebuild 1 15 ∷
    access 2 1 1 (245 ∷ 39 ∷ []) 1 ∷
    rebuild 2 6 ∷
    load (20 ∷ 158 ∷ 67 ∷ 163 ∷ []) 4 ∷
    access 3 1 1 (17 ∷ 202 ∷ []) 4 ∷
    rebuild 3 15 ∷
    access 4 1 1 (39 ∷ 71 ∷ []) 1 ∷
    access 4 1 1 (27 ∷ 118 ∷ 130 ∷ []) 1 ∷
    access 4 1 1 (195 ∷ 126 ∷ []) 6 ∷ []

abbrev pub answers_5 : List Answer
answers_5 =
    accepted [] (entry_of true true 2 ∷ entry_of true true 3 ∷ entry_of true true 4 ∷ entry_of true true 5 ∷ []) ∷
    declined TraceTooShort ∷
    accepted (48 ∷ 143 ∷ []) (entry_of true false 5 ∷ []) ∷
    declined TraceTooShort ∷
    accepted [] (entry_of true true 6 ∷ entry_of true true 7 ∷ entry_of true false 6 ∷ entry_of true false 7 ∷ entry_of true true 0 ∷ entry_of true true 1 ∷ []) ∷
    accepted (48 ∷ 143 ∷ []) (entry_of true false 1 ∷ entry_of false false 3 ∷ []) ∷
    accepted [] (entry_of true true 6 ∷ entry_of true false 0 ∷ entry_of true true 7 ∷ entry_of true false 2 ∷ entry_of true true 8 ∷ entry_of true false 4 ∷ entry_of true true 9 ∷ entry_of true false 6 ∷ entry_of true false 7 ∷ entry_of true false 8 ∷ entry_of true false 9 ∷ entry_of true true 2 ∷ entry_of true true 3 ∷ entry_of true true 4 ∷ entry_of true true 5 ∷ []) ∷
    accepted (245 ∷ 39 ∷ []) (entry_of true false 3 ∷ []) ∷
    accepted [] (entry_of true true 6 ∷ entry_of true true 7 ∷ entry_of true false 6 ∷ entry_of true false 7 ∷ entry_of true true 0 ∷ entry_of true true 1 ∷ []) ∷
    declined WrongTurn ∷
    accepted (17 ∷ 202 ∷ []) (entry_of true false 0 ∷ entry_of false false 2 ∷ []) ∷
    accepted [] (entry_of true true 6 ∷ entry_of true false 1 ∷ entry_of true true 7 ∷ entry_of true false 4 ∷ entry_of true true 8 ∷ entry_of true false 5 ∷ entry_of true true 9 ∷ entry_of true false 6 ∷ entry_of true false 7 ∷ entry_of true false 8 ∷ entry_of true false 9 ∷ entry_of true true 2 ∷ entry_of true true 3 ∷ entry_of true true 4 ∷ entry_of true true 5 ∷ []) ∷
    declined BuildsUsedUp ∷
    declined WrongByteLength ∷
    declined BuildsUsedUp ∷ []

abbrev pub slots_5 : List Slot
slots_5 =
    block_slot 1 (245 ∷ 39 ∷ []) ∷
    block_slot 65537 (0 ∷ 0 ∷ []) ∷
    block_slot 0 (209 ∷ 110 ∷ []) ∷
    block_slot 1 (17 ∷ 202 ∷ []) ∷
    block_slot 65538 (0 ∷ 0 ∷ []) ∷
    block_slot 65539 (0 ∷ 0 ∷ []) ∷
    block_slot 1 (17 ∷ 202 ∷ []) ∷
    block_slot 65538 (0 ∷ 0 ∷ []) ∷
    block_slot 0 (209 ∷ 110 ∷ []) ∷
    block_slot 65539 (0 ∷ 0 ∷ []) ∷ []

abbrev pub levels_5 : List Level
levels_5 =
    record { occupied = false; members = []; counter = 0; build = 0 } ∷
    record { occupied = true; members = range_with_len 0 2; counter = 2; build = 4 } ∷ []

abbrev pub Run5 : Type 0
Run5 = Agrees 1 2 parts_5 tables_5 calls_5 (None) answers_5 slots_5 levels_5 9

-- run 6, number 1592 of seed 1: L = 2, W = 2; refused: opening by 2, load by 16, access by 16, rebuild by 16
abbrev pub parts_6 : Parts
parts_6 = record {
  store_width = 1;
  store_slots = replicate 22 (block_slot 0 (replicate 1 0));
  index_lists = (0 ∷ []) ∷ replicate 1 [];
  supply_top = 3;
}

abbrev pub tables_6 : List (List ℕ)
tables_6 =
    (10 ∷ 7 ∷ 6 ∷ 2 ∷ 15 ∷ 5 ∷ 14 ∷ 13 ∷ 11 ∷ 9 ∷ 12 ∷ 8 ∷ 4 ∷ 3 ∷ 1 ∷ 0 ∷ []) ∷
    (0 ∷ 1 ∷ []) ∷ []

abbrev pub calls_6 : List Call
calls_6 =
    load (192 ∷ 2 ∷ 223 ∷ 133 ∷ []) 8 ∷
    access 1 0 0 (185 ∷ 26 ∷ []) 0 ∷
    rebuild 0 5 ∷
    rebuild 0 6 ∷
    access 1 0 256 (110 ∷ []) 5 ∷
    rebuild 1 0 ∷ []

abbrev pub answers_6 : List Answer
answers_6 =
    declined NotOpened ∷
    declined NotOpened ∷
    declined NotOpened ∷
    declined NotOpened ∷
    declined NotOpened ∷
    declined NotOpened ∷ []

abbrev pub slots_6 : List Slot
slots_6 =
    block_slot 0 (0 ∷ []) ∷
    block_slot 0 (0 ∷ []) ∷
    block_slot 0 (0 ∷ []) ∷
    block_slot 0 (0 ∷ []) ∷
    block_slot 0 (0 ∷ []) ∷
    block_slot 0 (0 ∷ []) ∷
    block_slot 0 (0 ∷ []) ∷
    block_slot 0 (0 ∷ []) ∷
    block_slot 0 (0 ∷ []) ∷
    block_slot 0 (0 ∷ []) ∷
    block_slot 0 (0 ∷ []) ∷
    block_slot 0 (0 ∷ []) ∷
    block_slot 0 (0 ∷ []) ∷
    block_slot 0 (0 ∷ []) ∷
    block_slot 0 (0 ∷ []) ∷
    block_slot 0 (0 ∷ []) ∷
    block_slot 0 (0 ∷ []) ∷
    block_slot 0 (0 ∷ []) ∷
    block_slot 0 (0 ∷ []) ∷
    block_slot 0 (0 ∷ []) ∷
    block_slot 0 (0 ∷ []) ∷
    block_slot 0 (0 ∷ []) ∷ []

abbrev pub levels_6 : List Level
levels_6 = replicate 3 vacant

abbrev pub Run6 : Type 0
Run6 = Agrees 2 2 parts_6 tables_6 calls_6 (Some StoreUnfit) answers_6 slots_6 levels_6 0

-- run 7, number 1631 of seed 1: L = 2, W = 1; refused: access by 14, rebuild by 14, access by 7, access by 5, load by 14, access by 4, access by 15
abbrev pub parts_7 : Parts
parts_7 = record {
  store_width = 1;
  store_slots = replicate 22 (block_slot 0 (replicate 1 0));
  index_lists = replicate 2 [];
  supply_top = 2;
}

abbrev pub tables_7 : List (List ℕ)
tables_7 =
    (1 ∷ 6 ∷ 7 ∷ 4 ∷ 3 ∷ 5 ∷ 2 ∷ 0 ∷ []) ∷
    (1 ∷ 0 ∷ []) ∷
    (0 ∷ 3 ∷ 2 ∷ 1 ∷ []) ∷
    (1 ∷ 0 ∷ []) ∷
    (4 ∷ 6 ∷ 5 ∷ 0 ∷ 7 ∷ 2 ∷ 3 ∷ 1 ∷ []) ∷ []

abbrev pub calls_7 : List Call
calls_7 =
    load (36 ∷ 199 ∷ 252 ∷ 83 ∷ []) 8 ∷
    access 0 0 0 (220 ∷ []) 1 ∷
    rebuild 0 6 ∷
    access 2 1 4 (90 ∷ []) 2 ∷
    rebuild 0 10 ∷
    access 1 0 2 (201 ∷ []) 1 ∷
    access 1 0 2 (89 ∷ []) 2 ∷
    rebuild 1 17 ∷
    access 2 1 4 (55 ∷ 112 ∷ []) 7 ∷
    rebuild 0 6 ∷
    access 2 1 2 (253 ∷ []) 7 ∷
    load (238 ∷ 77 ∷ 148 ∷ 140 ∷ []) 8 ∷
    rebuild 2 6 ∷
    access 3 0 0 (215 ∷ []) 3 ∷
    rebuild 3 31 ∷
    access 5 0 2 (60 ∷ []) 0 ∷
    access 4 3 1 (101 ∷ []) 6 ∷
    access 4 2 4294967296 [] 1 ∷
    access 4 1 0 (185 ∷ []) 1 ∷ []

abbrev pub answers_7 : List Answer
answers_7 =
    accepted [] (entry_of true true 6 ∷ entry_of true true 7 ∷ entry_of true true 8 ∷ entry_of true true 9 ∷ entry_of true true 10 ∷ entry_of true true 11 ∷ entry_of true true 12 ∷ entry_of true true 13 ∷ []) ∷
    accepted (36 ∷ []) (entry_of true false 7 ∷ []) ∷
    accepted [] (entry_of true true 14 ∷ entry_of true true 15 ∷ entry_of true false 14 ∷ entry_of true false 15 ∷ entry_of true true 0 ∷ entry_of true true 1 ∷ []) ∷
    declined WrongTurn ∷
    declined WrongTurn ∷
    declined TraceTooShort ∷
    accepted (252 ∷ []) (entry_of true false 0 ∷ entry_of false false 13 ∷ []) ∷
    accepted [] (entry_of true true 14 ∷ entry_of true false 1 ∷ entry_of true true 15 ∷ entry_of true true 16 ∷ entry_of true true 17 ∷ entry_of true false 14 ∷ entry_of true false 15 ∷ entry_of true false 16 ∷ entry_of true false 17 ∷ entry_of true true 2 ∷ entry_of true true 3 ∷ entry_of true true 4 ∷ entry_of true true 5 ∷ []) ∷
    declined UnknownAddress ∷
    declined WrongTurn ∷
    accepted (253 ∷ []) (entry_of true false 5 ∷ entry_of false false 9 ∷ []) ∷
    declined WrongTurn ∷
    accepted [] (entry_of true true 14 ∷ entry_of true true 15 ∷ entry_of true false 14 ∷ entry_of true false 15 ∷ entry_of true true 0 ∷ entry_of true true 1 ∷ []) ∷
    accepted (36 ∷ []) (entry_of true false 0 ∷ entry_of false false 2 ∷ entry_of false false 11 ∷ []) ∷
    accepted [] (entry_of true true 14 ∷ entry_of true false 1 ∷ entry_of true true 15 ∷ entry_of true false 3 ∷ entry_of true true 16 ∷ entry_of true false 4 ∷ entry_of true true 17 ∷ entry_of true false 6 ∷ entry_of true true 18 ∷ entry_of true false 8 ∷ entry_of true true 19 ∷ entry_of true false 10 ∷ entry_of true true 20 ∷ entry_of true false 12 ∷ entry_of true true 21 ∷ entry_of true false 14 ∷ entry_of true false 15 ∷ entry_of true false 16 ∷ entry_of true false 17 ∷ entry_of true false 18 ∷ entry_of true false 19 ∷ entry_of true false 20 ∷ entry_of true false 21 ∷ entry_of true true 6 ∷ entry_of true true 7 ∷ entry_of true true 8 ∷ entry_of true true 9 ∷ entry_of true true 10 ∷ entry_of true true 11 ∷ entry_of true true 12 ∷ entry_of true true 13 ∷ []) ∷
    declined WrongTurn ∷
    declined UnknownOperation ∷
    declined UnknownOperation ∷
    declined BuildsUsedUp ∷ []

abbrev pub slots_7 : List Slot
slots_7 =
    block_slot 65537 (0 ∷ []) ∷
    block_slot 2 (253 ∷ []) ∷
    block_slot 0 (36 ∷ []) ∷
    block_slot 65539 (0 ∷ []) ∷
    block_slot 65538 (0 ∷ []) ∷
    block_slot 2 (252 ∷ []) ∷
    block_slot 3 (83 ∷ []) ∷
    block_slot 65543 (0 ∷ []) ∷
    block_slot 65541 (0 ∷ []) ∷
    block_slot 65542 (0 ∷ []) ∷
    block_slot 0 (36 ∷ []) ∷
    block_slot 2 (253 ∷ []) ∷
    block_slot 1 (199 ∷ []) ∷
    block_slot 65540 (0 ∷ []) ∷
    block_slot 0 (36 ∷ []) ∷
    block_slot 2 (253 ∷ []) ∷
    block_slot 65540 (0 ∷ []) ∷
    block_slot 65541 (0 ∷ []) ∷
    block_slot 65542 (0 ∷ []) ∷
    block_slot 65543 (0 ∷ []) ∷
    block_slot 3 (83 ∷ []) ∷
    block_slot 1 (199 ∷ []) ∷ []

abbrev pub levels_7 : List Level
levels_7 =
    record { occupied = false; members = []; counter = 0; build = 0 } ∷
    record { occupied = false; members = []; counter = 0; build = 0 } ∷
    record { occupied = true; members = range_with_len 0 4; counter = 4; build = 4 } ∷ []

abbrev pub Run7 : Type 0
Run7 = Agrees 2 1 parts_7 tables_7 calls_7 (None) answers_7 slots_7 levels_7 9

-- run 8, number 1724 of seed 1: L = 2, W = 2; refused: load by 6, load by 14, rebuild by 7, rebuild by 14, access by 6
abbrev pub parts_8 : Parts
parts_8 = record {
  store_width = 2;
  store_slots = replicate 22 (block_slot 0 (replicate 2 0));
  index_lists = replicate 2 [];
  supply_top = 2;
}

abbrev pub tables_8 : List (List ℕ)
tables_8 =
    (5 ∷ 2 ∷ 3 ∷ 1 ∷ 4 ∷ 7 ∷ 6 ∷ 0 ∷ []) ∷
    (1 ∷ 0 ∷ []) ∷
    (3 ∷ 2 ∷ 1 ∷ 0 ∷ []) ∷
    (1 ∷ 0 ∷ []) ∷
    (1 ∷ 5 ∷ 4 ∷ 0 ∷ 2 ∷ 3 ∷ 6 ∷ 7 ∷ []) ∷
    (0 ∷ 1 ∷ []) ∷
    (3 ∷ 1 ∷ 0 ∷ 2 ∷ []) ∷
    (0 ∷ 1 ∷ []) ∷
    (3 ∷ 7 ∷ 6 ∷ 0 ∷ 5 ∷ 2 ∷ 4 ∷ 1 ∷ []) ∷
    (1 ∷ 0 ∷ []) ∷ []

abbrev pub calls_8 : List Call
calls_8 =
    load [] 0 ∷
    load (156 ∷ 84 ∷ 45 ∷ 167 ∷ 92 ∷ 52 ∷ 197 ∷ 101 ∷ []) 9 ∷
    access 0 0 2 (85 ∷ 188 ∷ []) 1 ∷
    load (103 ∷ 119 ∷ 149 ∷ 90 ∷ 168 ∷ 35 ∷ 10 ∷ 236 ∷ 239 ∷ []) 8 ∷
    rebuild 0 6 ∷
    access 1 1 0 (227 ∷ 233 ∷ []) 6 ∷
    rebuild 1 17 ∷
    access 2 0 0 (169 ∷ 89 ∷ []) 2 ∷
    rebuild 2 6 ∷
    access 3 1 0 (150 ∷ 31 ∷ []) 7 ∷
    rebuild 3 30 ∷
    rebuild 3 31 ∷
    access 4 0 0 (23 ∷ 76 ∷ []) 1 ∷
    rebuild 6 5 ∷
    rebuild 4 11 ∷
    access 5 1 3 (6 ∷ 217 ∷ 36 ∷ []) 6 ∷
    access 5 1 2 (59 ∷ 179 ∷ []) 5 ∷
    rebuild 5 13 ∷
    access 6 1 2 (89 ∷ 164 ∷ []) 3 ∷
    rebuild 6 8 ∷
    access 7 0 2 (229 ∷ 57 ∷ []) 3 ∷
    rebuild 7 31 ∷
    access 8 1 2 (8 ∷ 81 ∷ []) 3 ∷ []

abbrev pub answers_8 : List Answer
answers_8 =
    declined WrongByteLength ∷
    accepted [] (entry_of true true 6 ∷ entry_of true true 7 ∷ entry_of true true 8 ∷ entry_of true true 9 ∷ entry_of true true 10 ∷ entry_of true true 11 ∷ entry_of true true 12 ∷ entry_of true true 13 ∷ []) ∷
    accepted (92 ∷ 52 ∷ []) (entry_of true false 9 ∷ []) ∷
    declined WrongTurn ∷
    accepted [] (entry_of true true 14 ∷ entry_of true true 15 ∷ entry_of true false 14 ∷ entry_of true false 15 ∷ entry_of true true 0 ∷ entry_of true true 1 ∷ []) ∷
    accepted (227 ∷ 233 ∷ []) (entry_of true false 0 ∷ entry_of false false 11 ∷ []) ∷
    accepted [] (entry_of true true 14 ∷ entry_of true false 1 ∷ entry_of true true 15 ∷ entry_of true true 16 ∷ entry_of true true 17 ∷ entry_of true false 14 ∷ entry_of true false 15 ∷ entry_of true false 16 ∷ entry_of true false 17 ∷ entry_of true true 2 ∷ entry_of true true 3 ∷ entry_of true true 4 ∷ entry_of true true 5 ∷ []) ∷
    accepted (227 ∷ 233 ∷ []) (entry_of true false 5 ∷ entry_of false false 10 ∷ []) ∷
    accepted [] (entry_of true true 14 ∷ entry_of true true 15 ∷ entry_of true false 14 ∷ entry_of true false 15 ∷ entry_of true true 0 ∷ entry_of true true 1 ∷ []) ∷
    accepted (150 ∷ 31 ∷ []) (entry_of true false 1 ∷ entry_of false false 3 ∷ entry_of false false 13 ∷ []) ∷
    declined TraceTooShort ∷
    accepted [] (entry_of true true 14 ∷ entry_of true false 0 ∷ entry_of true true 15 ∷ entry_of true false 2 ∷ entry_of true true 16 ∷ entry_of true false 4 ∷ entry_of true true 17 ∷ entry_of true false 6 ∷ entry_of true true 18 ∷ entry_of true false 7 ∷ entry_of true true 19 ∷ entry_of true false 8 ∷ entry_of true true 20 ∷ entry_of true false 12 ∷ entry_of true true 21 ∷ entry_of true false 14 ∷ entry_of true false 15 ∷ entry_of true false 16 ∷ entry_of true false 17 ∷ entry_of true false 18 ∷ entry_of true false 19 ∷ entry_of true false 20 ∷ entry_of true false 21 ∷ entry_of true true 6 ∷ entry_of true true 7 ∷ entry_of true true 8 ∷ entry_of true true 9 ∷ entry_of true true 10 ∷ entry_of true true 11 ∷ entry_of true true 12 ∷ entry_of true true 13 ∷ []) ∷
    accepted (150 ∷ 31 ∷ []) (entry_of true false 7 ∷ []) ∷
    declined WrongTurn ∷
    accepted [] (entry_of true true 14 ∷ entry_of true true 15 ∷ entry_of true false 14 ∷ entry_of true false 15 ∷ entry_of true true 0 ∷ entry_of true true 1 ∷ []) ∷
    declined WrongByteLength ∷
    accepted (59 ∷ 179 ∷ []) (entry_of true false 1 ∷ entry_of false false 10 ∷ []) ∷
    accepted [] (entry_of true true 14 ∷ entry_of true false 0 ∷ entry_of true true 15 ∷ entry_of true true 16 ∷ entry_of true true 17 ∷ entry_of true false 14 ∷ entry_of true false 15 ∷ entry_of true false 16 ∷ entry_of true false 17 ∷ entry_of true true 2 ∷ entry_of true true 3 ∷ entry_of true true 4 ∷ entry_of true true 5 ∷ []) ∷
    accepted (89 ∷ 164 ∷ []) (entry_of true false 3 ∷ entry_of false false 8 ∷ []) ∷
    accepted [] (entry_of true true 14 ∷ entry_of true true 15 ∷ entry_of true false 14 ∷ entry_of true false 15 ∷ entry_of true true 0 ∷ entry_of true true 1 ∷ []) ∷
    accepted (89 ∷ 164 ∷ []) (entry_of true false 0 ∷ entry_of false false 2 ∷ entry_of false false 9 ∷ []) ∷
    accepted [] (entry_of true true 14 ∷ entry_of true false 1 ∷ entry_of true true 15 ∷ entry_of true false 4 ∷ entry_of true true 16 ∷ entry_of true false 5 ∷ entry_of true true 17 ∷ entry_of true false 6 ∷ entry_of true true 18 ∷ entry_of true false 11 ∷ entry_of true true 19 ∷ entry_of true false 12 ∷ entry_of true true 20 ∷ entry_of true false 13 ∷ entry_of true true 21 ∷ entry_of true false 14 ∷ entry_of true false 15 ∷ entry_of true false 16 ∷ entry_of true false 17 ∷ entry_of true false 18 ∷ entry_of true false 19 ∷ entry_of true false 20 ∷ entry_of true false 21 ∷ entry_of true true 6 ∷ entry_of true true 7 ∷ entry_of true true 8 ∷ entry_of true true 9 ∷ entry_of true true 10 ∷ entry_of true true 11 ∷ entry_of true true 12 ∷ entry_of true true 13 ∷ []) ∷
    accepted (8 ∷ 81 ∷ []) (entry_of true false 12 ∷ []) ∷ []

abbrev pub slots_8 : List Slot
slots_8 =
    block_slot 2 (89 ∷ 164 ∷ []) ∷
    block_slot 65537 (0 ∷ 0 ∷ []) ∷
    block_slot 65538 (0 ∷ 0 ∷ []) ∷
    block_slot 2 (59 ∷ 179 ∷ []) ∷
    block_slot 65539 (0 ∷ 0 ∷ []) ∷
    block_slot 0 (150 ∷ 31 ∷ []) ∷
    block_slot 3 (197 ∷ 101 ∷ []) ∷
    block_slot 65543 (0 ∷ 0 ∷ []) ∷
    block_slot 65541 (0 ∷ 0 ∷ []) ∷
    block_slot 0 (150 ∷ 31 ∷ []) ∷
    block_slot 65542 (0 ∷ 0 ∷ []) ∷
    block_slot 65540 (0 ∷ 0 ∷ []) ∷
    block_slot 2 (89 ∷ 164 ∷ []) ∷
    block_slot 1 (45 ∷ 167 ∷ []) ∷
    block_slot 2 (89 ∷ 164 ∷ []) ∷
    block_slot 65540 (0 ∷ 0 ∷ []) ∷
    block_slot 65541 (0 ∷ 0 ∷ []) ∷
    block_slot 0 (150 ∷ 31 ∷ []) ∷
    block_slot 3 (197 ∷ 101 ∷ []) ∷
    block_slot 1 (45 ∷ 167 ∷ []) ∷
    block_slot 65542 (0 ∷ 0 ∷ []) ∷
    block_slot 65543 (0 ∷ 0 ∷ []) ∷ []

abbrev pub levels_8 : List Level
levels_8 =
    record { occupied = false; members = []; counter = 0; build = 0 } ∷
    record { occupied = false; members = []; counter = 0; build = 0 } ∷
    record { occupied = true; members = range_with_len 0 4; counter = 4; build = 8 } ∷ []

abbrev pub Run8 : Type 0
Run8 = Agrees 2 2 parts_8 tables_8 calls_8 (None) answers_8 slots_8 levels_8 18

-- run 9, number 1825 of seed 1: L = 1, W = 3; refused: load by 6, load by 7, access by 14, rebuild by 14
abbrev pub parts_9 : Parts
parts_9 = record {
  store_width = 3;
  store_slots = replicate 10 (block_slot 0 (replicate 3 0));
  index_lists = replicate 1 [];
  supply_top = 1;
}

abbrev pub tables_9 : List (List ℕ)
tables_9 =
    (2 ∷ 0 ∷ 1 ∷ 3 ∷ []) ∷
    (1 ∷ 0 ∷ []) ∷
    (3 ∷ 0 ∷ 1 ∷ 2 ∷ []) ∷
    (1 ∷ 0 ∷ []) ∷
    (0 ∷ 3 ∷ 1 ∷ 2 ∷ []) ∷ []

abbrev pub calls_9 : List Call
calls_9 =
    load (106 ∷ 186 ∷ 160 ∷ 211 ∷ 112 ∷ 77 ∷ 68 ∷ []) 10 ∷
    load (136 ∷ 143 ∷ 250 ∷ []) 3 ∷
    load (33 ∷ 217 ∷ 191 ∷ 86 ∷ 17 ∷ 126 ∷ []) 3 ∷
    load (85 ∷ 83 ∷ 249 ∷ 0 ∷ 202 ∷ 61 ∷ []) 7 ∷
    access 1 1 2 (124 ∷ 181 ∷ 65 ∷ []) 0 ∷
    access 0 1 1 (156 ∷ 102 ∷ 112 ∷ []) 7 ∷
    rebuild 0 6 ∷
    access 1 0 1 (197 ∷ 11 ∷ 211 ∷ []) 8 ∷
    rebuild 0 17 ∷
    rebuild 1 15 ∷ []

abbrev pub answers_9 : List Answer
answers_9 =
    declined WrongByteLength ∷
    declined WrongByteLength ∷
    declined TraceTooShort ∷
    accepted [] (entry_of true true 2 ∷ entry_of true true 3 ∷ entry_of true true 4 ∷ entry_of true true 5 ∷ []) ∷
    declined WrongTurn ∷
    accepted (156 ∷ 102 ∷ 112 ∷ []) (entry_of true false 2 ∷ []) ∷
    accepted [] (entry_of true true 6 ∷ entry_of true true 7 ∷ entry_of true false 6 ∷ entry_of true false 7 ∷ entry_of true true 0 ∷ entry_of true true 1 ∷ []) ∷
    accepted (156 ∷ 102 ∷ 112 ∷ []) (entry_of true false 1 ∷ entry_of false false 3 ∷ []) ∷
    declined WrongTurn ∷
    accepted [] (entry_of true true 6 ∷ entry_of true false 0 ∷ entry_of true true 7 ∷ entry_of true false 4 ∷ entry_of true true 8 ∷ entry_of true false 5 ∷ entry_of true true 9 ∷ entry_of true false 6 ∷ entry_of true false 7 ∷ entry_of true false 8 ∷ entry_of true false 9 ∷ entry_of true true 2 ∷ entry_of true true 3 ∷ entry_of true true 4 ∷ entry_of true true 5 ∷ []) ∷ []

abbrev pub slots_9 : List Slot
slots_9 =
    block_slot 65537 (0 ∷ 0 ∷ 0 ∷ []) ∷
    block_slot 1 (156 ∷ 102 ∷ 112 ∷ []) ∷
    block_slot 1 (156 ∷ 102 ∷ 112 ∷ []) ∷
    block_slot 65538 (0 ∷ 0 ∷ 0 ∷ []) ∷
    block_slot 65539 (0 ∷ 0 ∷ 0 ∷ []) ∷
    block_slot 0 (85 ∷ 83 ∷ 249 ∷ []) ∷
    block_slot 1 (156 ∷ 102 ∷ 112 ∷ []) ∷
    block_slot 65538 (0 ∷ 0 ∷ 0 ∷ []) ∷
    block_slot 0 (85 ∷ 83 ∷ 249 ∷ []) ∷
    block_slot 65539 (0 ∷ 0 ∷ 0 ∷ []) ∷ []

abbrev pub levels_9 : List Level
levels_9 =
    record { occupied = false; members = []; counter = 0; build = 0 } ∷
    record { occupied = true; members = range_with_len 0 2; counter = 2; build = 2 } ∷ []

abbrev pub Run9 : Type 0
Run9 = Agrees 1 3 parts_9 tables_9 calls_9 (None) answers_9 slots_9 levels_9 5

-- run 10, number 1849 of seed 1: L = 3, W = 2; refused: load by 14, access by 7, access by 5, access by 14, rebuild by 14, access by 4, access by 15
abbrev pub parts_10 : Parts
parts_10 = record {
  store_width = 2;
  store_slots = replicate 46 (block_slot 0 (replicate 2 0));
  index_lists = replicate 3 [];
  supply_top = 3;
}

abbrev pub tables_10 : List (List ℕ)
tables_10 =
    (12 ∷ 13 ∷ 9 ∷ 2 ∷ 11 ∷ 1 ∷ 5 ∷ 6 ∷ 0 ∷ 10 ∷ 7 ∷ 8 ∷ 4 ∷ 3 ∷ 14 ∷ 15 ∷ []) ∷
    (0 ∷ 1 ∷ []) ∷
    (1 ∷ 3 ∷ 2 ∷ 0 ∷ []) ∷
    (1 ∷ 0 ∷ []) ∷
    (1 ∷ 0 ∷ 4 ∷ 3 ∷ 6 ∷ 7 ∷ 2 ∷ 5 ∷ []) ∷
    (0 ∷ 1 ∷ []) ∷ []

abbrev pub calls_10 : List Call
calls_10 =
    load (28 ∷ 30 ∷ 242 ∷ 19 ∷ 40 ∷ 201 ∷ 83 ∷ 247 ∷ 17 ∷ 243 ∷ 228 ∷ 1 ∷ 63 ∷ 7 ∷ 204 ∷ 83 ∷ []) 16 ∷
    access 0 1 0 (253 ∷ 82 ∷ []) 1 ∷
    rebuild 0 11 ∷
    load (163 ∷ 22 ∷ 253 ∷ 243 ∷ 140 ∷ 22 ∷ 142 ∷ 34 ∷ 151 ∷ 196 ∷ 241 ∷ 205 ∷ 120 ∷ 81 ∷ 233 ∷ 240 ∷ []) 0 ∷
    access 1 1 2 (243 ∷ 231 ∷ []) 4 ∷
    rebuild 1 13 ∷
    access 2 1 3 (136 ∷ 25 ∷ []) 1 ∷
    access 2 0 256 (181 ∷ 68 ∷ 168 ∷ []) 2 ∷
    access 0 0 6 (87 ∷ 42 ∷ 141 ∷ 67 ∷ 244 ∷ 76 ∷ 232 ∷ 233 ∷ 69 ∷ 200 ∷ 4 ∷ 188 ∷ 175 ∷ 18 ∷ 194 ∷ 220 ∷ []) 2 ∷
    access 2 1 0 (195 ∷ 181 ∷ []) 2 ∷
    rebuild 1 6 ∷
    rebuild 2 8 ∷
    access 3 1 256 (119 ∷ 96 ∷ []) 3 ∷
    access 3 3 3 (227 ∷ 99 ∷ []) 3 ∷
    access 3 0 3 (163 ∷ 243 ∷ []) 5 ∷
    rebuild 3 33 ∷
    access 4 1 3 (139 ∷ 24 ∷ []) 2 ∷
    rebuild 4 10 ∷
    access 5 4294967296 3 (222 ∷ 116 ∷ []) 2 ∷
    access 5 1 5 (157 ∷ 19 ∷ []) 8 ∷ []

abbrev pub answers_10 : List Answer
answers_10 =
    accepted [] (entry_of true true 14 ∷ entry_of true true 15 ∷ entry_of true true 16 ∷ entry_of true true 17 ∷ entry_of true true 18 ∷ entry_of true true 19 ∷ entry_of true true 20 ∷ entry_of true true 21 ∷ entry_of true true 22 ∷ entry_of true true 23 ∷ entry_of true true 24 ∷ entry_of true true 25 ∷ entry_of true true 26 ∷ entry_of true true 27 ∷ entry_of true true 28 ∷ entry_of true true 29 ∷ []) ∷
    accepted (253 ∷ 82 ∷ []) (entry_of true false 26 ∷ []) ∷
    accepted [] (entry_of true true 30 ∷ entry_of true true 31 ∷ entry_of true false 30 ∷ entry_of true false 31 ∷ entry_of true true 0 ∷ entry_of true true 1 ∷ []) ∷
    declined WrongTurn ∷
    accepted (243 ∷ 231 ∷ []) (entry_of true false 1 ∷ entry_of false false 23 ∷ []) ∷
    accepted [] (entry_of true true 30 ∷ entry_of true false 0 ∷ entry_of true true 31 ∷ entry_of true true 32 ∷ entry_of true true 33 ∷ entry_of true false 30 ∷ entry_of true false 31 ∷ entry_of true false 32 ∷ entry_of true false 33 ∷ entry_of true true 2 ∷ entry_of true true 3 ∷ entry_of true true 4 ∷ entry_of true true 5 ∷ []) ∷
    declined TraceTooShort ∷
    declined UnknownAddress ∷
    declined WrongTurn ∷
    accepted (195 ∷ 181 ∷ []) (entry_of true false 3 ∷ entry_of false false 14 ∷ []) ∷
    declined WrongTurn ∷
    accepted [] (entry_of true true 30 ∷ entry_of true true 31 ∷ entry_of true false 30 ∷ entry_of true false 31 ∷ entry_of true true 0 ∷ entry_of true true 1 ∷ []) ∷
    declined UnknownAddress ∷
    declined UnknownOperation ∷
    accepted (83 ∷ 247 ∷ []) (entry_of true false 0 ∷ entry_of false false 4 ∷ entry_of false false 16 ∷ []) ∷
    accepted [] (entry_of true true 30 ∷ entry_of true false 1 ∷ entry_of true true 31 ∷ entry_of true false 2 ∷ entry_of true true 32 ∷ entry_of true false 5 ∷ entry_of true true 33 ∷ entry_of true true 34 ∷ entry_of true true 35 ∷ entry_of true true 36 ∷ entry_of true true 37 ∷ entry_of true false 30 ∷ entry_of true false 31 ∷ entry_of true false 32 ∷ entry_of true false 33 ∷ entry_of true false 34 ∷ entry_of true false 35 ∷ entry_of true false 36 ∷ entry_of true false 37 ∷ entry_of true true 6 ∷ entry_of true true 7 ∷ entry_of true true 8 ∷ entry_of true true 9 ∷ entry_of true true 10 ∷ entry_of true true 11 ∷ entry_of true true 12 ∷ entry_of true true 13 ∷ []) ∷
    accepted (139 ∷ 24 ∷ []) (entry_of true false 10 ∷ entry_of false false 24 ∷ []) ∷
    accepted [] (entry_of true true 30 ∷ entry_of true true 31 ∷ entry_of true false 30 ∷ entry_of true false 31 ∷ entry_of true true 0 ∷ entry_of true true 1 ∷ []) ∷
    declined UnknownOperation ∷
    declined BuildsUsedUp ∷ []

abbrev pub slots_10 : List Slot
slots_10 =
    block_slot 3 (139 ∷ 24 ∷ []) ∷
    block_slot 65537 (0 ∷ 0 ∷ []) ∷
    block_slot 65539 (0 ∷ 0 ∷ []) ∷
    block_slot 0 (253 ∷ 82 ∷ []) ∷
    block_slot 65538 (0 ∷ 0 ∷ []) ∷
    block_slot 2 (243 ∷ 231 ∷ []) ∷
    block_slot 2 (243 ∷ 231 ∷ []) ∷
    block_slot 0 (195 ∷ 181 ∷ []) ∷
    block_slot 65542 (0 ∷ 0 ∷ []) ∷
    block_slot 65539 (0 ∷ 0 ∷ []) ∷
    block_slot 3 (83 ∷ 247 ∷ []) ∷
    block_slot 65543 (0 ∷ 0 ∷ []) ∷
    block_slot 65540 (0 ∷ 0 ∷ []) ∷
    block_slot 65541 (0 ∷ 0 ∷ []) ∷
    block_slot 65544 (0 ∷ 0 ∷ []) ∷
    block_slot 5 (228 ∷ 1 ∷ []) ∷
    block_slot 3 (83 ∷ 247 ∷ []) ∷
    block_slot 65549 (0 ∷ 0 ∷ []) ∷
    block_slot 65548 (0 ∷ 0 ∷ []) ∷
    block_slot 6 (63 ∷ 7 ∷ []) ∷
    block_slot 7 (204 ∷ 83 ∷ []) ∷
    block_slot 65546 (0 ∷ 0 ∷ []) ∷
    block_slot 65547 (0 ∷ 0 ∷ []) ∷
    block_slot 2 (40 ∷ 201 ∷ []) ∷
    block_slot 65545 (0 ∷ 0 ∷ []) ∷
    block_slot 4 (17 ∷ 243 ∷ []) ∷
    block_slot 0 (28 ∷ 30 ∷ []) ∷
    block_slot 1 (242 ∷ 19 ∷ []) ∷
    block_slot 65550 (0 ∷ 0 ∷ []) ∷
    block_slot 65551 (0 ∷ 0 ∷ []) ∷
    block_slot 3 (139 ∷ 24 ∷ []) ∷
    block_slot 65537 (0 ∷ 0 ∷ []) ∷
    block_slot 65539 (0 ∷ 0 ∷ []) ∷
    block_slot 2 (243 ∷ 231 ∷ []) ∷
    block_slot 65540 (0 ∷ 0 ∷ []) ∷
    block_slot 65541 (0 ∷ 0 ∷ []) ∷
    block_slot 65542 (0 ∷ 0 ∷ []) ∷
    block_slot 65543 (0 ∷ 0 ∷ []) ∷
    block_slot 0 (0 ∷ 0 ∷ []) ∷
    block_slot 0 (0 ∷ 0 ∷ []) ∷
    block_slot 0 (0 ∷ 0 ∷ []) ∷
    block_slot 0 (0 ∷ 0 ∷ []) ∷
    block_slot 0 (0 ∷ 0 ∷ []) ∷
    block_slot 0 (0 ∷ 0 ∷ []) ∷
    block_slot 0 (0 ∷ 0 ∷ []) ∷
    block_slot 0 (0 ∷ 0 ∷ []) ∷ []

abbrev pub levels_10 : List Level
levels_10 =
    record { occupied = true; members = (3 ∷ []); counter = 1; build = 5 } ∷
    record { occupied = false; members = []; counter = 0; build = 0 } ∷
    record { occupied = true; members = (0 ∷ 2 ∷ 3 ∷ []); counter = 3; build = 4 } ∷
    record { occupied = true; members = range_with_len 0 8; counter = 10; build = 0 } ∷ []

abbrev pub Run10 : Type 0
Run10 = Agrees 3 2 parts_10 tables_10 calls_10 (None) answers_10 slots_10 levels_10 11

-- run 11, number 1947 of seed 1: L = 2, W = 3
abbrev pub parts_11 : Parts
parts_11 = record {
  store_width = 3;
  store_slots = replicate 26 (block_slot 0 (replicate 3 0));
  index_lists = replicate 2 [];
  supply_top = 2;
}

abbrev pub tables_11 : List (List ℕ)
tables_11 =
    (6 ∷ 1 ∷ 4 ∷ 2 ∷ 7 ∷ 0 ∷ 3 ∷ 5 ∷ []) ∷
    (0 ∷ 1 ∷ []) ∷
    (1 ∷ 2 ∷ 0 ∷ 3 ∷ []) ∷
    (0 ∷ 1 ∷ []) ∷
    (3 ∷ 4 ∷ 1 ∷ 0 ∷ 2 ∷ 7 ∷ 6 ∷ 5 ∷ []) ∷
    (0 ∷ 1 ∷ []) ∷ []

abbrev pub calls_11 : List Call
calls_11 =
    load (26 ∷ 7 ∷ 205 ∷ 106 ∷ 253 ∷ 59 ∷ 206 ∷ 56 ∷ 166 ∷ 208 ∷ 25 ∷ 177 ∷ []) 8 ∷
    access 0 0 3 (126 ∷ 124 ∷ 137 ∷ []) 1 ∷
    rebuild 0 7 ∷
    access 1 0 3 (28 ∷ 139 ∷ 116 ∷ []) 2 ∷
    rebuild 1 13 ∷
    access 2 0 3 (47 ∷ 25 ∷ 15 ∷ []) 5 ∷
    rebuild 2 11 ∷
    access 3 1 3 (164 ∷ 40 ∷ 182 ∷ []) 3 ∷ []

abbrev pub answers_11 : List Answer
answers_11 =
    accepted [] (entry_of true true 6 ∷ entry_of true true 7 ∷ entry_of true true 8 ∷ entry_of true true 9 ∷ entry_of true true 10 ∷ entry_of true true 11 ∷ entry_of true true 12 ∷ entry_of true true 13 ∷ []) ∷
    accepted (208 ∷ 25 ∷ 177 ∷ []) (entry_of true false 8 ∷ []) ∷
    accepted [] (entry_of true true 14 ∷ entry_of true true 15 ∷ entry_of true false 14 ∷ entry_of true false 15 ∷ entry_of true true 0 ∷ entry_of true true 1 ∷ []) ∷
    accepted (208 ∷ 25 ∷ 177 ∷ []) (entry_of true false 0 ∷ entry_of false false 13 ∷ []) ∷
    accepted [] (entry_of true true 14 ∷ entry_of true false 1 ∷ entry_of true true 15 ∷ entry_of true true 16 ∷ entry_of true true 17 ∷ entry_of true false 14 ∷ entry_of true false 15 ∷ entry_of true false 16 ∷ entry_of true false 17 ∷ entry_of true true 2 ∷ entry_of true true 3 ∷ entry_of true true 4 ∷ entry_of true true 5 ∷ []) ∷
    accepted (208 ∷ 25 ∷ 177 ∷ []) (entry_of true false 3 ∷ entry_of false false 6 ∷ []) ∷
    accepted [] (entry_of true true 14 ∷ entry_of true true 15 ∷ entry_of true false 14 ∷ entry_of true false 15 ∷ entry_of true true 0 ∷ entry_of true true 1 ∷ []) ∷
    accepted (164 ∷ 40 ∷ 182 ∷ []) (entry_of true false 0 ∷ entry_of false false 4 ∷ entry_of false false 9 ∷ []) ∷ []

abbrev pub slots_11 : List Slot
slots_11 =
    block_slot 3 (208 ∷ 25 ∷ 177 ∷ []) ∷
    block_slot 65537 (0 ∷ 0 ∷ 0 ∷ []) ∷
    block_slot 65538 (0 ∷ 0 ∷ 0 ∷ []) ∷
    block_slot 3 (208 ∷ 25 ∷ 177 ∷ []) ∷
    block_slot 65537 (0 ∷ 0 ∷ 0 ∷ []) ∷
    block_slot 65539 (0 ∷ 0 ∷ 0 ∷ []) ∷
    block_slot 65541 (0 ∷ 0 ∷ 0 ∷ []) ∷
    block_slot 1 (106 ∷ 253 ∷ 59 ∷ []) ∷
    block_slot 3 (208 ∷ 25 ∷ 177 ∷ []) ∷
    block_slot 65542 (0 ∷ 0 ∷ 0 ∷ []) ∷
    block_slot 2 (206 ∷ 56 ∷ 166 ∷ []) ∷
    block_slot 65543 (0 ∷ 0 ∷ 0 ∷ []) ∷
    block_slot 0 (26 ∷ 7 ∷ 205 ∷ []) ∷
    block_slot 65540 (0 ∷ 0 ∷ 0 ∷ []) ∷
    block_slot 3 (208 ∷ 25 ∷ 177 ∷ []) ∷
    block_slot 65537 (0 ∷ 0 ∷ 0 ∷ []) ∷
    block_slot 65538 (0 ∷ 0 ∷ 0 ∷ []) ∷
    block_slot 65539 (0 ∷ 0 ∷ 0 ∷ []) ∷
    block_slot 0 (0 ∷ 0 ∷ 0 ∷ []) ∷
    block_slot 0 (0 ∷ 0 ∷ 0 ∷ []) ∷
    block_slot 0 (0 ∷ 0 ∷ 0 ∷ []) ∷
    block_slot 0 (0 ∷ 0 ∷ 0 ∷ []) ∷
    block_slot 0 (0 ∷ 0 ∷ 0 ∷ []) ∷
    block_slot 0 (0 ∷ 0 ∷ 0 ∷ []) ∷
    block_slot 0 (0 ∷ 0 ∷ 0 ∷ []) ∷
    block_slot 0 (0 ∷ 0 ∷ 0 ∷ []) ∷ []

abbrev pub levels_11 : List Level
levels_11 =
    record { occupied = true; members = (3 ∷ []); counter = 1; build = 3 } ∷
    record { occupied = true; members = (3 ∷ []); counter = 2; build = 2 } ∷
    record { occupied = true; members = range_with_len 0 4; counter = 7; build = 0 } ∷ []

abbrev pub Run11 : Type 0
Run11 = Agrees 2 3 parts_11 tables_11 calls_11 (None) answers_11 slots_11 levels_11 8

-- all of them
pub record AllAgree : Type 0 where
  pub run_0 : Run0
  pub run_1 : Run1
  pub run_2 : Run2
  pub run_3 : Run3
  pub run_4 : Run4
  pub run_5 : Run5
  pub run_6 : Run6
  pub run_7 : Run7
  pub run_8 : Run8
  pub run_9 : Run9
  pub run_10 : Run10
  pub run_11 : Run11
