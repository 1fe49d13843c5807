-- The worked examples, as one table.
use Rattle.std.specs.Prelude.{◌≡◌, ℕ, List, [], ◌∷◌, map, Some, slice_index_or}
use Rattle.shape.specs.Numbers.{level_start, scratch_start, places_needed, level_of_build, batch_and_seat}
use Rattle.index.specs.Lists.{smaller}
use Rattle.gap_index.specs.Gaps.{gaps_of}
use Rattle.rules.specs.Calls.{Call, load}
use Rattle.rules.specs.Runs.{answers}
use Rattle.worked_examples.specs.Straight.{straight_tables, fresh, entry_count, places, bytes_of, accesses, read, write, rebuild_now}

abbrev pub four : List ℕ
four = 2 ∷ 5 ∷ 7 ∷ 9 ∷ []

-- L = 2, W = 1, straight: block a is loaded with byte a; 3 is read, 3 becomes 7F, 1 is read, 3 is read, each with its rebuild
abbrev pub session : List Call
session =
    load (0 ∷ 1 ∷ 2 ∷ 3 ∷ []) 100
    ∷ read 0 3 ∷ rebuild_now 0
    ∷ write 1 3 0x7F ∷ rebuild_now 1
    ∷ read 2 1 ∷ rebuild_now 2
    ∷ read 3 3 ∷ rebuild_now 3 ∷ []

-- blocks 0, 1, 2, 3 read in turn from a fresh load
abbrev pub in_turn : List Call
in_turn =
    load (0 ∷ 1 ∷ 2 ∷ 3 ∷ []) 100
    ∷ read 0 0 ∷ rebuild_now 0
    ∷ read 1 1 ∷ rebuild_now 1
    ∷ read 2 2 ∷ rebuild_now 2
    ∷ read 3 3 ∷ []

pub record WorkedExamples : Type 0 where
  -- in {2, 5, 7, 9} the rank of 7 is 2, position 2 holds 7, and the gaps are 3, 3, 2, 2
  pub rank_of_7 : smaller four 7 ≡ 2
  pub position_2 : slice_index_or four 2 0 ≡ 7
  pub gaps : gaps_of four ≡ 3 ∷ 3 ∷ 2 ∷ 2 ∷ []
  -- for L = 2 builds 1 to 4 go to levels 0, 1, 0, 2
  pub builds : map (level_of_build 2) (1 ∷ 2 ∷ 3 ∷ 4 ∷ []) ≡ 0 ∷ 1 ∷ 0 ∷ 2 ∷ []
  -- for L = 2 levels begin at 0, 2, 6 and scratch at 14, and 22 places are needed
  pub level_starts : map level_start (0 ∷ 1 ∷ 2 ∷ []) ≡ 0 ∷ 2 ∷ 6 ∷ []
  pub scratch : scratch_start 2 ≡ 14
  pub needed : places_needed 2 ≡ 22
  -- of 128 slots destination 70 has batch 1, seat 6; of 4 slots destination 3 has batch 0, seat 3
  pub seat_of_70 : batch_and_seat 128 70 ≡ Some (1, 6)
  pub seat_of_3 : batch_and_seat 4 3 ≡ Some (0, 3)
  -- the session's entries, the places of each call, and the bytes of each
  pub session_entries : map entry_count (answers (straight_tables 2 5) (fresh 2 1) session) ≡ 8 ∷ 1 ∷ 6 ∷ 2 ∷ 13 ∷ 2 ∷ 6 ∷ 3 ∷ 31 ∷ []
  pub session_places :
      map places (accesses (answers (straight_tables 2 5) (fresh 2 1) session)) ≡ (9 ∷ []) ∷ (0 ∷ 10 ∷ []) ∷ (3 ∷ 7 ∷ []) ∷ (1 ∷ 2 ∷ 11 ∷ []) ∷ []
  pub session_bytes :
      map bytes_of (accesses (answers (straight_tables 2 5) (fresh 2 1) session)) ≡ (3 ∷ []) ∷ (0x7F ∷ []) ∷ (1 ∷ []) ∷ (0x7F ∷ []) ∷ []
  -- blocks 0, 1, 2, 3 in turn
  pub in_turn_places :
      map places (accesses (answers (straight_tables 2 5) (fresh 2 1) in_turn)) ≡ (6 ∷ []) ∷ (1 ∷ 7 ∷ []) ∷ (4 ∷ 8 ∷ []) ∷ (1 ∷ 5 ∷ 9 ∷ []) ∷ []
