-- The correspondence of traces says something: lists that read and write, of whatever blocks and bytes, are alike; and where two lists do differ for
-- the host, no choices hide it.
use Rattle.std.specs.Prelude.{◌≡◌, ℕ, ◌*◌, ◌^◌, ◌<◌, List, [], ◌∷◌, length, replicate, ◌≢◌}
use Rattle.shape.specs.Numbers.{places_needed}
use Rattle.rules.specs.World.{World}
use Rattle.rules.specs.Calls.{Call, load, access, rebuild}
use Rattle.rules.specs.Opening.{opening}
use Rattle.rules.specs.Slots.{block_slot}
use Rattle.rules.specs.Runs.{trace}
use Rattle.laws.specs.Runs.{Choices}
use Rattle.laws.specs.Correspondence.{refusals, Alike}

-- alike are a list that reads a block and a list that loads other bytes and writes to a block, whichever blocks and bytes; and calls that are wrong in
-- the same way: another unknown operation, another unknown address, another wrong length
pub record ReadsAndWritesAreAlike : Type 0 where
  pub valid : (L W a b j r s t : ℕ) (all others run bytes : List ℕ) →
      length all ≡ 2 ^ L * W → length others ≡ 2 ^ L * W → a < 2 ^ L → b < 2 ^ L → length run ≡ W → length bytes ≡ W →
      Alike L W (load all r ∷ access j 0 a run s ∷ rebuild j t ∷ []) (load others r ∷ access j 1 b bytes s ∷ rebuild j t ∷ [])
  pub invalid :
      Alike 1 1 (access 0 7 9 [] 0 ∷ access 0 0 2 [] 0 ∷ access 0 0 0 [] 0 ∷ load [] 0 ∷ [])
      (access 0 2 0 (8 ∷ []) 0 ∷ access 0 1 9 (8 ∷ []) 0 ∷ access 0 1 1 (8 ∷ 8 ∷ []) 0 ∷ load (8 ∷ []) 0 ∷ [])

-- a client of two blocks of one byte, opened
abbrev pub start : World
start = opening 1 1 (record {
  store_width = 1;
  store_slots = replicate (places_needed 1) (block_slot 0 (0 ∷ []));
  index_lists = replicate 1 [];
  supply_top = 1;
})

abbrev pub loading : Call
loading = load (10 ∷ 11 ∷ []) 100

-- the first read
abbrev pub reading : ℕ → Call
reading a = access 0 0 a (0 ∷ []) 100

-- a read shows against none; and a read that brings a wrong turn against one that brings the right one
pub record DifferingListsShow : Type 0 where
  pub a_read_shows : (ts us : List (List ℕ)) → Choices 1 2 ts → Choices 1 2 us →
      trace ts start (loading ∷ reading 0 ∷ []) ≢ trace us start (loading ∷ [])
  pub a_refusal_shows : (ts us : List (List ℕ)) → Choices 1 2 ts → Choices 1 2 us →
      refusals ts start (loading ∷ reading 0 ∷ []) ≢ refusals us start (loading ∷ access 1 0 0 (0 ∷ []) 100 ∷ [])
