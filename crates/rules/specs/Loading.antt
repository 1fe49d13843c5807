-- Load: all slots of level L are written.
use Rattle.std.specs.Prelude.{ℕ, ◌+◌, true, cond, List, [], map, nat_lt, slice_set}
use Rattle.std.specs.List.{range_with_len}
use Rattle.shape.specs.Numbers.{blocks, level_slots, level_start}
use Rattle.store.specs.State.{Slot}
use Rattle.store.specs.Requests.{Request, entries, wrote}
use Rattle.permutations.specs.Choices.{table_of}
use Rattle.permutations.specs.Tables.{position}
use Rattle.rules.specs.World.{Level, Client, World}
use Rattle.rules.specs.Calls.{Outcome, accepted}
use Rattle.rules.specs.Slots.{block_slot, dummy_slot, block_bytes, write_round}

-- what index i of level L holds: block i, and from n on dummy i
abbrev pub loaded_slot : ℕ → ℕ → List ℕ → ℕ → Slot
loaded_slot L W bytes i = cond (nat_lt i (blocks L)) (block_slot i (block_bytes W bytes i)) (dummy_slot W i)

-- the slots of level L in rising order, a round each; the index of a slot is what build 0 says
unfoldable pub load_requests : ℕ → ℕ → List (List ℕ) → List ℕ → List Request
load_requests L W ts bytes =
    map (λ s. write_round (level_start L + s) (loaded_slot L W bytes (position (table_of ts 0) s))) (range_with_len 0 (level_slots L))

-- level L after a load: all addresses, and dummies from n on are unasked
abbrev pub loaded_level : ℕ → Level
loaded_level L = record { occupied = true; members = range_with_len 0 (blocks L); counter = blocks L; build = 0 }

abbrev pub loaded_client : Client → Client
loaded_client k = record {
  refusal = k.refusal;
  top = k.top;
  width = k.width;
  number = k.number + 1;
  accesses = k.accesses;
  held = k.held;
  levels = slice_set k.levels k.top (loaded_level k.top);
}

-- a load that is accepted
unfoldable pub loading : List (List ℕ) → World → List ℕ → Outcome
loading ts w bytes =
    let k = w.client in
    let rs = load_requests k.top k.width ts bytes in
    record { answer = accepted [] (entries rs); requests = rs; world = record { client = loaded_client k; held_bytes = w.held_bytes; slots = wrote w.slots rs } }
