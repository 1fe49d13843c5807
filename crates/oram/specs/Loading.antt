-- Loading all blocks onto level L.
use Rattle.std.specs.Prelude.{ℕ, ◌+◌, ◌*◌, true, cond, List, map, take, drop, replicate, Ok, Err, Result, ◌==◌, nat_le, nat_lt, slice_set}
use Rattle.std.specs.List.{range_with_len}
use Rattle.shape.specs.Numbers.{blocks, level_slots, level_start, dummy_key}
use Rattle.shape.specs.declared.refusal.Refusal.{Refusal}
use Rattle.shape.specs.declared.refusal.Refusal.TheVariants.{NotOpened, WrongTurn, WrongByteLength, TraceTooShort}
use Rattle.store.specs.State.{Slot, State}
use Rattle.store.specs.Requests.{Request, entry_of}
use Rattle.supply.specs.Choice.{Choice}
use Rattle.oram.specs.declared.client.Core.{Core}
use Rattle.oram.specs.declared.record.Record.{Record}
use Rattle.oram.specs.Opening.{stands}

-- the slot of block a: its address and its W bytes of all the blocks' bytes
abbrev pub block_slot : ℕ → List ℕ → ℕ → Slot
block_slot W bs a = record { key = a; bytes = take W (drop (a * W) bs) }

-- the slot of the dummy with index i: W zero bytes
abbrev pub dummy_slot : ℕ → ℕ → Slot
dummy_slot W i = record { key = dummy_key i; bytes = replicate W 0 }

-- a round that puts one slot
abbrev pub put_request : ℕ → Slot → Request
put_request p slot = record { entry = entry_of true true p; slot = slot }

-- what index i of level L holds after a load: block i, or from n on dummy i
abbrev pub loaded_slot : ℕ → ℕ → List ℕ → ℕ → Slot
loaded_slot L W bs i = cond (nat_lt i (blocks L)) (block_slot W bs i) (dummy_slot W i)

-- the round of slot s: its index is what build 0 says
abbrev pub load_request : ℕ → ℕ → Choice → List ℕ → ℕ → Request
load_request L W c bs s = put_request (level_start L + s) (loaded_slot L W bs (c.index_of 0 s))

-- all slots of level L in rising order, a round each
abbrev pub load_requests : ℕ → ℕ → Choice → List ℕ → List Request
load_requests L W c bs = map (load_request L W c bs) (range_with_len 0 (level_slots L))

-- the answer to a load with a turn of this number, so many bytes and room for so many entries, in the order of the checks
abbrev pub load_answer : Core → State → List (List ℕ) → Choice → ℕ → ℕ → ℕ → Result ℕ Refusal
load_answer k s lists c turn bytes room =
    cond (stands k s lists c)
    (cond (turn == k.number)
    (cond (bytes == blocks k.levels * k.width)
    (cond (nat_le (level_slots k.levels) room) (Ok (level_slots k.levels)) (Err TraceTooShort))
    (Err WrongByteLength))
    (Err WrongTurn))
    (Err NotOpened)

-- level L after a load
abbrev pub loaded_record : ℕ → Record
loaded_record L = record { occupied = true; size = blocks L; counter = blocks L; build = 0 }

-- what the client knows after a load
abbrev pub loaded : Core → Core
loaded k = record {
  refusal = k.refusal;
  levels = k.levels;
  width = k.width;
  number = k.number + 1;
  accesses = k.accesses;
  table = record { records = slice_set k.table.records k.levels (loaded_record k.levels) };
}
