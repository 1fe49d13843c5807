-- What a slot holds, and rounds of one place.
use Rattle.std.specs.Prelude.{ℕ, ◌*◌, true, false, List, take, drop, replicate}
use Rattle.shape.specs.Numbers.{dummy_key}
use Rattle.store.specs.State.{Slot}
use Rattle.store.specs.Requests.{Request, entry_of}

-- a block: its address and its bytes
abbrev pub block_slot : ℕ → List ℕ → Slot
block_slot a bytes = record { key = a; bytes = bytes }

-- the dummy with index i: W zero bytes
abbrev pub dummy_slot : ℕ → ℕ → Slot
dummy_slot W i = record { key = dummy_key i; bytes = replicate W 0 }

-- bytes of block a among the bytes of all blocks
abbrev pub block_bytes : ℕ → List ℕ → ℕ → List ℕ
block_bytes W all a = take W (drop (a * W) all)

-- a round that reads one place, and one that writes one place
abbrev pub read_round : ℕ → Slot → Request
read_round p s = record { entry = entry_of true false p; slot = s }

abbrev pub write_round : ℕ → Slot → Request
write_round p s = record { entry = entry_of true true p; slot = s }
