-- What a memory store means.
use Rattle.std.specs.Prelude.{ℕ, ◌*◌, List, drop, vec_items}
use Rattle.store.specs.State.{State}
use Rattle.store.specs.Rule.{multiplied}
use Rattle.memory_store.specs.declared.memory.MemoryStore.{MemoryStore}
use Rattle.memory_store.specs.Memory.{decoded, span}

abbrev pub meaning : MemoryStore → State
meaning m = record {
  width = m.width;
  slots = decoded m.width m.places (vec_items m.bytes);
  served = m.meter.served;
  trail = m.meter.trail;
  rule = multiplied;
}

-- the bytes beyond the last slot
abbrev pub tail : MemoryStore → List ℕ
tail m = drop (m.places * span m.width) (vec_items m.bytes)
