use Rattle.std.proofs.Common.{◌≡◌, ◌*◌, take}
use Rattle.store.specs.Rounds.{keys_at, bytes_at}
use Rattle.memory_store.specs.Meaning.{meaning}
use Rattle.memory_store.proofs.memory.MemoryStoreStore.fetch.Given as goal

-- the first i slots are read
abbrev pub invariant-loop-i : goal.invariant-loop-i
invariant-loop-i l = record {
  keys : take l.i l.keys ≡ keys_at (meaning l.self).slots (take l.i l.places);
  bytes : take (l.i * l.self.width) l.bytes ≡ bytes_at (meaning l.self).slots (take l.i l.places);
}
