use Rattle.std.proofs.Common.{◌≡◌, ◌*◌, true, length}
use Rattle.store.specs.Rounds.{inside}
use Rattle.memory_store.specs.Memory.{stored}
use Rattle.memory_store.proofs.memory.MemoryStoreStore.put.Given as goal

-- storing what is left gives what storing all gives from the start
abbrev pub invariant-loop-place : goal.invariant-loop-place
invariant-loop-place l =
    let ps = l.place-iterator.a.rest.now in
    let ks = l.place-iterator.b.rest.now in
    let w = l.fn.self.width in record {
      places : inside l.fn.self.places ps ≡ true;
      keys : length ks ≡ length ps;
      rest : length l.rest ≡ length ps * w;
      memory : stored w ps ks l.rest l.memory ≡ stored w l.fn.places l.fn.keys l.fn.bytes l.fn.self.bytes.items;
    }
