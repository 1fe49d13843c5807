use Rattle.std.proofs.Common.{◌≡◌, ◌+◌, ◌-◌, ◌*◌, [], ◌∷◌, ◌++◌, length, get_or, take, drop, sym, ap, ◌∙◌, arith, length-take, length-drop}
use Rattle.std.proofs.lemmas.List.{take_more_set}
use Rattle.std.proofs.lemmas.Slice.{take-put_mid}
use Rattle.shape.proofs.Products.{part_fits}
use Rattle.store.specs.State.{slot_at}
use Rattle.store.specs.Rounds.{keys_at, bytes_at}
use Rattle.store.proofs.Admitted.{admitted}
use Rattle.store.proofs.Rounds.{inside_at, keys_at_more, bytes_at_more, after_fetch}
use Rattle.memory_store.specs.Memory.{span}
use Rattle.memory_store.specs.Meaning.{meaning}
use Rattle.memory_store.specs.Slots.{decoded_at}
use Rattle.memory_store.proofs.memory.MemoryStoreStore.fetch.Goals as goal

pub read_slot-requires : goal.read_slot-requires
read_slot-requires c =
    let m = c.args.self.now in
    let ps = c.args.places.now in
    let i = c.loop-i.i in
    let a = admitted m.width m.places ps _ _ (sym c.admit.ensures ∙ c.in_ok-admit.was) in
    let inner = part_fits (length ps) i m.width (length c.args.bytes.now) c.loop-i-test.true (omega arith) in
    let below = part_fits m.places (get_or ps i 0) (span m.width) (length c.deref.result.now) (inside_at m.places ps i a.places c.loop-i-test.true) (omega arith) in
    simp (length-take, length-drop) (grind arith)

pub loop-i-preserved : goal.loop-i-preserved
loop-i-preserved c =
    let m = c.args.self.now in
    let w = m.width in
    let ps = c.args.places.now in
    let i = c.loop-i.i in
    let p = get_or ps i 0 in
    let slots = (meaning m).slots in
    let h = c.loop-i-test.true in
    let a = admitted w m.places ps _ _ (sym c.admit.ensures ∙ c.in_ok-admit.was) in
    let inner = part_fits (length ps) i w (length c.args.bytes.now) h (omega arith) in
    let size : length (take (i * w + w - i * w) (drop (i * w) c.loop-i.bytes)) ≡ w = simp (length-take, length-drop) (omega arith) in
    let slot : slot_at slots p ≡ record { key = c.read_slot.result; bytes = c.read_slot.new.payload } =
    decoded_at w m.places m.bytes.items p _ (inside_at m.places ps i a.places h) ∙ rw (size, c.deref.ensures.value) at c.read_slot.ensures in record {
      keys = rw (take_more_set c.loop-i.keys i c.read_slot.result (omega arith), c.loop-i.invariant.keys, keys_at_more slots ps i h) (ap (λ s. keys_at slots (take i ps) ++ (s.key ∷ [])) (sym slot));
      bytes = rw (take-put_mid (i * w) _ c.loop-i.bytes c.read_slot.new.payload ((i + 1) * w) (omega arith) (omega arith), c.loop-i.invariant.bytes, bytes_at_more slots ps i h) (ap (λ s. bytes_at slots (take i ps) ++ s.bytes) (sym slot));
    }

pub returns-clause-state : goal.returns-clause-state
returns-clause-state c = after_fetch (meaning c.args.self.now) c.args.places.now _ _ c.run.ensures.served c.run.ensures.trail
