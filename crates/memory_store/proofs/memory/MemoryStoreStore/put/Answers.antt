use Rattle.std.proofs.Common.{◌≡◌, ◌*◌, true, [], length, drop, vec_items, sym, ap, ◌∙◌, arith}
use Rattle.std.proofs.lemmas.Grind.{common_steps}
use Rattle.std.proofs.lemmas.List.{with_items_is}
use Rattle.std.specs.Vec.{with_items}
use Rattle.store.proofs.Admitted.{admitted}
use Rattle.store.proofs.Rounds.{after_put}
use Rattle.memory_store.specs.Memory.{decoded, span, stored}
use Rattle.memory_store.specs.Meaning.{meaning}
use Rattle.memory_store.specs.Slots.{decoded_length}
use Rattle.memory_store.proofs.Written.{stored_decodes}
use Rattle.memory_store.proofs.memory.MemoryStoreStore.put.Goals as goal

pub returns : goal.returns
returns c =
    let m = c.args.self.now in
    let ps = c.args.places.now in
    let ks = c.args.keys.now in
    let bs = c.args.bytes.now in
    let ok = sym c.admit.ensures ∙ c.in_ok-admit.was in
    let a = admitted m.width m.places ps (length ks) (length bs) ok in
    let parts = stored_decodes true m.width m.places ps ks bs m.bytes.items a.places (omega (arith, m.fits)) a.bytes (λ i. omega (arith, c.type_inv.keys i)) in
    let h = c.in-None.ensures in
    let none : c.loop-place.place-iterator.a.rest.now ≡ [] = grind (arith, common_steps) in
    let memory : c.loop-place.memory ≡ stored m.width ps ks bs m.bytes.items = rw none at c.loop-place.invariant.memory in
    let items : vec_items (with_items m.bytes c.loop-place.memory) ≡ stored m.width ps ks bs m.bytes.items =
    with_items_is m.bytes c.loop-place.memory (ap length memory ∙ parts.2 ∙ omega (arith, m.bytes.ok.0)) ∙ memory in
    record {
      answer = rw decoded_length (sym ok);
      state = after_put (meaning m) ps ks bs _ _ _ (ap (decoded m.width m.places) items ∙ parts.0) c.run.ensures.served c.run.ensures.trail;
      tail = ap (drop (m.places * span m.width)) items ∙ parts.1;
    }
