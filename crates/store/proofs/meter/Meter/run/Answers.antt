use Rattle.std.proofs.Common.{length, sym, ap, ◌∙◌}
use Rattle.std.proofs.lemmas.List.{drop_all}
use Rattle.store.specs.Requests.{counted, trailed}
use Rattle.store.specs.Rounds.{marked}
use Rattle.store.specs.Rule.{multiplied}
use Rattle.store.proofs.Rounds.{counted_more, trailed_more}
use Rattle.store.proofs.meter.Meter.run.Goals as goal

pub loop-place-preserved : goal.loop-place-preserved
loop-place-preserved c =
    let ps = c.args.places.now in
    let i = c.loop-place.place-index in
    let s = counted_more ps i c.loop-place.self.served c.loop-place-test.true in
    let t = trailed_more multiplied c.loop-place.begins c.args.write ps i c.loop-place.self.trail c.loop-place-test.true in
    ((cc), (cc))

pub returns : goal.returns
returns c =
    let none = drop_all c.loop-place.place-index c.args.places.now c.loop-place-test.false in
    record {
      served = sym (ap (λ ps. counted (length ps) c.loop-place.self.served) none) ∙ c.loop-place.invariant.0;
      trail = sym (ap (λ ps. trailed multiplied c.loop-place.self.trail (marked c.loop-place.begins c.args.write ps)) none) ∙ c.loop-place.invariant.1;
    }
