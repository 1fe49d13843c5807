use Rattle.std.proofs.Common.{rules, ◌≡◌, refl, ap, ◌∙◌}
use Rattle.store.specs.Rounds.{keys_at, bytes_at}
use Rattle.joined_store.specs.Joined.{places_in}
use Rattle.joined_store.specs.Inner.{scattered}
use Rattle.joined_store.proofs.Shares.{stretch_written}
use Rattle.joined_store.proofs.part.Side.fetch.Goals as goal

pub returns-in-Some-clause-keys : goal.returns-in-Some-clause-keys
returns-in-Some-clause-keys g c =
    let s = g.S.Store.state c.args.store.now in
    stretch_written c.args.self.part c.args.self.seam 1 c.in-Some.from c.len-in-Some.result c.args.places.now (keys_at s.slots (places_in c.args.self.part c.args.self.seam c.args.places.now)) c.args.keys.now c.fetch.new.keys _ _ (search rules) (search rules) (search rules) (search rules) (search rules) (search rules) (search rules) (search rules)

pub returns-in-Some-clause-bytes : goal.returns-in-Some-clause-bytes
returns-in-Some-clause-bytes g c =
    let s = g.S.Store.state c.args.store.now in
    let own : c.fetch.new.bytes ≡ bytes_at s.slots (places_in c.args.self.part c.args.self.seam c.args.places.now) = search rules in
    stretch_written c.args.self.part c.args.self.seam s.width c.in-Some.from c.len-in-Some.result c.args.places.now c.fetch.new.bytes c.args.bytes.now c.fetch.new.bytes _ _ (search rules) (search rules) (search rules) (search rules) (search rules) refl (search rules) (search rules)
    ∙ ap (λ bytes. scattered c.args.self.part c.args.self.seam s.width c.args.places.now bytes c.args.bytes.now) own
