use Rattle.std.proofs.Common.{◌≡◌, sym, ap, ◌∙◌}
use Rattle.store.specs.Requests.{ran}
use Rattle.oram.specs.Fitting.{suits}
use Rattle.oram.specs.Loading.{load_requests}
use Rattle.oram.specs.Opening.{unrefused}
use Rattle.oram.proofs.Suits.{suits_kept}
use Rattle.oram.proofs.client.Client.load.Goals as goal

-- the parts serve the client as they did
pub invariant_of-self : goal.invariant_of-self
invariant_of-self g c =
    let k = c.args.self.now.core in
    let s = g.S.Store.state c.args.self.now.store in
    let lists = g.I.Index.lists c.args.self.now.index in
    let choice = g.P.Supply.choice c.args.self.now.supply in
    let rs = load_requests c.in-Ok.dimensions.levels.number c.in-Ok.dimensions.width choice c.args.bytes.now in
    let kept : suits k.levels k.width (g.S.Store.state c.load_level.new.store) lists (g.P.Supply.choice c.load_level.new.supply) ≡ suits k.levels k.width s lists choice =
    ap (λ t. suits k.levels k.width t lists (g.P.Supply.choice c.load_level.new.supply)) c.load_level.ensures.store
    ∙ ap (λ p. suits k.levels k.width (ran s rs) lists p) c.load_level.ensures.supply
    ∙ suits_kept k.levels k.width s rs lists choice in
    record {
      serves = λ h.
          ap (λ j. suits j.levels j.width (g.S.Store.state c.load_level.new.store) lists (g.P.Supply.choice c.load_level.new.supply)) c.note_load.ensures
          ∙ kept
          ∙ c.args.self.now.serves (sym (ap (λ j. unrefused j.refusal) c.note_load.ensures) ∙ h);
    }
