use Rattle.std.proofs.Common.{◌≡◌, [], ◌∷◌, map, set, ap, ◌∙◌, arith}
use lib.Seq.{sets}
use Rattle.std.specs.List.{range_with_len}
use Rattle.shape.specs.Numbers.{level_slots}
use Rattle.store.specs.Requests.{ran, entries}
use Rattle.store.proofs.Requests.{ran_more, sets_more}
use Rattle.oram.specs.Fitting.{store_suits}
use Rattle.oram.specs.Loading.{load_request}
use Rattle.oram.proofs.Suits.{store_suits_kept}
use Rattle.oram.proofs.load.load_level.Goals as goal

pub load_slot-requires-clause-store : goal.load_slot-requires-clause-store
load_slot-requires-clause-store g c =
    let d = c.args.blocks.now.dimensions in
    let s = g.S.Store.state c.args.store.now in
    let rs = map (load_request d.levels.number d.width (g.P.Supply.choice c.args.supply.now) c.args.blocks.now.bytes.now) (range_with_len 0 c.loop-slot.slot) in
    ap (store_suits d.levels.number d.width) c.loop-slot.invariant.0 ∙ store_suits_kept d.levels.number d.width s rs ∙ c.requires.store

pub loop-slot-preserved : goal.loop-slot-preserved
loop-slot-preserved g c =
    let s = g.S.Store.state c.args.store.now in
    let p = g.P.Supply.choice c.args.supply.now in
    let f = load_request c.args.blocks.now.dimensions.levels.number c.args.blocks.now.dimensions.width p c.args.blocks.now.bytes.now in
    let n = c.loop-slot.slot in
    let here = ap (λ q. load_request c.args.blocks.now.dimensions.levels.number c.args.blocks.now.dimensions.width q c.args.blocks.now.bytes.now n) c.loop-slot.invariant.1 in (
      c.load_slot.ensures.store
          ∙ ap (λ t. ran t (load_request c.args.blocks.now.dimensions.levels.number c.args.blocks.now.dimensions.width (g.P.Supply.choice c.loop-slot.supply) c.args.blocks.now.bytes.now n ∷ [])) c.loop-slot.invariant.0
          ∙ ap (λ r. ran (ran s (map f (range_with_len 0 n))) (r ∷ [])) here
          ∙ ran_more s f n,
      c.load_slot.ensures.supply ∙ c.loop-slot.invariant.1,
      c.load_slot.ensures.trace
          ∙ ap (λ t. set t n (load_request c.args.blocks.now.dimensions.levels.number c.args.blocks.now.dimensions.width (g.P.Supply.choice c.loop-slot.supply) c.args.blocks.now.bytes.now n).entry) c.loop-slot.invariant.2
          ∙ ap (λ r. set (sets c.args.trace.now 0 (entries (map f (range_with_len 0 n)))) n r.entry) here
          ∙ sets_more c.args.trace.now f n,
    )

pub returns : goal.returns
returns g c =
    let s = g.S.Store.state c.args.store.now in
    let f = load_request c.args.blocks.now.dimensions.levels.number c.args.blocks.now.dimensions.width (g.P.Supply.choice c.args.supply.now) c.args.blocks.now.bytes.now in
    let all : c.loop-slot.slot ≡ level_slots c.args.blocks.now.dimensions.levels.number = omega arith in
    record {
      store = c.loop-slot.invariant.0 ∙ ap (λ n. ran s (map f (range_with_len 0 n))) all;
      supply = c.loop-slot.invariant.1;
      trace = c.loop-slot.invariant.2 ∙ ap (λ n. sets c.args.trace.now 0 (entries (map f (range_with_len 0 n)))) all;
    }
