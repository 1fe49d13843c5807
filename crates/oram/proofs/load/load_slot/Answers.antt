use Rattle.std.proofs.Common.{sym, refl, ◌∙◌, subst, arith}
use Rattle.std.specs.Result.{IsOk}
use Rattle.shape.proofs.Cases.{same_ok}
use Rattle.oram.proofs.Loads.{first_index}
use Rattle.oram.proofs.load.load_slot.Goals as goal

pub unwrap-index-requires : goal.unwrap-index-requires
unwrap-index-requires g c =
    let known = first_index (g.P.Supply.choice c.args.supply.now) (g.met.P.Supply.lawful c.args.supply.now) c.args.blocks.now.dimensions.levels.number c.args.slot c.requires.supply c.requires.slot in
    subst IsOk (sym (c.index_of.ensures.answer ∙ known.0)) refl

pub slot-key-requires : goal.slot-key-requires
slot-key-requires g c =
    let known = first_index (g.P.Supply.choice c.args.supply.now) (g.met.P.Supply.lawful c.args.supply.now) c.args.blocks.now.dimensions.levels.number c.args.slot c.requires.supply c.requires.slot in
    omega (arith, same_ok (sym c.unwrap-index.ensures) (c.index_of.ensures.answer ∙ known.0), known.1)
