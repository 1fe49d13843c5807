use Rattle.std.proofs.Common.{rules, ap, ◌∙◌, arith}
use Rattle.shape.specs.Numbers.{level_slots}
use Rattle.table_supply.proofs.Inverting.{inverting_none, inverting_more}
use Rattle.table_supply.proofs.Sums.{part_inside}
use Rattle.table_supply.proofs.parts.Parts.invert.Goals as goal

pub loop-build-init : goal.loop-build-init
loop-build-init c = search (rules, inverting_none)

pub invert_part-requires-clause-inside : goal.invert_part-requires-clause-inside
invert_part-requires-clause-inside c =
    let size = c.slots-size.ensures ∙ ap level_slots c.of_build.ensures.value in
    omega (arith, part_inside c.args.self.levels.number c.loop-build.build c.args.self.builds c.loop-build-test.true)

pub loop-build-preserved : goal.loop-build-preserved
loop-build-preserved c =
    inverting_more _ _ _ _ _ _ _ c.loop-build.invariant (c.slots-size.ensures ∙ ap level_slots c.of_build.ensures.value) c.invert_part.auto.indices
    c.in_ok-invert_part.ensures.answer c.in_ok-invert_part.ensures.others
