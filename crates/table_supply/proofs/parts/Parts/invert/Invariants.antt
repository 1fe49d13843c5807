use Rattle.table_supply.proofs.Inverting.{Inverting}
use Rattle.table_supply.proofs.parts.Parts.invert.Given as goal

abbrev pub invariant-loop-build : goal.invariant-loop-build
invariant-loop-build l = Inverting l.self.levels.number l.slots l.indices l.build l.start
