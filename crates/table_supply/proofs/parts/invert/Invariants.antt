use Rattle.table_supply.proofs.Noting.{Noting}
use Rattle.table_supply.proofs.parts.invert.Given as goal

abbrev pub invariant-loop-index : goal.invariant-loop-index
invariant-loop-index l = Noting l.part l.indices l.index
