use Rattle.std.proofs.Common.{◌≡◌, drop}
use Rattle.oram.specs.Fitting.{all_empty}
use Rattle.oram.proofs.open.is_empty.Given as goal

abbrev pub invariant-loop-level : goal.invariant-loop-level
invariant-loop-level g l =
    let lists = g.I.Index.lists l.index in
    all_empty (drop l.level lists) ≡ all_empty lists
