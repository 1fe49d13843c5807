use Rattle.std.proofs.Common.{rules}
use Rattle.table_supply.proofs.Noting.{noting_none, noting_more, noting_fails, noting_all}
use Rattle.table_supply.proofs.parts.invert.Goals as goal

pub loop-index-init : goal.loop-index-init
loop-index-init c = search (rules, noting_none)

pub returns-in_err-note : goal.returns-in_err-note
returns-in_err-note c = search (rules, noting_fails)

pub loop-index-preserved : goal.loop-index-preserved
loop-index-preserved c = search (rules, noting_more)

pub returns : goal.returns
returns c = search (rules, noting_all)
