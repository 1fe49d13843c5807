use Rattle.table_supply.proofs.parts.+slots_before.Given as goal

abbrev pub decreases-slots_before : goal.decreases-slots_before
decreases-slots_before l = l.levels.number
