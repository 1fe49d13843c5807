use Rattle.std.proofs.Common.{◌≡◌, ◌≤◌, take, sum}
use Rattle.gap_index.proofs.row.GapRowRow.rank.Given as goal

-- the members passed are at most the address
abbrev pub invariant-loop-rank : goal.invariant-loop-rank
invariant-loop-rank l = (l.next ≡ sum (take l.rank l.self.gaps.items)) × (l.next ≤ l.address)
