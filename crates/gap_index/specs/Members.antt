-- What an index asks of a row of gaps: its members rise, are addresses, and are no more than it has room for.
use Rattle.std.proofs.Common.{◌^◌, ◌<◌, ◌≤◌, length, vec_capacity, arith}
use Rattle.std.specs.List.{All}
use Rattle.std.proofs.lemmas.List.Elements.{All-from_get_or}
use Rattle.gap_index.specs.declared.row.GapRow.{GapRow}
use Rattle.gap_index.specs.Gaps.{listed}
use Rattle.gap_index.specs.Listed.{length_listed, member_below}

pub list_below : (r : GapRow) → All (λ a. a < 2 ^ r.levels.number) (listed r.gaps.items)
list_below r = All-from_get_or (λ a. a < 2 ^ r.levels.number) (listed r.gaps.items) 0 (λ p h. omega (arith, member_below r.gaps.items r.positive p h, r.ended, r.inside))

pub list_fits : (r : GapRow) → length (listed r.gaps.items) ≤ vec_capacity r.gaps
list_fits r = omega (arith, length_listed r.gaps.items, r.gaps.ok.0, r.gaps.ok.1)
