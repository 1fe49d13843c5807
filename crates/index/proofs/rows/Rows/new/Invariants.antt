use Rattle.std.proofs.Common.{◌≡◌, ◌^◌, [], map, replicate}
use Rattle.std.specs.Vec.{vec_capacity}
use Rattle.index.specs.RowLists.{powers}
use Rattle.index.proofs.rows.Rows.new.Given as goal

abbrev pub invariant-loop-number : goal.invariant-loop-number
invariant-loop-number g l = record {
  capacity : vec_capacity l.rows ≡ l.levels.number;
  rooms : map g.R.Row.room l.rows.items ≡ powers l.number;
  bounds : map g.R.Row.bound l.rows.items ≡ replicate l.number (2 ^ l.levels.number);
  empty : map g.R.Row.list l.rows.items ≡ replicate l.number [];
}
