-- The questions to a client that change nothing.
use Rattle.std.specs.Prelude.{ℕ, cond, ◌&&◌, Some, None, Option, nat_le, slice_index_or}
use Rattle.oram.specs.declared.client.Core.{Core}
use Rattle.oram.specs.declared.record.Record.{Record}
use Rattle.oram.specs.Records.{vacant}

-- there is a record for each level up to L, which is at most 12
abbrev pub record_answer : Core → ℕ → Option Record
record_answer k l = cond (nat_le l k.levels && nat_le l 12) (Some (slice_index_or k.table.records l vacant)) None
