-- The records of levels.
use Rattle.std.specs.Prelude.{false, replicate}
use Rattle.oram.specs.declared.record.Record.{Record}
use Rattle.oram.specs.declared.record.Table.{Table}

-- a level that holds nothing
abbrev pub vacant : Record
vacant = record { occupied = false; size = 0; counter = 0; build = 0 }

abbrev pub vacant_table : Table
vacant_table = record { records = replicate 13 vacant }
