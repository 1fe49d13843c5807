-- The straight supply: slot equals index in every one of 1,000,000 builds.
use Rattle.std.specs.Prelude.{ℕ}
use Rattle.supply.specs.Choice.{Choice}

abbrev pub straight : ℕ → Choice
straight L = record { levels = L; builds = 1000000; slot_of = λ b i. i; index_of = λ b s. s }
