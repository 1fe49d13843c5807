-- Why a part of a client was not made, as it is printed.
use Rattle.std.specs.Prelude.{ℕ, List, codes}
use Rattle.shape.specs.declared.make_error.MakeError.{MakeError}
use Rattle.shape.specs.declared.make_error.MakeError.TheVariants.{Refused, NoMemory}
use Rattle.shape.specs.Refusals.{refusal_text}

abbrev pub make_error_text : MakeError → List ℕ
make_error_text (Refused r) = refusal_text r
make_error_text NoMemory = codes "no memory"
