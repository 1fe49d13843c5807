-- What a word reads as, which fault an error is, and what is printed of a fault.
use Rattle.std.specs.Prelude.{◌≡◌, ℕ, List, ◌++◌, codes, Option, Some, None, Result, Ok, Err}
use Rattle.shape.specs.declared.make_error.MakeError.{MakeError}
use Rattle.shape.specs.declared.make_error.MakeError.TheVariants as made
use Rattle.fault.specs.declared.Fault.{Fault}
use Rattle.fault.specs.declared.Fault.TheVariants.{Usage, NoFile, NoKey, NoMemory, Refused}
use Rattle.shape.specs.Refusals.{refusal_text}

-- a word's value, where `gives` holds of a text and each result of reading it
abbrev pub Reads : {T E : Type 0} → (List ℕ → Result T E → Type 0) → Option (List ℕ) → Option T → Type 0
Reads gives None value = value ≡ None
Reads gives (Some word) (Some value) = gives word (Ok value)
Reads {E = E} gives (Some word) None = (e : E) × gives word (Err e)

abbrev pub fault_of : MakeError → Fault
fault_of (made.Refused refusal) = Refused refusal
fault_of made.NoMemory = NoMemory

abbrev pub fault_text : Fault → List ℕ
fault_text (Usage line) = codes "usage: " ++ line.now
fault_text NoFile = codes "cannot read the file"
fault_text NoKey = codes "cannot read a key of 32 bytes"
fault_text NoMemory = codes "no memory"
fault_text (Refused why) = refusal_text why
