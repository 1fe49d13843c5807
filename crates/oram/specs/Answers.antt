-- What a call answers: how many entries it made, or why it declined.
use Rattle.std.specs.Prelude.{ℕ, Ok, Err, Result}
use Rattle.shape.specs.declared.refusal.Refusal.{Refusal}
use Rattle.oram.specs.declared.answer.Done.{Done}
use Rattle.oram.specs.declared.answer.Declined.{Declined}

abbrev pub answer_of : {T U : Type 0} → Result (Done T) (Declined U) → Result ℕ Refusal
answer_of (Ok d) = Ok d.entries
answer_of (Err e) = Err e.refusal
