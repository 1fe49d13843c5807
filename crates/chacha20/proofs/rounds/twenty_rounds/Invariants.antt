use Rattle.std.proofs.Common.{◌≡◌}
use Rattle.chacha20.specs.ChaCha20.{inner_blocks}
use Rattle.chacha20.proofs.rounds.twenty_rounds.Given as goal

abbrev pub invariant-loop : goal.invariant-loop
invariant-loop l = l.words ≡ inner_blocks l.counter l.initial.words
