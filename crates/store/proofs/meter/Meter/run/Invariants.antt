use Rattle.std.proofs.Common.{◌≡◌, length, drop}
use Rattle.store.specs.Requests.{counted, trailed}
use Rattle.store.specs.Rounds.{marked, round}
use Rattle.store.specs.Rule.{multiplied}
use Rattle.store.proofs.meter.Meter.run.Given as goal

-- what is left of the round gives what the whole round gives from the start
abbrev pub invariant-loop-place : goal.invariant-loop-place
invariant-loop-place l =
    (counted (length (drop l.place-index l.places)) l.self.served ≡ counted (length l.places) l.initial.self.served)
    × (trailed multiplied l.self.trail (marked l.begins l.write (drop l.place-index l.places)) ≡ trailed multiplied l.initial.self.trail (round l.write l.places))
