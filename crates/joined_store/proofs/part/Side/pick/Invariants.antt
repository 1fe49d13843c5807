use Rattle.std.proofs.Common.{◌≡◌, ◌≤◌, ◌++◌, length, drop}
use Rattle.joined_store.specs.Joined.{places_in}
use Rattle.joined_store.proofs.part.Side.pick.Given as goal

abbrev pub invariant-loop-place : goal.invariant-loop-place
invariant-loop-place l =
    record {
      few : length l.own.items ≤ l.place-index;
      rest : l.own.items ++ places_in l.self.part l.self.seam (drop l.place-index l.places) ≡ places_in l.self.part l.self.seam l.places;
    }
