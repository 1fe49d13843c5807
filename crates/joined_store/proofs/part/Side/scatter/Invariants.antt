use Rattle.std.proofs.Common.{◌≡◌, ◌+◌, ◌*◌, ◌≤◌, ◌++◌, length, take, drop}
use Rattle.joined_store.specs.Joined.{places_in}
use Rattle.joined_store.specs.Inner.{scattered}
use Rattle.joined_store.proofs.part.Side.scatter.Given as goal

abbrev pub invariant-loop-i : goal.invariant-loop-i
invariant-loop-i g l =
    record {
      few : l.count ≤ l.i;
      left : l.count + length (places_in l.self.part l.self.seam (drop l.i l.places)) ≡ length (places_in l.self.part l.self.seam l.places);
      rest : take (l.i * l.width) l.items ++ scattered l.self.part l.self.seam l.width (drop l.i l.places) (drop (l.count * l.width) l.own) (drop (l.i * l.width) l.items)
          ≡ scattered l.self.part l.self.seam l.width l.initial.places l.own l.initial.items;
    }
