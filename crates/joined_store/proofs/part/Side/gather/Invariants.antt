use Rattle.std.proofs.Common.{◌≡◌, ◌+◌, ◌*◌, ◌≤◌, ◌++◌, length, take, drop}
use Rattle.joined_store.specs.Joined.{places_in, items_in}
use Rattle.joined_store.proofs.part.Side.gather.Given as goal

abbrev pub invariant-loop-i : goal.invariant-loop-i
invariant-loop-i g l =
    record {
      few : l.count ≤ l.i;
      left : l.count + length (places_in l.self.part l.self.seam (drop l.i l.places)) ≡ length (places_in l.self.part l.self.seam l.places);
      rest : take (l.count * l.width) l.own ++ items_in l.self.part l.self.seam l.width (drop l.i l.places) (drop (l.i * l.width) l.items) ≡ items_in l.self.part l.self.seam l.width l.places l.items;
    }
