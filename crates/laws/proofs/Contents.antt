-- What the store and the client hold of the blocks, after a run: `value` are the current bytes of every block.
use Rattle.std.proofs.Common.{◌≡◌, ℕ, ◌+◌, ◌<◌, ◌≤◌, true, false, List, get_or, take, Some, Option}
use Rattle.shape.specs.Numbers.{level_start}
use Rattle.store.specs.State.{slot_at}
use Rattle.permutations.specs.Choices.{slot_of}
use Rattle.rules.specs.World.{World, size}
use Rattle.laws.specs.Keeping.{level_at, Holds}
use Rattle.laws.proofs.Invariant.{out}

-- the held block, if a rebuild is due, has its current bytes; and so has each member of an occupied level that is neither held nor in a lower list
pub record Filled (ts : List (List ℕ)) (L : ℕ) (h : Option ℕ) (value : ℕ → List ℕ) (w : World) : Type 0 where
  pub held : (a : ℕ) → h ≡ Some a → w.held_bytes ≡ value a
  pub current :
      (l : ℕ) → l ≤ L → (level_at w.client l).occupied ≡ true →
      (j : ℕ) → j < size (level_at w.client l) →
      out h (take l w.client.levels) (get_or (level_at w.client l).members j 0) ≡ false →
      (slot_at w.slots (level_start l + slot_of ts (level_at w.client l).build j)).bytes ≡ value (get_or (level_at w.client l).members j 0)

-- every slot of an occupied level holds what its index says, its members with the bytes that they had when it was built
pub record Built (ts : List (List ℕ)) (L : ℕ) (built : ℕ → ℕ → List ℕ) (w : World) : Type 0 where
  pub holds : (l : ℕ) → l ≤ L → (level_at w.client l).occupied ≡ true → Holds ts w l (built l)
