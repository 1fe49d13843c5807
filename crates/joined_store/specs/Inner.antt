-- What the inner functions ask for and give.
use Rattle.std.specs.Prelude.{◌≡◌, ℕ, ◌*◌, ◌≤◌, true, cond, List, [], ◌∷◌, ◌++◌, length, take, drop}
use Rattle.joined_store.specs.declared.part.Part.{Part}
use Rattle.joined_store.specs.Joined.{lies_in, places_in}
use Rattle.store.specs.State.{State}
use Rattle.store.specs.Rounds.{inside}

-- the items of a round, w to a place, with those of one part's places written over
abbrev pub scattered : {X : Type 0} → Part → ℕ → ℕ → List ℕ → List X → List X → List X
scattered part n w [] own xs = xs
scattered part n w (p ∷ ps) own xs =
    cond (lies_in part n p) (take w own ++ scattered part n w ps (drop w own) (drop w xs)) (take w xs ++ scattered part n w ps own (drop w xs))

-- places of a joined store whose share of one part the part has, with as many keys and bytes as belong to all of them
pub record Shares (s : State) (part : Part) (n : ℕ) (ps : List ℕ) (k b : ℕ) : Type 0 where
  pub some : 1 ≤ length ps
  pub few : length ps ≤ 13
  pub within : inside (length s.slots) (places_in part n ps) ≡ true
  pub keys : k ≡ length ps
  pub bytes : b ≡ length ps * s.width
