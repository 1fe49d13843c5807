-- What it says of numbers that the parts of a client serve it; and that requests change nothing of it.
use Rattle.std.proofs.Common.{◌≡◌, ℕ, ◌≤◌, true, ◌&&◌, eqb, leb, List, length, ap}
use Rattle.std.proofs.lemmas.Bool.{and_parts, leb-true, eqb-true}
use Rattle.shape.specs.Numbers.{levels_fit, width_fits, places_needed}
use Rattle.store.specs.State.{State}
use Rattle.store.specs.Requests.{Request, ran}
use Rattle.store.proofs.Requests.{wrote_length}
use Rattle.supply.specs.Choice.{Choice}
use Rattle.oram.specs.declared.client.Core.{Core}
use Rattle.oram.specs.Fitting.{in_range, store_suits, made_for, suits}
use Rattle.oram.specs.Opening.{unrefused, stands}

pub record Suited (L W : ℕ) (s : State) (lists : List (List ℕ)) (c : Choice) : Type 0 where
  pub low : 1 ≤ L
  pub high : L ≤ 12
  pub some : 1 ≤ W
  pub narrow : W ≤ 512
  pub wide : s.width ≡ W
  pub places : places_needed L ≤ length s.slots
  pub index : length lists ≡ L
  pub supply : c.levels ≡ L

pub suited : (L W : ℕ) (s : State) (lists : List (List ℕ)) (c : Choice) → suits L W s lists c ≡ true → Suited L W s lists c
suited L W s lists c e =
    let a = and_parts (in_range L W) (store_suits L W s && made_for L lists c) e in
    let b = and_parts (levels_fit L) (width_fits W) a.0 in
    let levels = and_parts (leb 1 L) (leb L 12) b.0 in
    let width = and_parts (leb 1 W) (leb W 512) b.1 in
    let d = and_parts (store_suits L W s) (made_for L lists c) a.1 in
    let store = and_parts (eqb s.width W) (leb (places_needed L) (length s.slots)) d.0 in
    let made = and_parts (eqb (length lists) L) (eqb c.levels L) d.1 in
    record {
      low = leb-true 1 L levels.0;
      high = leb-true L 12 levels.1;
      some = leb-true 1 W width.0;
      narrow = leb-true W 512 width.1;
      wide = eqb-true s.width W store.0;
      places = leb-true (places_needed L) (length s.slots) store.1;
      index = eqb-true (length lists) L made.0;
      supply = eqb-true c.levels L made.1;
    }

pub standing : (k : Core) (s : State) (lists : List (List ℕ)) (c : Choice) → stands k s lists c ≡ true → Suited k.levels k.width s lists c
standing k s lists c e = suited k.levels k.width s lists c (and_parts (unrefused k.refusal) (suits k.levels k.width s lists c) e).1

-- requests change neither the width of a store nor the number of its places
pub store_suits_kept : (L W : ℕ) (s : State) (rs : List Request) → store_suits L W (ran s rs) ≡ store_suits L W s
store_suits_kept L W s rs = ap (λ n. eqb s.width W && leb (places_needed L) n) (wrote_length s.slots rs)

pub suits_kept : (L W : ℕ) (s : State) (rs : List Request) (lists : List (List ℕ)) (c : Choice) → suits L W (ran s rs) lists c ≡ suits L W s lists c
suits_kept L W s rs lists c = ap (λ b. in_range L W && (b && made_for L lists c)) (store_suits_kept L W s rs)

pub stands_kept : (k : Core) (s : State) (rs : List Request) (lists : List (List ℕ)) (c : Choice) → stands k (ran s rs) lists c ≡ stands k s lists c
stands_kept k s rs lists c = ap (λ b. unrefused k.refusal && b) (suits_kept k.levels k.width s rs lists c)
