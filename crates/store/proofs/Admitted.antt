-- What an accepted round says of its places, keys and bytes, and back.
use Rattle.std.proofs.Common.{◌≡◌, ℕ, ◌*◌, ◌≤◌, Bool, true, false, cond, ◌&&◌, eqb, leb, List, length, Ok, Err, Result, refl, arith}
use Rattle.std.proofs.lemmas.Bool.{and_parts, and_from, leb-true, eqb-true, le-leb, eq-eqb}
use Rattle.shape.specs.declared.refusal.Refusal.{Refusal}
use Rattle.shape.specs.declared.refusal.Refusal.TheVariants.{WrongRound, PlaceBeyondStore}
use Rattle.store.specs.Rounds.{well_formed, inside, verdict}

pub record Admitted (w n : ℕ) (ps : List ℕ) (k b : ℕ) : Type 0 where
  pub some : 1 ≤ length ps
  pub few : length ps ≤ 13
  pub keys : k ≡ length ps
  pub bytes : b ≡ length ps * w
  pub places : inside n ps ≡ true

ok_parts : (x y : Bool) → ◌≡◌ {A = Result (Unit {0}) Refusal} (cond x (cond y (Ok tt) (Err PlaceBeyondStore)) (Err WrongRound)) (Ok tt) → (x ≡ true) × (y ≡ true)
ok_parts true true e = (refl, refl)
ok_parts true false e = let z : ◌≡◌ {A = ℕ} 0 1 = cc in absurd (omega arith)
ok_parts false y e = let z : ◌≡◌ {A = ℕ} 0 1 = cc in absurd (omega arith)

pub admitted : (w n : ℕ) (ps : List ℕ) (k b : ℕ) → verdict w n ps k b ≡ Ok tt → Admitted w n ps k b
admitted w n ps k b e =
    let m = length ps in
    let both = ok_parts (well_formed w m k b) (inside n ps) e in
    let f = and_parts (leb 1 m) (leb m 13 && (eqb k m && eqb b (m * w))) both.0 in
    let g = and_parts (leb m 13) (eqb k m && eqb b (m * w)) f.1 in
    let h = and_parts (eqb k m) (eqb b (m * w)) g.1 in
    record {
      some = leb-true 1 m f.0;
      few = leb-true m 13 g.0;
      keys = eqb-true k m h.0;
      bytes = eqb-true b (m * w) h.1;
      places = both.1;
    }

pub accepted : (w n : ℕ) (ps : List ℕ) (k b : ℕ) → Admitted w n ps k b → verdict w n ps k b ≡ Ok tt
accepted w n ps k b a =
    let m = length ps in
    let formed : well_formed w m k b ≡ true =
    and_from _ _ (le-leb 1 m a.some) (and_from _ _ (le-leb m 13 a.few) (and_from _ _ (eq-eqb k m a.keys) (eq-eqb b (m * w) a.bytes))) in
    rw (formed, a.places) refl
