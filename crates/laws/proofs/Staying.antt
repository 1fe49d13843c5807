-- A level changes its build and its list only when it is built; once vacated it is not occupied before it is built again.
use Rattle.std.proofs.Common.{◌≡◌, ℕ, zero, suc, ◌+◌, ◌-◌, ◌<◌, Bool, true, false, cond, not, ◌&&◌, ◌||◌, eqb, ◌⊎◌, List, [], ◌∷◌, ◌++◌, length, get_or, drop, replicate, Some, None, Option, sym, refl, ap, ◌∙◌, inl, inr, arith}
use Rattle.std.proofs.lemmas.List.{get_or-set_other, get_or_append_left, get_or-append_right, get_or-drop, get_or-replicate, length-replicate}
use Rattle.std.proofs.lemmas.Bool.{cases_order, eqb-false, false≢true}
use Rattle.shape.specs.declared.refusal.Refusal.{Refusal}
use Rattle.rules.specs.World.{Level, World, vacant}
use Rattle.rules.specs.Calls.{Call, load, access, rebuild, Outcome, decline}
use Rattle.rules.specs.Checks.{verdict, rebuild_level}
use Rattle.rules.specs.Loading.{loading}
use Rattle.rules.specs.Accessing.{finds, counted_from, accessing}
use Rattle.rules.specs.Rebuilding.{rebuilding}
use Rattle.rules.specs.Runs.{accept, performed, after}
use Rattle.laws.specs.Keeping.{level_at, builds, NoneBuilds}

-- a level later on: if it is occupied, it was, with the same build and list
pub record Stays (before later : Level) : Type 0 where
  pub was : later.occupied ≡ true → before.occupied ≡ true
  pub same : later.occupied ≡ true → later.build ≡ before.build
  pub listing : later.occupied ≡ true → later.members ≡ before.members

pub stays_same : (u v : Level) → v ≡ u → Stays u v
stays_same u v e = record { was = λ o. ap (λ x. x.occupied) (sym e) ∙ o; same = λ _. ap (λ x. x.build) e; listing = λ _. ap (λ x. x.members) e }

stays_vacant : (u v : Level) → v ≡ vacant → Stays u v
stays_vacant u v e = record {
  was = λ o. absurd (false≢true (ap (λ x. x.occupied) (sym e) ∙ o));
  same = λ o. absurd (false≢true (ap (λ x. x.occupied) (sym e) ∙ o));
  listing = λ o. absurd (false≢true (ap (λ x. x.occupied) (sym e) ∙ o));
}

pub counted_stays : (found : Bool) (a : ℕ) (vs : List Level) (l : ℕ) → Stays (get_or vs l vacant) (get_or (counted_from found a vs) l vacant)
counted_stays found a [] l = stays_same vacant vacant refl
counted_stays found a (v ∷ vs) zero = by (v.occupied && not (finds found a v))
  where
    by : (b : Bool) → Stays v (cond b (record { occupied = v.occupied; members = v.members; counter = v.counter + 1; build = v.build }) v)
    by true = record { was = λ o. o; same = λ o. refl; listing = λ o. refl }
    by false = record { was = λ o. o; same = λ o. refl; listing = λ o. refl }
counted_stays found a (v ∷ vs) (suc l) = counted_stays (found || finds found a v) a vs l

pub rebuilt_stays : (vs : List Level) (m : ℕ) (x : Level) (l : ℕ) → eqb l m ≡ false → Stays (get_or vs l vacant) (get_or (replicate m vacant ++ (x ∷ drop (suc m) vs)) l vacant)
rebuilt_stays vs m x l e = by (cases_order l m)
  where
    later : List Level
    later = replicate m vacant ++ (x ∷ drop (suc m) vs)

    upper : m < l → get_or (x ∷ drop (suc m) vs) (l - m) vacant ≡ get_or vs l vacant
    upper h =
        ap (λ i. get_or (x ∷ drop (suc m) vs) i vacant) (let k : l - m ≡ suc (l - suc m) = omega arith in k)
        ∙ get_or-drop (suc m) vs (l - suc m) vacant ∙ ap (λ i. get_or vs i vacant) (let k : suc m + (l - suc m) ≡ l = omega arith in k)

    by : (l ≡ m) ⊎ ((l < m) ⊎ (m < l)) → Stays (get_or vs l vacant) (get_or later l vacant)
    by (inl s) = absurd (eqb-false l m e s)
    by (inr (inl h)) =
        stays_vacant (get_or vs l vacant) (get_or later l vacant)
        (get_or_append_left (replicate m vacant) (x ∷ drop (suc m) vs) vacant l (omega (arith, length-replicate m vacant)) ∙ get_or-replicate m l vacant vacant h)
    by (inr (inr h)) =
        stays_same (get_or vs l vacant) (get_or later l vacant)
        (get_or-append_right (replicate m vacant) (x ∷ drop (suc m) vs) m l vacant (length-replicate m vacant) (omega arith) ∙ upper h)

accept_stays : (ts : List (List ℕ)) (w : World) (l : ℕ) (c : Call) → builds l w c (accept ts w c).answer ≡ false →
    Stays (level_at w.client l) (level_at (accept ts w c).world.client l)
unfolding loading accessing rebuilding
accept_stays ts w l (load bytes room) e =
    stays_same _ _ (get_or-set_other w.client.levels w.client.top l _ vacant (eqb-false l w.client.top e))
accept_stays ts w l (access j op a run room) e = counted_stays false a w.client.levels l
accept_stays ts w l (rebuild j room) e = rebuilt_stays w.client.levels (rebuild_level w.client) _ l e

performed_stays : (ts : List (List ℕ)) (w : World) (l : ℕ) (c : Call) → builds l w c (performed ts w c).answer ≡ false →
    Stays (level_at w.client l) (level_at (performed ts w c).world.client l)
performed_stays ts w l c = by (accept_stays ts w l c) (verdict (length ts) w.client c)
  where
    by : (builds l w c (accept ts w c).answer ≡ false → Stays (level_at w.client l) (level_at (accept ts w c).world.client l)) → (d : Option Refusal) →
        let o : Outcome = elim d [ Some r ↦ decline w r | None ↦ accept ts w c ] in
        builds l w c o.answer ≡ false → Stays (level_at w.client l) (level_at o.world.client l)
    by h (Some r) e = stays_same _ _ refl
    by h None e = h e

pub level_stays : (ts : List (List ℕ)) (w : World) (l : ℕ) (cs : List Call) → NoneBuilds ts w l cs →
    Stays (level_at w.client l) (level_at (after ts w cs).client l)
level_stays ts w l [] none = stays_same _ _ refl
level_stays ts w l (c ∷ cs) none =
    let first = performed_stays ts w l c none.0 in
    let rest = level_stays ts (performed ts w c).world l cs none.1 in
    record {
      was = λ o. first.was (rest.was o);
      same = λ o. rest.same o ∙ first.same (rest.was o);
      listing = λ o. rest.listing o ∙ first.listing (rest.was o);
    }
