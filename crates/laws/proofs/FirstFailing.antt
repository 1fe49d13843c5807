-- The refusal of the first check that fails is given exactly if its condition holds and none of those before it.
use Rattle.std.proofs.Common.{◌≡◌, ℕ, Bool, true, false, cond, ◌&&◌, eqb, ◌⊎◌, ◌↔◌, List, [], ◌∷◌, ◌++◌, is_some, Some, None, Option, sym, refl, ap, ◌∙◌, inl, inr, ⊎_elim}
use Rattle.std.proofs.lemmas.Bool.{false≢true, both_ways, cases_Bool, eq-eqb, or_left, or_right, or_parts, eqb-false, cond-true, cond-false}
use Rattle.shape.specs.Refusals.{number_of}
use Rattle.shape.specs.declared.refusal.Refusal.{Refusal}
use Rattle.permutations.specs.Lists.{among, Apart}
use Rattle.rules.specs.Checks.{Check, check, first_failing}
use Rattle.laws.specs.Refusals.{NoneOf, First}

-- a condition holds exactly where a test fails
abbrev pub Reflects : Bool → Type 0 → Type 0
Reflects b C = (b ≡ true → C → ⊥) × (b ≡ false → C)

pub reflects_and : (b c : Bool) (B C : Type 0) → Reflects b B → Reflects c C → Reflects (b && c) (B ⊎ C)
reflects_and true c B C p q = (λ e. ⊎_elim (p.0 refl) (q.0 e), λ e. inr (q.1 e))
reflects_and false c B C p q = (λ e. absurd (false≢true e), λ e. inl (p.1 refl))

-- a check, and the condition under which it fails
pub record Row : Type 1 where
  pub holds : Bool
  pub refusal : Refusal
  pub condition : Type 0

abbrev pub row_checks : List Row → List Check
row_checks [] = []
row_checks (g ∷ gs) = check g.holds g.refusal ∷ row_checks gs

abbrev pub numbers : List Row → List ℕ
numbers [] = []
numbers (g ∷ gs) = number_of g.refusal ∷ numbers gs

-- each condition holds exactly where its test fails, if none before it holds
abbrev pub AllReflect : List (Type 0) → List Row → Type 0
AllReflect earlier [] = Unit {0}
AllReflect earlier (g ∷ gs) =
    (NoneOf earlier → Reflects g.holds g.condition) × AllReflect (earlier ++ (g.condition ∷ [])) gs

-- the table: D r tells that r was given, and N that nothing was
abbrev pub Exactly : (Refusal → Type 0) → Type 0 → List (Type 0) → List Row → Type 0
Exactly D N earlier [] = N ↔ NoneOf earlier
Exactly D N earlier (g ∷ gs) = (D g.refusal ↔ First g.condition earlier) × Exactly D N (earlier ++ (g.condition ∷ [])) gs

none_more : (earlier : List (Type 0)) (C : Type 0) → NoneOf earlier → (C → ⊥) → NoneOf (earlier ++ (C ∷ []))
none_more [] C none h = (h, tt)
none_more (E ∷ Es) C none h = (none.0, none_more Es C none.1 h)

none_less : (earlier : List (Type 0)) (C : Type 0) → NoneOf (earlier ++ (C ∷ [])) → NoneOf earlier × (C → ⊥)
none_less [] C none = (tt, none.0)
none_less (E ∷ Es) C none = let rest = none_less Es C none.1 in ((none.0, rest.0), rest.1)

number_or : Option Refusal → ℕ
number_or (Some r) = number_of r
number_or None = 0

same_number : (r s : Refusal) → ◌≡◌ {A = Option Refusal} (Some r) (Some s) → number_of r ≡ number_of s
unfolding number_or
same_number r s e = ap number_or e

pub none_some : {X : Type 0} (x : X) → None ≡ Some x → ⊥
none_some x e = false≢true (ap is_some e)

failing_among : (gs : List Row) (r : Refusal) → first_failing (row_checks gs) ≡ Some r → among (numbers gs) (number_of r) ≡ true
failing_among [] r e = absurd (none_some r e)
failing_among (g ∷ gs) r e = by (failing_among gs r) g.holds e
  where
    by : (first_failing (row_checks gs) ≡ Some r → among (numbers gs) (number_of r) ≡ true) → (b : Bool) →
        cond b (first_failing (row_checks gs)) (Some g.refusal) ≡ Some r → among (numbers (g ∷ gs)) (number_of r) ≡ true
    by rest true e = or_right (eqb (number_of g.refusal) (number_of r)) (among (numbers gs) (number_of r)) (rest e)
    by rest false e =
        or_left (eqb (number_of g.refusal) (number_of r)) (among (numbers gs) (number_of r)) (eq-eqb _ _ (same_number g.refusal r e))

module _ (D : Refusal → Type 0) (N : Type 0) (v : Option Refusal)
    (given : (r : Refusal) → D r ↔ (v ≡ Some r)) (nothing : N ↔ (v ≡ None)) where
  -- an earlier condition holds, and r was given for it
  past : (earlier : List (Type 0)) (gs : List Row) → (NoneOf earlier → ⊥) → (r : Refusal) → v ≡ Some r →
      among (numbers gs) (number_of r) ≡ false → Exactly D N earlier gs
  past earlier [] held r e new = (λ n. absurd (none_some r (sym (nothing.0 n) ∙ e)), λ none. absurd (held none))
  past earlier (g ∷ gs) held r e new =
      let parts = or_parts (eqb (number_of g.refusal) (number_of r)) (among (numbers gs) (number_of r)) new in (
        (
          λ d. absurd (eqb-false _ _ parts.0 (same_number g.refusal r (sym ((given g.refusal).0 d) ∙ e))),
          λ f. absurd (held f.1),
        ),
        past (earlier ++ (g.condition ∷ [])) gs (λ none. held (none_less earlier g.condition none).0) r e parts.1,
      )

  -- no earlier condition holds
  pub exactly : (earlier : List (Type 0)) (gs : List Row) → Apart (numbers gs) → AllReflect earlier gs → NoneOf earlier →
      v ≡ first_failing (row_checks gs) → Exactly D N earlier gs
  exactly earlier [] apart all none e = (λ n. none, λ f. nothing.1 e)
  exactly earlier (g ∷ gs) apart all none e =
      ⊎_elim (passes (exactly (earlier ++ (g.condition ∷ [])) gs apart.1 all.1)) fails (cases_Bool g.holds)
    where
      passes : (NoneOf (earlier ++ (g.condition ∷ [])) → v ≡ first_failing (row_checks gs) → Exactly D N (earlier ++ (g.condition ∷ [])) gs) →
          g.holds ≡ true → Exactly D N earlier (g ∷ gs)
      passes rest t =
          let unmet = (all.0 none).0 t in
          let later : v ≡ first_failing (row_checks gs) = e ∙ cond-true _ _ _ t in (
            (λ d. absurd (both_ways _ apart.0 (failing_among gs g.refusal (sym later ∙ (given g.refusal).0 d))), λ f. absurd (unmet f.0)),
            rest (none_more earlier g.condition none unmet) later,
          )

      fails : g.holds ≡ false → Exactly D N earlier (g ∷ gs)
      fails t =
          let met = (all.0 none).1 t in
          let here : v ≡ Some g.refusal = e ∙ cond-false _ _ _ t in (
            (λ d. (met, none), λ f. (given g.refusal).1 here),
            past (earlier ++ (g.condition ∷ [])) gs (λ n. (none_less earlier g.condition n).1 met) g.refusal here apart.0,
          )
