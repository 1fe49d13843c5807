-- What stands in a list, and lists in which no number stands twice.
use Rattle.std.proofs.Common.{◌≡◌, ℕ, Bool, false, ◌||◌, eqb, List, [], ◌∷◌, ◌++◌, map, sym, refl, ◌∙◌, ap₂, ⊎_elim}
use Rattle.std.specs.List.{AllByRecursion}
use Rattle.std.proofs.lemmas.Bool.{cases_eq, eq-eqb, ne_eqb, eqb-false, or_parts, or_from}
use Rattle.permutations.specs.Lists.{among, Apart}

-- two comparisons that hold together
pub eqb_same : (a b c d : ℕ) → (a ≡ b → c ≡ d) → (c ≡ d → a ≡ b) → eqb a b ≡ eqb c d
eqb_same a b c d to from =
    ⊎_elim (λ e. eq-eqb a b (from e) ∙ sym (eq-eqb c d e)) (λ n. ne_eqb a b (λ e. n (to e)) ∙ sym (ne_eqb c d n)) (cases_eq c d)

-- y stands in the image as a does in the list, if the members that meet y are those that meet a
pub among_map : (f : ℕ → ℕ) (P : ℕ → Type 0) (y a : ℕ) → ((x : ℕ) → P x → eqb (f x) y ≡ eqb x a) →
    (xs : List ℕ) → AllByRecursion P xs → among (map f xs) y ≡ among xs a
among_map f P y a same [] h = refl
among_map f P y a same (x ∷ xs) h = ap₂ (λ (b c : Bool). b || c) (same x h.0) (among_map f P y a same xs h.1)

not_among_push : (ys : List ℕ) (x y : ℕ) → among ys y ≡ false → (x ≡ y → ⊥) → among (ys ++ (x ∷ [])) y ≡ false
not_among_push [] x y h n = or_from (eqb x y) false (ne_eqb x y n) refl
not_among_push (z ∷ zs) x y h n =
    let parts = or_parts (eqb z y) (among zs y) h in
    or_from (eqb z y) (among (zs ++ (x ∷ [])) y) parts.0 (not_among_push zs x y parts.1 n)

pub apart_push : (xs : List ℕ) (x : ℕ) → Apart xs → among xs x ≡ false → Apart (xs ++ (x ∷ []))
apart_push [] x h n = (refl, tt)
apart_push (y ∷ ys) x h n =
    let parts = or_parts (eqb y x) (among ys x) n in
    (not_among_push ys x y h.0 (λ e. eqb-false y x parts.0 (sym e)), apart_push ys x h.1 parts.1)
