-- Noting the index of every slot of a part: it fails where the part is no permutation, and else gives the inverse.
use Rattle.std.proofs.Common.{◌≡◌, ℕ, ◌+◌, ◌<◌, ◌≤◌, true, false, eqb, ltb, ◌⊎◌, List, length, get_or, set, sym, refl, ap, subst, ◌∙◌, inl, inr, zero-add, arith}
use Rattle.std.proofs.lemmas.List.{length-set, get_or-set_same, get_or-set_other}
use Rattle.std.proofs.lemmas.Bool.{and_parts, and_cases, ltb-true, ltb-false, eqb-true, eqb-false, cases_eq}
use Rattle.permutations.specs.Tables.{IsPermutation, position}
use Rattle.permutations.proofs.Tables.{onto}
use Rattle.table_supply.specs.Inverses.{no_index, is_free, Unnoted, Inverted}

-- a slot has no index yet, or one below i at which it stands
pub Held : List ℕ → List ℕ → ℕ → ℕ → Type 0
Held part indices i s = (get_or indices s 0 ≡ no_index) ⊎ ((get_or indices s 0 < i) × (get_or part (get_or indices s 0) 0 ≡ s))

-- the indices below i have been noted, and no other
pub record Noting (part indices : List ℕ) (i : ℕ) : Type 0 where
  pub beside : length indices ≡ length part
  pub below : (j : ℕ) → j < i → get_or part j 0 < length part
  pub noted : (j : ℕ) → j < i → get_or indices (get_or part j 0) 0 ≡ j
  pub held : (s : ℕ) → s < length part → Held part indices i s

pub noting_none : (part indices : List ℕ) → length indices ≡ length part → Unnoted indices 0 (length part) → Noting part indices 0
unfolding Held
noting_none part indices e h = record {
  beside = e;
  below = λ j k. omega arith;
  noted = λ j k. omega arith;
  held = λ s k. inl (h s (omega arith) k);
}

noting_one : (part indices : List ℕ) (i : ℕ) → Noting part indices i → i < no_index → is_free indices (get_or part i 0) ≡ true → Noting part (set indices (get_or part i 0) i) (i + 1)
unfolding Held
noting_one part indices i done small free = record {
  beside = length-set indices (get_or part i 0) i ∙ done.beside;
  below = λ j k. below j k (cases_eq j i);
  noted = λ j k. noted j k (cases_eq j i);
  held = λ s k. held s k (cases_eq s (get_or part i 0));
}
  where
    tests : (ltb (get_or part i 0) (length indices) ≡ true) × (eqb (get_or indices (get_or part i 0) 0) no_index ≡ true)
    tests = and_parts (ltb (get_or part i 0) (length indices)) (eqb (get_or indices (get_or part i 0) 0) no_index) free

    inside : get_or part i 0 < length indices
    inside = ltb-true _ _ tests.0

    unset : get_or indices (get_or part i 0) 0 ≡ no_index
    unset = eqb-true _ _ tests.1

    below : (j : ℕ) → j < i + 1 → (j ≡ i) ⊎ (j ≡ i → ⊥) → get_or part j 0 < length part
    below j k (inl e) = omega (arith, inside, done.beside, ap (λ (x : ℕ). get_or part x 0) e)
    below j k (inr e) = done.below j (omega arith)

    noted : (j : ℕ) → j < i + 1 → (j ≡ i) ⊎ (j ≡ i → ⊥) → get_or (set indices (get_or part i 0) i) (get_or part j 0) 0 ≡ j
    noted j k (inl e) = ap (λ (x : ℕ). get_or (set indices (get_or part i 0) i) (get_or part x 0) 0) e ∙ get_or-set_same indices (get_or part i 0) i 0 inside ∙ sym e
    noted j k (inr e) =
        let l : j < i = omega arith in
        get_or-set_other indices (get_or part i 0) (get_or part j 0) i 0 (λ g. omega (arith, done.noted j l, unset, ap (λ (x : ℕ). get_or indices x 0) g)) ∙ done.noted j l

    held : (s : ℕ) → s < length part → (s ≡ get_or part i 0) ⊎ (s ≡ get_or part i 0 → ⊥) → Held part (set indices (get_or part i 0) i) (i + 1) s
    held s k (inl e) =
        let v : get_or (set indices (get_or part i 0) i) s 0 ≡ i = ap (λ (x : ℕ). get_or (set indices (get_or part i 0) i) x 0) e ∙ get_or-set_same indices (get_or part i 0) i 0 inside in
        inr (omega arith, ap (λ (x : ℕ). get_or part x 0) v ∙ sym e)
    held s k (inr e) = kept (done.held s k)
      where
        v : get_or (set indices (get_or part i 0) i) s 0 ≡ get_or indices s 0
        v = get_or-set_other indices (get_or part i 0) s i 0 e

        kept : Held part indices i s → Held part (set indices (get_or part i 0) i) (i + 1) s
        kept (inl g) = inl (v ∙ g)
        kept (inr (g, w)) = inr (omega (arith, v), ap (λ (x : ℕ). get_or part x 0) v ∙ w)

pub noting_more : (part indices new : List ℕ) (i : ℕ) → Noting part indices i → i < no_index → is_free indices (get_or part i 0) ≡ true → new ≡ set indices (get_or part i 0) i → Noting part new (i + 1)
noting_more part indices new i done small free e = subst (λ (xs : List ℕ). Noting part xs (i + 1)) (sym e) (noting_one part indices i done small free)

-- a slot beyond the part, or one that stands at an earlier index too
pub noting_fails : (part indices : List ℕ) (i : ℕ) → Noting part indices i → i < length part → is_free indices (get_or part i 0) ≡ false → IsPermutation (length part) part → ⊥
unfolding Held
noting_fails part indices i done h taken is = by (and_cases (ltb (get_or part i 0) (length indices)) (eqb (get_or indices (get_or part i 0) 0) no_index) taken)
  where
    by : (ltb (get_or part i 0) (length indices) ≡ false) ⊎ (eqb (get_or indices (get_or part i 0) 0) no_index ≡ false) → ⊥
    by (inl e) = omega (arith, ltb-false _ _ e, done.beside, is.below i h)
    by (inr e) = twice (done.held (get_or part i 0) (is.below i h))
      where
        twice : Held part indices i (get_or part i 0) → ⊥
        twice (inl g) = eqb-false _ _ e g
        twice (inr (g, w)) = omega (arith, g, is.apart (get_or indices (get_or part i 0) 0) i (omega arith) h w)

pub noting_all : (part indices : List ℕ) (i : ℕ) → Noting part indices i → length part ≤ i → Inverted (length part) part indices 0
noting_all part indices i done h = (is, λ s k. ap (λ (x : ℕ). get_or indices x 0) (zero-add s) ∙ inverse s k)
  where
    is : IsPermutation (length part) part
    is = record {
      sized = refl;
      below = λ j k. done.below j (omega arith);
      apart = λ j k a b e. sym (done.noted j (omega arith)) ∙ ap (λ (x : ℕ). get_or indices x 0) e ∙ done.noted k (omega arith);
    }

    inverse : (s : ℕ) → s < length part → get_or indices s 0 ≡ position part s
    inverse s k =
        let all = onto (length part) part is in
        sym (ap (λ (x : ℕ). get_or indices x 0) (all.stands_there s k)) ∙ done.noted (position part s) (omega (arith, all.position_below s k))
