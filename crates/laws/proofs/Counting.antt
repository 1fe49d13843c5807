-- How many slots have an index that was asked, and how many have not.
use Rattle.std.proofs.Common.{◌≡◌, ℕ, zero, suc, ◌+◌, ◌<◌, ◌≤◌, Bool, true, false, cond, not, ◌||◌, eqb, ◌⊎◌, List, [], ◌∷◌, length, filter, sym, refl, ap, ◌∙◌, subst, ap₂, inl, inr, arith}
use Rattle.std.specs.List.{range_with_len, AllByRecursion}
use Rattle.std.proofs.lemmas.List.FromFn.{length-range_with_len}
use Rattle.std.proofs.lemmas.List.Filters.{length-filter_both}
use Rattle.std.proofs.lemmas.Bool.{cases_eq, eq-eqb, ne_eqb, eqb-true, cond-true, cond-false}
use Rattle.permutations.specs.Tables.{IsPermutation, position}
use Rattle.permutations.specs.Lists.{among, Apart, AreIndexes}
use Rattle.permutations.specs.Choices.{slot_in}
use Rattle.permutations.proofs.AskedSlots.{slot_is}

-- numbers counted from a are a to a + n
pub counted_within : (a n : ℕ) → AllByRecursion (λ x. (a ≤ x) × (x < a + n)) (range_with_len a n)
counted_within a n = from a n (λ x. (a ≤ x) × (x < a + n)) (λ x l h. (l, h))
  where
    from : (b n : ℕ) (P : ℕ → Type 0) → ((x : ℕ) → b ≤ x → x < b + n → P x) → AllByRecursion P (range_with_len b n)
    from b zero P h = tt
    from b (suc n) P h = (h b (omega arith) (omega arith), from (b + 1) n P (λ x l k. h x (omega arith) (omega arith)))

pub counted_below : (n : ℕ) → AllByRecursion (λ x. x < n) (range_with_len 0 n)
counted_below n = weaker (range_with_len 0 n) (counted_within 0 n)
  where
    weaker : (xs : List ℕ) → AllByRecursion (λ x. (0 ≤ x) × (x < 0 + n)) xs → AllByRecursion (λ x. x < n) xs
    weaker [] h = tt
    weaker (x ∷ xs) h = (omega (arith, h.0.1), weaker xs h.1)

-- tests that agree keep the same
pub kept_alike : (P : ℕ → Type 0) (f g : ℕ → Bool) → ((x : ℕ) → P x → f x ≡ g x) → (xs : List ℕ) → AllByRecursion P xs → filter f xs ≡ filter g xs
kept_alike P f g same [] h = refl
kept_alike P f g same (x ∷ xs) h =
    ap₂ (λ (b : Bool) (r : List ℕ). cond b (x ∷ r) r) (same x h.0) (kept_alike P f g same xs h.1)

-- what passes one of two tests that never pass together
count_either : (f g : ℕ → Bool) → ((x : ℕ) → f x ≡ true → g x ≡ false) → (xs : List ℕ) →
    length (filter (λ x. f x || g x) xs) ≡ length (filter f xs) + length (filter g xs)
count_either f g apart [] = refl
count_either f g apart (x ∷ xs) = by (f x) (g x) (apart x) (count_either f g apart xs)
  where
    by : (b c : Bool) → (b ≡ true → c ≡ false) → length (filter (λ x. f x || g x) xs) ≡ length (filter f xs) + length (filter g xs) →
        length (cond (b || c) (x ∷ filter (λ x. f x || g x) xs) (filter (λ x. f x || g x) xs)) ≡ length (cond b (x ∷ filter f xs) (filter f xs)) + length (cond c (x ∷ filter g xs) (filter g xs))
    by true true h e = absurd (differ (h refl))
      where
        differ : true ≡ false → ⊥
        differ e = subst (λ (b : Bool). cond b (Unit {0}) ⊥) e tt
    by true false h e = omega arith
    by false true h e = omega arith
    by false false h e = e

count_none : (xs : List ℕ) → length (filter (λ x. false) xs) ≡ 0
count_none [] = refl
count_none (x ∷ xs) = count_none xs

-- above all that is counted nothing is met
count_past : (c a n : ℕ) → c < a → length (filter (λ x. eqb c x) (range_with_len a n)) ≡ 0
count_past c a zero l = refl
count_past c a (suc n) l =
    ap length (cond-false (eqb c a) (a ∷ filter (λ x. eqb c x) (range_with_len (a + 1) n)) (filter (λ x. eqb c x) (range_with_len (a + 1) n)) (ne_eqb c a (λ e. omega arith)))
    ∙ count_past c (a + 1) n (omega arith)

count_one : (c a n : ℕ) → a ≤ c → c < a + n → length (filter (λ x. eqb c x) (range_with_len a n)) ≡ 1
count_one c a zero l h = absurd (omega arith)
count_one c a (suc n) l h = by (λ low. count_one c (a + 1) n low (omega arith)) (cases_eq c a)
  where
    by : (a + 1 ≤ c → length (filter (λ x. eqb c x) (range_with_len (a + 1) n)) ≡ 1) → (c ≡ a) ⊎ (c ≡ a → ⊥) →
        length (filter (λ x. eqb c x) (range_with_len a (suc n))) ≡ 1
    by later (inl e) =
        let rest = filter (λ x. eqb c x) (range_with_len (a + 1) n) in
        ap length (cond-true (eqb c a) (a ∷ rest) rest (eq-eqb c a e)) ∙ ap suc (count_past c (a + 1) n (omega arith))
    by later (inr e) =
        let rest = filter (λ x. eqb c x) (range_with_len (a + 1) n) in
        ap length (cond-false (eqb c a) (a ∷ rest) rest (ne_eqb c a e)) ∙ later (omega (arith, e))

-- as many slots have an asked index as indexes were asked
pub count_asked : (n : ℕ) (p : List ℕ) → IsPermutation n p → (is : List ℕ) → AllByRecursion (λ i. i < n) is → Apart is →
    length (filter (λ s. among is (position p s)) (range_with_len 0 n)) ≡ length is
count_asked n p perm [] below apart = count_none (range_with_len 0 n)
count_asked n p perm (i ∷ is) below apart =
    count_either (λ s. eqb i (position p s)) (λ s. among is (position p s)) unlike (range_with_len 0 n)
    ∙ ap₂ (λ (x y : ℕ). x + y) here (count_asked n p perm is below.1 apart.1) ∙ omega arith
  where
    unlike : (s : ℕ) → eqb i (position p s) ≡ true → among is (position p s) ≡ false
    unlike s e = subst (λ (k : ℕ). among is k ≡ false) (eqb-true i (position p s) e) apart.0

    here : length (filter (λ s. eqb i (position p s)) (range_with_len 0 n)) ≡ 1
    here =
        ap length (kept_alike (λ s. Unit {0}) (λ s. eqb i (position p s)) (λ s. eqb (slot_in p i) s) (λ s u. sym (slot_is n p perm s i below.0)) (range_with_len 0 n) (all (range_with_len 0 n)))
        ∙ count_one (slot_in p i) 0 n (omega arith) (omega (arith, perm.below i below.0))
      where
        all : (xs : List ℕ) → AllByRecursion (λ s. Unit {0}) xs
        all [] = tt
        all (x ∷ xs) = (tt, all xs)

-- and the others make up the rest
pub count_unasked : (n : ℕ) (p is : List ℕ) → IsPermutation n p → AreIndexes n is →
    length (filter (λ s. not (among is (position p s))) (range_with_len 0 n)) + length is ≡ n
count_unasked n p is perm indexes =
    omega (
      arith,
      length-filter_both (λ s. among is (position p s)) (λ s. not (among is (position p s))) (λ s. refl) (range_with_len 0 n),
      length-range_with_len 0 n,
      count_asked n p perm is indexes.below indexes.apart,
    )
