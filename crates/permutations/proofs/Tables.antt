-- Every number below n stands in the table of a permutation: n + 1 different numbers do not fit below n.
use Rattle.std.proofs.Common.{◌≡◌, ℕ, zero, suc, ◌<◌, ◌≤◌, cond, eqb, ltb, ◌⊎◌, List, [], ◌∷◌, length, get_or, sym, ap, ◌∙◌, inl, inr, arith}
use Rattle.std.proofs.lemmas.Bool.{cases_eq, cases_lt, eq-eqb, ne_eqb, lt-ltb, le-ltb, cond-true, cond-false}
use Rattle.permutations.specs.Tables.{IsPermutation, position}
use Rattle.permutations.specs.Onto.{EveryNumberStandsOnce}

-- ---- the pigeonhole principle

-- f with the value n given up for the value at m
spared : (ℕ → ℕ) → ℕ → ℕ → ℕ → ℕ
spared f m n i = cond (eqb (f i) n) (f m) (f i)

SparedAt : (ℕ → ℕ) → ℕ → ℕ → ℕ → Type 0
SparedAt f m n i = ((f i ≡ n) × (spared f m n i ≡ f m)) ⊎ ((f i ≡ n → ⊥) × (spared f m n i ≡ f i))

spared_at : (f : ℕ → ℕ) (m n i : ℕ) → SparedAt f m n i
unfolding spared SparedAt
spared_at f m n i = by (cases_eq (f i) n)
  where
    by : (f i ≡ n) ⊎ (f i ≡ n → ⊥) → SparedAt f m n i
    by (inl e) = inl (e, cond-true _ _ _ (eq-eqb (f i) n e))
    by (inr e) = inr (e, cond-false _ _ _ (ne_eqb (f i) n e))

-- m different numbers below n: m is at most n
pub pigeonhole : (n m : ℕ) (f : ℕ → ℕ) → ((i : ℕ) → i < m → f i < n) → ((i j : ℕ) → i < m → j < m → f i ≡ f j → i ≡ j) → m ≤ n
unfolding SparedAt
pigeonhole n zero f below apart = omega arith
pigeonhole zero (suc m) f below apart = omega (arith, below 0 (omega arith))
pigeonhole (suc n) (suc m) f below apart =
    let h : m ≤ n = pigeonhole n m (spared f m n) (λ i h. lower i h (spared_at f m n i)) (λ i j h k e. unlike i j h k e (spared_at f m n i) (spared_at f m n j)) in
    omega arith
  where
    lower : (i : ℕ) → i < m → SparedAt f m n i → spared f m n i < n
    lower i h (inl (e, s)) = by (cases_eq (f m) n)
      where
        by : (f m ≡ n) ⊎ (f m ≡ n → ⊥) → spared f m n i < n
        by (inl g) = absurd (let same : i ≡ m = apart i m (omega arith) (omega arith) (e ∙ sym g) in omega arith)
        by (inr g) = omega (arith, below m (omega arith))
    lower i h (inr (e, s)) = omega (arith, below i (omega arith))

    unlike : (i j : ℕ) → i < m → j < m → spared f m n i ≡ spared f m n j → SparedAt f m n i → SparedAt f m n j → i ≡ j
    unlike i j h k e (inl (p, s)) (inl (q, t)) = apart i j (omega arith) (omega arith) (p ∙ sym q)
    unlike i j h k e (inl (p, s)) (inr (q, t)) = absurd (let same : m ≡ j = apart m j (omega arith) (omega arith) (sym s ∙ e ∙ t) in omega arith)
    unlike i j h k e (inr (p, s)) (inl (q, t)) = absurd (let same : i ≡ m = apart i m (omega arith) (omega arith) (sym s ∙ e ∙ t) in omega arith)
    unlike i j h k e (inr (p, s)) (inr (q, t)) = apart i j (omega arith) (omega arith) (sym s ∙ e ∙ t)

-- ---- positions

pub position_stands : (p : List ℕ) (x : ℕ) → position p x < length p → get_or p (position p x) 0 ≡ x
position_stands [] x h = omega arith
position_stands (y ∷ ys) x h = by (position_stands ys x) (cases_eq y x)
  where
    by : (position ys x < length ys → get_or ys (position ys x) 0 ≡ x) → (y ≡ x) ⊎ (y ≡ x → ⊥) → get_or (y ∷ ys) (position (y ∷ ys) x) 0 ≡ x
    by rest (inl e) = rw (eq-eqb y x e) e
    by rest (inr e) =
        let later : position (y ∷ ys) x ≡ suc (position ys x) = cond-false _ _ _ (ne_eqb y x e) in
        ap (λ (i : ℕ). get_or (y ∷ ys) i 0) later ∙ rest (omega arith)

pub before_position : (p : List ℕ) (x i : ℕ) → i < position p x → get_or p i 0 ≡ x → ⊥
before_position [] x i h e = omega arith
before_position (y ∷ ys) x i h e = by (before_position ys x) i h e (cases_eq y x)
  where
    by : ((i : ℕ) → i < position ys x → get_or ys i 0 ≡ x → ⊥) → (i : ℕ) → i < position (y ∷ ys) x → get_or (y ∷ ys) i 0 ≡ x → (y ≡ x) ⊎ (y ≡ x → ⊥) → ⊥
    by rest i h e (inl g) = let here : position (y ∷ ys) x ≡ 0 = cond-true _ _ _ (eq-eqb y x g) in omega arith
    by rest zero h e (inr g) = g e
    by rest (suc i) h e (inr g) =
        let later : position (y ∷ ys) x ≡ suc (position ys x) = cond-false _ _ _ (ne_eqb y x g) in
        rest i (omega arith) e

-- the numbers of a table, and then x
then : ℕ → List ℕ → ℕ → ℕ → ℕ
then n p x i = cond (ltb i n) (get_or p i 0) x

ThenAt : ℕ → List ℕ → ℕ → ℕ → Type 0
ThenAt n p x i = ((i < n) × (then n p x i ≡ get_or p i 0)) ⊎ ((n ≤ i) × (then n p x i ≡ x))

then_at : (n : ℕ) (p : List ℕ) (x i : ℕ) → ThenAt n p x i
unfolding then ThenAt
then_at n p x i = by (cases_lt i n)
  where
    by : (i < n) ⊎ (n ≤ i) → ThenAt n p x i
    by (inl l) = inl (l, cond-true _ _ _ (lt-ltb i n l))
    by (inr l) = inr (l, cond-false _ _ _ (le-ltb i n l))

-- a number that stood nowhere would be one too many
pub position_inside : (n : ℕ) (p : List ℕ) → IsPermutation n p → (x : ℕ) → x < n → position p x < n
unfolding ThenAt
position_inside n p is x h = by (cases_lt (position p x) n)
  where
    lower : (i : ℕ) → ThenAt n p x i → then n p x i < n
    lower i (inl (k, e)) = omega (arith, is.below i k)
    lower i (inr (k, e)) = omega arith

    unlike : n ≤ position p x → (i j : ℕ) → i < suc n → j < suc n → then n p x i ≡ then n p x j → ThenAt n p x i → ThenAt n p x j → i ≡ j
    unlike l i j a b e (inl (k, s)) (inl (m, t)) = is.apart i j k m (sym s ∙ e ∙ t)
    unlike l i j a b e (inl (k, s)) (inr (m, t)) = absurd (before_position p x i (omega arith) (sym s ∙ e ∙ t))
    unlike l i j a b e (inr (k, s)) (inl (m, t)) = absurd (before_position p x j (omega arith) (sym t ∙ sym e ∙ s))
    unlike l i j a b e (inr (k, s)) (inr (m, t)) = omega arith

    by : (position p x < n) ⊎ (n ≤ position p x) → position p x < n
    by (inl l) = l
    by (inr l) =
        let many : suc n ≤ n = pigeonhole n (suc n) (then n p x) (λ i k. lower i (then_at n p x i)) (λ i j a b e. unlike l i j a b e (then_at n p x i) (then_at n p x j)) in
        omega arith

pub onto : EveryNumberStandsOnce
onto n p is = record { position_below = inside; stands_there = stands; nowhere_else = λ i h. is.apart _ i (inside _ (is.below i h)) h (stands _ (is.below i h)) }
  where
    inside : (x : ℕ) → x < n → position p x < n
    inside = position_inside n p is

    stands : (x : ℕ) → x < n → get_or p (position p x) 0 ≡ x
    stands x h = position_stands p x (omega (arith, is.sized, inside x h))
