-- Rising lists: members stand at their ranks; and addresses that pass a test, read off in order.
use Rattle.std.proofs.Common.{◌≡◌, ℕ, zero, suc, ◌+◌, ◌<◌, ◌≤◌, Bool, true, false, cond, ◌||◌, eqb, ◌≢◌, ◌⊎◌, List, [], ◌∷◌, length, get_or, filter, sym, refl, ap, ◌∙◌, subst, inl, inr, ⊎_elim, arith}
use Rattle.std.specs.List.{range_with_len, AllByRecursion}
use Rattle.std.proofs.ByRecursion.{All-get_or, All-weaker, all_kept_by}
use Rattle.std.proofs.lemmas.Bool.{cases_Bool, cases_eq, cases_lt, eq-eqb, ne_eqb, eqb-true, lt-ltb, le-ltb, cond-true, or_cases, or_left, or_right, false≢true}
use Rattle.index.specs.Lists.{has, smaller, Rising}
use Rattle.permutations.specs.Lists.{among}
use Rattle.laws.proofs.Booleans.{or_false, or_assoc}
use Rattle.laws.proofs.Counting.{counted_within, kept_alike}

pub rising_tail : (x : ℕ) (xs : List ℕ) → Rising (x ∷ xs) → Rising xs
rising_tail x xs h i j l k = h (suc i) (suc j) (omega arith) (omega arith)

-- members stand somewhere, and what stands somewhere is a member
pub has_stands : (xs : List ℕ) (x : ℕ) → has xs x ≡ true → (i : ℕ) × (i < length xs) × (get_or xs i 0 ≡ x)
has_stands [] x h = absurd (false≢true h)
has_stands (y ∷ ys) x h = by (has_stands ys x) (or_cases (eqb y x) (has ys x) h)
  where
    by : (has ys x ≡ true → (i : ℕ) × (i < length ys) × (get_or ys i 0 ≡ x)) → (eqb y x ≡ true) ⊎ (has ys x ≡ true) →
        (i : ℕ) × (i < length (y ∷ ys)) × (get_or (y ∷ ys) i 0 ≡ x)
    by later (inl e) = (0, omega arith, eqb-true y x e)
    by later (inr e) = let r = later e in (suc r.0, omega (arith, r.1), r.2)

pub stands_has : (xs : List ℕ) (i : ℕ) → i < length xs → has xs (get_or xs i 0) ≡ true
stands_has [] i l = absurd (omega arith)
stands_has (y ∷ ys) zero l = or_left (eqb y y) (has ys y) (eq-eqb y y refl)
stands_has (y ∷ ys) (suc i) l = or_right (eqb y (get_or ys i 0)) (has ys (get_or ys i 0)) (stands_has ys i (omega arith))

pub rising_apart : (xs : List ℕ) → Rising xs → (i j : ℕ) → i < length xs → j < length xs → get_or xs i 0 ≡ get_or xs j 0 → i ≡ j
rising_apart xs h i j l k e = by (cases_lt i j) (cases_lt j i)
  where
    by : (i < j) ⊎ (j ≤ i) → (j < i) ⊎ (i ≤ j) → i ≡ j
    by (inl m) q = absurd (omega (arith, h i j m k))
    by (inr m) (inl n) = absurd (omega (arith, h j i n l))
    by (inr m) (inr n) = omega arith

-- a member stands at its rank
pub rank_of_stands : (xs : List ℕ) → Rising xs → (i : ℕ) → i < length xs → smaller xs (get_or xs i 0) ≡ i
rank_of_stands [] h i l = absurd (omega arith)
rank_of_stands (y ∷ ys) h zero l = ap (λ (b : Bool). cond b 1 0 + smaller ys y) (le-ltb y y (omega arith)) ∙ omega (arith, none ys (λ j k. h 0 (suc j) (omega arith) (omega arith)))
  where
    none : (zs : List ℕ) → ((j : ℕ) → j < length zs → y < get_or zs j 0) → smaller zs y ≡ 0
    none [] more = refl
    none (z ∷ zs) more = ap (λ (b : Bool). cond b 1 0 + smaller zs y) (le-ltb z y (omega (arith, more 0 (omega arith)))) ∙ omega (arith, none zs (λ j k. more (suc j) (omega arith)))
rank_of_stands (y ∷ ys) h (suc i) l =
    ap (λ (b : Bool). cond b 1 0 + smaller ys (get_or ys i 0)) (lt-ltb y (get_or ys i 0) (h 0 (suc i) (omega arith) l))
    ∙ omega (arith, rank_of_stands ys (rising_tail y ys h) i (omega arith))

pub rank_below : (xs : List ℕ) → Rising xs → (x : ℕ) → has xs x ≡ true → smaller xs x < length xs
rank_below xs h x e =
    let r = has_stands xs x e in
    let same : smaller xs (get_or xs r.0 0) ≡ r.0 = rank_of_stands xs h r.0 r.1 in
    subst (λ (k : ℕ). k < length xs) (sym same ∙ ap (smaller xs) r.2) r.1

pub rank_stands : (xs : List ℕ) → Rising xs → (x : ℕ) → has xs x ≡ true → get_or xs (smaller xs x) 0 ≡ x
rank_stands xs h x e =
    let r = has_stands xs x e in
    let same : smaller xs (get_or xs r.0 0) ≡ r.0 = rank_of_stands xs h r.0 r.1 in
    ap (λ (k : ℕ). get_or xs k 0) (ap (smaller xs) (sym r.2) ∙ same) ∙ r.2

-- the rank of a member is a position, and there it stands
pub rank_place : (xs : List ℕ) (a : ℕ) → Rising xs → has xs a ≡ true → (smaller xs a < length xs) × (get_or xs (smaller xs a) 0 ≡ a)
rank_place xs a h e = (rank_below xs h a e, rank_stands xs h a e)

-- ---- addresses that pass a test

abbrev Within : ℕ → ℕ → ℕ → Type 0
Within a n x = (a ≤ x) × (x < a + n)

rising_cons : (x : ℕ) (xs : List ℕ) → AllByRecursion (λ y. x < y) xs → Rising xs → Rising (x ∷ xs)
rising_cons x xs more rises zero zero h l = omega arith
rising_cons x xs more rises zero (suc j) h l = All-get_or (λ y. x < y) xs j 0 (omega arith) more
rising_cons x xs more rises (suc i) zero h l = omega arith
rising_cons x xs more rises (suc i) (suc j) h l = rises i j (omega arith) (omega arith)

kept_within : (p : ℕ → Bool) (a n : ℕ) → AllByRecursion (Within a n) (filter p (range_with_len a n))
kept_within p a n = all_kept_by p (Within a n) (range_with_len a n) (counted_within a n)

pub kept_below : (p : ℕ → Bool) (n j : ℕ) → j < length (filter p (range_with_len 0 n)) → get_or (filter p (range_with_len 0 n)) j 0 < n
kept_below p n j l = omega (arith, (All-get_or (Within 0 n) (filter p (range_with_len 0 n)) j 0 l (kept_within p 0 n)).1)

pub kept_rises : (p : ℕ → Bool) (a n : ℕ) → Rising (filter p (range_with_len a n))
kept_rises p a zero = λ i j h l. omega arith
kept_rises p a (suc n) = by (kept_rises p (a + 1) n) (p a)
  where
    by : Rising (filter p (range_with_len (a + 1) n)) → (b : Bool) → Rising (cond b (a ∷ filter p (range_with_len (a + 1) n)) (filter p (range_with_len (a + 1) n)))
    by rest true =
        rising_cons a (filter p (range_with_len (a + 1) n))
        (All-weaker (Within (a + 1) n) (λ y. a < y) (λ y w. omega arith) (filter p (range_with_len (a + 1) n)) (kept_within p (a + 1) n)) rest
    by rest false = rest

has_none : (xs : List ℕ) (x : ℕ) → AllByRecursion (λ y. y ≢ x) xs → has xs x ≡ false
has_none [] x h = refl
has_none (y ∷ ys) x h = rw (ne_eqb y x h.0) (has_none ys x h.1)

pub kept_has : (p : ℕ → Bool) (a n x : ℕ) → a ≤ x → x < a + n → has (filter p (range_with_len a n)) x ≡ p x
kept_has p a zero x l h = absurd (omega arith)
kept_has p a (suc n) x l h = go (λ ne. kept_has p (a + 1) n x (omega arith) (omega arith)) (cases_eq a x) (cases_Bool (p a))
  where
    absent : a ≡ x → has (filter p (range_with_len (a + 1) n)) x ≡ false
    absent e =
        has_none (filter p (range_with_len (a + 1) n)) x
        (All-weaker (Within (a + 1) n) (λ y. y ≢ x) (λ y w f. omega arith) (filter p (range_with_len (a + 1) n)) (kept_within p (a + 1) n))

    go : (a ≢ x → has (filter p (range_with_len (a + 1) n)) x ≡ p x) → (a ≡ x) ⊎ (a ≡ x → ⊥) → (p a ≡ true) ⊎ (p a ≡ false) → has (filter p (range_with_len a (suc n))) x ≡ p x
    go rest (inl e) (inl t) = rw (t, eq-eqb a x e) (sym (ap p (sym e) ∙ t))
    go rest (inl e) (inr f) = rw f (absent e ∙ sym (ap p (sym e) ∙ f))
    go rest (inr ne) (inl t) = rw (t, ne_eqb a x ne) (rest ne)
    go rest (inr ne) (inr f) = rw f (rest ne)

pub has_kept : (p : ℕ → Bool) (n x : ℕ) → x < n → has (filter p (range_with_len 0 n)) x ≡ p x
has_kept p n x l = kept_has p 0 n x (omega arith) (omega arith)

-- what is kept passes the test and was counted
pub kept_passes : (p : ℕ → Bool) (n x : ℕ) → has (filter p (range_with_len 0 n)) x ≡ true → (x < n) × (p x ≡ true)
kept_passes p n x h =
    let r = has_stands (filter p (range_with_len 0 n)) x h in
    let inside : Within 0 n (get_or (filter p (range_with_len 0 n)) r.0 0) = All-get_or (Within 0 n) (filter p (range_with_len 0 n)) r.0 0 r.1 (kept_within p 0 n) in
    let low : x < n = omega (arith, inside.1, r.2) in
    (low, sym (kept_has p 0 n x (omega arith) (omega arith)) ∙ h)

-- where all pass, all are kept
pub kept_all : (p : ℕ → Bool) (a n : ℕ) → ((x : ℕ) → a ≤ x → x < a + n → p x ≡ true) → filter p (range_with_len a n) ≡ range_with_len a n
kept_all p a zero h = refl
kept_all p a (suc n) h =
    let rest : filter p (range_with_len (a + 1) n) ≡ range_with_len (a + 1) n = kept_all p (a + 1) n (λ x l m. h x (omega arith) (omega arith)) in
    cond-true (p a) (a ∷ filter p (range_with_len (a + 1) n)) (filter p (range_with_len (a + 1) n)) (h a (omega arith) (omega arith)) ∙ ap (λ (xs : List ℕ). a ∷ xs) rest

-- tests that agree on what was counted keep the same
pub kept_same : (p q : ℕ → Bool) (s n : ℕ) → ((x : ℕ) → s ≤ x → x < s + n → p x ≡ q x) → filter p (range_with_len s n) ≡ filter q (range_with_len s n)
kept_same p q s n h = kept_alike (Within s n) p q (λ x w. h x w.0 w.1) (range_with_len s n) (counted_within s n)

-- ---- how many are kept

-- a number that is not among them makes no difference
kept_none_more : (p : ℕ → Bool) (y s n : ℕ) → y < s → filter (λ x. p x || eqb y x) (range_with_len s n) ≡ filter p (range_with_len s n)
kept_none_more p y s n l =
    kept_same (λ x. p x || eqb y x) p s n (λ x m k. ap (λ b. p x || b) (ne_eqb y x (λ e. omega arith)) ∙ or_false (p x))

-- one number more that passes
kept_one_more : (p : ℕ → Bool) (y s n : ℕ) → length (filter (λ x. p x || eqb y x) (range_with_len s n)) ≤ suc (length (filter p (range_with_len s n)))
kept_one_more p y s zero = omega arith
kept_one_more p y s (suc n) =
    by (filter (λ x. p x || eqb y x) (range_with_len (s + 1) n)) (filter p (range_with_len (s + 1) n)) (p s) (eqb y s)
    (λ e. ap length (kept_none_more p y (s + 1) n (omega (arith, eqb-true y s e)))) (kept_one_more p y (s + 1) n)
  where
    by : (xs ys : List ℕ) (b c : Bool) → (c ≡ true → length xs ≡ length ys) → length xs ≤ suc (length ys) →
        length (cond (b || c) (s ∷ xs) xs) ≤ suc (length (cond b (s ∷ ys) ys))
    by xs ys true c e h = omega arith
    by xs ys false true e h = omega (arith, e refl)
    by xs ys false false e h = h

-- a list more of numbers that pass
pub kept_list_more : (p : ℕ → Bool) (ys : List ℕ) (n : ℕ) →
    length (filter (λ x. p x || has ys x) (range_with_len 0 n)) ≤ length (filter p (range_with_len 0 n)) + length ys
kept_list_more p [] n =
    let same : filter (λ x. p x || false) (range_with_len 0 n) ≡ filter p (range_with_len 0 n) = kept_same (λ x. p x || false) p 0 n (λ x l m. or_false (p x)) in
    omega (arith, ap length same)
kept_list_more p (y ∷ ys) n =
    let same : filter (λ x. p x || (eqb y x || has ys x)) (range_with_len 0 n) ≡ filter (λ x. (p x || eqb y x) || has ys x) (range_with_len 0 n) =
    kept_same (λ x. p x || (eqb y x || has ys x)) (λ x. (p x || eqb y x) || has ys x) 0 n (λ x l m. sym (or_assoc (p x) (eqb y x) (has ys x))) in
    omega (arith, ap length same, kept_list_more (λ x. p x || eqb y x) ys n, kept_one_more p y 0 n)

-- one number alone passes
pub kept_alone : (a n : ℕ) → length (filter (λ x. eqb x a) (range_with_len 0 n)) ≤ 1
kept_alone a n =
    let turned : filter (λ x. eqb x a) (range_with_len 0 n) ≡ filter (λ x. false || eqb a x) (range_with_len 0 n) =
    kept_same (λ x. eqb x a) (λ x. false || eqb a x) 0 n (λ x l m. eqb_turned x a) in
    omega (arith, ap length turned, kept_one_more (λ x. false) a 0 n, kept_nothing 0 n)
  where
    eqb_turned : (x a : ℕ) → eqb x a ≡ eqb a x
    eqb_turned x a = ⊎_elim (λ e. eq-eqb x a e ∙ sym (eq-eqb a x (sym e))) (λ d. ne_eqb x a d ∙ sym (ne_eqb a x (λ e. d (sym e)))) (cases_eq x a)

    kept_nothing : (s n : ℕ) → length (filter (λ x. false) (range_with_len s n)) ≡ 0
    kept_nothing s zero = refl
    kept_nothing s (suc n) = kept_nothing (s + 1) n

-- ---- standing in a list

pub among_is_has : (xs : List ℕ) (x : ℕ) → among xs x ≡ has xs x
among_is_has [] x = refl
among_is_has (y ∷ ys) x = ap (λ (b : Bool). eqb y x || b) (among_is_has ys x)
