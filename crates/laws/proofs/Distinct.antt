-- Lists in which no number stands twice: filtered, mapped, one after another; and how long they can be.
use Rattle.std.proofs.Common.{◌≡◌, ℕ, zero, suc, ◌+◌, ◌<◌, ◌≤◌, Bool, true, false, eqb, ◌⊎◌, List, [], ◌∷◌, ◌++◌, map, length, get_or, filter, sym, refl, ap, ◌∙◌, subst, inl, inr, ⊎_elim, arith}
use Rattle.std.specs.List.{range_with_len, AllByRecursion}
use Rattle.std.proofs.lemmas.List.FromFn.{length-range_with_len, get_or-range_with_len}
use Rattle.std.proofs.lemmas.Bool.{cases_Bool, eq-eqb, eqb-true, cond-true, cond-false, or_cases, or_left, or_right, both_ways, false≢true}
use Rattle.permutations.specs.Tables.{IsPermutation, position}
use Rattle.permutations.specs.Lists.{among, Apart}
use Rattle.permutations.proofs.Tables.{pigeonhole, position_stands}
use Rattle.laws.proofs.Ranks.{among_is_has, has_stands, stands_has}
use Rattle.laws.proofs.Counting.{counted_within}

-- what is not there is absent
pub absent : (xs : List ℕ) (x : ℕ) → (among xs x ≡ true → ⊥) → among xs x ≡ false
absent xs x n = ⊎_elim (λ e. absurd (n e)) (λ e. e) (cases_Bool (among xs x))

pub among_stands : (xs : List ℕ) (x : ℕ) → among xs x ≡ true → (i : ℕ) × (i < length xs) × (get_or xs i 0 ≡ x)
among_stands xs x h = has_stands xs x (sym (among_is_has xs x) ∙ h)

pub stands_among : (xs : List ℕ) (i : ℕ) → i < length xs → among xs (get_or xs i 0) ≡ true
stands_among xs i l = among_is_has xs (get_or xs i 0) ∙ stands_has xs i l

pub all_among : (P : ℕ → Type 0) (xs : List ℕ) → AllByRecursion P xs → (x : ℕ) → among xs x ≡ true → P x
all_among P [] h x e = absurd (false≢true e)
all_among P (y ∷ ys) h x e = ⊎_elim (λ f. subst P (eqb-true y x f) h.0) (all_among P ys h.1 x) (or_cases (eqb y x) (among ys x) e)

pub among_all : (P : ℕ → Type 0) (xs : List ℕ) → ((x : ℕ) → among xs x ≡ true → P x) → AllByRecursion P xs
among_all P [] h = tt
among_all P (y ∷ ys) h = (h y (or_left (eqb y y) (among ys y) (eq-eqb y y refl)), among_all P ys (λ x e. h x (or_right (eqb y x) (among ys x) e)))

-- ---- one list after another

pub among_append : (xs ys : List ℕ) (x : ℕ) → among (xs ++ ys) x ≡ true → (among xs x ≡ true) ⊎ (among ys x ≡ true)
among_append [] ys x h = inr h
among_append (z ∷ zs) ys x h = by (among_append zs ys x) (or_cases (eqb z x) (among (zs ++ ys) x) h)
  where
    by : (among (zs ++ ys) x ≡ true → (among zs x ≡ true) ⊎ (among ys x ≡ true)) → (eqb z x ≡ true) ⊎ (among (zs ++ ys) x ≡ true) →
        (among (z ∷ zs) x ≡ true) ⊎ (among ys x ≡ true)
    by rest (inl e) = inl (or_left (eqb z x) (among zs x) e)
    by rest (inr e) = ⊎_elim (λ f. inl (or_right (eqb z x) (among zs x) f)) (λ f. inr f) (rest e)

pub among_left : (xs ys : List ℕ) (x : ℕ) → among xs x ≡ true → among (xs ++ ys) x ≡ true
among_left [] ys x h = absurd (false≢true h)
among_left (z ∷ zs) ys x h =
    ⊎_elim (or_left (eqb z x) (among (zs ++ ys) x)) (λ f. or_right (eqb z x) (among (zs ++ ys) x) (among_left zs ys x f)) (or_cases (eqb z x) (among zs x) h)

pub among_right : (xs ys : List ℕ) (x : ℕ) → among ys x ≡ true → among (xs ++ ys) x ≡ true
among_right [] ys x h = h
among_right (z ∷ zs) ys x h = or_right (eqb z x) (among (zs ++ ys) x) (among_right zs ys x h)

pub apart_append : (xs ys : List ℕ) → Apart xs → Apart ys → ((x : ℕ) → among xs x ≡ true → among ys x ≡ true → ⊥) → Apart (xs ++ ys)
apart_append [] ys h k d = k
apart_append (x ∷ xs) ys h k d = (
  absent (xs ++ ys) x (λ e. ⊎_elim (both_ways (among xs x) h.0) (d x (or_left (eqb x x) (among xs x) (eq-eqb x x refl))) (among_append xs ys x e)),
  apart_append xs ys h.1 k (λ y e f. d y (or_right (eqb x y) (among xs y) e) f),
)

-- ---- a filter

pub among_kept : (p : ℕ → Bool) (xs : List ℕ) (x : ℕ) → among (filter p xs) x ≡ true → (among xs x ≡ true) × (p x ≡ true)
among_kept p [] x h = absurd (false≢true h)
among_kept p (y ∷ ys) x h = by (cases_Bool (p y)) (among_kept p ys x)
  where
    later : (among ys x ≡ true) × (p x ≡ true) → (among (y ∷ ys) x ≡ true) × (p x ≡ true)
    later r = (or_right (eqb y x) (among ys x) r.0, r.1)

    by : (p y ≡ true) ⊎ (p y ≡ false) → (among (filter p ys) x ≡ true → (among ys x ≡ true) × (p x ≡ true)) → (among (y ∷ ys) x ≡ true) × (p x ≡ true)
    by (inl t) rest =
        let here : among (y ∷ filter p ys) x ≡ true = subst (λ (zs : List ℕ). among zs x ≡ true) (cond-true (p y) (y ∷ filter p ys) (filter p ys) t) h in
        ⊎_elim (λ e. (or_left (eqb y x) (among ys x) e, subst (λ (z : ℕ). p z ≡ true) (eqb-true y x e) t)) (λ e. later (rest e))
        (or_cases (eqb y x) (among (filter p ys) x) here)
    by (inr f) rest = later (rest (subst (λ (zs : List ℕ). among zs x ≡ true) (cond-false (p y) (y ∷ filter p ys) (filter p ys) f) h))

pub kept_among : (p : ℕ → Bool) (xs : List ℕ) (x : ℕ) → among xs x ≡ true → p x ≡ true → among (filter p xs) x ≡ true
kept_among p [] x h t = absurd (false≢true h)
kept_among p (y ∷ ys) x h t = by (cases_Bool (p y)) (or_cases (eqb y x) (among ys x) h) (λ e. kept_among p ys x e t)
  where
    by : (p y ≡ true) ⊎ (p y ≡ false) → (eqb y x ≡ true) ⊎ (among ys x ≡ true) → (among ys x ≡ true → among (filter p ys) x ≡ true) → among (filter p (y ∷ ys)) x ≡ true
    by (inl u) c rest =
        subst (λ (zs : List ℕ). among zs x ≡ true) (sym (cond-true (p y) (y ∷ filter p ys) (filter p ys) u))
        (⊎_elim (or_left (eqb y x) (among (filter p ys) x)) (λ e. or_right (eqb y x) (among (filter p ys) x) (rest e)) c)
    by (inr f) (inl e) rest = absurd (both_ways (p y) f (subst (λ (z : ℕ). p z ≡ true) (sym (eqb-true y x e)) t))
    by (inr f) (inr e) rest = subst (λ (zs : List ℕ). among zs x ≡ true) (sym (cond-false (p y) (y ∷ filter p ys) (filter p ys) f)) (rest e)

pub apart_kept : (p : ℕ → Bool) (xs : List ℕ) → Apart xs → Apart (filter p xs)
apart_kept p [] h = tt
apart_kept p (x ∷ xs) h = by (cases_Bool (p x)) (apart_kept p xs h.1)
  where
    by : (p x ≡ true) ⊎ (p x ≡ false) → Apart (filter p xs) → Apart (filter p (x ∷ xs))
    by (inl t) rest =
        subst Apart (sym (cond-true (p x) (x ∷ filter p xs) (filter p xs) t))
        (absent (filter p xs) x (λ e. both_ways (among xs x) h.0 (among_kept p xs x e).0), rest)
    by (inr f) rest = subst Apart (sym (cond-false (p x) (x ∷ filter p xs) (filter p xs) f)) rest

-- ---- an image

pub among_image : (f : ℕ → ℕ) (xs : List ℕ) (y : ℕ) → among (map f xs) y ≡ true → (x : ℕ) × (among xs x ≡ true) × (f x ≡ y)
among_image f [] y h = absurd (false≢true h)
among_image f (x ∷ xs) y h = by (among_image f xs y) (or_cases (eqb (f x) y) (among (map f xs) y) h)
  where
    by : (among (map f xs) y ≡ true → (z : ℕ) × (among xs z ≡ true) × (f z ≡ y)) → (eqb (f x) y ≡ true) ⊎ (among (map f xs) y ≡ true) →
        (z : ℕ) × (among (x ∷ xs) z ≡ true) × (f z ≡ y)
    by rest (inl e) = (x, or_left (eqb x x) (among xs x) (eq-eqb x x refl), eqb-true (f x) y e)
    by rest (inr e) = let r = rest e in (r.0, or_right (eqb x r.0) (among xs r.0) r.1, r.2)

pub image_among : (f : ℕ → ℕ) (xs : List ℕ) (x : ℕ) → among xs x ≡ true → among (map f xs) (f x) ≡ true
image_among f [] x h = absurd (false≢true h)
image_among f (y ∷ ys) x h =
    ⊎_elim (λ e. or_left (eqb (f y) (f x)) (among (map f ys) (f x)) (eq-eqb (f y) (f x) (ap f (eqb-true y x e))))
    (λ e. or_right (eqb (f y) (f x)) (among (map f ys) (f x)) (image_among f ys x e)) (or_cases (eqb y x) (among ys x) h)

pub apart_image : (f : ℕ → ℕ) (P : ℕ → Type 0) → ((x y : ℕ) → P x → P y → f x ≡ f y → x ≡ y) → (xs : List ℕ) → AllByRecursion P xs → Apart xs → Apart (map f xs)
apart_image f P one [] h k = tt
apart_image f P one (x ∷ xs) h k = (absent (map f xs) (f x) there, apart_image f P one xs h.1 k.1)
  where
    there : among (map f xs) (f x) ≡ true → ⊥
    there e =
        let r = among_image f xs (f x) e in
        let same : r.0 ≡ x = one r.0 x (all_among P xs h.1 r.0 r.1) h.0 r.2 in
        both_ways (among xs x) k.0 (subst (λ (z : ℕ). among xs z ≡ true) same r.1)

-- ---- numbers counted

pub among_counting : (n x : ℕ) → among (range_with_len 0 n) x ≡ true → x < n
among_counting n x h = let r = all_among (λ y. (0 ≤ y) × (y < 0 + n)) (range_with_len 0 n) (counted_within 0 n) x h in omega (arith, r.1)

pub counting_among : (n x : ℕ) → x < n → among (range_with_len 0 n) x ≡ true
counting_among n x l =
    let at : get_or (range_with_len 0 n) x 0 ≡ x = get_or-range_with_len 0 n x 0 l ∙ omega arith in
    subst (λ (y : ℕ). among (range_with_len 0 n) y ≡ true) at (stands_among (range_with_len 0 n) x (omega (arith, length-range_with_len 0 n)))

pub counting_apart : (a n : ℕ) → Apart (range_with_len a n)
counting_apart a zero = tt
counting_apart a (suc n) = (absent (range_with_len (a + 1) n) a (λ e. high (all_among (λ y. (a + 1 ≤ y) × (y < a + 1 + n)) (range_with_len (a + 1) n) (counted_within (a + 1) n) a e)), counting_apart (a + 1) n)
  where
    high : (a + 1 ≤ a) × (a < a + 1 + n) → ⊥
    high h = omega (arith, h.0)

-- ---- how long

pub apart_stands : (xs : List ℕ) → Apart xs → (i j : ℕ) → i < length xs → j < length xs → get_or xs i 0 ≡ get_or xs j 0 → i ≡ j
apart_stands [] h i j l k e = absurd (omega arith)
apart_stands (x ∷ xs) h zero zero l k e = refl
apart_stands (x ∷ xs) h zero (suc j) l k e = absurd (both_ways (among xs x) h.0 (subst (λ (z : ℕ). among xs z ≡ true) (sym e) (stands_among xs j (omega arith))))
apart_stands (x ∷ xs) h (suc i) zero l k e = absurd (both_ways (among xs x) h.0 (subst (λ (z : ℕ). among xs z ≡ true) e (stands_among xs i (omega arith))))
apart_stands (x ∷ xs) h (suc i) (suc j) l k e = ap suc (apart_stands xs h.1 i j (omega arith) (omega arith) e)

pub position_of_member : (xs : List ℕ) (x : ℕ) → among xs x ≡ true → position xs x < length xs
position_of_member [] x h = absurd (false≢true h)
position_of_member (y ∷ ys) x h = by (cases_Bool (eqb y x)) (position_of_member ys x)
  where
    by : (eqb y x ≡ true) ⊎ (eqb y x ≡ false) → (among ys x ≡ true → position ys x < length ys) → position (y ∷ ys) x < suc (length ys)
    by (inl e) rest = let z : position (y ∷ ys) x ≡ 0 = cond-true (eqb y x) 0 (suc (position ys x)) e in omega (arith, z)
    by (inr e) rest =
        let z : position (y ∷ ys) x ≡ suc (position ys x) = cond-false (eqb y x) 0 (suc (position ys x)) e in
        let there : among ys x ≡ true = ⊎_elim (λ f. absurd (both_ways (eqb y x) e f)) (λ f. f) (or_cases (eqb y x) (among ys x) h) in
        omega (arith, z, rest there)

-- different numbers that all stand in a list are no more than it is long
pub no_longer : (xs ys : List ℕ) → ((i j : ℕ) → i < length xs → j < length xs → get_or xs i 0 ≡ get_or xs j 0 → i ≡ j) →
    ((i : ℕ) → i < length xs → among ys (get_or xs i 0) ≡ true) → length xs ≤ length ys
no_longer xs ys one there =
    pigeonhole (length ys) (length xs) (λ i. position ys (get_or xs i 0)) (λ i l. position_of_member ys (get_or xs i 0) (there i l))
    (λ i j l k e. one i j l k (sym (stands i l) ∙ ap (λ (m : ℕ). get_or ys m 0) e ∙ stands j k))
  where
    stands : (i : ℕ) → i < length xs → get_or ys (position ys (get_or xs i 0)) 0 ≡ get_or xs i 0
    stands i l = position_stands ys (get_or xs i 0) (position_of_member ys (get_or xs i 0) (there i l))

-- n different numbers below n are all the numbers below n
pub indexes_onto : (n : ℕ) (xs : List ℕ) → length xs ≡ n → AllByRecursion (λ x. x < n) xs → Apart xs → IsPermutation n xs
indexes_onto n xs long below apart = record {
  sized = long;
  below = λ i l. all_among (λ x. x < n) xs below (get_or xs i 0) (stands_among xs i (omega arith));
  apart = λ i j l k e. apart_stands xs apart i j (omega arith) (omega arith) e;
}
