-- Stretches of a list, and what is in them.
use Rattle.std.proofs.Common.{◌≡◌, ℕ, zero, suc, ◌+◌, ◌≤◌, Bool, true, false, ◌||◌, eqb, List, [], ◌∷◌, ◌++◌, length, take, drop, sym, refl, ap, ◌∙◌, zero-add, arith}
use Rattle.std.proofs.lemmas.List.{drop-drop, length-drop, take-append-le, drop-append-le}
use Rattle.index.specs.Lists.{has}

or_assoc : (a b c : Bool) → ((a || b) || c) ≡ (a || (b || c))
or_assoc true b c = refl
or_assoc false b c = refl

pub or_turn : (a b : Bool) → (a || b) ≡ (b || a)
or_turn true true = refl
or_turn true false = refl
or_turn false true = refl
or_turn false false = refl

pub has_append : (xs ys : List ℕ) (x : ℕ) → has (xs ++ ys) x ≡ (has xs x || has ys x)
has_append [] ys x = refl
has_append (y ∷ xs) ys x = ap (λ b. eqb y x || b) (has_append xs ys x) ∙ sym (or_assoc (eqb y x) (has xs x) (has ys x))

take_sum : (i j : ℕ) (xs : List ℕ) → take (i + j) xs ≡ take i xs ++ take j (drop i xs)
take_sum zero j xs = ap (λ n. take n xs) (zero-add j)
take_sum (suc i) j [] = ap (λ n. take {A = ℕ} n []) (let e : suc i + j ≡ suc (i + j) = omega arith in e) ∙ sym (none j)
  where
    none : (n : ℕ) → take {A = ℕ} n [] ≡ []
    none zero = refl
    none (suc n) = refl
take_sum (suc i) j (x ∷ xs) = ap (λ n. take n (x ∷ xs)) (let e : suc i + j ≡ suc (i + j) = omega arith in e) ∙ ap (λ ys. x ∷ ys) (take_sum i j xs)

-- a stretch, and the next
pub stretches_join : (i j m : ℕ) (xs : List ℕ) → take (i + j) (drop m xs) ≡ take i (drop m xs) ++ take j (drop (m + i) xs)
stretches_join i j m xs = take_sum i j (drop m xs) ∙ ap (λ ys. take i (drop m xs) ++ take j ys) (drop-drop i m xs)

-- a stretch stays where more is added behind
pub stretch_stays : (n m : ℕ) (xs ys : List ℕ) → m + n ≤ length xs → take n (drop m (xs ++ ys)) ≡ take n (drop m xs)
stretch_stays n m xs ys h =
    ap (take n) (drop-append-le m xs ys (omega arith)) ∙ take-append-le n (drop m xs) ys (omega (arith, length-drop m xs))
