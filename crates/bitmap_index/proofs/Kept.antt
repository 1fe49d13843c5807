-- A filter of consecutive addresses: what it has, what lies below and what a new address adds are told by the test.
use Rattle.std.specs.Prelude.{◌≡◌, ℕ, zero, suc, ◌+◌, ◌<◌, ◌≤◌, Bool, true, false, ◌&&◌, ◌≢◌, ◌⊎◌, List, [], ◌∷◌, ◌++◌, map, length, filter, nat_le, nat_lt, refl}
use Rattle.std.proofs.Common.{inl, inr, ap, ◌∙◌, suc-add, arith}
use Rattle.std.specs.List.{range_with_len}
use Rattle.std.proofs.lemmas.List.Elements.{filter-append}
use Rattle.std.proofs.lemmas.Bool.{cases_eq}
use Rattle.std.proofs.lemmas.Bool.Decides.{nat_tests}
use Rattle.index.specs.Lists.{has, smaller, above}
use Rattle.bitmap_index.specs.Bitmap.{past_last}

pub counting_split : (a n m : ℕ) → range_with_len a (n + m) ≡ range_with_len a n ++ range_with_len (a + n) m
counting_split a zero m = grind arith
counting_split a (suc n) m = grind (arith, suc-add n m, counting_split (a + 1) n m)

pub kept_split : (p : ℕ → Bool) (a n m : ℕ) → filter p (range_with_len a (n + m)) ≡ filter p (range_with_len a n) ++ filter p (range_with_len (a + n) m)
kept_split p a n m = ap (filter p) (counting_split a n m) ∙ filter-append p (range_with_len a n) (range_with_len (a + n) m)

pub kept_same : (p q : ℕ → Bool) (a n : ℕ) → ((k : ℕ) → a ≤ k → k < a + n → p k ≡ q k) → filter p (range_with_len a n) ≡ filter q (range_with_len a n)
kept_same p q a zero h = refl
kept_same p q a (suc n) h = grind (arith, h a (omega arith) (omega arith), kept_same p q (a + 1) n (λ k l m. h k (omega arith) (omega arith)))

pub kept_none : (p : ℕ → Bool) (a n : ℕ) → ((k : ℕ) → a ≤ k → k < a + n → p k ≡ false) → filter p (range_with_len a n) ≡ []
kept_none p a zero h = refl
kept_none p a (suc n) h = grind (arith, h a (omega arith) (omega arith), kept_none p (a + 1) n (λ k l m. h k (omega arith) (omega arith)))

pub kept_shift : (p : ℕ → Bool) (a b c n : ℕ) → a + b ≡ c → filter p (range_with_len c n) ≡ map (λ j. a + j) (filter (λ j. p (a + j)) (range_with_len b n))
kept_shift p a b c zero e = refl
kept_shift p a b c (suc n) e = grind (arith, e, kept_shift p a (b + 1) (c + 1) n (omega arith))

pub kept_has : (p : ℕ → Bool) (a n x : ℕ) → has (filter p (range_with_len a n)) x ≡ (p x && (nat_le a x && nat_lt x (a + n)))
kept_has p a zero x = grind (arith, nat_tests)
kept_has p a (suc n) x = grind (arith, nat_tests, kept_has p (a + 1) n x)

-- ---- how many are smaller

smaller_none : (p : ℕ → Bool) (b n a : ℕ) → a ≤ b → smaller (filter p (range_with_len b n)) a ≡ 0
smaller_none p b zero a h = refl
smaller_none p b (suc n) a h = grind (arith, nat_tests, smaller_none p (b + 1) n a)

pub smaller_kept : (p : ℕ → Bool) (b n m a : ℕ) → b + m ≡ a → m ≤ n → smaller (filter p (range_with_len b n)) a ≡ length (filter p (range_with_len b m))
smaller_kept p b n zero a e h = smaller_none p b n a (omega arith)
smaller_kept p b zero (suc m) a e h = absurd (omega arith)
smaller_kept p b (suc n) (suc m) a e h = grind (arith, nat_tests, smaller_kept p (b + 1) n m a (omega arith) (omega arith))

-- ---- above every member

pub above_past_last : (xs : List ℕ) (a : ℕ) → above xs a ≡ nat_le (past_last xs) a
above_past_last [] a = grind (arith, nat_tests)
above_past_last (x ∷ xs) a = grind (arith, nat_tests, above_past_last xs a)

pub past_last_push : (xs : List ℕ) (a : ℕ) → past_last xs ≤ a → past_last (xs ++ a ∷ []) ≡ a + 1
past_last_push [] a h = omega arith
past_last_push (x ∷ xs) a h = omega (arith, past_last_push xs a (omega arith))

above_none : (p : ℕ → Bool) (b n a : ℕ) → a ≤ b → above (filter p (range_with_len b n)) a ≡ true → filter p (range_with_len b n) ≡ []
above_none p b zero a h over = refl
above_none p b (suc n) a h over = grind (arith, nat_tests, above_none p (b + 1) n a)

-- one more member, above all others
pub kept_push : (p q : ℕ → Bool) (b n a : ℕ) → b ≤ a → a < b + n → ((k : ℕ) → b ≤ k → k < b + n → k ≢ a → q k ≡ p k) → q a ≡ true → above (filter p (range_with_len b n)) a ≡ true → filter q (range_with_len b n) ≡ filter p (range_with_len b n) ++ a ∷ []
kept_push p q b zero a l h same here over = absurd (omega arith)
kept_push p q b (suc n) a l h same here over =
    go (λ ne. kept_push p q (b + 1) n a (omega arith) (omega arith) (λ k i j. same k (omega arith) (omega arith)) here) (cases_eq b a)
  where
    go : (b ≢ a → above (filter p (range_with_len (b + 1) n)) a ≡ true → filter q (range_with_len (b + 1) n) ≡ filter p (range_with_len (b + 1) n) ++ a ∷ []) → (b ≡ a) ⊎ (b ≢ a) → filter q (range_with_len b (suc n)) ≡ filter p (range_with_len b (suc n)) ++ a ∷ []
    go rest (inl e) = grind (arith, nat_tests, above_none p (b + 1) n a, kept_same q p (b + 1) n (λ k i j. same k (omega arith) (omega arith) (λ f. omega arith)))
    go rest (inr ne) = grind (arith, nat_tests, same b (omega arith) (omega arith) ne, rest ne)
