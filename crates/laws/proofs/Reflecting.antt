-- Tests that fail exactly where a condition holds.
use Rattle.std.proofs.Common.{◌≡◌, ℕ, zero, suc, ◌<◌, ◌≤◌, Bool, true, false, cond, ◌&&◌, eqb, ltb, leb, ◌⊎◌, List, [], ◌∷◌, length, Some, None, Option, sym, refl, ◌∙◌, subst, inl, inr, arith}
use Rattle.std.proofs.lemmas.Bool.{true≢false, eqb-true, eqb-false, leb-true, leb-false, ltb-true, ltb-false, and_parts, and_cases}
use Rattle.shape.specs.Numbers.{levels_fit, width_fits, places_needed}
use Rattle.shape.specs.declared.refusal.Refusal.{Refusal}
use Rattle.shape.specs.declared.refusal.Refusal.TheVariants.{OutOfRange, StoreUnfit, IndexOrSupplyUnfit}
use Rattle.rules.specs.Opening.{Parts, all_empty, opening_answer}
use Rattle.laws.specs.Refusals.{IsOutOfRange, IsStoreUnfit, SomeFilled, IsIndexOrSupplyUnfit, OtherOperation}
use Rattle.laws.proofs.FirstFailing.{Reflects, reflects_and}

pub reflects_eqb : (m n k : ℕ) → n ≡ k → Reflects (eqb m n) (m ≡ k → ⊥)
reflects_eqb m n k e = (λ t f. f (eqb-true m n t ∙ e), λ t g. eqb-false m n t (g ∙ sym e))

pub reflects_leb : (m n k : ℕ) → m ≡ k → Reflects (leb m n) (n < k)
reflects_leb m n k e = (λ t l. let f : m ≤ n = leb-true m n t in omega arith, λ t. let f : n < m = leb-false m n t in omega arith)

pub reflects_ltb : (m n k l : ℕ) → m ≡ k → n ≡ l → Reflects (ltb m n) (l ≤ k)
reflects_ltb m n k l d e = (λ t f. let g : m < n = ltb-true m n t in omega arith, λ t. let g : n ≤ m = ltb-false m n t in omega arith)

pub reflects_operation : (op : ℕ) → Reflects (leb op 1) (OtherOperation op)
reflects_operation op =
    (λ t f. low op (leb-true op 1 t) f, λ t. let g : 1 < op = leb-false op 1 t in (λ e. omega arith, λ e. omega arith))
  where
    low : (n : ℕ) → n ≤ 1 → OtherOperation n → ⊥
    low zero h f = f.0 refl
    low (suc zero) h f = f.1 refl
    low (suc (suc n)) h f = omega arith

-- ---- at opening

reflects_empty : (lists : List (List ℕ)) → Reflects (all_empty lists) (SomeFilled lists)
reflects_empty [] = (λ t f. let l : f.0 < 0 = f.1 in omega arith, λ t. absurd (true≢false t))
reflects_empty (xs ∷ lists) = (empty (reflects_empty lists).0, filled (reflects_empty lists).1)
  where
    empty : (all_empty lists ≡ true → SomeFilled lists → ⊥) → all_empty (xs ∷ lists) ≡ true → SomeFilled (xs ∷ lists) → ⊥
    empty rest t (zero, l, f) = let e : length xs ≡ 0 = eqb-true _ _ (and_parts _ _ t).0 in omega arith
    empty rest t (suc i, l, f) = rest (and_parts _ _ t).1 (i, omega arith, f)

    filled : (all_empty lists ≡ false → SomeFilled lists) → all_empty (xs ∷ lists) ≡ false → SomeFilled (xs ∷ lists)
    filled rest t = by (and_cases _ _ t)
      where
        by : (eqb (length xs) 0 ≡ false) ⊎ (all_empty lists ≡ false) → SomeFilled (xs ∷ lists)
        by (inl e) = (0, omega arith, omega (arith, eqb-false (length xs) 0 e))
        by (inr e) = let f = rest e in (suc f.0, omega (arith, f.1), f.2)

pub reflects_range : (L W : ℕ) → Reflects (levels_fit L && width_fits W) (IsOutOfRange L W)
reflects_range L W =
    reflects_and (levels_fit L) (width_fits W) _ _
    (reflects_and (leb 1 L) (leb L 12) _ _ (reflects_leb 1 L 1 refl) (reflects_leb L 12 L refl))
    (reflects_and (leb 1 W) (leb W 512) _ _ (reflects_leb 1 W 1 refl) (reflects_leb W 512 W refl))

pub reflects_store : (L W : ℕ) (p : Parts) →
    Reflects (eqb p.store_width W && leb (places_needed L) (length p.store_slots)) (IsStoreUnfit L W p)
reflects_store L W p = reflects_and _ _ _ _ (reflects_eqb p.store_width W W refl) (reflects_leb (places_needed L) (length p.store_slots) _ refl)

pub reflects_parts : (L : ℕ) (p : Parts) →
    Reflects (eqb (length p.index_lists) L && (eqb p.supply_top L && all_empty p.index_lists)) (IsIndexOrSupplyUnfit L p)
reflects_parts L p =
    reflects_and _ _ _ _ (reflects_eqb (length p.index_lists) L L refl)
    (reflects_and _ _ _ _ (reflects_eqb p.supply_top L L refl) (reflects_empty p.index_lists))

abbrev pub is_none : Option Refusal → Bool
is_none o = elim o [ Some r ↦ false | None ↦ true ]

all_passed : (a b c : Bool) (p q r : Refusal) → is_none (cond a (cond b (cond c None (Some r)) (Some q)) (Some p)) ≡ (a && (b && c))
all_passed true true true p q r = refl
all_passed true true false p q r = refl
all_passed true false c p q r = refl
all_passed false b c p q r = refl

pub reflects_opening : (L W : ℕ) (p : Parts) →
    Reflects (is_none (opening_answer L W p)) (IsOutOfRange L W ⊎ (IsStoreUnfit L W p ⊎ IsIndexOrSupplyUnfit L p))
reflects_opening L W p =
    let range = levels_fit L && width_fits W in
    let store = eqb p.store_width W && leb (places_needed L) (length p.store_slots) in
    let parts = eqb (length p.index_lists) L && (eqb p.supply_top L && all_empty p.index_lists) in
    subst (λ b. Reflects b (IsOutOfRange L W ⊎ (IsStoreUnfit L W p ⊎ IsIndexOrSupplyUnfit L p)))
    (sym (all_passed range store parts OutOfRange StoreUnfit IndexOrSupplyUnfit))
    (reflects_and _ _ _ _ (reflects_range L W) (reflects_and _ _ _ _ (reflects_store L W p) (reflects_parts L p)))
