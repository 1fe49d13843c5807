-- The slots after requests: what no request writes is as before, and what is written once is there.
use Rattle.std.proofs.Common.{◌≡◌, ℕ, zero, suc, ◌+◌, ◌<◌, ◌≤◌, Bool, true, false, cond, ◌⊎◌, List, [], ◌∷◌, ◌++◌, map, length, set, sym, refl, ap, ◌∙◌, subst, inl, inr, arith}
use Rattle.std.specs.List.{range_with_len, AllByRecursion}
use Rattle.std.proofs.ByRecursion.{All-append, All-map}
use Rattle.std.proofs.lemmas.List.{get_or-set_same, get_or-set_other, length-set}
use Rattle.std.proofs.lemmas.Bool.{cases_eq, false≢true}
use Rattle.store.specs.State.{Slot, slot_at}
use Rattle.store.specs.Requests.{Request, wrote}
use Rattle.rules.specs.Slots.{read_round, write_round}

-- no request writes place p
abbrev pub Spares : ℕ → Request → Type 0
Spares p r = r.entry.write ≡ true → r.entry.place ≡ p → ⊥

abbrev pub Spared : ℕ → List Request → Type 0
Spared p rs = AllByRecursion (Spares p) rs

-- a place that no request writes is as before
pub spared_as_before : (slots : List Slot) (rs : List Request) (p : ℕ) → Spared p rs → slot_at (wrote slots rs) p ≡ slot_at slots p
spared_as_before slots [] p h = refl
spared_as_before slots (r ∷ rs) p h =
    spared_as_before (cond r.entry.write (set slots r.entry.place r.slot) slots) rs p h.1 ∙ one r.entry.write h.0
  where
    one : (b : Bool) → (b ≡ true → r.entry.place ≡ p → ⊥) → slot_at (cond b (set slots r.entry.place r.slot) slots) p ≡ slot_at slots p
    one true n = get_or-set_other slots r.entry.place p r.slot (record { key = 0; bytes = [] }) (λ e. n refl (sym e))
    one false n = refl

pub spared_append : (p : ℕ) (rs qs : List Request) → Spared p rs → Spared p qs → Spared p (rs ++ qs)
spared_append p rs qs = All-append (Spares p) rs qs

-- ---- requests numbered by counting

-- what holds of every number from a, n of them, holds of them all
pub all_counting : (P : ℕ → Type 0) (a n : ℕ) → ((i : ℕ) → a ≤ i → i < a + n → P i) → AllByRecursion P (range_with_len a n)
all_counting P a zero h = tt
all_counting P a (suc n) h = (h a (omega arith) (omega arith), all_counting P (a + 1) n (λ i low high. h i (omega arith) (omega arith)))

-- reads spare every place
pub reads_spare : (p : ℕ) (g : ℕ → ℕ) (f : ℕ → Slot) (is : List ℕ) → Spared p (map (λ k. read_round (g k) (f k)) is)
reads_spare p g f [] = tt
reads_spare p g f (i ∷ is) = ((λ e q. false≢true e), reads_spare p g f is)

-- writes spare a place that is none of theirs
pub writes_spare : (p : ℕ) (g : ℕ → ℕ) (f : ℕ → Slot) (a n : ℕ) → ((i : ℕ) → a ≤ i → i < a + n → g i ≡ p → ⊥) →
    Spared p (map (λ k. write_round (g k) (f k)) (range_with_len a n))
writes_spare p g f a n h =
    All-map (Spares p) (λ k. write_round (g k) (f k)) (range_with_len a n) (all_counting (λ k. Spares p (write_round (g k) (f k))) a n (λ i low high e q. h i low high q))

-- writes at places that differ leave each its slot
pub written_there : (slots : List Slot) (g : ℕ → ℕ) (f : ℕ → Slot) → ((i j : ℕ) → g i ≡ g j → i ≡ j) →
    (a n i : ℕ) → a ≤ i → i < a + n → g i < length slots →
    slot_at (wrote slots (map (λ k. write_round (g k) (f k)) (range_with_len a n))) (g i) ≡ f i
written_there slots g f apart a zero i low high inside = absurd (omega arith)
written_there slots g f apart a (suc n) i low high inside =
    by (cases_eq i a) (λ l m. written_there (set slots (g a) (f a)) g f apart (a + 1) n i l m (omega (arith, length-set slots (g a) (f a))))
  where
    by : (i ≡ a) ⊎ (i ≡ a → ⊥) →
        (a + 1 ≤ i → i < (a + 1) + n → slot_at (wrote (set slots (g a) (f a)) (map (λ k. write_round (g k) (f k)) (range_with_len (a + 1) n))) (g i) ≡ f i) →
        slot_at (wrote (set slots (g a) (f a)) (map (λ k. write_round (g k) (f k)) (range_with_len (a + 1) n))) (g i) ≡ f i
    by (inl e) later =
        spared_as_before (set slots (g a) (f a)) (map (λ k. write_round (g k) (f k)) (range_with_len (a + 1) n)) (g i)
        (writes_spare (g i) g f (a + 1) n (λ j l m q. omega (arith, apart j i q)))
        ∙ ap (λ (k : ℕ). slot_at (set slots (g a) (f a)) (g k)) e
        ∙ get_or-set_same slots (g a) (f a) (record { key = 0; bytes = [] }) (subst (λ (k : ℕ). g k < length slots) e inside)
        ∙ ap f (sym e)
    by (inr e) later = later (omega arith) (omega arith)
