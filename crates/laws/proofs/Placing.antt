-- New indexes: blocks take their ranks in the new list, and dummies the indexes from its length on; so each slot of the new level gets what its index says.
use Rattle.std.proofs.Common.{◌≡◌, ℕ, suc, ◌+◌, ◌<◌, ◌≤◌, true, false, cond, eqb, ltb, ◌⊎◌, List, [], ◌∷◌, map, length, get_or, sym, refl, ap, ◌∙◌, subst, inl, inr, ⊎_elim, arith}
use Rattle.std.specs.List.{AllByRecursion}
use Rattle.std.proofs.ByRecursion.{All-weaker}
use Rattle.std.proofs.lemmas.Bool.{cases_Bool, eq-eqb, eqb-true, lt-ltb, le-ltb, cond-true, cond-false, or_cases, or_left, or_right, both_ways, false≢true}
use Rattle.store.specs.State.{Slot}
use Rattle.index.specs.Lists.{has, smaller, Rising}
use Rattle.permutations.specs.Tables.{IsPermutation}
use Rattle.permutations.specs.Lists.{among, Apart}
use Rattle.permutations.specs.Choices.{table_of, slot_of}
use Rattle.rules.specs.Slots.{block_slot, dummy_slot}
use Rattle.rules.specs.Rebuilding.{Item, block, spare, Placed, placed, kept_for, rebuilt_level}
use Rattle.laws.specs.Keeping.{said}
use Rattle.laws.proofs.Ranks.{rank_below, rank_stands}
use Rattle.laws.proofs.Distinct.{absent}
use Rattle.laws.proofs.Gathered.{addresses_of, spares, Good}

abbrev pub indexes : List Placed → List ℕ
indexes gs = map (λ g. g.index) gs

-- the addresses of the blocks are in the new list
abbrev pub In : List ℕ → ℕ → Type 0
In new x = has new x ≡ true

pub placed_count : (W : ℕ) (new : List ℕ) (next : ℕ) (is : List Item) → length (placed W new next is) ≡ length is
placed_count W new next [] = refl
placed_count W new next (block p x bytes ∷ is) = ap suc (placed_count W new next is)
placed_count W new next (spare p ∷ is) = ap suc (placed_count W new (suc next) is)

-- each placed slot is what its index says
abbrev pub Right : ℕ → (ℕ → List ℕ) → List ℕ → ℕ → Placed → Type 0
Right W value new t g = g.slot ≡ said W value (rebuilt_level new t) g.index

pub placed_right : (W : ℕ) (value : ℕ → List ℕ) (new : List ℕ) (t : ℕ) → Rising new → (next : ℕ) (is : List Item) → length new ≤ next →
    AllByRecursion (Good (In new) value) is → AllByRecursion (Right W value new t) (placed W new next is)
placed_right W value new t rises next [] l h = tt
placed_right W value new t rises next (block p x bytes ∷ is) l h = (
  ap (block_slot x) h.0.1 ∙ sym (
      cond-true (ltb (smaller new x) (length new)) (block_slot (get_or new (smaller new x) 0) (value (get_or new (smaller new x) 0))) (dummy_slot W (smaller new x))
      (lt-ltb (smaller new x) (length new) (rank_below new rises x h.0.0))
      ∙ ap (λ (y : ℕ). block_slot y (value y)) (rank_stands new rises x h.0.0)),
  placed_right W value new t rises next is l h.1,
)
placed_right W value new t rises next (spare p ∷ is) l h = (
  sym (cond-false (ltb next (length new)) (block_slot (get_or new next 0) (value (get_or new next 0))) (dummy_slot W next) (le-ltb next (length new) l)),
  placed_right W value new t rises (suc next) is (omega arith) h.1,
)

-- an index below the length of the new list is that of a gathered block
pub low_index : (W : ℕ) (value : ℕ → List ℕ) (new : List ℕ) → Rising new → (next : ℕ) (is : List Item) → length new ≤ next → AllByRecursion (Good (In new) value) is →
    (i : ℕ) → i < length new → among (indexes (placed W new next is)) i ≡ true → among (addresses_of is) (get_or new i 0) ≡ true
low_index W value new rises next [] l h i low e = absurd (false≢true e)
low_index W value new rises next (block p x bytes ∷ is) l h i low e =
    ⊎_elim (λ f. or_left (eqb x (get_or new i 0)) (among (addresses_of is) (get_or new i 0)) (eq-eqb x (get_or new i 0) (here f)))
    (λ f. or_right (eqb x (get_or new i 0)) (among (addresses_of is) (get_or new i 0)) (low_index W value new rises next is l h.1 i low f))
    (or_cases (eqb (smaller new x) i) (among (indexes (placed W new next is)) i) e)
  where
    here : eqb (smaller new x) i ≡ true → x ≡ get_or new i 0
    here f = sym (rank_stands new rises x h.0.0) ∙ ap (λ (k : ℕ). get_or new k 0) (eqb-true (smaller new x) i f)
low_index W value new rises next (spare p ∷ is) l h i low e =
    ⊎_elim (λ f. absurd (here f)) (low_index W value new rises (suc next) is (omega arith) h.1 i low)
    (or_cases (eqb next i) (among (indexes (placed W new (suc next) is)) i) e)
  where
    here : eqb next i ≡ true → ⊥
    here f = omega (arith, eqb-true next i f)

-- any other is at least the next
pub high_index : (W : ℕ) (value : ℕ → List ℕ) (new : List ℕ) → Rising new → (next : ℕ) (is : List Item) → AllByRecursion (Good (In new) value) is →
    (i : ℕ) → length new ≤ i → among (indexes (placed W new next is)) i ≡ true → next ≤ i
high_index W value new rises next [] h i high e = absurd (false≢true e)
high_index W value new rises next (block p x bytes ∷ is) h i high e =
    ⊎_elim (λ f. absurd (here f)) (high_index W value new rises next is h.1 i high)
    (or_cases (eqb (smaller new x) i) (among (indexes (placed W new next is)) i) e)
  where
    here : eqb (smaller new x) i ≡ true → ⊥
    here f = omega (arith, eqb-true (smaller new x) i f, rank_below new rises x h.0.0)
high_index W value new rises next (spare p ∷ is) h i high e =
    ⊎_elim here (λ f. later (high_index W value new rises (suc next) is h.1 i high f))
    (or_cases (eqb next i) (among (indexes (placed W new (suc next) is)) i) e)
  where
    here : eqb next i ≡ true → next ≤ i
    here f = omega (arith, eqb-true next i f)

    later : suc next ≤ i → next ≤ i
    later f = omega arith

pub placed_apart : (W : ℕ) (value : ℕ → List ℕ) (new : List ℕ) → Rising new → (next : ℕ) (is : List Item) → length new ≤ next → AllByRecursion (Good (In new) value) is →
    Apart (addresses_of is) → Apart (indexes (placed W new next is))
placed_apart W value new rises next [] l h k = tt
placed_apart W value new rises next (block p x bytes ∷ is) l h k = (absent (indexes (placed W new next is)) (smaller new x) twice, placed_apart W value new rises next is l h.1 k.1)
  where
    twice : among (indexes (placed W new next is)) (smaller new x) ≡ true → ⊥
    twice e =
        let again : among (addresses_of is) (get_or new (smaller new x) 0) ≡ true = low_index W value new rises next is l h.1 (smaller new x) (rank_below new rises x h.0.0) e in
        both_ways (among (addresses_of is) x) k.0 (subst (λ (y : ℕ). among (addresses_of is) y ≡ true) (rank_stands new rises x h.0.0) again)
placed_apart W value new rises next (spare p ∷ is) l h k = (absent (indexes (placed W new (suc next) is)) next twice, placed_apart W value new rises (suc next) is (omega arith) h.1 k)
  where
    twice : among (indexes (placed W new (suc next) is)) next ≡ true → ⊥
    twice e = omega (arith, high_index W value new rises (suc next) is h.1 next l e)

pub placed_below : (W : ℕ) (value : ℕ → List ℕ) (new : List ℕ) → Rising new → (next : ℕ) (is : List Item) → length new ≤ next → AllByRecursion (Good (In new) value) is →
    AllByRecursion (λ i. i < next + spares is) (indexes (placed W new next is))
placed_below W value new rises next [] l h = tt
placed_below W value new rises next (block p x bytes ∷ is) l h = (omega (arith, rank_below new rises x h.0.0), placed_below W value new rises next is l h.1)
placed_below W value new rises next (spare p ∷ is) l h = (
  omega arith,
  All-weaker (λ i. i < suc next + spares is) (λ i. i < next + suc (spares is)) (λ i k. omega arith) (indexes (placed W new (suc next) is))
      (placed_below W value new rises (suc next) is (omega arith) h.1),
)

-- ---- what is kept for a destination

-- if all that goes there is one thing, and something goes there, it is that
pub kept_is : (ts : List (List ℕ)) (t d : ℕ) (that before : Slot) (gs : List Placed) →
    AllByRecursion (λ g. eqb (slot_of ts t g.index) d ≡ true → g.slot ≡ that) gs →
    (before ≡ that) ⊎ (among (map (λ g. slot_of ts t g.index) gs) d ≡ true) → kept_for ts t d before gs ≡ that
kept_is ts t d that before [] h (inl e) = e
kept_is ts t d that before [] h (inr e) = absurd (false≢true e)
kept_is ts t d that before (g ∷ gs) h k = kept_is ts t d that (cond (eqb (slot_of ts t g.index) d) g.slot before) gs h.1 (by (cases_Bool (eqb (slot_of ts t g.index) d)) k)
  where
    by : (eqb (slot_of ts t g.index) d ≡ true) ⊎ (eqb (slot_of ts t g.index) d ≡ false) →
        (before ≡ that) ⊎ (among (map (λ f. slot_of ts t f.index) (g ∷ gs)) d ≡ true) →
        (cond (eqb (slot_of ts t g.index) d) g.slot before ≡ that) ⊎ (among (map (λ f. slot_of ts t f.index) gs) d ≡ true)
    by (inl e) c = inl (cond-true (eqb (slot_of ts t g.index) d) g.slot before e ∙ h.0 e)
    by (inr e) (inl c) = inl (cond-false (eqb (slot_of ts t g.index) d) g.slot before e ∙ c)
    by (inr e) (inr c) =
        ⊎_elim (λ f. absurd (both_ways (eqb (slot_of ts t g.index) d) e f)) (λ f. inr f)
        (or_cases (eqb (slot_of ts t g.index) d) (among (map (λ f. slot_of ts t f.index) gs) d) c)

goes_there : (ts : List (List ℕ)) (t j : ℕ) (gs : List Placed) → among (indexes gs) j ≡ true → among (map (λ g. slot_of ts t g.index) gs) (slot_of ts t j) ≡ true
goes_there ts t j [] h = absurd (false≢true h)
goes_there ts t j (g ∷ gs) h =
    ⊎_elim (λ e. or_left (eqb (slot_of ts t g.index) (slot_of ts t j)) (among (map (λ f. slot_of ts t f.index) gs) (slot_of ts t j))
    (eq-eqb (slot_of ts t g.index) (slot_of ts t j) (ap (slot_of ts t) (eqb-true g.index j e))))
    (λ e. or_right (eqb (slot_of ts t g.index) (slot_of ts t j)) (among (map (λ f. slot_of ts t f.index) gs) (slot_of ts t j)) (goes_there ts t j gs e))
    (or_cases (eqb g.index j) (among (indexes gs) j) h)

only_that : (N W : ℕ) (value : ℕ → List ℕ) (new : List ℕ) (ts : List (List ℕ)) (t j : ℕ) → IsPermutation N (table_of ts t) → j < N → (gs : List Placed) →
    AllByRecursion (λ i. i < N) (indexes gs) → AllByRecursion (Right W value new t) gs →
    AllByRecursion (λ g. eqb (slot_of ts t g.index) (slot_of ts t j) ≡ true → g.slot ≡ said W value (rebuilt_level new t) j) gs
only_that N W value new ts t j perm l [] below right = tt
only_that N W value new ts t j perm l (g ∷ gs) below right = (
  λ e. right.0 ∙ ap (said W value (rebuilt_level new t)) (perm.apart g.index j below.0 l (eqb-true (slot_of ts t g.index) (slot_of ts t j) e)),
  only_that N W value new ts t j perm l gs below.1 right.1,
)

-- every slot gets what its index says, if each placed slot is right, and each index is taken
pub kept_said : (N W : ℕ) (value : ℕ → List ℕ) (new : List ℕ) (ts : List (List ℕ)) (t : ℕ) (before : Slot) → IsPermutation N (table_of ts t) → (gs : List Placed) →
    AllByRecursion (λ i. i < N) (indexes gs) → AllByRecursion (Right W value new t) gs → (j : ℕ) → j < N → among (indexes gs) j ≡ true →
    kept_for ts t (slot_of ts t j) before gs ≡ said W value (rebuilt_level new t) j
kept_said N W value new ts t before perm gs below right j l there =
    kept_is ts t (slot_of ts t j) (said W value (rebuilt_level new t) j) before gs (only_that N W value new ts t j perm l gs below right) (inr (goes_there ts t j gs there))
