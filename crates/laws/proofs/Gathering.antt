-- A rebuild gathers exactly as many items as its level has slots, with an index each of their own, and keeps for every slot what its index says.
use Rattle.std.proofs.Common.{◌≡◌, ℕ, zero, suc, ◌+◌, ◌*◌, ◌^◌, ◌<◌, ◌≤◌, Bool, true, false, cond, eqb, ltb, ◌⊎◌, List, [], ◌∷◌, ◌++◌, map, length, get_or, take, replicate, Some, None, filter, Option, sym, refl, ap, ◌∙◌, subst, inl, inr, ⊎_elim, pow-suc, arith, length-append}
use lib.ListN.{length-map, length-replicate}
use Rattle.std.specs.List.{range_with_len, AllByRecursion}
use Rattle.std.proofs.ByRecursion.{All-append, All-weaker}
use Rattle.std.proofs.lemmas.List.{append-nil, take-take, get_or-take}
use Rattle.std.proofs.lemmas.Bool.{cases_Bool, cases_lt, eq-eqb, eqb-true, lt-ltb, le-ltb, cond-true, cond-false, or_cases, or_left, or_right, or_parts, or_from, both_ways}
use Rattle.shape.specs.Numbers.{blocks, level_slots, level_of_build}
use Rattle.shape.proofs.TopLevel.{slots_double}
use Rattle.shape.proofs.Builds.{level_at_most}
use Rattle.store.specs.State.{Slot}
use Rattle.index.specs.Lists.{has, Rising}
use Rattle.permutations.specs.Tables.{IsPermutation, position}
use Rattle.permutations.specs.Lists.{among, Apart}
use Rattle.permutations.specs.Choices.{table_of, slot_of}
use Rattle.permutations.specs.Scripts.{Act}
use Rattle.permutations.proofs.Tables.{onto}
use Rattle.rules.specs.World.{Level, World, vacant}
use Rattle.rules.specs.Checks.{rebuild_level}
use Rattle.rules.specs.Rebuilding.{listed, taken, new_members, Item, spare, level_items, sources, items, Placed, placed, blank, kept_for, rebuilt_members, gathered, rebuilt_level}
use Rattle.laws.specs.Runs.{Choices}
use Rattle.laws.specs.Keeping.{said, level_at}
use Rattle.laws.proofs.Scripts.{Mark}
use Rattle.laws.proofs.Invariant.{Ready}
use Rattle.laws.proofs.Contents.{Filled}
use Rattle.laws.proofs.Ranks.{rising_apart, stands_has, kept_rises, kept_has, kept_passes, kept_all}
use Rattle.laws.proofs.Distinct.{absent, stands_among, no_longer, indexes_onto}
use Rattle.laws.proofs.Sources.{Along, along_places, along_both, along_weaker, Fresh, Gathers, gathers, Source, source, table_of_build}
use Rattle.laws.proofs.Gathered.{addresses_of, addresses_append, spares, items_counted, Good}
use Rattle.laws.proofs.Items.{Current, items_from_levels, addresses_from_levels, levels_give, levels_apart, levels_good}
use Rattle.laws.proofs.Placing.{indexes, In, placed_count, placed_right, placed_apart, placed_below, kept_said}

-- ---- items that are as many as slots

-- what holds of items and the new list, so that each slot gets what its index says
pub record Fit (N : ℕ) (value : ℕ → List ℕ) (new : List ℕ) (is : List Item) : Type 0 where
  pub rises : Rising new
  pub good : AllByRecursion (Good (In new) value) is
  pub apart : Apart (addresses_of is)
  pub there : (x : ℕ) → has new x ≡ true → among (addresses_of is) x ≡ true
  pub many : length is ≡ N

-- what a rebuild of N slots by build t places
pub record Places (ts : List (List ℕ)) (W : ℕ) (value : ℕ → List ℕ) (N t : ℕ) (new : List ℕ) (gs : List Placed) : Type 0 where
  pub count : length gs ≡ N
  pub below : AllByRecursion (λ i. i < N) (map (λ g. g.index) gs)
  pub apart : Apart (map (λ g. g.index) gs)
  pub kept : (j : ℕ) → j < N → kept_for ts t (slot_of ts t j) (blank W) gs ≡ said W value (rebuilt_level new t) j

pub places : (ts : List (List ℕ)) (W : ℕ) (value : ℕ → List ℕ) (N t : ℕ) (new : List ℕ) (is : List Item) → Fit N value new is → IsPermutation N (table_of ts t) →
    Places ts W value N t new (placed W new (length new) is)
places ts W value N t new is fit perm = record {
  count = count;
  below = below;
  apart = apart;
  kept = λ j l. kept_said N W value new ts t (blank W) perm (placed W new (length new) is) below
      (placed_right W value new t fit.rises (length new) is (omega arith) fit.good) j l (there j l);
}
  where
    count : length (placed W new (length new) is) ≡ N
    count = placed_count W new (length new) is ∙ fit.many

    room : length new + spares is ≤ N
    room =
        let few : length new ≤ length (addresses_of is) =
        no_longer new (addresses_of is) (rising_apart new fit.rises) (λ i l. fit.there (get_or new i 0) (stands_has new i l)) in
        omega (arith, few, items_counted is, fit.many)

    below : AllByRecursion (λ i. i < N) (indexes (placed W new (length new) is))
    below =
        All-weaker (λ i. i < length new + spares is) (λ i. i < N) (λ i l. omega (arith, room)) (indexes (placed W new (length new) is))
        (placed_below W value new fit.rises (length new) is (omega arith) fit.good)

    apart : Apart (indexes (placed W new (length new) is))
    apart = placed_apart W value new fit.rises (length new) is (omega arith) fit.good fit.apart

    there : (j : ℕ) → j < N → among (indexes (placed W new (length new) is)) j ≡ true
    there j l =
        let xs = indexes (placed W new (length new) is) in
        let long : length xs ≡ N = length-map (placed W new (length new) is) (λ g. g.index) ∙ count in
        let all = onto N xs (indexes_onto N xs long below apart) in
        let low : position xs j < length xs = omega (arith, all.position_below j l, long) in
        subst (λ (x : ℕ). among xs x ≡ true) (all.stands_there j l) (stands_among xs (position xs j) low)

-- ---- the items of a rebuild

-- the new list, below L and at L, is what is held or listed in the levels that are gathered
pub new_is : (L l a : ℕ) (vs : List Level) → l ≤ L → (l ≡ L → (x : ℕ) → x < blocks L → listed (sources L l vs) x ≡ true) →
    new_members L l a (take l vs) ≡ filter (taken a (sources L l vs)) (range_with_len 0 (blocks L))
new_is L l a vs low whole = ⊎_elim below top (cases_lt l L)
  where
    below : l < L → new_members L l a (take l vs) ≡ filter (taken a (sources L l vs)) (range_with_len 0 (blocks L))
    below h =
        let yes = lt-ltb l L h in
        let count : l ≡ cond (ltb l L) l (suc l) = sym (cond-true (ltb l L) l (suc l) yes) in
        cond-true (ltb l L) (filter (taken a (take l vs)) (range_with_len 0 (blocks L))) (range_with_len 0 (blocks L)) yes
        ∙ ap (λ (n : ℕ). filter (taken a (take n vs)) (range_with_len 0 (blocks L))) count

    top : L ≤ l → new_members L l a (take l vs) ≡ filter (taken a (sources L l vs)) (range_with_len 0 (blocks L))
    top h =
        let same : l ≡ L = omega arith in
        cond-false (ltb l L) (filter (taken a (take l vs)) (range_with_len 0 (blocks L))) (range_with_len 0 (blocks L)) (le-ltb l L h)
        ∙ sym (kept_all (taken a (sources L l vs)) 0 (blocks L) (λ x z k. or_right (eqb x a) (listed (sources L l vs) x) (whole same x (omega arith))))

-- fresh dummies
abbrev fresh_dummies : ℕ → ℕ → List Item
fresh_dummies L l = cond (ltb l L) (replicate (2 ^ l) (spare None)) []

no_addresses : (n : ℕ) → addresses_of (replicate n (spare None)) ≡ []
no_addresses zero = refl
no_addresses (suc n) = no_addresses n

all_spare : (P : ℕ → Type 0) (value : ℕ → List ℕ) (n : ℕ) → AllByRecursion (Good P value) (replicate n (spare None))
all_spare P value zero = tt
all_spare P value (suc n) = (tt, all_spare P value n)

dummies_without_address : (L l : ℕ) → addresses_of (fresh_dummies L l) ≡ []
dummies_without_address L l = by (ltb l L)
  where
    by : (b : Bool) → addresses_of (cond b (replicate (2 ^ l) (spare None)) []) ≡ []
    by true = no_addresses (2 ^ l)
    by false = refl

dummies_good : (P : ℕ → Type 0) (value : ℕ → List ℕ) (L l : ℕ) → AllByRecursion (Good P value) (fresh_dummies L l)
dummies_good P value L l = by (ltb l L)
  where
    by : (b : Bool) → AllByRecursion (Good P value) (cond b (replicate (2 ^ l) (spare None)) [])
    by true = all_spare P value (2 ^ l)
    by false = tt

-- held, gathered and fresh make up the slots
item_count : (L l n m : ℕ) → m + 2 ^ 0 ≡ 2 ^ (0 + n) → n ≡ cond (ltb l L) l (suc l) → suc (m + length (fresh_dummies L l)) ≡ level_slots l
item_count L l n m e f = ⊎_elim below top (cases_Bool (ltb l L))
  where
    plain : (k : ℕ) → 0 + k ≡ k
    plain k = omega arith

    below : ltb l L ≡ true → suc (m + length (fresh_dummies L l)) ≡ level_slots l
    below b =
        let some : length (fresh_dummies L l) ≡ 2 ^ l = ap length (cond-true (ltb l L) (replicate (2 ^ l) (spare None)) [] b) ∙ length-replicate (2 ^ l) (spare None) in
        let count : 0 + n ≡ l = plain n ∙ f ∙ cond-true (ltb l L) l (suc l) b in
        let power : m + 1 ≡ 2 ^ l = e ∙ ap (λ (k : ℕ). 2 ^ k) count in
        omega (arith, some, power, slots_double l)

    top : ltb l L ≡ false → suc (m + length (fresh_dummies L l)) ≡ level_slots l
    top b =
        let none : length (fresh_dummies L l) ≡ 0 = ap length (cond-false (ltb l L) (replicate (2 ^ l) (spare None)) [] b) in
        let count : 0 + n ≡ suc l = plain n ∙ f ∙ cond-false (ltb l L) l (suc l) b in
        let power : m + 1 ≡ 2 ^ suc l = e ∙ ap (λ (k : ℕ). 2 ^ k) count in
        omega (arith, none, power, pow-suc 2 l, slots_double l)

pub items_fit : (L t a : ℕ) (ts : List (List ℕ)) (s : List (Act Mark)) (slots : List Slot) (value : ℕ → List ℕ) (bytes : List ℕ) (l : ℕ) (vs : List Level) →
    l ≤ L → a < blocks L → bytes ≡ value a → Along (Source L t a ts s) [] 0 (sources L l vs) → Along (Current ts slots a value) [] 0 (sources L l vs) →
    length (sources L l vs) ≡ cond (ltb l L) l (suc l) → (l ≡ L → (x : ℕ) → x < blocks L → listed (sources L l vs) x ≡ true) →
    Fit (level_slots l) value (filter (taken a (sources L l vs)) (range_with_len 0 (blocks L))) (items L ts slots a bytes l vs)
unfolding items
items_fit L t a ts s slots value bytes l vs low address held along now many whole = record {
  rises = kept_rises (taken a (sources L l vs)) 0 (blocks L);
  good = (
    (member a address (or_left (eqb a a) (listed (sources L l vs) a) (eq-eqb a a refl)), held),
    All-append (Good (In (filter (taken a (sources L l vs)) (range_with_len 0 (blocks L)))) value) (level_items ts slots a [] 0 (sources L l vs)) (fresh_dummies L l)
        (levels_good L t a ts s slots value (In (filter (taken a (sources L l vs)) (range_with_len 0 (blocks L)))) [] 0 (sources L l vs) along now
        (λ x e k. member x k (or_right (eqb x a) (listed (sources L l vs) x) e)))
        (dummies_good (In (filter (taken a (sources L l vs)) (range_with_len 0 (blocks L)))) value L l),
  );
  apart = subst (λ (xs : List ℕ). Apart (a ∷ xs)) (sym addresses)
      (absent (addresses_of (level_items ts slots a [] 0 (sources L l vs))) a twice, levels_apart L t a ts s slots [] 0 (sources L l vs) along);
  there = λ x h. subst (λ (xs : List ℕ). among (a ∷ xs) x ≡ true) (sym addresses) (there x (kept_passes (taken a (sources L l vs)) (blocks L) x h).1 (cases_Bool (eqb x a)));
  many = ap suc (length-append (level_items ts slots a [] 0 (sources L l vs)) (fresh_dummies L l))
      ∙ item_count L l (length (sources L l vs)) (length (level_items ts slots a [] 0 (sources L l vs))) (items_from_levels L t a ts s slots [] 0 (sources L l vs) along) many;
}
  where
    member : (x : ℕ) → x < blocks L → taken a (sources L l vs) x ≡ true → has (filter (taken a (sources L l vs)) (range_with_len 0 (blocks L))) x ≡ true
    member x k e = kept_has (taken a (sources L l vs)) 0 (blocks L) x (omega arith) (omega arith) ∙ e

    addresses : addresses_of (level_items ts slots a [] 0 (sources L l vs) ++ fresh_dummies L l) ≡ addresses_of (level_items ts slots a [] 0 (sources L l vs))
    addresses =
        addresses_append (level_items ts slots a [] 0 (sources L l vs)) (fresh_dummies L l)
        ∙ ap (λ (xs : List ℕ). addresses_of (level_items ts slots a [] 0 (sources L l vs)) ++ xs) (dummies_without_address L l)
        ∙ append-nil (addresses_of (level_items ts slots a [] 0 (sources L l vs)))

    twice : among (addresses_of (level_items ts slots a [] 0 (sources L l vs))) a ≡ true → ⊥
    twice e =
        let free = (addresses_from_levels L t a ts s slots [] 0 (sources L l vs) along a e).1 in
        both_ways (eqb a a) (or_parts (eqb a a) false free).0 (eq-eqb a a refl)

    there : (x : ℕ) → taken a (sources L l vs) x ≡ true → (eqb x a ≡ true) ⊎ (eqb x a ≡ false) →
        among (a ∷ addresses_of (level_items ts slots a [] 0 (sources L l vs))) x ≡ true
    there x h (inl e) = or_left (eqb a x) _ (eq-eqb a x (sym (eqb-true x a e)))
    there x h (inr e) =
        or_right (eqb a x) (among (addresses_of (level_items ts slots a [] 0 (sources L l vs))) x)
        (levels_give L t a ts s slots [] 0 (sources L l vs) along x
        (⊎_elim (λ f. absurd (both_ways (eqb x a) e f)) (λ f. f) (or_cases (eqb x a) (listed (sources L l vs) x) h)) (or_from (eqb x a) false e refl))

-- ---- the rebuild that is due

-- the levels that are gathered hold the current bytes of what they give
current_sources : (ts : List (List ℕ)) (L t a : ℕ) (s : List (Act Mark)) (value : ℕ → List ℕ) (w : World) → Filled ts L (Some a) value w →
    (l : ℕ) → l ≤ L → length (sources L l w.client.levels) ≡ cond (ltb l L) l (suc l) → Along (Source L t a ts s) [] 0 (sources L l w.client.levels) →
    Along (Current ts w.slots a value) [] 0 (sources L l w.client.levels)
current_sources ts L t a s value w filled l low many along =
    along_weaker (λ i lower v. Source L t a ts s i lower v × (v.occupied ≡ true → Current ts w.slots a value i lower v)) (Current ts w.slots a value)
    (λ i lower v h. h.1 h.0.used.occupied) [] 0 src
    (along_both (Source L t a ts s) (λ i lower v. v.occupied ≡ true → Current ts w.slots a value i lower v) [] 0 src along
    (along_places (λ i lower v. v.occupied ≡ true → Current ts w.slots a value i lower v) src [] 0 src refl refl place))
  where
    src : List Level
    src = sources L l w.client.levels

    place : (i : ℕ) → i < length src → (get_or src i vacant).occupied ≡ true → Current ts w.slots a value i (take i src) (get_or src i vacant)
    place i h =
        let m = cond (ltb l L) l (suc l) in
        let under : i < m = omega (arith, h, many) in
        let inside : i ≤ L = ⊎_elim (λ b. below i b under) (λ b. top i b under) (cases_Bool (ltb l L)) in
        subst (λ (v : Level). v.occupied ≡ true → Current ts w.slots a value i (take i src) v) (sym (get_or-take m w.client.levels i vacant under))
        (subst (λ (lower : List Level). (level_at w.client i).occupied ≡ true → Current ts w.slots a value i lower (level_at w.client i))
        (sym (take-take i m w.client.levels (omega arith))) (filled.current i inside))
      where
        below : (i : ℕ) → ltb l L ≡ true → i < cond (ltb l L) l (suc l) → i ≤ L
        below i b h = let e : cond (ltb l L) l (suc l) ≡ l = cond-true (ltb l L) l (suc l) b in omega arith

        top : (i : ℕ) → ltb l L ≡ false → i < cond (ltb l L) l (suc l) → i ≤ L
        top i b h = let e : cond (ltb l L) l (suc l) ≡ suc l = cond-false (ltb l L) l (suc l) b in omega arith

-- what a rebuild of L, numbered t, of the held block a, places
abbrev Rebuilds : List (List ℕ) → World → (ℕ → List ℕ) → ℕ → ℕ → Option ℕ → Type 0
Rebuilds ts w value L t h =
    let l = level_of_build L t in
    let a : ℕ = elim h [ Some x ↦ x | None ↦ 0 ] in
    let vs = w.client.levels in
    let new = new_members L l a (take l vs) in
    Places ts w.client.width value (level_slots l) t new (placed w.client.width new (length new) (items L ts w.slots a w.held_bytes l vs))

rebuilds : (ts : List (List ℕ)) (L K r a : ℕ) (s : List (Act Mark)) (value : ℕ → List ℕ) (w : World) → Choices L K ts → Ready L K r (Some a) s w.client →
    Filled ts L (Some a) value w → Rebuilds ts w value L (suc r) (Some a)
rebuilds ts L K r a s value w choice ready filled =
    let vs = w.client.levels in
    let t = suc r in
    let l = level_of_build L t in
    let low : l ≤ L = level_at_most L t in
    let step : r + 1 ≡ suc r = omega arith in
    let once : (r + 1) * 2 ^ 0 ≡ suc r = omega arith in
    let all : L ≡ L + 0 = omega arith in
    let g : Gathers L t a s L l 0 [] (sources L l vs) =
    subst (λ (n : ℕ). Gathers L t a s L (level_of_build L n) 0 [] (sources L (level_of_build L n) vs)) step (gathers L t a s L 0 r [] vs all once ready.levels) in
    let along : Along (Source L t a ts s) [] 0 (sources L l vs) =
    along_weaker (Fresh L t a s) (Source L t a ts s) (source L K t a ts s choice ready.sound ready.builds_left) [] 0 (sources L l vs) g.fresh in
    let now = current_sources ts L t a s value w filled l low g.many along in
    let fit = items_fit L t a ts s w.slots value w.held_bytes l vs low (ready.held_address a refl) (filled.held a refl) along now g.many g.whole in
    let perm : IsPermutation (level_slots l) (table_of ts t) = table_of_build L K t l ts choice ready.builds_left refl in
    subst (λ (new : List ℕ). Places ts w.client.width value (level_slots l) t new (placed w.client.width new (length new) (items L ts w.slots a w.held_bytes l vs)))
    (sym (new_is L l a vs low g.whole))
    (places ts w.client.width value (level_slots l) t (filter (taken a (sources L l vs)) (range_with_len 0 (blocks L))) (items L ts w.slots a w.held_bytes l vs) fit perm)

-- a rebuild that is due gathers exactly as many items as its level has slots, with distinct indexes below that; and what is kept for the slot of
-- each index is what that index says, members with their current bytes
pub rebuild_places : (ts : List (List ℕ)) (L K r a : ℕ) (s : List (Act Mark)) (value : ℕ → List ℕ) (w : World) → Choices L K ts → Ready L K r (Some a) s w.client →
    Filled ts L (Some a) value w →
    Places ts w.client.width value (level_slots (rebuild_level w.client)) w.client.accesses (rebuilt_members w.client) (gathered ts w)
unfolding gathered
rebuild_places ts L K r a s value w choice ready filled =
    subst (λ (n : ℕ). Rebuilds ts w value n w.client.accesses w.client.held) (sym ready.top)
    (subst (λ (n : ℕ). Rebuilds ts w value L n w.client.held) (sym ready.accesses)
    (subst (λ (h : Option ℕ). Rebuilds ts w value L (suc r) h) (sym ready.held) (rebuilds ts L K r a s value w choice ready filled)))
