-- What a rebuild takes from the levels: of each its untouched slots, as many as it has members at most; every member that is neither held nor
-- in a lower list, once.
use Rattle.std.proofs.Common.{◌≡◌, ℕ, suc, ◌+◌, ◌*◌, ◌^◌, ◌<◌, Bool, true, false, cond, not, ltb, List, [], ◌∷◌, ◌++◌, map, length, get_or, Some, filter, sym, refl, ap, ◌∙◌, subst, arith}
use Rattle.std.specs.List.{range_with_len}
use Rattle.std.proofs.lemmas.Bool.{ltb-true, lt-ltb, cond-true, not-true, not_from_false}
use Rattle.shape.specs.Numbers.{level_slots, level_start}
use Rattle.shape.proofs.TopLevel.{slots_double}
use Rattle.store.specs.State.{Slot, slot_at}
use Rattle.index.specs.Lists.{has}
use Rattle.permutations.specs.Tables.{position}
use Rattle.permutations.specs.Lists.{among, Apart}
use Rattle.permutations.specs.Choices.{table_of}
use Rattle.permutations.specs.Scripts.{Act, asked_of}
use Rattle.permutations.proofs.Tables.{onto}
use Rattle.rules.specs.World.{Level, size}
use Rattle.rules.specs.Rebuilding.{taken, touched, Item, block, spare, item_at, untouched_slots}
use Rattle.laws.proofs.Scripts.{Mark}
use Rattle.laws.proofs.Counting.{kept_alike, counted_below, count_unasked}
use Rattle.laws.proofs.Ranks.{has_stands, stands_has, rising_apart}
use Rattle.laws.proofs.Distinct.{among_all, among_kept, kept_among, apart_kept, among_image, image_among, apart_image, among_counting, counting_among, counting_apart}
use Rattle.laws.proofs.Sources.{Source}

-- ---- items

-- the addresses of the blocks among items, and how many others there are
abbrev pub addresses_of : List Item → List ℕ
addresses_of [] = []
addresses_of (block p x bytes ∷ is) = x ∷ addresses_of is
addresses_of (spare p ∷ is) = addresses_of is

abbrev pub spares : List Item → ℕ
spares [] = 0
spares (block p x bytes ∷ is) = spares is
spares (spare p ∷ is) = suc (spares is)

pub items_counted : (is : List Item) → length is ≡ length (addresses_of is) + spares is
items_counted [] = refl
items_counted (block p x bytes ∷ is) = omega (arith, items_counted is)
items_counted (spare p ∷ is) = omega (arith, items_counted is)

pub addresses_append : (is js : List Item) → addresses_of (is ++ js) ≡ addresses_of is ++ addresses_of js
addresses_append [] js = refl
addresses_append (block p x bytes ∷ is) js = ap (λ (xs : List ℕ). x ∷ xs) (addresses_append is js)
addresses_append (spare p ∷ is) js = addresses_append is js

-- blocks have an address that passes, and its current bytes
abbrev pub Good : (ℕ → Type 0) → (ℕ → List ℕ) → Item → Type 0
Good P value (block p x bytes) = P x × (bytes ≡ value x)
Good P value (spare p) = Unit {0}

-- ---- one level

-- the index of a slot of a level, and the address at that index
abbrev pub index_at : List (List ℕ) → Level → ℕ → ℕ
index_at ts v s = position (table_of ts v.build) s

abbrev pub address_at : List (List ℕ) → Level → ℕ → ℕ
address_at ts v s = get_or v.members (index_at ts v s) 0

abbrev pub has_member : List (List ℕ) → Level → ℕ → Bool
has_member ts v s = ltb (index_at ts v s) (size v)

level_addresses : (ts : List (List ℕ)) (slots : List Slot) (l : ℕ) (v : Level) (ss : List ℕ) →
    addresses_of (map (item_at ts slots l v) ss) ≡ map (address_at ts v) (filter (has_member ts v) ss)
level_addresses ts slots l v [] = refl
level_addresses ts slots l v (s ∷ ss) = by (has_member ts v s) (level_addresses ts slots l v ss)
  where
    by : (b : Bool) → addresses_of (map (item_at ts slots l v) ss) ≡ map (address_at ts v) (filter (has_member ts v) ss) →
        addresses_of (cond b (block (Some (level_start l + s)) (address_at ts v s) (slot_at slots (level_start l + s)).bytes) (spare (Some (level_start l + s))) ∷ map (item_at ts slots l v) ss)
        ≡ map (address_at ts v) (cond b (s ∷ filter (has_member ts v) ss) (filter (has_member ts v) ss))
    by true e = ap (λ (xs : List ℕ). address_at ts v s ∷ xs) e
    by false e = e

pub untouched_among : (ts : List (List ℕ)) (a : ℕ) (lower : List Level) (l : ℕ) (v : Level) (s : ℕ) → among (untouched_slots ts a lower l v) s ≡ true →
    (s < level_slots l) × (touched a lower v (index_at ts v s) ≡ false)
unfolding untouched_slots
untouched_among ts a lower l v s h =
    let r = among_kept (λ x. not (touched a lower v (index_at ts v x))) (range_with_len 0 (level_slots l)) s h in
    (among_counting (level_slots l) s r.0, not-true (touched a lower v (index_at ts v s)) r.1)

among_untouched : (ts : List (List ℕ)) (a : ℕ) (lower : List Level) (l : ℕ) (v : Level) (s : ℕ) → s < level_slots l →
    touched a lower v (index_at ts v s) ≡ false → among (untouched_slots ts a lower l v) s ≡ true
unfolding untouched_slots
among_untouched ts a lower l v s h u =
    kept_among (λ x. not (touched a lower v (index_at ts v x))) (range_with_len 0 (level_slots l)) s (counting_among (level_slots l) s h)
    (not_from_false (touched a lower v (index_at ts v s)) u)

untouched_apart : (ts : List (List ℕ)) (a : ℕ) (lower : List Level) (l : ℕ) (v : Level) → Apart (untouched_slots ts a lower l v)
unfolding untouched_slots
untouched_apart ts a lower l v = apart_kept (λ x. not (touched a lower v (index_at ts v x))) (range_with_len 0 (level_slots l)) (counting_apart 0 (level_slots l))

pub touched_member : (a : ℕ) (lower : List Level) (v : Level) (j : ℕ) → j < size v → touched a lower v j ≡ taken a lower (get_or v.members j 0)
touched_member a lower v j l = cond-true (ltb j (size v)) (taken a lower (get_or v.members j 0)) (ltb j v.counter) (lt-ltb j (size v) l)

-- as many slots are untouched as accesses were made since the build
pub untouched_count : (L t a : ℕ) (ts : List (List ℕ)) (s : List (Act Mark)) (l : ℕ) (lower : List Level) (v : Level) → Source L t a ts s l lower v →
    length (untouched_slots ts a lower l v) ≡ 2 ^ l
unfolding untouched_slots
untouched_count L t a ts s l lower v src =
    let asked = asked_of v.build s in
    let n = level_slots l in
    let same = kept_alike (λ x. x < n) (λ x. not (touched a lower v (index_at ts v x))) (λ x. not (among asked (index_at ts v x)))
    (λ x h. ap not (sym (src.used.asked_touched (index_at ts v x) ((onto n (table_of ts v.build) src.table).position_below x h))))
    (range_with_len 0 n) (counted_below n) in
    let others : length (filter (λ x. not (among asked (index_at ts v x))) (range_with_len 0 n)) + length asked ≡ n = count_unasked n (table_of ts v.build) asked src.table src.asked in
    let askings : length asked + v.build ≡ t = src.used.asked_count in
    let since : v.build + 2 ^ l ≡ t = src.since in
    let double : n ≡ 2 * 2 ^ l = slots_double l in
    ap length same ∙ omega arith

-- an address taken from the level is one of its members, and neither held nor in a lower list
pub taken_from : (L t a : ℕ) (ts : List (List ℕ)) (s : List (Act Mark)) (slots : List Slot) (l : ℕ) (lower : List Level) (v : Level) → Source L t a ts s l lower v →
    (x : ℕ) → among (addresses_of (map (item_at ts slots l v) (untouched_slots ts a lower l v))) x ≡ true →
    (has v.members x ≡ true) × (taken a lower x ≡ false)
taken_from L t a ts s slots l lower v src x h =
    let ss = untouched_slots ts a lower l v in
    let r = among_image (address_at ts v) (filter (has_member ts v) ss) x (subst (λ (xs : List ℕ). among xs x ≡ true) (level_addresses ts slots l v ss) h) in
    let k = among_kept (has_member ts v) ss r.0 r.1 in
    let u = untouched_among ts a lower l v r.0 k.0 in
    let low : index_at ts v r.0 < size v = ltb-true (index_at ts v r.0) (size v) k.1 in (
      subst (λ (y : ℕ). has v.members y ≡ true) r.2 (stands_has v.members (index_at ts v r.0) low),
      subst (λ (y : ℕ). taken a lower y ≡ false) r.2 (sym (touched_member a lower v (index_at ts v r.0) low) ∙ u.1),
    )

-- and each such member is taken
pub takes : (L t a : ℕ) (ts : List (List ℕ)) (s : List (Act Mark)) (slots : List Slot) (l : ℕ) (lower : List Level) (v : Level) → Source L t a ts s l lower v →
    (x : ℕ) → has v.members x ≡ true → taken a lower x ≡ false →
    among (addresses_of (map (item_at ts slots l v) (untouched_slots ts a lower l v))) x ≡ true
takes L t a ts s slots l lower v src x h free =
    let ss = untouched_slots ts a lower l v in
    let p = table_of ts v.build in
    let n = level_slots l in
    let r = has_stands v.members x h in
    let j = r.0 in
    let low : j < n = omega (arith, r.1, src.used.few, slots_double l) in
    let at : position p (get_or p j 0) ≡ j = (onto n p src.table).nowhere_else j low in
    let slot : get_or p j 0 < n = src.table.below j low in
    let address : address_at ts v (get_or p j 0) ≡ x = ap (λ (i : ℕ). get_or v.members i 0) at ∙ r.2 in
    let free_here : touched a lower v (index_at ts v (get_or p j 0)) ≡ false = ap (touched a lower v) at ∙ touched_member a lower v j r.1 ∙ ap (taken a lower) r.2 ∙ free in
    let member : has_member ts v (get_or p j 0) ≡ true = ap (λ (i : ℕ). ltb i (size v)) at ∙ lt-ltb j (size v) r.1 in
    subst (λ (xs : List ℕ). among xs x ≡ true) (sym (level_addresses ts slots l v ss))
    (subst (λ (y : ℕ). among (map (address_at ts v) (filter (has_member ts v) ss)) y ≡ true) address
    (image_among (address_at ts v) (filter (has_member ts v) ss) (get_or p j 0)
    (kept_among (has_member ts v) ss (get_or p j 0) (among_untouched ts a lower l v (get_or p j 0) slot free_here) member)))

-- and none twice
pub taken_apart : (L t a : ℕ) (ts : List (List ℕ)) (s : List (Act Mark)) (slots : List Slot) (l : ℕ) (lower : List Level) (v : Level) → Source L t a ts s l lower v →
    Apart (addresses_of (map (item_at ts slots l v) (untouched_slots ts a lower l v)))
taken_apart L t a ts s slots l lower v src =
    let ss = untouched_slots ts a lower l v in
    subst Apart (sym (level_addresses ts slots l v ss))
    (apart_image (address_at ts v) Sits one (filter (has_member ts v) ss) (among_all Sits (filter (has_member ts v) ss) sits)
    (apart_kept (has_member ts v) ss (untouched_apart ts a lower l v)))
  where
    Sits : ℕ → Type 0
    Sits x = (x < level_slots l) × (index_at ts v x < size v)

    one : (x y : ℕ) → (x < level_slots l) × (index_at ts v x < size v) → (y < level_slots l) × (index_at ts v y < size v) → address_at ts v x ≡ address_at ts v y → x ≡ y
    one x y h k e =
        let p = table_of ts v.build in
        let n = level_slots l in
        let same : position p x ≡ position p y = rising_apart v.members src.used.rising (position p x) (position p y) h.1 k.1 e in
        sym ((onto n p src.table).stands_there x h.0) ∙ ap (λ (i : ℕ). get_or p i 0) same ∙ (onto n p src.table).stands_there y k.0

    sits : (x : ℕ) → among (filter (has_member ts v) (untouched_slots ts a lower l v)) x ≡ true → (x < level_slots l) × (index_at ts v x < size v)
    sits x h =
        let k = among_kept (has_member ts v) (untouched_slots ts a lower l v) x h in
        ((untouched_among ts a lower l v x k.0).0, ltb-true (index_at ts v x) (size v) k.1)
