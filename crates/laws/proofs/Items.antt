-- What a rebuild takes from levels one above another: as many items as it should, every listed address that is not held, once, with its current bytes.
use Rattle.std.proofs.Common.{◌≡◌, ℕ, suc, ◌+◌, ◌*◌, ◌^◌, ◌<◌, Bool, true, false, ◌||◌, eqb, ◌⊎◌, List, [], ◌∷◌, ◌++◌, map, length, get_or, Some, sym, refl, ap, ◌∙◌, subst, inl, inr, pow-suc, arith, length-append}
use lib.ListN.{length-map}
use Rattle.std.specs.List.{AllByRecursion}
use Rattle.std.proofs.ByRecursion.{All-append}
use Rattle.std.proofs.lemmas.Bool.{cases_Bool, eq-eqb, ltb-true, cond_both, or_cases, or_left, or_right, or_parts, or_from, both_ways, false≢true}
use Rattle.shape.specs.Numbers.{blocks, level_slots, level_start}
use Rattle.store.specs.State.{Slot, slot_at}
use Rattle.index.specs.Lists.{has}
use Rattle.permutations.specs.Lists.{among, Apart}
use Rattle.permutations.specs.Choices.{table_of, slot_of}
use Rattle.permutations.specs.Scripts.{Act}
use Rattle.permutations.proofs.Tables.{onto}
use Rattle.rules.specs.World.{Level, size}
use Rattle.rules.specs.Rebuilding.{listed, taken, block, spare, item_at, untouched_slots, level_items}
use Rattle.laws.proofs.Scripts.{Mark}
use Rattle.laws.proofs.Ranks.{stands_has}
use Rattle.laws.proofs.Distinct.{among_append, among_left, among_right, apart_append}
use Rattle.laws.proofs.Sources.{Along, Source}
use Rattle.laws.proofs.Gathered.{addresses_of, addresses_append, Good, index_at, address_at, has_member, untouched_among, touched_member, untouched_count, taken_from, takes, taken_apart}

-- ---- the items of one level

-- a member that is neither held nor in a lower list has its current bytes in its slot
abbrev pub Current : List (List ℕ) → List Slot → ℕ → (ℕ → List ℕ) → ℕ → List Level → Level → Type 0
Current ts slots a value l lower v =
    (j : ℕ) → j < size v → taken a lower (get_or v.members j 0) ≡ false →
    (slot_at slots (level_start l + slot_of ts v.build j)).bytes ≡ value (get_or v.members j 0)

all_image : {X : Type 0} (Q : X → Type 0) (f : ℕ → X) (ss : List ℕ) → ((s : ℕ) → among ss s ≡ true → Q (f s)) → AllByRecursion Q (map f ss)
all_image Q f [] h = tt
all_image Q f (s ∷ ss) h = (h s (or_left (eqb s s) (among ss s) (eq-eqb s s refl)), all_image Q f ss (λ x e. h x (or_right (eqb s x) (among ss x) e)))

level_good : (L t a : ℕ) (ts : List (List ℕ)) (s : List (Act Mark)) (slots : List Slot) (value : ℕ → List ℕ) (P : ℕ → Type 0)
    (l : ℕ) (lower : List Level) (v : Level) → Source L t a ts s l lower v → Current ts slots a value l lower v →
    ((x : ℕ) → has v.members x ≡ true → x < blocks L → P x) →
    AllByRecursion (Good P value) (map (item_at ts slots l v) (untouched_slots ts a lower l v))
level_good L t a ts s slots value P l lower v src now fine = all_image (Good P value) (item_at ts slots l v) (untouched_slots ts a lower l v) good
  where
    good : (x : ℕ) → among (untouched_slots ts a lower l v) x ≡ true → Good P value (item_at ts slots l v x)
    good x h =
        cond_both (has_member ts v x) (block (Some (level_start l + x)) (address_at ts v x) (slot_at slots (level_start l + x)).bytes) (spare (Some (level_start l + x)))
        (Good P value) inside (λ e. tt)
      where
        inside : has_member ts v x ≡ true → P (address_at ts v x) × ((slot_at slots (level_start l + x)).bytes ≡ value (address_at ts v x))
        inside e =
            let j = index_at ts v x in
            let low : j < size v = ltb-true j (size v) e in
            let u = untouched_among ts a lower l v x h in
            let back : slot_of ts v.build j ≡ x = (onto (level_slots l) (table_of ts v.build) src.table).stands_there x u.0 in (
              fine (address_at ts v x) (stands_has v.members j low) (src.used.addresses j low),
              ap (λ (y : ℕ). (slot_at slots (level_start l + y)).bytes) (sym back) ∙ now j low (sym (touched_member a lower v j low) ∙ u.1),
            )

-- ---- levels one above another

listed_push : (lower : List Level) (v : Level) (x : ℕ) → listed (lower ++ (v ∷ [])) x ≡ listed lower x || has v.members x
listed_push [] v x = by (has v.members x)
  where
    by : (b : Bool) → (b || false) ≡ false || b
    by true = refl
    by false = refl
listed_push (u ∷ lower) v x = ap (λ (b : Bool). has u.members x || b) (listed_push lower v x) ∙ by (has u.members x) (listed lower x) (has v.members x)
  where
    by : (b c d : Bool) → (b || (c || d)) ≡ (b || c) || d
    by true c d = refl
    by false c d = refl

pub taken_push_parts : (a : ℕ) (lower : List Level) (v : Level) (x : ℕ) → taken a (lower ++ (v ∷ [])) x ≡ false → (taken a lower x ≡ false) × (has v.members x ≡ false)
taken_push_parts a lower v x h =
    let p = or_parts (eqb x a) (listed (lower ++ (v ∷ [])) x) h in
    let q = or_parts (listed lower x) (has v.members x) (sym (listed_push lower v x) ∙ p.1) in
    (or_from (eqb x a) (listed lower x) p.0 q.0, q.1)

pub taken_push_from : (a : ℕ) (lower : List Level) (v : Level) (x : ℕ) → taken a lower x ≡ false → has v.members x ≡ false → taken a (lower ++ (v ∷ [])) x ≡ false
taken_push_from a lower v x h k =
    let p = or_parts (eqb x a) (listed lower x) h in
    or_from (eqb x a) (listed (lower ++ (v ∷ [])) x) p.0 (listed_push lower v x ∙ or_from (listed lower x) (has v.members x) p.1 k)

-- how many
pub items_from_levels : (L t a : ℕ) (ts : List (List ℕ)) (s : List (Act Mark)) (slots : List Slot) (lower : List Level) (l : ℕ) (vs : List Level) →
    Along (Source L t a ts s) lower l vs → length (level_items ts slots a lower l vs) + 2 ^ l ≡ 2 ^ (l + length vs)
items_from_levels L t a ts s slots lower l [] h = let e : l ≡ l + 0 = omega arith in let z : 0 + 2 ^ l ≡ 2 ^ l = omega arith in z ∙ ap (λ (k : ℕ). 2 ^ k) e
items_from_levels L t a ts s slots lower l (v ∷ vs) h =
    let mine = map (item_at ts slots l v) (untouched_slots ts a lower l v) in
    let rest = level_items ts slots a (lower ++ (v ∷ [])) (suc l) vs in
    let both : length (mine ++ rest) ≡ length mine + length rest = length-append mine rest in
    let here : length mine ≡ 2 ^ l = length-map (untouched_slots ts a lower l v) (item_at ts slots l v) ∙ untouched_count L t a ts s l lower v h.0 in
    let up : length rest + 2 ^ suc l ≡ 2 ^ (suc l + length vs) = items_from_levels L t a ts s slots (lower ++ (v ∷ [])) (suc l) vs h.1 in
    let double : 2 ^ suc l ≡ 2 ^ l * 2 = pow-suc 2 l in
    let order : suc l + length vs ≡ l + suc (length vs) = omega arith in
    let all : length (mine ++ rest) + 2 ^ l ≡ 2 ^ (suc l + length vs) = omega (arith, both, here, up, double) in
    all ∙ ap (λ (k : ℕ). 2 ^ k) order

-- which addresses
pub addresses_from_levels : (L t a : ℕ) (ts : List (List ℕ)) (s : List (Act Mark)) (slots : List Slot) (lower : List Level) (l : ℕ) (vs : List Level) →
    Along (Source L t a ts s) lower l vs → (x : ℕ) → among (addresses_of (level_items ts slots a lower l vs)) x ≡ true →
    (listed vs x ≡ true) × (taken a lower x ≡ false)
addresses_from_levels L t a ts s slots lower l [] h x e = absurd (false≢true e)
addresses_from_levels L t a ts s slots lower l (v ∷ vs) h x e =
    let mine = map (item_at ts slots l v) (untouched_slots ts a lower l v) in
    let rest = level_items ts slots a (lower ++ (v ∷ [])) (suc l) vs in
    by (addresses_from_levels L t a ts s slots (lower ++ (v ∷ [])) (suc l) vs h.1 x)
    (among_append (addresses_of mine) (addresses_of rest) x (subst (λ (xs : List ℕ). among xs x ≡ true) (addresses_append mine rest) e))
  where
    by : (among (addresses_of (level_items ts slots a (lower ++ (v ∷ [])) (suc l) vs)) x ≡ true → (listed vs x ≡ true) × (taken a (lower ++ (v ∷ [])) x ≡ false)) →
        (among (addresses_of (map (item_at ts slots l v) (untouched_slots ts a lower l v))) x ≡ true) ⊎ (among (addresses_of (level_items ts slots a (lower ++ (v ∷ [])) (suc l) vs)) x ≡ true) →
        (listed (v ∷ vs) x ≡ true) × (taken a lower x ≡ false)
    by up (inl m) = let r = taken_from L t a ts s slots l lower v h.0 x m in (or_left (has v.members x) (listed vs x) r.0, r.1)
    by up (inr m) = let r = up m in (or_right (has v.members x) (listed vs x) r.0, (taken_push_parts a lower v x r.1).0)

pub levels_give : (L t a : ℕ) (ts : List (List ℕ)) (s : List (Act Mark)) (slots : List Slot) (lower : List Level) (l : ℕ) (vs : List Level) →
    Along (Source L t a ts s) lower l vs → (x : ℕ) → listed vs x ≡ true → taken a lower x ≡ false → among (addresses_of (level_items ts slots a lower l vs)) x ≡ true
levels_give L t a ts s slots lower l [] h x e free = absurd (false≢true e)
levels_give L t a ts s slots lower l (v ∷ vs) h x e free =
    let mine = map (item_at ts slots l v) (untouched_slots ts a lower l v) in
    let rest = level_items ts slots a (lower ++ (v ∷ [])) (suc l) vs in
    subst (λ (xs : List ℕ). among xs x ≡ true) (sym (addresses_append mine rest))
    (by (λ f g. levels_give L t a ts s slots (lower ++ (v ∷ [])) (suc l) vs h.1 x f (taken_push_from a lower v x free g)) (cases_Bool (has v.members x)) (or_cases (has v.members x) (listed vs x) e))
  where
    by : (listed vs x ≡ true → has v.members x ≡ false → among (addresses_of (level_items ts slots a (lower ++ (v ∷ [])) (suc l) vs)) x ≡ true) →
        (has v.members x ≡ true) ⊎ (has v.members x ≡ false) → (has v.members x ≡ true) ⊎ (listed vs x ≡ true) →
        among (addresses_of (map (item_at ts slots l v) (untouched_slots ts a lower l v)) ++ addresses_of (level_items ts slots a (lower ++ (v ∷ [])) (suc l) vs)) x ≡ true
    by up (inl m) c = among_left (addresses_of (map (item_at ts slots l v) (untouched_slots ts a lower l v))) _ x (takes L t a ts s slots l lower v h.0 x m free)
    by up (inr m) (inl n) = absurd (both_ways (has v.members x) m n)
    by up (inr m) (inr n) = among_right (addresses_of (map (item_at ts slots l v) (untouched_slots ts a lower l v))) _ x (up n m)

-- none twice
pub levels_apart : (L t a : ℕ) (ts : List (List ℕ)) (s : List (Act Mark)) (slots : List Slot) (lower : List Level) (l : ℕ) (vs : List Level) →
    Along (Source L t a ts s) lower l vs → Apart (addresses_of (level_items ts slots a lower l vs))
levels_apart L t a ts s slots lower l [] h = tt
levels_apart L t a ts s slots lower l (v ∷ vs) h =
    let mine = map (item_at ts slots l v) (untouched_slots ts a lower l v) in
    let rest = level_items ts slots a (lower ++ (v ∷ [])) (suc l) vs in
    subst Apart (sym (addresses_append mine rest))
    (apart_append (addresses_of mine) (addresses_of rest) (taken_apart L t a ts s slots l lower v h.0) (levels_apart L t a ts s slots (lower ++ (v ∷ [])) (suc l) vs h.1)
    (λ x m n. both_ways (has v.members x) (taken_push_parts a lower v x (addresses_from_levels L t a ts s slots (lower ++ (v ∷ [])) (suc l) vs h.1 x n).1).1
    (taken_from L t a ts s slots l lower v h.0 x m).0))

-- with current bytes
pub levels_good : (L t a : ℕ) (ts : List (List ℕ)) (s : List (Act Mark)) (slots : List Slot) (value : ℕ → List ℕ) (P : ℕ → Type 0)
    (lower : List Level) (l : ℕ) (vs : List Level) → Along (Source L t a ts s) lower l vs → Along (Current ts slots a value) lower l vs →
    ((x : ℕ) → listed vs x ≡ true → x < blocks L → P x) → AllByRecursion (Good P value) (level_items ts slots a lower l vs)
levels_good L t a ts s slots value P lower l [] h k fine = tt
levels_good L t a ts s slots value P lower l (v ∷ vs) h k fine =
    All-append (Good P value) (map (item_at ts slots l v) (untouched_slots ts a lower l v)) (level_items ts slots a (lower ++ (v ∷ [])) (suc l) vs)
    (level_good L t a ts s slots value P l lower v h.0 k.0 (λ x e low. fine x (or_left (has v.members x) (listed vs x) e) low))
    (levels_good L t a ts s slots value P (lower ++ (v ∷ [])) (suc l) vs h.1 k.1 (λ x e low. fine x (or_right (has v.members x) (listed vs x) e) low))
