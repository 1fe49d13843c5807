-- A part's share of a round.
use Rattle.std.proofs.Common.{◌≡◌, ℕ, zero, suc, ◌+◌, ◌*◌, ◌≤◌, true, false, cond, List, [], ◌∷◌, ◌++◌, length, take, drop, refl, sym, ap, subst, ◌∙◌, arith, zero-add, zero-mul, suc-mul, add-mul, add-one}
use Rattle.std.proofs.lemmas.List.{drop-drop, nil_from_length, take-append-drop, length-drop, length-take-le, length-append, append_assoc}
use Rattle.std.proofs.lemmas.Bool.{and_parts}
use borrow.Rule.Slice.PartMut.{put_mid}
use Rattle.std.proofs.Math.Seq.{take-add}
use Rattle.std.proofs.lemmas.Grind.{common_steps}
use Rattle.joined_store.specs.declared.part.Part.{Part}
use Rattle.std.specs.List.{list_all}
use Rattle.joined_store.specs.Joined.{lies_in, numbered, places_in, items_in}
use Rattle.joined_store.specs.Inner.{scattered}

-- ---- one item on

one_more : (k w : ℕ) → (k + 1) * w ≡ k * w + w
one_more k w = rw (add-one k) (suc-mul k w)

pub item_dropped : {X : Type 0} (k w : ℕ) (xs : List X) → drop w (drop (k * w) xs) ≡ drop ((k + 1) * w) xs
item_dropped k w xs = drop-drop w (k * w) xs ∙ ap (λ m. drop m xs) (sym (one_more k w))

pub item_taken : {X : Type 0} (k w : ℕ) (xs : List X) → take ((k + 1) * w) xs ≡ take (k * w) xs ++ take w (drop (k * w) xs)
item_taken k w xs = ap (λ m. take m xs) (one_more k w) ∙ take-add (k * w) w xs

pub ruleset steps = (common_steps, item_dropped, item_taken)

-- ---- how long a share is

pub items_length : {X : Type 0} (part : Part) (n w : ℕ) (ps : List ℕ) (xs : List X) → length xs ≡ length ps * w → length (items_in part n w ps xs) ≡ length (places_in part n ps) * w
items_length part n w [] xs l = sym (zero-mul w)
items_length part n w (p ∷ ps) xs l =
    let many = suc-mul (length ps) w in
    let own = suc-mul (length (places_in part n ps)) w in
    let full : length (take w xs) ≡ w = length-take-le w xs (omega (arith, l, many)) in
    let rest : length (drop w xs) ≡ length ps * w = length-drop w xs ∙ omega (arith, l, many) in
    grind (arith, length-append, items_length part n w ps (drop w xs) rest)

-- ---- where every place lies in the part, everything belongs to it

places_few : (part : Part) (n : ℕ) (ps : List ℕ) → length (places_in part n ps) ≤ length ps
places_few part n [] = omega arith
places_few part n (p ∷ ps) = grind (arith, places_few part n ps)

pub items_all : {X : Type 0} (part : Part) (n w : ℕ) (ps : List ℕ) (xs : List X) → length xs ≡ length ps * w → length (places_in part n ps) ≡ length ps → items_in part n w ps xs ≡ xs
items_all part n w [] xs l e = sym (nil_from_length xs (l ∙ zero-mul w))
items_all part n w (p ∷ ps) xs l e =
    let few = places_few part n ps in
    let many = suc-mul (length ps) w in
    grind (arith, take-append-drop, length-drop, items_all part n w ps (drop w xs))

pub scattered_all : {X : Type 0} (part : Part) (n w : ℕ) (ps : List ℕ) (own xs : List X) → length own ≡ length ps * w → length xs ≡ length ps * w → length (places_in part n ps) ≡ length ps → scattered part n w ps own xs ≡ own
scattered_all part n w [] own xs l m e = nil_from_length xs (m ∙ zero-mul w) ∙ sym (nil_from_length own (l ∙ zero-mul w))
scattered_all part n w (p ∷ ps) own xs l m e =
    let few = places_few part n ps in
    let many = suc-mul (length ps) w in
    grind (arith, take-append-drop, length-drop, scattered_all part n w ps (drop w own) (drop w xs))

pub scattered_none : {X : Type 0} (part : Part) (n w : ℕ) (ps : List ℕ) (own xs : List X) → length (places_in part n ps) ≡ 0 → scattered part n w ps own xs ≡ xs
scattered_none part n w [] own xs e = refl
scattered_none part n w (p ∷ ps) own xs e = grind (arith, take-append-drop, scattered_none part n w ps own (drop w xs))

-- ---- where the part's places stand side by side, its items are a stretch of the round's

held_all : (part : Part) (n : ℕ) (ps : List ℕ) → list_all (λ p. lies_in part n p) ps ≡ true → length (places_in part n ps) ≡ length ps
held_all part n [] e = refl
held_all part n (p ∷ ps) e = let both = and_parts (lies_in part n p) (list_all (λ p. lies_in part n p) ps) e in rw both.0 (ap suc (held_all part n ps both.1))

few_in_front : (part : Part) (n k : ℕ) (ps : List ℕ) → length (places_in part n (take k ps)) ≤ length (places_in part n ps)
few_in_front part n zero ps = omega arith
few_in_front part n (suc k) [] = omega arith
few_in_front part n (suc k) (p ∷ ps) = grind (arith, few_in_front part n k ps)

few_behind : (part : Part) (n k : ℕ) (ps : List ℕ) → length (places_in part n (drop k ps)) ≤ length (places_in part n ps)
few_behind part n zero ps = omega arith
few_behind part n (suc k) [] = omega arith
few_behind part n (suc k) (p ∷ ps) = grind (arith, few_behind part n k ps)

-- where all the part's places stand further on, the first one is none of them
outside_part : (part : Part) (n p : ℕ) (ps : List ℕ) (count : ℕ) → length (places_in part n (p ∷ ps)) ≡ count → count ≤ length (places_in part n ps) → lies_in part n p ≡ false
outside_part part n p ps count e le = grind (arith, e, le)

scattered_front : {X : Type 0} (part : Part) (n w count : ℕ) (ps : List ℕ) (own xs : List X) → count ≤ length ps → list_all (λ p. lies_in part n p) (take count ps) ≡ true → length (places_in part n ps) ≡ count → length own ≡ count * w → length xs ≡ length ps * w → scattered part n w ps own xs ≡ own ++ drop (count * w) xs
scattered_front part n w zero ps own xs f h e l m = rw (nil_from_length own (l ∙ zero-mul w), zero-mul w) (scattered_none part n w ps [] xs e)
scattered_front part n w (suc count) [] own xs f h e l m = absurd (omega arith)
scattered_front part n w (suc count) (p ∷ ps) own xs f h e l m =
    let both = and_parts (lies_in part n p) (list_all (λ p. lies_in part n p) (take count ps)) h in
    let all : suc (length (places_in part n ps)) ≡ suc count = subst (λ b. length (cond b (numbered part n p ∷ places_in part n ps) (places_in part n ps)) ≡ suc count) both.0 e in
    let many = suc-mul (length ps) w in
    let own_many = suc-mul count w in
    let own_rest : length (drop w own) ≡ count * w = length-drop w own ∙ omega (arith, l, own_many) in
    let rest : length (drop w xs) ≡ length ps * w = length-drop w xs ∙ omega (arith, m, many) in
    let behind : drop (count * w) (drop w xs) ≡ drop (suc count * w) xs = drop-drop (count * w) w xs ∙ ap (λ k. drop k xs) (omega (arith, own_many)) in
    let ih = scattered_front part n w count ps (drop w own) (drop w xs) (omega (arith, f)) both.1 (omega (arith, all)) own_rest rest in
    rw both.0
    (ap (λ r. take w own ++ r) ih
    ∙ sym (append_assoc (take w own) (drop w own) (drop (count * w) (drop w xs)))
    ∙ ap (λ r. r ++ drop (count * w) (drop w xs)) (take-append-drop w own)
    ∙ ap (λ r. own ++ r) behind)

scattered_stretch : {X : Type 0} (part : Part) (n w from count : ℕ) (ps : List ℕ) (own xs : List X) → from + count ≤ length ps → list_all (λ p. lies_in part n p) (take count (drop from ps)) ≡ true → length (places_in part n ps) ≡ count → length own ≡ count * w → length xs ≡ length ps * w → scattered part n w ps own xs ≡ take (from * w) xs ++ (own ++ drop ((from + count) * w) xs)
scattered_stretch part n w zero count ps own xs f h e l m = rw (zero-mul w, zero-add count) (scattered_front part n w count ps own xs (omega arith) h e l m)
scattered_stretch part n w (suc from) count [] own xs f h e l m = absurd (omega arith)
scattered_stretch part n w (suc from) count (p ∷ ps) own xs f h e l m =
    let ms = take count (drop from ps) in
    let held : length (places_in part n ms) ≡ count = held_all part n ms h ∙ length-take-le count (drop from ps) (omega (arith, f, length-drop from ps)) in
    let front = few_in_front part n count (drop from ps) in
    let behind = few_behind part n from ps in
    let outside = outside_part part n p ps count e (omega (arith, held, front, behind)) in
    let many = suc-mul (length ps) w in
    let over = suc-mul from w in
    let beyond = suc-mul (from + count) w in
    let rest : length (drop w xs) ≡ length ps * w = length-drop w xs ∙ omega (arith, m, many) in
    let own_places : length (places_in part n ps) ≡ count = subst (λ b. length (cond b (numbered part n p ∷ places_in part n ps) (places_in part n ps)) ≡ count) outside e in
    let ih = scattered_stretch part n w from count ps own (drop w xs) (omega (arith, f)) h own_places l rest in
    rw outside
    (ap (λ r. take w xs ++ r) ih
    ∙ sym (append_assoc (take w xs) (take (from * w) (drop w xs)) (own ++ drop ((from + count) * w) (drop w xs)))
    ∙ ap (λ r. r ++ (own ++ drop ((from + count) * w) (drop w xs))) (sym (take-add w (from * w) xs) ∙ ap (λ k. take k xs) (omega (arith, over)))
    ∙ ap (λ r. take (suc from * w) xs ++ (own ++ r)) (drop-drop ((from + count) * w) w xs ∙ ap (λ k. drop k xs) (omega (arith, beyond))))

-- that stretch written over with the part's items
pub stretch_written : {X : Type 0} (part : Part) (n w from count : ℕ) (ps : List ℕ) (own xs ys : List X) (a k : ℕ) → from + count ≤ length ps → list_all (λ p. lies_in part n p) (take count (drop from ps)) ≡ true → length (places_in part n ps) ≡ count → length own ≡ count * w → length xs ≡ length ps * w → ys ≡ own → a ≡ from * w → k ≡ count * w → put_mid a k xs ys ≡ scattered part n w ps own xs
stretch_written part n w from count ps own xs ys a k f h e l m same begin size =
    let behind : drop k (drop a xs) ≡ drop ((from + count) * w) xs = drop-drop k a xs ∙ ap (λ j. drop j xs) (omega (arith, begin, size, add-mul from count w)) in
    ap (λ j. take j xs ++ (ys ++ drop k (drop a xs))) begin
    ∙ ap (λ r. take (from * w) xs ++ r) (ap (λ r. r ++ drop k (drop a xs)) same ∙ ap (λ r. own ++ r) behind)
    ∙ sym (scattered_stretch part n w from count ps own xs f h e l m)
