-- Swaps, the permutation that takes one list to another, and tables moved by it.
use Rattle.std.proofs.Common.{◌≡◌, ℕ, ◌<◌, Bool, true, false, cond, eqb, List, [], ◌∷◌, map, length, sym, refl, ap, ◌∙◌, subst, ap₂, arith}
use mathlib.Core.List.{map-map}
use Rattle.std.specs.List.{AllByRecursion}
use Rattle.std.proofs.lemmas.List.FromFn.{get_or-map-range_with_len, length-map-range_with_len}
use Rattle.std.proofs.lemmas.List.{ext_get_or}
use Rattle.std.proofs.lemmas.Bool.{eqb-false, or_parts}
use Rattle.permutations.specs.Tables.{IsPermutation}
use Rattle.permutations.specs.Lists.{among, Apart, AreIndexes}
use Rattle.permutations.specs.Choices.{slot_in}
use Rattle.permutations.specs.Partners.{swap, carried, moved}
use Rattle.permutations.specs.Laws.{ListsExtend, TablesCorrespond}
use Rattle.permutations.proofs.Members.{eqb_same, among_map}

swap_left : (a b : ℕ) → swap a b a ≡ b
swap_left a b = grind arith

swap_twice : (a b x : ℕ) → swap a b (swap b a x) ≡ x
swap_twice a b x = grind arith

swap_other : (a b x : ℕ) → (x ≡ a → ⊥) → (x ≡ b → ⊥) → swap a b x ≡ x
swap_other a b x n m = grind arith

swap_below : (n a b x : ℕ) → a < n → b < n → x < n → swap a b x < n
swap_below n a b x h k l = grind arith

swap_through : (f : ℕ → ℕ) → ((x y : ℕ) → f x ≡ f y → x ≡ y) → (a b x : ℕ) → f (swap a b x) ≡ swap (f a) (f b) (f x)
swap_through f inj a b x =
    rw (eqb_same (f x) (f a) x a (inj x a) (ap f), eqb_same (f x) (f b) x b (inj x b) (ap f))
    (by (eqb x a) (eqb x b))
  where
    by : (p q : Bool) → f (cond p b (cond q a x)) ≡ cond p (f b) (cond q (f a) (f x))
    by true q = refl
    by false true = refl
    by false false = refl

-- ---- the permutation that takes one list to another

undo_step : (a b : ℕ) (f g : ℕ → ℕ) → ((x : ℕ) → g (f x) ≡ x) → ((x : ℕ) → f (g x) ≡ x) →
    (x : ℕ) → swap (g b) a (g (swap (f a) b (f x))) ≡ x
undo_step a b f g gf fg x =
    ap (swap (g b) a)
    (swap_through g (λ y z e. sym (fg y) ∙ ap f e ∙ fg z) (f a) b (f x) ∙ ap₂ (λ (u v : ℕ). swap u (g b) v) (gf a) (gf x))
    ∙ swap_twice (g b) a x

-- both ways undo each other at every number, whatever the lists
both_undone : (is js : List ℕ) → ((x : ℕ) → carried js is (carried is js x) ≡ x) × ((x : ℕ) → carried is js (carried js is x) ≡ x)
both_undone [] [] = (λ x. refl, λ x. refl)
both_undone [] (j ∷ js) = (λ x. refl, λ x. refl)
both_undone (i ∷ is) [] = (λ x. refl, λ x. refl)
both_undone (i ∷ is) (j ∷ js) =
    let u = both_undone is js in
    (undo_step i j (carried is js) (carried js is) u.0 u.1, undo_step j i (carried js is) (carried is js) u.1 u.0)

pub carried_undone : (is js : List ℕ) (x : ℕ) → carried js is (carried is js x) ≡ x
carried_undone is js = (both_undone is js).0

pub carried_apart : (is js : List ℕ) (x y : ℕ) → carried is js x ≡ carried is js y → x ≡ y
carried_apart is js x y e = sym (carried_undone is js x) ∙ ap (carried js is) e ∙ carried_undone is js y

pub carried_below : (n : ℕ) (is js : List ℕ) → AllByRecursion (λ i. i < n) is → AllByRecursion (λ j. j < n) js → (x : ℕ) → x < n → carried is js x < n
carried_below n [] js h k x l = l
carried_below n (i ∷ is) [] h k x l = l
carried_below n (i ∷ is) (j ∷ js) h k x l =
    let below = carried_below n is js h.1 k.1 in
    swap_below n (carried is js i) j (carried is js x) (below i h.0) k.0 (below x l)

swap_stays : (a b : ℕ) (xs : List ℕ) → among xs a ≡ false → among xs b ≡ false → map (swap a b) xs ≡ xs
swap_stays a b [] h k = refl
swap_stays a b (x ∷ xs) h k =
    let p = or_parts (eqb x a) (among xs a) h in
    let q = or_parts (eqb x b) (among xs b) k in
    ap₂ (λ (y : ℕ) (ys : List ℕ). y ∷ ys) (swap_other a b x (eqb-false x a p.0) (eqb-false x b q.0)) (swap_stays a b xs p.1 q.1)

all_true : (xs : List ℕ) → AllByRecursion (λ x. Unit {0}) xs
all_true [] = tt
all_true (x ∷ xs) = (tt, all_true xs)

-- it takes the one list to the other
pub carried_list : (is js : List ℕ) → Apart is → Apart js → length is ≡ length js → map (carried is js) is ≡ js
carried_list [] [] h k l = refl
carried_list [] (j ∷ js) h k l = absurd (omega arith)
carried_list (i ∷ is) [] h k l = absurd (omega arith)
carried_list (i ∷ is) (j ∷ js) h k l =
    let f = carried is js in
    let rest : map f is ≡ js = carried_list is js h.1 k.1 (omega arith) in
    let same = among_map f (λ x. Unit {0}) (f i) i (λ x _. eqb_same (f x) (f i) x i (carried_apart is js x i) (ap f)) is (all_true is) in
    let new : among js (f i) ≡ false = ap (λ (xs : List ℕ). among xs (f i)) (sym rest) ∙ same ∙ h.0 in
    ap₂ (λ (y : ℕ) (ys : List ℕ). y ∷ ys) (swap_left (f i) j)
    (sym (map-map (swap (f i) j) f is) ∙ ap (map (swap (f i) j)) rest ∙ swap_stays (f i) j js new k.0)

-- ---- tables

map_same : (f g : ℕ → ℕ) (P : ℕ → Type 0) → ((x : ℕ) → P x → f x ≡ g x) → (xs : List ℕ) → AllByRecursion P xs → map f xs ≡ map g xs
map_same f g P e [] h = refl
map_same f g P e (x ∷ xs) h = ap₂ (λ (y : ℕ) (ys : List ℕ). y ∷ ys) (e x h.0) (map_same f g P e xs h.1)

pub slot_moved : (n : ℕ) (js is p : List ℕ) (j : ℕ) → j < n → slot_in (moved n js is p) j ≡ slot_in p (carried js is j)
slot_moved n js is p j h = get_or-map-range_with_len (λ i. slot_in p (carried js is i)) 0 n j j 0 h (omega arith)

-- the slots of `is` in a table are those of `js` in the moved one
pub slots_moved : (n : ℕ) (is js : List ℕ) → AreIndexes n is → AreIndexes n js → length is ≡ length js →
    (p : List ℕ) → map (slot_in p) is ≡ map (slot_in (moved n js is p)) js
slots_moved n is js h k l p =
    ap (map (slot_in p)) (sym (carried_list js is k.apart h.apart (sym l)))
    ∙ map-map (slot_in p) (carried js is) js
    ∙ sym (map_same (slot_in (moved n js is p)) (λ j. slot_in p (carried js is j)) (λ j. j < n) (slot_moved n js is p) js k.below)

pub moved_permutation : (n : ℕ) (is js : List ℕ) → AreIndexes n is → AreIndexes n js → (p : List ℕ) → IsPermutation n p → IsPermutation n (moved n js is p)
moved_permutation n is js h k p perm = record {
  sized = length-map-range_with_len (λ i. slot_in p (carried js is i)) 0 n;
  below = λ i l. subst (λ x. x < n) (sym (slot_moved n js is p i l)) (perm.below (carried js is i) (at i l));
  apart = λ i j l m e.
      carried_apart js is i j
      (perm.apart (carried js is i) (carried js is j) (at i l) (at j m) (sym (slot_moved n js is p i l) ∙ e ∙ slot_moved n js is p j m));
}
  where
    at : (i : ℕ) → i < n → carried js is i < n
    at = carried_below n js is k.below h.below

pub moved_undone : (n : ℕ) (is js : List ℕ) → AreIndexes n is → AreIndexes n js → (p : List ℕ) → length p ≡ n → moved n is js (moved n js is p) ≡ p
moved_undone n is js h k p l = ext_get_or 0 (moved n is js (moved n js is p)) p (long ∙ sym l) same
  where
    long : length (moved n is js (moved n js is p)) ≡ n
    long = length-map-range_with_len (λ i. slot_in (moved n js is p) (carried is js i)) 0 n

    same : (i : ℕ) → i < length (moved n is js (moved n js is p)) → slot_in (moved n is js (moved n js is p)) i ≡ slot_in p i
    same i m =
        let b : i < n = omega (arith, long) in
        slot_moved n is js (moved n js is p) i b
        ∙ slot_moved n js is p (carried is js i) (carried_below n is js h.below k.below i b)
        ∙ ap (slot_in p) (carried_undone is js i)

-- ---- the laws

pub lists_extend : ListsExtend
lists_extend n is js h k l = (carried_list is js h.apart k.apart l, carried_undone is js, carried_below n is js h.below k.below)

pub tables_correspond : TablesCorrespond
tables_correspond n is js h k l = (
  record {
    there = moved_permutation n is js h k;
    back = moved_permutation n js is k h;
    there_and_back = λ p perm. moved_undone n is js h k p perm.sized;
    back_and_there = λ p perm. moved_undone n js is k h p perm.sized;
  },
  slots_moved n is js h k l,
)
