-- A slot was asked for exactly when its index was.
use Rattle.std.proofs.Common.{◌≡◌, ℕ, ◌<◌, ◌≤◌, not, eqb, ◌⊎◌, List, map, length, get_or, filter, sym, ap, ◌∙◌, inl, inr, arith}
use mathlib.Core.Path.{fun_ext}
use Rattle.std.specs.List.{range_with_len, AllByRecursion}
use Rattle.std.proofs.lemmas.Bool.{cases_lt}
use Rattle.permutations.specs.Tables.{IsPermutation, position}
use Rattle.permutations.specs.Lists.{among}
use Rattle.permutations.specs.Choices.{IsChoice, size_of, table_of, slot_in}
use Rattle.permutations.specs.Scripts.{Act, asked_of, unasked, Sound}
use Rattle.permutations.proofs.Tables.{position_stands, before_position}
use Rattle.permutations.proofs.Members.{eqb_same, among_map}
use Rattle.permutations.proofs.Asking.{asked_indexes}

-- x stands at its position first
position_first : (p : List ℕ) (x i : ℕ) → get_or p i 0 ≡ x → position p x ≤ i
position_first p x i e = by (cases_lt i (position p x))
  where
    by : (i < position p x) ⊎ (position p x ≤ i) → position p x ≤ i
    by (inl l) = absurd (before_position p x i l e)
    by (inr l) = l

-- the slot of index i is s exactly when i is the position of s
pub slot_is : (n : ℕ) (p : List ℕ) → IsPermutation n p → (s i : ℕ) → i < n → eqb (slot_in p i) s ≡ eqb i (position p s)
slot_is n p h s i l =
    eqb_same (slot_in p i) s i (position p s) found (λ e. ap (slot_in p) e ∙ position_stands p s (omega (arith, h.sized)))
  where
    found : slot_in p i ≡ s → i ≡ position p s
    found e =
        let first : position p s ≤ i = position_first p s i e in
        h.apart i (position p s) l (omega arith) (e ∙ sym (position_stands p s (omega (arith, h.sized))))

pub slots_asked_by_index : (n : ℕ) (p : List ℕ) → IsPermutation n p → (is : List ℕ) → AllByRecursion (λ i. i < n) is → (s : ℕ) →
    among (map (slot_in p) is) s ≡ among is (position p s)
slots_asked_by_index n p h is below s = among_map (slot_in p) (λ i. i < n) s (position p s) (slot_is n p h s) is below

-- the slots that were not asked for, found by their index
pub unasked_by_index : {M : Type 0} (ns : List ℕ) (ts : List (List ℕ)) (past : List (Act M)) (b : ℕ) → IsChoice ns ts → Sound ns past → b < length ns →
    unasked ns ts past b ≡ filter (λ s. not (among (asked_of b past) (position (table_of ts b) s))) (range_with_len 0 (size_of ns b))
unasked_by_index ns ts past b h ok l =
    ap (λ f. filter (λ s. not (f s)) (range_with_len 0 (size_of ns b)))
    (fun_ext (slots_asked_by_index (size_of ns b) (table_of ts b) (h.tables b l) (asked_of b past) (asked_indexes ns past ok b).below))
