-- What an index means, whatever its kind: L rising lists of addresses, one for each level below L.
use Rattle.std.specs.Prelude.{ℕ, ◌+◌, ◌^◌, ◌<◌, ◌≤◌, Bool, true, false, cond, ◌&&◌, ◌||◌, List, [], ◌∷◌, ◌++◌, length, Some, None, Ok, Err, Option, Result, ◌==◌, nat_lt, slice_index, slice_index_or, slice_set}
use Rattle.shape.specs.declared.refusal.Refusal.{Refusal}
use Rattle.shape.specs.declared.refusal.Refusal.TheVariants.{WrongListChange}

-- the list of level l; L is how many lists there are
abbrev pub list_at : List (List ℕ) → ℕ → List ℕ
list_at lists l = slice_index_or lists l []

-- a is a member
abbrev pub has : List ℕ → ℕ → Bool
has [] a = false
has (x ∷ xs) a = x == a || has xs a

-- the rank of a: how many members are smaller
abbrev pub smaller : List ℕ → ℕ → ℕ
smaller [] a = 0
smaller (x ∷ xs) a = cond (nat_lt x a) 1 0 + smaller xs a

-- a is above every member; of a rising list, above the last
abbrev pub above : List ℕ → ℕ → Bool
above [] a = true
above (x ∷ xs) a = nat_lt x a && above xs a

-- of two positions the later holds the larger address
abbrev pub Rising : List ℕ → Type 0
Rising xs = (i j : ℕ) → i < j → j < length xs → slice_index xs i < slice_index xs j

-- L is 1 to 12; every list rises, its members are addresses, and that of level l has at most 2^l of them
pub record Lawful (lists : List (List ℕ)) : Type 0 where
  pub levels_low : 1 ≤ length lists
  pub levels_high : length lists ≤ 12
  pub rises : (l : ℕ) → l < length lists → Rising (list_at lists l)
  pub addresses : (l p : ℕ) → l < length lists → p < length (list_at lists l) → slice_index (list_at lists l) p < 2 ^ length lists
  pub sizes : (l : ℕ) → l < length lists → length (list_at lists l) ≤ 2 ^ l

-- the answers to the questions: what is missing is absent
abbrev pub size_answer : List (List ℕ) → ℕ → Option ℕ
size_answer lists l = cond (nat_lt l (length lists)) (Some (length (list_at lists l))) None

abbrev pub member_answer : List (List ℕ) → ℕ → ℕ → Option ℕ
member_answer lists l p =
    cond (nat_lt l (length lists) && nat_lt p (length (list_at lists l))) (Some (slice_index (list_at lists l) p)) None

abbrev pub rank_answer : List (List ℕ) → ℕ → ℕ → Option ℕ
rank_answer lists l a = cond (nat_lt l (length lists) && has (list_at lists l) a) (Some (smaller (list_at lists l) a)) None

-- level l takes a: there is such a list, a is an address above its members, and the list is not full
abbrev pub takes : List (List ℕ) → ℕ → ℕ → Bool
takes lists l a =
    nat_lt l (length lists) && (nat_lt a (2 ^ length lists) && (above (list_at lists l) a && nat_lt (length (list_at lists l)) (2 ^ l)))

abbrev pub append_answer : List (List ℕ) → ℕ → ℕ → Result (Unit {0}) Refusal
append_answer lists l a = cond (takes lists l a) (Ok tt) (Err WrongListChange)

abbrev pub appended : List (List ℕ) → ℕ → ℕ → List (List ℕ)
appended lists l a = slice_set lists l (list_at lists l ++ (a ∷ []))

abbrev pub clear_answer : List (List ℕ) → ℕ → Result (Unit {0}) Refusal
clear_answer lists l = cond (nat_lt l (length lists)) (Ok tt) (Err WrongListChange)

abbrev pub cleared : List (List ℕ) → ℕ → List (List ℕ)
cleared lists l = slice_set lists l []
