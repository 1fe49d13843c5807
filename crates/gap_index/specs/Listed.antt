-- Gaps and the list that they mean: its length, members and order, and what one more gap adds.
use Rattle.std.proofs.Common.{◌≡◌, ℕ, zero, suc, ◌+◌, ◌-◌, ◌<◌, ◌≤◌, false, eqb, leb, List, [], ◌∷◌, ◌++◌, length, get_or, take, Some, None, sum, refl, ap, arith}
use Rattle.std.specs.List.{slice_get}
use Rattle.std.specs.Bool.{then_some}
use Rattle.std.proofs.lemmas.Option.{slice_get_past}
use Rattle.std.proofs.lemmas.List.{take_all, get_or_past}
use Rattle.std.proofs.lemmas.List.Sums.{sum_by-cons, sum_by_push, sum_by_more, sum_by-take-le}
use Rattle.std.proofs.lemmas.Bool.Decides.{nat_tests}
use Rattle.index.specs.Lists.{Rising, has, smaller, above}
use Rattle.index.specs.RowLists.{rank_in, blocks_small}
use Rattle.gap_index.specs.Gaps.{Positive, gaps_from, gaps_of, listed_from, listed, GapsGiveTheList, ListGivesTheGaps}

-- ---- the first gap and the others

sum_cons : (g : ℕ) (gs : List ℕ) → sum (g ∷ gs) ≡ g + sum gs
sum_cons g gs = sum_by-cons (λ x. x) g gs

first_positive : (g : ℕ) (gs : List ℕ) → Positive (g ∷ gs) → 0 < g
first_positive g gs h = h 0 (omega arith)

rest_positive : (g : ℕ) (gs : List ℕ) → Positive (g ∷ gs) → Positive gs
rest_positive g gs h p i = h (suc p) (omega arith)

-- there are no more gaps than their sum
pub length_le_sum : (gs : List ℕ) → Positive gs → length gs ≤ sum gs
length_le_sum [] h = omega arith
length_le_sum (g ∷ gs) h = omega (arith, first_positive g gs h, sum_cons g gs, length_le_sum gs (rest_positive g gs h))

pub sum_more : (gs : List ℕ) (i : ℕ) → i < length gs → sum (take (i + 1) gs) ≡ sum (take i gs) + get_or gs i 0
sum_more gs i h = sum_by_more (λ x. x) gs i 0 h

pub sum_front : (gs : List ℕ) (i : ℕ) → sum (take i gs) ≤ sum gs
sum_front gs i = sum_by-take-le (λ x. x) gs i

-- ---- each undoes the other

gaps_listed : (f : ℕ) (gs : List ℕ) → Positive gs → gaps_from f (listed_from f gs) ≡ gs
unfolding gaps_from listed_from
gaps_listed f [] h = refl
gaps_listed f (g ∷ gs) h = grind (arith, first_positive g gs h, gaps_listed (f + g) gs (rest_positive g gs h))

pub list_gives_the_gaps : ListGivesTheGaps
list_gives_the_gaps gs h = gaps_listed 0 gs h

listed_gaps : (f : ℕ) (xs : List ℕ) → Rising xs → ((p : ℕ) → p < length xs → f ≤ get_or xs p 0) → listed_from f (gaps_from f xs) ≡ xs
unfolding gaps_from listed_from
listed_gaps f [] rises from = refl
listed_gaps f (x ∷ xs) rises from =
    let low : f ≤ x = from 0 (omega arith) in
    grind (arith, low, listed_gaps (x + 1) xs (λ i j h l. rises (suc i) (suc j) (omega arith) (omega arith)) (λ p h. omega (arith, rises 0 (suc p) (omega arith) (omega arith))))

pub gaps_give_the_list : GapsGiveTheList
gaps_give_the_list xs rises = listed_gaps 0 xs rises (λ p h. omega arith)

-- ---- length, members and order

length_from : (f : ℕ) (gs : List ℕ) → length (listed_from f gs) ≡ length gs
unfolding listed_from
length_from f [] = refl
length_from f (g ∷ gs) = ap suc (length_from (f + g) gs)

pub length_listed : (gs : List ℕ) → length (listed gs) ≡ length gs
length_listed gs = length_from 0 gs

member_from : (f : ℕ) (gs : List ℕ) (p : ℕ) → p < length gs → slice_get (listed_from f gs) p ≡ Some (f + sum (take (p + 1) gs) - 1)
unfolding listed_from
member_from f [] p h = absurd (omega arith)
member_from f (g ∷ gs) zero h = grind (arith, sum_cons g [])
member_from f (g ∷ gs) (suc p) h = grind (arith, member_from (f + g) gs p (omega arith), sum_cons g (take (p + 1) gs))

-- a member is the sum of the gaps up to it, minus 1
pub member_is : (gs : List ℕ) (p : ℕ) → p < length gs → slice_get (listed gs) p ≡ Some (sum (take (p + 1) gs) - 1)
member_is gs p h = grind (arith, member_from 0 gs p h)

pub member_past : (gs : List ℕ) (p : ℕ) → length gs ≤ p → slice_get (listed gs) p ≡ None
member_past gs p h = grind (arith, slice_get_past, length_listed)

-- the members lie from where the gaps are counted up to their sum
from_low : (f : ℕ) (gs : List ℕ) → Positive gs → (p : ℕ) → p < length (listed_from f gs) → f ≤ get_or (listed_from f gs) p 0
unfolding listed_from
from_low f [] h p i = absurd (omega arith)
from_low f (g ∷ gs) h zero i = omega (arith, first_positive g gs h)
from_low f (g ∷ gs) h (suc p) i = omega (arith, from_low (f + g) gs (rest_positive g gs h) p (omega arith))

from_high : (f : ℕ) (gs : List ℕ) → Positive gs → (p : ℕ) → p < length (listed_from f gs) → get_or (listed_from f gs) p 0 < f + sum gs
unfolding listed_from
from_high f [] h p i = absurd (omega arith)
from_high f (g ∷ gs) h zero i = omega (arith, first_positive g gs h, sum_cons g gs)
from_high f (g ∷ gs) h (suc p) i = omega (arith, from_high (f + g) gs (rest_positive g gs h) p (omega arith), sum_cons g gs)

pub member_below : (gs : List ℕ) → Positive gs → (p : ℕ) → p < length (listed gs) → get_or (listed gs) p 0 < sum gs
member_below gs h p i = omega (arith, from_high 0 gs h p i)

from_rises : (f : ℕ) (gs : List ℕ) → Positive gs → Rising (listed_from f gs)
unfolding listed_from
from_rises f [] h i j o l = absurd (omega arith)
from_rises f (g ∷ gs) h i zero o l = absurd (omega arith)
from_rises f (g ∷ gs) h zero (suc j) o l = omega (arith, first_positive g gs h, from_low (f + g) gs (rest_positive g gs h) j (omega arith))
from_rises f (g ∷ gs) h (suc i) (suc j) o l = from_rises (f + g) gs (rest_positive g gs h) i j (omega arith) (omega arith)

pub listed_rises : (gs : List ℕ) → Positive gs → Rising (listed gs)
listed_rises gs h = from_rises 0 gs h

-- ---- one more gap

from_push : (f : ℕ) (gs : List ℕ) (a g : ℕ) → f + sum gs + g ≡ a + 1 → listed_from f (gs ++ g ∷ []) ≡ listed_from f gs ++ a ∷ []
unfolding listed_from
from_push f [] a g e = grind arith
from_push f (x ∷ gs) a g e = grind (arith, from_push (f + x) gs a g (omega (arith, sum_cons x gs)))

-- the gap from the last member to an address above it adds that address
pub listed_push : (gs : List ℕ) (a : ℕ) → sum gs ≤ a → listed (gs ++ (a + 1 - sum gs) ∷ []) ≡ listed gs ++ a ∷ []
listed_push gs a h = from_push 0 gs a (a + 1 - sum gs) (omega arith)

pub sum_push : (gs : List ℕ) (a : ℕ) → sum gs ≤ a → sum (gs ++ (a + 1 - sum gs) ∷ []) ≡ a + 1
sum_push gs a h = omega (arith, sum_by_push (λ x. x) gs (a + 1 - sum gs))

-- ---- above every member, and none

above_from : (f : ℕ) (gs : List ℕ) (a : ℕ) → Positive gs → f ≤ a → above (listed_from f gs) a ≡ leb (f + sum gs) a
unfolding listed_from
above_from f [] a h l = grind (arith, nat_tests)
above_from f (g ∷ gs) a h l = grind (arith, nat_tests, above_from (f + g) gs a (rest_positive g gs h), first_positive g gs h, sum_cons g gs)

-- an address lies above every member when it is not below the sum of the gaps
pub above_is : (gs : List ℕ) (a : ℕ) → Positive gs → above (listed gs) a ≡ leb (sum gs) a
above_is gs a h = grind (arith, above_from 0 gs a h)

-- ---- ranks

has_early : (f : ℕ) (gs : List ℕ) (a : ℕ) → Positive gs → a < f → has (listed_from f gs) a ≡ false
unfolding listed_from
has_early f [] a h l = refl
has_early f (g ∷ gs) a h l = grind (arith, nat_tests, first_positive g gs h, has_early (f + g) gs a (rest_positive g gs h))

has_late : (f : ℕ) (gs : List ℕ) (a : ℕ) → Positive gs → f + sum gs ≤ a → has (listed_from f gs) a ≡ false
unfolding listed_from
has_late f [] a h l = refl
has_late f (g ∷ gs) a h l = grind (arith, nat_tests, first_positive g gs h, sum_cons g gs, has_late (f + g) gs a (rest_positive g gs h))

smaller_early : (f : ℕ) (gs : List ℕ) (a : ℕ) → Positive gs → a ≤ f → smaller (listed_from f gs) a ≡ 0
unfolding listed_from
smaller_early f [] a h l = refl
smaller_early f (g ∷ gs) a h l = grind (arith, nat_tests, first_positive g gs h, smaller_early (f + g) gs a (rest_positive g gs h))

-- an address that the running sums pass at a position: that is its rank, and it is a member where they reach it
pub record Passed (f : ℕ) (gs : List ℕ) (a i : ℕ) : Type 0 where
  pub rank : smaller (listed_from f gs) a ≡ i
  pub here : has (listed_from f gs) a ≡ eqb (a + 1) (f + sum (take (i + 1) gs))

passed : (f : ℕ) (gs : List ℕ) (a i : ℕ) → Positive gs → i < length gs → f + sum (take i gs) ≤ a → a < f + sum (take (i + 1) gs) → Passed f gs a i
unfolding listed_from
passed f [] a i h n low high = absurd (omega arith)
passed f (g ∷ gs) a zero h n low high =
    let pos = first_positive g gs h in
    let rest = rest_positive g gs h in
    record {
      rank = grind (arith, nat_tests, sum_cons g [], smaller_early (f + g) gs a rest);
      here = grind (arith, nat_tests, pos, sum_cons g [], has_early (f + g) gs a rest);
    }
passed f (g ∷ gs) a (suc i) h n low high =
    let pos = first_positive g gs h in
    let front : sum (take (suc i) (g ∷ gs)) ≡ g + sum (take i gs) = sum_cons g (take i gs) in
    let more : sum (take (suc i + 1) (g ∷ gs)) ≡ g + sum (take (i + 1) gs) = grind (arith, sum_cons g (take (i + 1) gs)) in
    let rest = passed (f + g) gs a i (rest_positive g gs h) (omega arith) (omega arith) (omega arith) in
    record {
      rank = grind (arith, nat_tests, pos, rest.rank);
      here = grind (arith, nat_tests, pos, rest.here);
    }

pub rank_passed : (gs : List ℕ) (a i next gap : ℕ) → Positive gs → i < length gs → next ≡ sum (take i gs) → gap ≡ get_or gs i 0 → next ≤ a → a < next + gap → then_some (eqb (a + 1) (next + gap)) i ≡ rank_in (listed gs) a
rank_passed gs a i next gap h n front own low high = grind (arith, front, own, sum_more gs i n, passed 0 gs a i h n (omega (arith, front)) (omega (arith, front, own, sum_more gs i n)))

pub rank_after : (gs : List ℕ) (a : ℕ) → Positive gs → sum gs ≤ a → None ≡ rank_in (listed gs) a
rank_after gs a h l = grind (arith, has_late 0 gs a h)

-- ---- none

pub listed_none : (gs : List ℕ) → gs ≡ [] → listed gs ≡ []
unfolding listed_from
listed_none gs e = ap listed e

pub gaps_none : (xs : List ℕ) → xs ≡ [] → gaps_of xs ≡ []
unfolding gaps_from
gaps_none xs e = ap gaps_of e

-- ---- what the methods are proved with

pub ruleset gap_facts = (gaps_give_the_list, list_gives_the_gaps, gaps_none, get_or_past)

pub ruleset row_steps = (take_all, length_listed, length_le_sum, sum_more, sum_front, member_is, member_past, listed_push, above_is, rank_passed, rank_after, listed_none, blocks_small)
