-- Every slot of a joined store has as many bytes as the store is wide. Lemmas alone.
use Rattle.std.specs.Prelude.{◌≡◌, ℕ, ◌+◌, ◌<◌, ◌≤◌, true, [], ◌++◌, length}
use Rattle.std.proofs.Common.{⊎_elim, arith, length-append}
use Rattle.std.proofs.lemmas.Bool.{cases_lt, cond_both}
use Rattle.std.proofs.lemmas.Bool.Decides.{nat_tests}
use Rattle.std.proofs.lemmas.List.{get_or_append_left, get_or-append_right}
use Rattle.store.specs.State.{State, Wide, slot_at}
use Rattle.joined_store.specs.Joined.{joins, joined_state}

pub joins_widths : (w : ℕ) (a b : State) → joins w a b ≡ true → (a.width ≡ w) × (b.width ≡ w)
joins_widths w a b j = grind (arith, nat_tests, j)

-- what two stores that join have in common, and how many places they have at most
pub joins_facts : (w : ℕ) (a b : State) → joins w a b ≡ true → (a.width ≡ w) × ((b.width ≡ w) × (length a.slots + length b.slots ≤ 1000000))
joins_facts w a b j = (grind (arith, nat_tests, j), (grind (arith, nat_tests, j), grind (arith, nat_tests, j)))

pub wide_joined : (w : ℕ) (a b : State) (v t : ℕ) → Wide a → Wide b → Wide (joined_state w a b v t)
wide_joined w a b v t wa wb =
    cond_both (joins w a b) (a.slots ++ b.slots) [] (λ slots. (p : ℕ) → p < length slots → length (slot_at slots p).bytes ≡ w)
    (λ j p h. let e = joins_widths w a b j in
    ⊎_elim (λ lt. grind (arith, wa p, get_or_append_left)) (λ ge. grind (arith, length-append, wb, get_or-append_right)) (cases_lt p (length a.slots)))
    (λ j p h. absurd (omega arith))
