-- When a call is declined, and by which number: decided by what the client knows, the call, and the number of builds K alone.
use Rattle.std.specs.Prelude.{ℕ, suc, ◌+◌, ◌-◌, ◌*◌, ◌/◌, ◌^◌, Bool, true, false, cond, List, [], ◌∷◌, length, Some, None, Option, ◌==◌, nat_le, nat_lt}
use Rattle.shape.specs.Numbers.{blocks, level_slots, level_of_build, batch_slots}
use Rattle.shape.specs.declared.refusal.Refusal.{Refusal}
use Rattle.shape.specs.declared.refusal.Refusal.TheVariants.{NotOpened, WrongTurn, UnknownOperation, UnknownAddress, WrongByteLength, BuildsUsedUp, TraceTooShort}
use Rattle.rules.specs.World.{Level, Client}
use Rattle.rules.specs.Calls.{Call, load, access, rebuild, turn_of}

-- a condition that must hold, and the refusal where it does not
pub record Check : Type 0 where
  pub holds : Bool
  pub otherwise : Refusal

-- the refusal of the first check that fails
abbrev pub first_failing : List Check → Option Refusal
first_failing [] = None
first_failing (c ∷ cs) = cond c.holds (first_failing cs) (Some c.otherwise)

abbrev pub check : Bool → Refusal → Check
check b r = record { holds = b; otherwise = r }

-- opened without a refusal
abbrev pub unrefused : Client → Bool
unrefused k = elim k.refusal [ Some r ↦ false | None ↦ true ]

-- how many levels are occupied: the entries of an access
abbrev pub occupied_count : List Level → ℕ
occupied_count [] = 0
occupied_count (v ∷ vs) = cond v.occupied (suc (occupied_count vs)) (occupied_count vs)

-- the level that the rebuild of the latest access goes to
abbrev pub rebuild_level : Client → ℕ
rebuild_level k = level_of_build k.top k.accesses

-- the batches of level l
abbrev pub batches : ℕ → ℕ
batches l = level_slots l / batch_slots (level_slots l)

-- the entries of a rebuild of level l
abbrev pub rebuild_entries : ℕ → ℕ → ℕ
rebuild_entries L l =
    cond (nat_lt l L) (3 * 2 ^ l - 1) (4 * 2 ^ L - 1) + batches l * (level_slots l + batch_slots (level_slots l))

-- the checks of each call in their order
abbrev pub checks : ℕ → Client → Call → List Check
checks K k (load bytes room) =
    check (unrefused k) NotOpened
    ∷ check (turn_of (load bytes room) == k.number) WrongTurn
    ∷ check (length bytes == blocks k.top * k.width) WrongByteLength
    ∷ check (nat_le (level_slots k.top) room) TraceTooShort ∷ []
checks K k (access j op a bytes room) =
    check (unrefused k) NotOpened
    ∷ check (turn_of (access j op a bytes room) == k.number) WrongTurn
    ∷ check (nat_le op 1) UnknownOperation
    ∷ check (nat_lt a (blocks k.top)) UnknownAddress
    ∷ check (length bytes == k.width) WrongByteLength
    ∷ check (nat_lt (k.accesses + 1) K) BuildsUsedUp
    ∷ check (nat_le (occupied_count k.levels) room) TraceTooShort ∷ []
checks K k (rebuild j room) =
    check (unrefused k) NotOpened
    ∷ check (turn_of (rebuild j room) == k.number) WrongTurn
    ∷ check (nat_le (rebuild_entries k.top (rebuild_level k)) room) TraceTooShort ∷ []

-- none, or the number by which a call is declined
abbrev pub verdict : ℕ → Client → Call → Option Refusal
verdict K k c = first_failing (checks K k c)
