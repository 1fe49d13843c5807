-- When a call is declined, and by which number: told by what happened before and the call, and not by what the client knows.
use Rattle.std.specs.Prelude.{◌≡◌, ℕ, suc, ◌+◌, ◌-◌, ◌*◌, ◌/◌, ◌^◌, ◌<◌, ◌≤◌, min, cond, ◌⊎◌, ◌↔◌, List, [], ◌∷◌, length, Some, None, filter, ◌≢◌, nat_lt, slice_index_or}
use Rattle.std.specs.List.{range_with_len}
use Rattle.shape.specs.Numbers.{level_of_build}
use Rattle.shape.specs.declared.refusal.Refusal.TheVariants.{OutOfRange, StoreUnfit, IndexOrSupplyUnfit, NotOpened, WrongTurn, UnknownOperation, UnknownAddress, WrongByteLength, BuildsUsedUp, TraceTooShort}
use Rattle.rules.specs.Calls.{Call, load, access, rebuild, turn_of, entries_of}
use Rattle.rules.specs.Opening.{Parts, opening}
use Rattle.laws.specs.Runs.{bit, Choices}
use Rattle.laws.specs.Histories.{History, build_count, calls_so_far, accesses_so_far, outcome_of, Declined, Accepted}

-- ---- the order of the conditions

-- none of these holds
abbrev pub NoneOf : List (Type 0) → Type 0
NoneOf [] = Unit {0}
NoneOf (C ∷ Cs) = (C → ⊥) × NoneOf Cs

-- a condition holds, and none of the earlier ones
abbrev pub First : Type 0 → List (Type 0) → Type 0
First C earlier = C × NoneOf earlier

-- ---- conditions at opening

-- L is not 1 to 12, or W is not 1 to 512
abbrev pub IsOutOfRange : ℕ → ℕ → Type 0
IsOutOfRange L W = ((L < 1) ⊎ (12 < L)) ⊎ ((W < 1) ⊎ (512 < W))

-- the store has another width, or fewer than 6n - 2 places
abbrev pub IsStoreUnfit : ℕ → ℕ → Parts → Type 0
IsStoreUnfit L W p = (p.store_width ≢ W) ⊎ (length p.store_slots < 6 * 2 ^ L - 2)

-- one of the index's lists has a member
abbrev pub SomeFilled : List (List ℕ) → Type 0
SomeFilled lists = (i : ℕ) × (i < length lists) × (0 < length (slice_index_or lists i []))

-- the index has not L lists, or the supply is of another L, or one of the lists has a member
abbrev pub IsIndexOrSupplyUnfit : ℕ → Parts → Type 0
IsIndexOrSupplyUnfit L p = (length p.index_lists ≢ L) ⊎ ((p.supply_top ≢ L) ⊎ SomeFilled p.index_lists)

pub record OpeningRefusals (L W : ℕ) (p : Parts) : Type 0 where
  pub out_of_range : (opening L W p).client.refusal ≡ Some OutOfRange ↔ First (IsOutOfRange L W) []
  pub store_unfit : (opening L W p).client.refusal ≡ Some StoreUnfit ↔ First (IsStoreUnfit L W p) (IsOutOfRange L W ∷ [])
  pub index_or_supply_unfit :
      (opening L W p).client.refusal ≡ Some IndexOrSupplyUnfit ↔ First (IsIndexOrSupplyUnfit L p) (IsOutOfRange L W ∷ IsStoreUnfit L W p ∷ [])
  pub opened : (opening L W p).client.refusal ≡ None ↔ NoneOf (IsOutOfRange L W ∷ IsStoreUnfit L W p ∷ IsIndexOrSupplyUnfit L p ∷ [])

-- ---- conditions of a call

-- the opening was refused
abbrev pub RefusedOpening : History → Type 0
RefusedOpening h =
    IsOutOfRange h.top h.width ⊎ (IsStoreUnfit h.top h.width h.parts ⊎ IsIndexOrSupplyUnfit h.top h.parts)

-- the turn's number is not the number of calls accepted so far
abbrev pub OtherTurn : History → Call → Type 0
OtherTurn h c = turn_of c ≡ calls_so_far h → ⊥

-- the operation is neither 0 nor 1
abbrev pub OtherOperation : ℕ → Type 0
OtherOperation op = (op ≢ 0) × (op ≢ 1)

-- there are n = 2^L addresses
abbrev pub OtherAddress : History → ℕ → Type 0
OtherAddress h a = 2 ^ h.top ≤ a

-- the byte run has another length than is due: all n blocks for a load, one block for an access
abbrev pub OtherLength : ℕ → List ℕ → Type 0
OtherLength due bytes = length bytes ≡ due → ⊥

-- the rebuild after this access would be build K or above
abbrev pub NoBuildLeft : History → Type 0
NoBuildLeft h = build_count h ≤ accesses_so_far h + 1

-- ---- how many entries a call makes

-- a load writes each slot of level L
abbrev pub load_room : History → ℕ
load_room h = 2 ^ (h.top + 1)

-- an access fetches one slot of level L, and one of each level below whose bit is set in the number of accesses so far
abbrev pub access_room : History → ℕ
access_room h = suc (length (filter (λ i. bit i (accesses_so_far h)) (range_with_len 0 h.top)))

-- a rebuild goes to the level of the build that the accesses so far number: it gathers by 3 * 2^l - 1 entries, or 4n - 1 where that is L; and then
-- for each batch reads as many slots of scratch as the level has, and writes those of the batch
abbrev pub rebuild_room : History → ℕ
rebuild_room h =
    let l = level_of_build h.top (accesses_so_far h) in
    let slots = 2 ^ (l + 1) in
    cond (nat_lt l h.top) (3 * 2 ^ l - 1) (4 * 2 ^ h.top - 1) + slots / min slots 64 * (slots + min slots 64)

-- ---- the tables: a refusal is given exactly if its condition holds and none of those before it, and a call is accepted exactly if none holds

pub record LoadRefusals (h : History) (bytes : List ℕ) (room : ℕ) : Type 0 where
  pub not_opened : Declined h (load bytes room) NotOpened ↔ First (RefusedOpening h) []
  pub wrong_turn : Declined h (load bytes room) WrongTurn ↔ First (OtherTurn h (load bytes room)) (RefusedOpening h ∷ [])
  pub wrong_length :
      Declined h (load bytes room) WrongByteLength
      ↔ First (OtherLength (2 ^ h.top * h.width) bytes) (RefusedOpening h ∷ OtherTurn h (load bytes room) ∷ [])
  pub too_short :
      Declined h (load bytes room) TraceTooShort
      ↔ First (room < load_room h) (RefusedOpening h ∷ OtherTurn h (load bytes room) ∷ OtherLength (2 ^ h.top * h.width) bytes ∷ [])
  pub accepted :
      Accepted h (load bytes room)
      ↔ NoneOf (RefusedOpening h ∷ OtherTurn h (load bytes room) ∷ OtherLength (2 ^ h.top * h.width) bytes ∷ (room < load_room h) ∷ [])

pub record AccessRefusals (h : History) (j op a : ℕ) (bytes : List ℕ) (room : ℕ) : Type 0 where
  pub not_opened : Declined h (access j op a bytes room) NotOpened ↔ First (RefusedOpening h) []
  pub wrong_turn :
      Declined h (access j op a bytes room) WrongTurn ↔ First (OtherTurn h (access j op a bytes room)) (RefusedOpening h ∷ [])
  pub unknown_operation :
      Declined h (access j op a bytes room) UnknownOperation
      ↔ First (OtherOperation op) (RefusedOpening h ∷ OtherTurn h (access j op a bytes room) ∷ [])
  pub unknown_address :
      Declined h (access j op a bytes room) UnknownAddress
      ↔ First (OtherAddress h a) (RefusedOpening h ∷ OtherTurn h (access j op a bytes room) ∷ OtherOperation op ∷ [])
  pub wrong_length :
      Declined h (access j op a bytes room) WrongByteLength
      ↔ First (OtherLength h.width bytes)
      (RefusedOpening h ∷ OtherTurn h (access j op a bytes room) ∷ OtherOperation op ∷ OtherAddress h a ∷ [])
  pub builds_used_up :
      Declined h (access j op a bytes room) BuildsUsedUp
      ↔ First (NoBuildLeft h)
      (RefusedOpening h ∷ OtherTurn h (access j op a bytes room) ∷ OtherOperation op ∷ OtherAddress h a ∷ OtherLength h.width bytes ∷ [])
  pub too_short :
      Declined h (access j op a bytes room) TraceTooShort
      ↔ First (room < access_room h)
      (RefusedOpening h ∷ OtherTurn h (access j op a bytes room) ∷ OtherOperation op ∷ OtherAddress h a ∷ OtherLength h.width bytes
      ∷ NoBuildLeft h ∷ [])
  pub accepted :
      Accepted h (access j op a bytes room)
      ↔ NoneOf
      (RefusedOpening h ∷ OtherTurn h (access j op a bytes room) ∷ OtherOperation op ∷ OtherAddress h a ∷ OtherLength h.width bytes
      ∷ NoBuildLeft h ∷ (room < access_room h) ∷ [])

pub record RebuildRefusals (h : History) (j room : ℕ) : Type 0 where
  pub not_opened : Declined h (rebuild j room) NotOpened ↔ First (RefusedOpening h) []
  pub wrong_turn : Declined h (rebuild j room) WrongTurn ↔ First (OtherTurn h (rebuild j room)) (RefusedOpening h ∷ [])
  pub too_short :
      Declined h (rebuild j room) TraceTooShort
      ↔ First (room < rebuild_room h) (RefusedOpening h ∷ OtherTurn h (rebuild j room) ∷ [])
  pub accepted :
      Accepted h (rebuild j room) ↔ NoneOf (RefusedOpening h ∷ OtherTurn h (rebuild j room) ∷ (room < rebuild_room h) ∷ [])

-- ---- the laws

abbrev pub OpeningRefusesExactlyWhen : Type 0
OpeningRefusesExactlyWhen = (L W : ℕ) (p : Parts) → OpeningRefusals L W p

abbrev pub LoadDeclinedExactlyWhen : Type 0
LoadDeclinedExactlyWhen = (h : History) (bytes : List ℕ) (room : ℕ) → LoadRefusals h bytes room

abbrev pub AccessDeclinedExactlyWhen : Type 0
AccessDeclinedExactlyWhen = (h : History) (j op a : ℕ) (bytes : List ℕ) (room : ℕ) → AccessRefusals h j op a bytes room

abbrev pub RebuildDeclinedExactlyWhen : Type 0
RebuildDeclinedExactlyWhen = (h : History) (j room : ℕ) → RebuildRefusals h j room

-- a load and an access that are accepted make exactly the entries that there had to be room for
abbrev pub EntriesFillTheRoom : Type 0
EntriesFillTheRoom =
    ((h : History) (bytes : List ℕ) (room : ℕ) →
    Accepted h (load bytes room) → length (entries_of (outcome_of h (load bytes room)).answer) ≡ load_room h)
    × ((h : History) (j op a : ℕ) (bytes : List ℕ) (room : ℕ) →
    Accepted h (access j op a bytes room) → length (entries_of (outcome_of h (access j op a bytes room)).answer) ≡ access_room h)

-- and so does a rebuild, if every build has a permutation of its size
abbrev pub RebuildEntriesFillTheRoom : Type 0
RebuildEntriesFillTheRoom =
    (h : History) (K : ℕ) → 1 ≤ K → Choices h.parts.supply_top K h.tables →
    (j room : ℕ) → Accepted h (rebuild j room) → length (entries_of (outcome_of h (rebuild j room)).answer) ≡ rebuild_room h
