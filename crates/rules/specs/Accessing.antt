-- Access: one round, one slot in every occupied level.
use Rattle.std.specs.Prelude.{ℕ, suc, ◌+◌, Bool, true, false, cond, not, ◌&&◌, ◌||◌, List, [], ◌∷◌, map, Some, ◌==◌}
use Rattle.shape.specs.Numbers.{level_start}
use Rattle.store.specs.State.{Slot, slot_at}
use Rattle.store.specs.Requests.{Request, entry_of, entries}
use Rattle.index.specs.Lists.{has, smaller}
use Rattle.permutations.specs.Choices.{slot_of}
use Rattle.rules.specs.World.{Level, Client, World}
use Rattle.rules.specs.Calls.{Outcome, accepted}

-- the block is found in a level that is occupied and has it in its list, unless a lower one was such
abbrev pub finds : Bool → ℕ → Level → Bool
finds found a v = not found && (v.occupied && has v.members a)

-- one index asked of a build, of a level
pub record Ask : Type 0 where
  pub level : ℕ
  pub build : ℕ
  pub index : ℕ

-- the index asked of a level: where the block is found its rank, elsewhere the dummy counter
abbrev pub asked_index : Bool → ℕ → Level → ℕ
asked_index found a v = cond (finds found a v) (smaller v.members a) v.counter

-- what is asked, for block a, of levels l and up: one index of every occupied level, the lowest first; `found` tells that a lower level had it
abbrev pub asks_from : Bool → ℕ → ℕ → List Level → List Ask
asks_from found a l [] = []
asks_from found a l (v ∷ vs) =
    let rest = asks_from (found || finds found a v) a (suc l) vs in
    cond v.occupied (record { level = l; build = v.build; index = asked_index found a v } ∷ rest) rest

abbrev pub asks : ℕ → List Level → List Ask
asks a vs = asks_from false a 0 vs

-- the level at which block a is found, from l up
abbrev pub found_from : ℕ → ℕ → List Level → ℕ
found_from a l [] = l
found_from a l (v ∷ vs) = cond (finds false a v) l (found_from a (suc l) vs)

-- the place of an ask
abbrev pub ask_place : List (List ℕ) → Ask → ℕ
ask_place ts q = level_start q.level + slot_of ts q.build q.index

-- one round that reads these places
abbrev pub fetched : Bool → List Slot → List ℕ → List Request
fetched first slots [] = []
fetched first slots (p ∷ ps) = record { entry = entry_of first false p; slot = slot_at slots p } ∷ fetched false slots ps

abbrev pub access_requests : List (List ℕ) → List Slot → List Ask → List Request
access_requests ts slots qs = fetched true slots (map (ask_place ts) qs)

-- the bytes of the slot asked at a level
abbrev pub found_bytes : List (List ℕ) → List Slot → ℕ → List Ask → List ℕ
found_bytes ts slots l [] = []
found_bytes ts slots l (q ∷ qs) = cond (q.level == l) (slot_at slots (ask_place ts q)).bytes (found_bytes ts slots l qs)

-- the levels after an access: every occupied level but the one that had the block has one dummy less
abbrev pub counted_from : Bool → ℕ → List Level → List Level
counted_from found a [] = []
counted_from found a (v ∷ vs) =
    cond (v.occupied && not (finds found a v))
    (record { occupied = v.occupied; members = v.members; counter = v.counter + 1; build = v.build })
    v
    ∷ counted_from (found || finds found a v) a vs

abbrev pub accessed_client : ℕ → Client → Client
accessed_client a k = record {
  refusal = k.refusal;
  top = k.top;
  width = k.width;
  number = k.number + 1;
  accesses = k.accesses + 1;
  held = Some a;
  levels = counted_from false a k.levels;
}

-- an access that is accepted: a read holds the bytes of the slot fetched where the block was found, a write those that it brought
unfoldable pub accessing : List (List ℕ) → World → ℕ → ℕ → List ℕ → Outcome
accessing ts w op a bytes =
    let k = w.client in
    let qs = asks a k.levels in
    let rs = access_requests ts w.slots qs in
    let now_held = cond (op == 0) (found_bytes ts w.slots (found_from a 0 k.levels) qs) bytes in
    record { answer = accepted now_held (entries rs); requests = rs; world = record { client = accessed_client a k; held_bytes = now_held; slots = w.slots } }
