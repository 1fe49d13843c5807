-- Rebuild number t: what is held and what the lower levels still hold goes to the level of build t, by way of the scratch area.
use Rattle.std.specs.Prelude.{ℕ, suc, ◌+◌, ◌*◌, ◌^◌, Bool, true, false, cond, not, ◌||◌, List, [], ◌∷◌, ◌++◌, map, length, take, drop, replicate, Some, None, filter, Option, ◌==◌, nat_lt, slice_index}
use Rattle.std.specs.List.{range_with_len, flat_map}
use Rattle.shape.specs.Numbers.{blocks, level_slots, level_start, scratch_start, batch_slots}
use Rattle.store.specs.State.{Slot, slot_at}
use Rattle.store.specs.Requests.{Request, entries, wrote}
use Rattle.index.specs.Lists.{has, smaller}
use Rattle.permutations.specs.Choices.{table_of, slot_of}
use Rattle.permutations.specs.Tables.{position}
use Rattle.rules.specs.World.{Level, Client, World, size, vacant}
use Rattle.rules.specs.Calls.{Outcome, accepted}
use Rattle.rules.specs.Checks.{rebuild_level, batches}
use Rattle.rules.specs.Slots.{block_slot, dummy_slot, read_round, write_round}

-- ---- the new list

-- an address is in one of the levels' lists
abbrev pub listed : List Level → ℕ → Bool
listed [] x = false
listed (v ∷ vs) x = has v.members x || listed vs x

-- an address is held or in a lower list
abbrev pub taken : ℕ → List Level → ℕ → Bool
taken a lower x = x == a || listed lower x

-- the list of level l after the rebuild: below L the union of the lower lists and the held address, read off address by address; at L all
abbrev pub new_members : ℕ → ℕ → ℕ → List Level → List ℕ
new_members L l a lower = cond (nat_lt l L) (filter (taken a lower) (range_with_len 0 (blocks L))) (range_with_len 0 (blocks L))

-- ---- the gather

-- an index of a level is touched: below the size if its address is held or in a lower list, any other if it is below the dummy counter
abbrev pub touched : ℕ → List Level → Level → ℕ → Bool
touched a lower v j = cond (nat_lt j (size v)) (taken a lower (slice_index v.members j)) (nat_lt j v.counter)

-- what is gathered: a block, or a dummy that has no index yet; and the place that it is read from, if it is read
pub data Item : Type 0 where
  block : Option ℕ → ℕ → List ℕ → Item
  spare : Option ℕ → Item

-- the item of a slot of level l: what its index says that it is
abbrev pub item_at : List (List ℕ) → List Slot → ℕ → Level → ℕ → Item
item_at ts slots l v s =
    let j = position (table_of ts v.build) s in
    let p = level_start l + s in
    cond (nat_lt j (size v)) (block (Some p) (slice_index v.members j) (slot_at slots p).bytes) (spare (Some p))

-- the untouched slots of level l, rising
unfoldable pub untouched_slots : List (List ℕ) → ℕ → List Level → ℕ → Level → List ℕ
untouched_slots ts a lower l v =
    filter (λ s. not (touched a lower v (position (table_of ts v.build) s))) (range_with_len 0 (level_slots l))

-- the items of these levels, from level l up; `lower` are the levels below
abbrev pub level_items : List (List ℕ) → List Slot → ℕ → List Level → ℕ → List Level → List Item
level_items ts slots a lower l [] = []
level_items ts slots a lower l (v ∷ vs) =
    map (item_at ts slots l v) (untouched_slots ts a lower l v) ++ level_items ts slots a (lower ++ (v ∷ [])) (suc l) vs

-- the levels that are gathered for level l: those below, and L itself for L
abbrev pub sources : ℕ → ℕ → List Level → List Level
sources L l vs = take (cond (nat_lt l L) l (suc l)) vs

-- the held block; the untouched slots, level by level; below L as many fresh dummies as the level can have members
unfoldable pub items : ℕ → List (List ℕ) → List Slot → ℕ → List ℕ → ℕ → List Level → List Item
items L ts slots a bytes l vs =
    block None a bytes ∷ (level_items ts slots a [] 0 (sources L l vs) ++ cond (nat_lt l L) (replicate (2 ^ l) (spare None)) [])

-- ---- new indexes

-- where an item came from, its new index and its new slot
pub record Placed : Type 0 where
  pub source : Option ℕ
  pub index : ℕ
  pub slot : Slot

-- a block's index is its rank in the new list, and dummies take the next index, one after another
abbrev pub placed : ℕ → List ℕ → ℕ → List Item → List Placed
placed W new next [] = []
placed W new next (block p a bytes ∷ is) =
    record { source = p; index = smaller new a; slot = block_slot a bytes } ∷ placed W new next is
placed W new next (spare p ∷ is) =
    record { source = p; index = next; slot = dummy_slot W next } ∷ placed W new (suc next) is

-- ---- steps

-- a gathered item: a round that reads it, where it is read, and a round that writes it to scratch slot k
abbrev pub gather_step : ℕ → List Slot → ℕ → Placed → List Request
gather_step L slots k g =
    elim g.source [
      | Some p ↦ read_round p (slot_at slots p) ∷ write_round (scratch_start L + k) g.slot ∷ []
      | None ↦ write_round (scratch_start L + k) g.slot ∷ []
    ]

abbrev pub gather_steps : ℕ → List Slot → ℕ → List Placed → List (List Request)
gather_steps L slots k [] = []
gather_steps L slots k (g ∷ gs) = gather_step L slots k g ∷ gather_steps L slots (suc k) gs

-- a slot that no item goes to
abbrev pub blank : ℕ → Slot
blank W = record { key = 0; bytes = replicate W 0 }

-- what is kept for destination d, a slot of the level under build t, when the items are gone through in order: the last that goes there
abbrev pub kept_for : List (List ℕ) → ℕ → ℕ → Slot → List Placed → Slot
kept_for ts t d before [] = before
kept_for ts t d before (g ∷ gs) = kept_for ts t d (cond (slot_of ts t g.index == d) g.slot before) gs

-- one batch: all N scratch slots are read, a round each, and then the slots of the batch are written, a round each
unfoldable pub batch_step : ℕ → ℕ → List (List ℕ) → ℕ → ℕ → List Slot → List Placed → ℕ → List Request
batch_step L W ts t l slots gs b =
    let N = level_slots l in
    let B = batch_slots N in
    map (λ k. read_round (scratch_start L + k) (slot_at slots (scratch_start L + k))) (range_with_len 0 N)
    ++ map (λ s. write_round (level_start l + (b * B + s)) (kept_for ts t (b * B + s) (blank W) gs)) (range_with_len 0 B)

-- ---- the whole rebuild

abbrev pub held_address : Client → ℕ
held_address k = elim k.held [ Some a ↦ a | None ↦ 0 ]

abbrev pub rebuilt_members : Client → List ℕ
rebuilt_members k = new_members k.top (rebuild_level k) (held_address k) (take (rebuild_level k) k.levels)

unfoldable pub gathered : List (List ℕ) → World → List Placed
gathered ts w =
    let k = w.client in
    placed k.width (rebuilt_members k) (length (rebuilt_members k))
    (items k.top ts w.slots (held_address k) w.held_bytes (rebuild_level k) k.levels)

-- the steps of a rebuild: one for each gathered item, and then one for each batch; what it asks of the store are their requests in order
unfoldable pub rebuild_steps : List (List ℕ) → World → List (List Request)
rebuild_steps ts w =
    let k = w.client in
    let first = gather_steps k.top w.slots 0 (gathered ts w) in
    let slots = wrote w.slots (flat_map (λ r. r) first) in
    first ++ map (batch_step k.top k.width ts k.accesses (rebuild_level k) slots (gathered ts w)) (range_with_len 0 (batches (rebuild_level k)))

abbrev pub rebuild_requests : List (List ℕ) → World → List Request
rebuild_requests ts w = flat_map (λ r. r) (rebuild_steps ts w)

-- level l after rebuild number t
abbrev pub rebuilt_level : List ℕ → ℕ → Level
rebuilt_level new t = record { occupied = true; members = new; counter = length new; build = t }

abbrev pub rebuilt_client : Client → Client
rebuilt_client k = record {
  refusal = k.refusal;
  top = k.top;
  width = k.width;
  number = k.number + 1;
  accesses = k.accesses;
  held = None;
  levels = replicate (rebuild_level k) vacant ++ (rebuilt_level (rebuilt_members k) k.accesses ∷ drop (suc (rebuild_level k)) k.levels);
}

-- a rebuild that is accepted
unfoldable pub rebuilding : List (List ℕ) → World → Outcome
rebuilding ts w =
    let k = w.client in
    let rs = rebuild_requests ts w in
    record { answer = accepted [] (entries rs); requests = rs; world = record { client = rebuilt_client k; held_bytes = []; slots = wrote w.slots rs } }
