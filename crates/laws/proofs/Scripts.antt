-- The script of a run: what each accepted call does to the host, told by index and without the permutations.
use Rattle.std.proofs.Common.{ℕ, suc, ◌+◌, ◌*◌, ◌^◌, Bool, true, false, cond, ltb, List, [], ◌∷◌, ◌++◌, map, length, Some, None}
use Rattle.std.specs.List.{range_with_len, flat_map}
use Rattle.shape.specs.Numbers.{level_slots, level_start, scratch_start, level_of_build, batch_slots}
use Rattle.store.specs.declared.entry.Entry.{Entry}
use Rattle.store.specs.Requests.{entry_of}
use Rattle.permutations.specs.Scripts.{Act, ask, close, mark, Seen, asked, closed, marked}
use Rattle.rules.specs.World.{Client}
use Rattle.rules.specs.Calls.{Call, load, access, rebuild}
use Rattle.rules.specs.Checks.{verdict, rebuild_level, batches}
use Rattle.rules.specs.Loading.{loaded_client}
use Rattle.rules.specs.Accessing.{asks, accessed_client}
use Rattle.rules.specs.Rebuilding.{sources, rebuilt_client}

-- what is public beside asks and closings: level L is loaded; the next ask begins a round; a gather begins; so many items go to scratch
-- without being read; a level is filled from scratch
pub data Mark : Type 0 where
  loads : Mark
  begins : Mark
  gathers : Mark
  stores : ℕ → Mark
  fills : ℕ → Mark

-- an access asks one index of every occupied level
abbrev pub access_acts : ℕ → Client → List (Act Mark)
access_acts a k = mark begins ∷ map (λ q. ask q.build q.index) (asks a k.levels)

-- a rebuild stores the held block, closes the levels that it gathers, stores fresh dummies, and fills its level
abbrev pub rebuild_acts : Client → List (Act Mark)
rebuild_acts k =
    let l = rebuild_level k in
    mark gathers ∷ mark (stores 1) ∷ (map (λ v. close v.build) (sources k.top l k.levels)
    ++ (mark (stores (cond (ltb l k.top) (2 ^ l) 0)) ∷ mark (fills l) ∷ []))

-- the acts of a call that is accepted
abbrev pub accepted_acts : Client → Call → List (Act Mark)
accepted_acts k (load bytes room) = mark loads ∷ []
accepted_acts k (access j op a bytes room) = access_acts a k
accepted_acts k (rebuild j room) = rebuild_acts k

-- the client after a call that is accepted
abbrev pub accepted_client : Client → Call → Client
accepted_client k (load bytes room) = loaded_client k
accepted_client k (access j op a bytes room) = accessed_client a k
accepted_client k (rebuild j room) = rebuilt_client k

-- a call as the client alone takes it: what it does, and the client after it
abbrev pub acts : ℕ → Client → Call → List (Act Mark)
acts K k c = elim (verdict K k c) [ Some r ↦ [] | None ↦ accepted_acts k c ]

abbrev pub client_after : ℕ → Client → Call → Client
client_after K k c = elim (verdict K k c) [ Some r ↦ k | None ↦ accepted_client k c ]

-- the script of a list of calls
abbrev pub script : ℕ → Client → List Call → List (Act Mark)
script K k [] = []
script K k (c ∷ cs) = acts K k c ++ script K (client_after K k c) cs

-- ---- the trace, read off what the host sees

-- the entries of a load, and of the batches that fill level l
abbrev pub load_entries : ℕ → List Entry
load_entries L = map (λ s. entry_of true true (level_start L + s)) (range_with_len 0 (level_slots L))

abbrev pub batch_entries : ℕ → ℕ → ℕ → List Entry
batch_entries L l b =
    map (λ k. entry_of true false (scratch_start L + k)) (range_with_len 0 (level_slots l))
    ++ map (λ s. entry_of true true (level_start l + (b * batch_slots (level_slots l) + s))) (range_with_len 0 (batch_slots (level_slots l)))

abbrev pub fill_entries : ℕ → ℕ → List Entry
fill_entries L l = flat_map (batch_entries L l) (range_with_len 0 (batches l))

-- items that go to scratch from slot k on without being read
abbrev pub store_entries : ℕ → ℕ → ℕ → List Entry
store_entries L k m = map (λ i. entry_of true true (scratch_start L + (k + i))) (range_with_len 0 m)

-- slots of a level that are read, each followed by its write to scratch, from slot k on
abbrev pub gather_entries : ℕ → ℕ → ℕ → List ℕ → List Entry
gather_entries L l k [] = []
gather_entries L l k (s ∷ ss) =
    entry_of true false (level_start l + s) ∷ entry_of true true (scratch_start L + k) ∷ gather_entries L l (suc k) ss

-- the entries of a view, where `first` tells that the next ask begins a round, and scratch is filled up to k
abbrev pub rendered : ℕ → Bool → ℕ → List (Seen Mark) → List Entry
rendered L first k [] = []
rendered L first k (asked b s ∷ v) = entry_of first false (level_start (level_of_build L b) + s) ∷ rendered L false k v
rendered L first k (closed b ss ∷ v) = gather_entries L (level_of_build L b) k ss ++ rendered L first (k + length ss) v
rendered L first k (marked loads ∷ v) = load_entries L ++ rendered L first k v
rendered L first k (marked begins ∷ v) = rendered L true k v
rendered L first k (marked gathers ∷ v) = rendered L first 0 v
rendered L first k (marked (stores m) ∷ v) = store_entries L k m ++ rendered L first (k + m) v
rendered L first k (marked (fills l) ∷ v) = fill_entries L l ++ rendered L first k v
