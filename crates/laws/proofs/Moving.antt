-- The entries of a rebuild: those of the gather, by where the items come from, and then those of the fill, which are public.
use Rattle.std.proofs.Common.{◌≡◌, ℕ, zero, suc, ◌+◌, ◌*◌, Bool, true, false, cond, ltb, List, [], ◌∷◌, ◌++◌, map, length, get_or, replicate, Some, None, Option, sym, refl, ap, ◌∙◌, ap₂, arith}
use Rattle.std.specs.List.{range_with_len, flat_map}
use Rattle.std.proofs.lemmas.List.{append_assoc, map-append}
use Rattle.shape.specs.Numbers.{level_slots, level_start, scratch_start, batch_slots}
use Rattle.store.specs.State.{Slot, slot_at}
use Rattle.store.specs.declared.entry.Entry.{Entry}
use Rattle.store.specs.Requests.{Request, entry_of, entries, wrote}
use Rattle.permutations.specs.Choices.{table_of}
use Rattle.permutations.specs.Tables.{position}
use Rattle.rules.specs.World.{Level, World, size}
use Rattle.rules.specs.Checks.{rebuild_level, batches}
use Rattle.rules.specs.Slots.{read_round, write_round}
use Rattle.rules.specs.Rebuilding.{Item, block, spare, item_at, items, Placed, placed, gather_steps, batch_step, kept_for, blank, held_address, rebuilt_members, gathered, rebuild_steps, rebuild_requests}
use Rattle.laws.proofs.Scripts.{batch_entries, fill_entries, store_entries, gather_entries}

-- where an item is read from, if it is read
abbrev pub source_of : Item → Option ℕ
source_of (block p a bytes) = p
source_of (spare p) = p

-- items of these sources go to scratch, from slot k on
abbrev pub moves : ℕ → ℕ → List (Option ℕ) → List Entry
moves L k [] = []
moves L k (Some p ∷ ps) = entry_of true false p ∷ entry_of true true (scratch_start L + k) ∷ moves L (suc k) ps
moves L k (None ∷ ps) = entry_of true true (scratch_start L + k) ∷ moves L (suc k) ps

-- ---- the gather

pub gather_moves : (L W : ℕ) (new : List ℕ) (slots : List Slot) (k next : ℕ) (is : List Item) →
    entries (flat_map (λ r. r) (gather_steps L slots k (placed W new next is))) ≡ moves L k (map source_of is)
gather_moves L W new slots k next [] = refl
gather_moves L W new slots k next (block (Some p) a bytes ∷ is) =
    ap (λ es. entry_of true false p ∷ entry_of true true (scratch_start L + k) ∷ es) (gather_moves L W new slots (suc k) next is)
gather_moves L W new slots k next (block None a bytes ∷ is) =
    ap (λ es. entry_of true true (scratch_start L + k) ∷ es) (gather_moves L W new slots (suc k) next is)
gather_moves L W new slots k next (spare (Some p) ∷ is) =
    ap (λ es. entry_of true false p ∷ entry_of true true (scratch_start L + k) ∷ es) (gather_moves L W new slots (suc k) (suc next) is)
gather_moves L W new slots k next (spare None ∷ is) =
    ap (λ es. entry_of true true (scratch_start L + k) ∷ es) (gather_moves L W new slots (suc k) (suc next) is)

source_at : (ts : List (List ℕ)) (slots : List Slot) (l : ℕ) (v : Level) (s : ℕ) → source_of (item_at ts slots l v s) ≡ Some (level_start l + s)
source_at ts slots l v s = by (ltb (position (table_of ts v.build) s) (size v))
  where
    by : (b : Bool) → source_of (cond b (block (Some (level_start l + s)) (get_or v.members (position (table_of ts v.build) s) 0) (slot_at slots (level_start l + s)).bytes) (spare (Some (level_start l + s)))) ≡ Some (level_start l + s)
    by true = refl
    by false = refl

-- the slots of one level, and then what follows
pub level_moves : (L : ℕ) (ts : List (List ℕ)) (slots : List Slot) (l : ℕ) (v : Level) (k : ℕ) (ss : List ℕ) (is : List Item) (ps : List (Option ℕ)) →
    moves L k (map source_of (map (item_at ts slots l v) ss ++ is) ++ ps) ≡ gather_entries L l k ss ++ moves L (k + length ss) (map source_of is ++ ps)
level_moves L ts slots l v k [] is ps = let same : k ≡ k + 0 = omega arith in ap (λ i. moves L i (map source_of is ++ ps)) same
level_moves L ts slots l v k (s ∷ ss) is ps =
    let same : suc k + length ss ≡ k + suc (length ss) = omega arith in
    ap (λ p. moves L k (p ∷ (map source_of (map (item_at ts slots l v) ss ++ is) ++ ps))) (source_at ts slots l v s)
    ∙ ap (λ es. entry_of true false (level_start l + s) ∷ entry_of true true (scratch_start L + k) ∷ es)
    (level_moves L ts slots l v (suc k) ss is ps ∙ ap (λ i. gather_entries L l (suc k) ss ++ moves L i (map source_of is ++ ps)) same)

-- items that are not read
store_from : (L k c m : ℕ) → moves L (k + c) (replicate m None) ≡ map (λ i. entry_of true true (scratch_start L + (k + i))) (range_with_len c m)
store_from L k c zero = refl
store_from L k c (suc m) =
    let same : suc (k + c) ≡ k + (c + 1) = omega arith in
    ap (λ es. entry_of true true (scratch_start L + (k + c)) ∷ es) (ap (λ i. moves L i (replicate m None)) same ∙ store_from L k (c + 1) m)

pub store_moves : (L k m : ℕ) → moves L k (replicate m None) ≡ store_entries L k m
store_moves L k m = let same : k ≡ k + 0 = omega arith in ap (λ i. moves L i (replicate m None)) same ∙ store_from L k 0 m

-- ---- the fill

joined_append : {X A : Type 0} (f : X → List A) (xs ys : List X) → flat_map f (xs ++ ys) ≡ flat_map f xs ++ flat_map f ys
joined_append f [] ys = refl
joined_append f (x ∷ xs) ys = ap (λ r. f x ++ r) (joined_append f xs ys) ∙ sym (append_assoc (f x) (flat_map f xs) (flat_map f ys))

entries_map : (f : ℕ → Request) (g : ℕ → Entry) → ((x : ℕ) → (f x).entry ≡ g x) → (xs : List ℕ) → entries (map f xs) ≡ map g xs
entries_map f g e [] = refl
entries_map f g e (x ∷ xs) = ap₂ (λ y ys. y ∷ ys) (e x) (entries_map f g e xs)

pub entries_append : (rs qs : List Request) → entries (rs ++ qs) ≡ entries rs ++ entries qs
entries_append rs qs = map-append (λ r. r.entry) rs qs

batch_is : (L W : ℕ) (ts : List (List ℕ)) (t l : ℕ) (slots : List Slot) (gs : List Placed) (b : ℕ) → entries (batch_step L W ts t l slots gs b) ≡ batch_entries L l b
unfolding batch_step
batch_is L W ts t l slots gs b =
    let B = batch_slots (level_slots l) in
    entries_append (map (λ k. read_round (scratch_start L + k) (slot_at slots (scratch_start L + k))) (range_with_len 0 (level_slots l)))
    (map (λ s. write_round (level_start l + (b * B + s)) (kept_for ts t (b * B + s) (blank W) gs)) (range_with_len 0 B))
    ∙ ap₂ (λ (xs ys : List Entry). xs ++ ys)
    (entries_map (λ k. read_round (scratch_start L + k) (slot_at slots (scratch_start L + k))) (λ k. entry_of true false (scratch_start L + k)) (λ x. refl) (range_with_len 0 (level_slots l)))
    (entries_map (λ s. write_round (level_start l + (b * B + s)) (kept_for ts t (b * B + s) (blank W) gs)) (λ s. entry_of true true (level_start l + (b * B + s))) (λ x. refl) (range_with_len 0 B))

batches_are : (step : ℕ → List Request) (seen : ℕ → List Entry) → ((b : ℕ) → entries (step b) ≡ seen b) → (bs : List ℕ) →
    entries (flat_map (λ r. r) (map step bs)) ≡ flat_map seen bs
batches_are step seen e [] = refl
batches_are step seen e (b ∷ bs) =
    entries_append (step b) (flat_map (λ r. r) (map step bs)) ∙ ap₂ (λ (xs ys : List Entry). xs ++ ys) (e b) (batches_are step seen e bs)

-- ---- the whole rebuild

pub rebuild_traced : (ts : List (List ℕ)) (w : World) →
    entries (rebuild_requests ts w)
    ≡ moves w.client.top 0
    (map source_of (items w.client.top ts w.slots (held_address w.client) w.held_bytes (rebuild_level w.client) w.client.levels))
    ++ fill_entries w.client.top (rebuild_level w.client)
unfolding rebuild_steps gathered
rebuild_traced ts w =
    let k = w.client in
    let gs = gathered ts w in
    let first = gather_steps k.top w.slots 0 gs in
    let slots = wrote w.slots (flat_map (λ r. r) first) in
    let step = batch_step k.top k.width ts k.accesses (rebuild_level k) slots gs in
    let bs = range_with_len 0 (batches (rebuild_level k)) in
    ap entries (joined_append (λ r. r) first (map step bs))
    ∙ entries_append (flat_map (λ r. r) first) (flat_map (λ r. r) (map step bs))
    ∙ ap₂ (λ (xs ys : List Entry). xs ++ ys)
    (gather_moves k.top k.width (rebuilt_members k) w.slots 0 (length (rebuilt_members k))
    (items k.top ts w.slots (held_address k) w.held_bytes (rebuild_level k) k.levels))
    (batches_are step (batch_entries k.top (rebuild_level k)) (batch_is k.top k.width ts k.accesses (rebuild_level k) slots gs) bs)
