-- What the host sees of a call depends on the client and the choice alone, and not on what the store holds.
use Rattle.std.proofs.Common.{◌≡◌, ℕ, suc, ◌+◌, ◌*◌, ◌^◌, Bool, true, false, cond, ltb, List, [], ◌∷◌, ◌++◌, map, length, get_or, replicate, Some, None, Option, sym, refl, ap, ◌∙◌, subst, ap₂}
use Rattle.std.specs.List.{range_with_len, flat_map}
use Rattle.std.proofs.lemmas.List.{map-append, append_assoc}
use Rattle.shape.specs.Numbers.{level_slots, level_start, scratch_start, batch_slots}
use Rattle.shape.specs.declared.refusal.Refusal.{Refusal}
use Rattle.store.specs.declared.entry.Entry.{Entry}
use Rattle.store.specs.State.{Slot, slot_at}
use Rattle.store.specs.Requests.{Request, entry_of, entries, wrote}
use Rattle.permutations.specs.Choices.{table_of}
use Rattle.permutations.specs.Tables.{position}
use Rattle.rules.specs.World.{Level, Client, World, size}
use Rattle.rules.specs.Calls.{Call, load, access, rebuild, Outcome, decline, entries_of}
use Rattle.rules.specs.Checks.{verdict, rebuild_level, batches}
use Rattle.rules.specs.Opening.{opened, opening}
use Rattle.rules.specs.Slots.{read_round, write_round}
use Rattle.rules.specs.Loading.{loading}
use Rattle.rules.specs.Accessing.{accessing, asks, ask_place, fetched}
use Rattle.rules.specs.Rebuilding.{Item, block, spare, Placed, placed, item_at, untouched_slots, level_items, sources, items, gathered, gather_step, gather_steps, blank, kept_for, batch_step, rebuild_steps, rebuild_requests, rebuilding, held_address, rebuilt_members}
use Rattle.rules.specs.Runs.{accept, performed, trace}
use Rattle.laws.specs.Correspondence.{refusal_of, refusals, StoreAndIndexDoNotShow}
use Rattle.laws.proofs.Scripts.{batch_entries, fill_entries}

-- ---- an access

pub fetched_entries : (first : Bool) (s s' : List Slot) (ps : List ℕ) → entries (fetched first s ps) ≡ entries (fetched first s' ps)
fetched_entries first s s' [] = refl
fetched_entries first s s' (p ∷ ps) = ap (λ es. entry_of first false p ∷ es) (fetched_entries false s s' ps)

-- ---- a rebuild

-- where an item is read from
abbrev pub read_from : Item → Option ℕ
read_from (block p a bytes) = p
read_from (spare p) = p

either_read_from : (p : Option ℕ) (a : ℕ) (bytes : List ℕ) (b : Bool) → read_from (cond b (block p a bytes) (spare p)) ≡ p
either_read_from p a bytes true = refl
either_read_from p a bytes false = refl

item_read_from : (ts : List (List ℕ)) (s : List Slot) (l : ℕ) (v : Level) (x : ℕ) → read_from (item_at ts s l v x) ≡ Some (level_start l + x)
item_read_from ts s l v x =
    either_read_from (Some (level_start l + x)) (get_or v.members (position (table_of ts v.build) x) 0) (slot_at s (level_start l + x)).bytes
    (ltb (position (table_of ts v.build) x) (size v))

slots_read_from : (ts : List (List ℕ)) (s s' : List Slot) (l : ℕ) (v : Level) (xs : List ℕ) →
    map read_from (map (item_at ts s l v) xs) ≡ map read_from (map (item_at ts s' l v) xs)
slots_read_from ts s s' l v [] = refl
slots_read_from ts s s' l v (x ∷ xs) =
    ap₂ (λ y ys. y ∷ ys) (item_read_from ts s l v x ∙ sym (item_read_from ts s' l v x)) (slots_read_from ts s s' l v xs)

level_items_read_from : (ts : List (List ℕ)) (s s' : List Slot) (a : ℕ) (lower : List Level) (l : ℕ) (vs : List Level) →
    map read_from (level_items ts s a lower l vs) ≡ map read_from (level_items ts s' a lower l vs)
level_items_read_from ts s s' a lower l [] = refl
level_items_read_from ts s s' a lower l (v ∷ vs) =
    map-append read_from (map (item_at ts s l v) (untouched_slots ts a lower l v)) (level_items ts s a (lower ++ (v ∷ [])) (suc l) vs)
    ∙ ap₂ (λ (xs ys : List (Option ℕ)). xs ++ ys)
    (slots_read_from ts s s' l v (untouched_slots ts a lower l v)) (level_items_read_from ts s s' a (lower ++ (v ∷ [])) (suc l) vs)
    ∙ sym (map-append read_from (map (item_at ts s' l v) (untouched_slots ts a lower l v)) (level_items ts s' a (lower ++ (v ∷ [])) (suc l) vs))

items_read_from : (L : ℕ) (ts : List (List ℕ)) (s s' : List Slot) (a : ℕ) (bytes bytes' : List ℕ) (l : ℕ) (vs : List Level) →
    map read_from (items L ts s a bytes l vs) ≡ map read_from (items L ts s' a bytes' l vs)
unfolding items
items_read_from L ts s s' a bytes bytes' l vs =
    let fresh : List Item = cond (ltb l L) (replicate (2 ^ l) (spare None)) [] in
    ap (λ xs. None ∷ xs)
    (map-append read_from (level_items ts s a [] 0 (sources L l vs)) fresh
    ∙ ap (λ xs. xs ++ map read_from fresh) (level_items_read_from ts s s' a [] 0 (sources L l vs))
    ∙ sym (map-append read_from (level_items ts s' a [] 0 (sources L l vs)) fresh))

placed_source : (W : ℕ) (new : List ℕ) (next : ℕ) (is : List Item) → map (λ g. g.source) (placed W new next is) ≡ map read_from is
placed_source W new next [] = refl
placed_source W new next (block p a bytes ∷ is) = ap (λ xs. p ∷ xs) (placed_source W new next is)
placed_source W new next (spare p ∷ is) = ap (λ xs. p ∷ xs) (placed_source W new (suc next) is)

-- the entries of items that are gathered from these places, to scratch slot k and on
abbrev pub gathering : ℕ → ℕ → List (Option ℕ) → List Entry
gathering L k [] = []
gathering L k (Some p ∷ ps) = entry_of true false p ∷ entry_of true true (scratch_start L + k) ∷ gathering L (suc k) ps
gathering L k (None ∷ ps) = entry_of true true (scratch_start L + k) ∷ gathering L (suc k) ps

gather_steps_entries : (L : ℕ) (s : List Slot) (k : ℕ) (gs : List Placed) →
    entries (flat_map (λ r. r) (gather_steps L s k gs)) ≡ gathering L k (map (λ g. g.source) gs)
gather_steps_entries L s k [] = refl
gather_steps_entries L s k (g ∷ gs) = by (gather_steps_entries L s (suc k) gs) g.source
  where
    by : entries (flat_map (λ r. r) (gather_steps L s (suc k) gs)) ≡ gathering L (suc k) (map (λ g. g.source) gs) → (p : Option ℕ) →
        entries (gather_step L s k (record { source = p; index = g.index; slot = g.slot }) ++ flat_map (λ r. r) (gather_steps L s (suc k) gs)) ≡ gathering L k (p ∷ map (λ g. g.source) gs)
    by rest (Some p) = ap (λ es. entry_of true false p ∷ entry_of true true (scratch_start L + k) ∷ es) rest
    by rest None = ap (λ es. entry_of true true (scratch_start L + k) ∷ es) rest

map_of_map : {A B C : Type 0} (f : A → B) (g : B → C) (xs : List A) → map g (map f xs) ≡ map (λ x. g (f x)) xs
map_of_map f g [] = refl
map_of_map f g (x ∷ xs) = ap (λ ys. g (f x) ∷ ys) (map_of_map f g xs)

batch_step_entries : (L W : ℕ) (ts : List (List ℕ)) (t l : ℕ) (s : List Slot) (gs : List Placed) (b : ℕ) →
    entries (batch_step L W ts t l s gs b) ≡ batch_entries L l b
unfolding batch_step
batch_step_entries L W ts t l s gs b =
    let N = level_slots l in
    let B = batch_slots N in
    let reads : ℕ → Request = λ k. read_round (scratch_start L + k) (slot_at s (scratch_start L + k)) in
    let writes : ℕ → Request = λ x. write_round (level_start l + (b * B + x)) (kept_for ts t (b * B + x) (blank W) gs) in
    map-append (λ r. r.entry) (map reads (range_with_len 0 N)) (map writes (range_with_len 0 B))
    ∙ ap₂ (λ (xs ys : List Entry). xs ++ ys) (map_of_map reads (λ r. r.entry) (range_with_len 0 N)) (map_of_map writes (λ r. r.entry) (range_with_len 0 B))

joined_batches : (L W : ℕ) (ts : List (List ℕ)) (t l : ℕ) (s : List Slot) (gs : List Placed) (bs : List ℕ) →
    entries (flat_map (λ r. r) (map (batch_step L W ts t l s gs) bs)) ≡ flat_map (batch_entries L l) bs
joined_batches L W ts t l s gs [] = refl
joined_batches L W ts t l s gs (b ∷ bs) =
    map-append (λ r. r.entry) (batch_step L W ts t l s gs b) (flat_map (λ r. r) (map (batch_step L W ts t l s gs) bs))
    ∙ ap₂ (λ (xs ys : List Entry). xs ++ ys) (batch_step_entries L W ts t l s gs b) (joined_batches L W ts t l s gs bs)

joined_of_append : {X : Type 0} (xss yss : List (List X)) → flat_map (λ r. r) (xss ++ yss) ≡ flat_map (λ r. r) xss ++ flat_map (λ r. r) yss
joined_of_append [] yss = refl
joined_of_append (xs ∷ xss) yss = ap (λ r. xs ++ r) (joined_of_append xss yss) ∙ sym (append_assoc xs (flat_map (λ r. r) xss) (flat_map (λ r. r) yss))

-- the entries of a rebuild: the gather, from the places that the items are read from, and then the batches
rebuild_entries_are : (ts : List (List ℕ)) (w : World) →
    entries (rebuild_requests ts w) ≡ gathering w.client.top 0 (map (λ g. g.source) (gathered ts w)) ++ fill_entries w.client.top (rebuild_level w.client)
unfolding rebuild_steps
rebuild_entries_are ts w =
    let k = w.client in
    let first = gather_steps k.top w.slots 0 (gathered ts w) in
    let slots = wrote w.slots (flat_map (λ r. r) first) in
    let fills = map (batch_step k.top k.width ts k.accesses (rebuild_level k) slots (gathered ts w)) (range_with_len 0 (batches (rebuild_level k))) in
    ap entries (joined_of_append first fills)
    ∙ map-append (λ r. r.entry) (flat_map (λ r. r) first) (flat_map (λ r. r) fills)
    ∙ ap₂ (λ (xs ys : List Entry). xs ++ ys) (gather_steps_entries k.top w.slots 0 (gathered ts w))
    (joined_batches k.top k.width ts k.accesses (rebuild_level k) slots (gathered ts w) (range_with_len 0 (batches (rebuild_level k))))

gathered_sources : (ts : List (List ℕ)) (k : Client) (bytes bytes' : List ℕ) (s s' : List Slot) →
    map (λ g. g.source) (gathered ts (record { client = k; held_bytes = bytes; slots = s })) ≡ map (λ g. g.source) (gathered ts (record { client = k; held_bytes = bytes'; slots = s' }))
unfolding gathered
gathered_sources ts k bytes bytes' s s' =
    let a = held_address k in
    let l = rebuild_level k in
    placed_source k.width (rebuilt_members k) (length (rebuilt_members k)) (items k.top ts s a bytes l k.levels)
    ∙ items_read_from k.top ts s s' a bytes bytes' l k.levels
    ∙ sym (placed_source k.width (rebuilt_members k) (length (rebuilt_members k)) (items k.top ts s' a bytes' l k.levels))

rebuild_entries_same : (ts : List (List ℕ)) (k : Client) (bytes bytes' : List ℕ) (s s' : List Slot) →
    entries (rebuild_requests ts (record { client = k; held_bytes = bytes; slots = s })) ≡ entries (rebuild_requests ts (record { client = k; held_bytes = bytes'; slots = s' }))
rebuild_entries_same ts k bytes bytes' s s' =
    let w : World = record { client = k; held_bytes = bytes; slots = s } in
    let w' : World = record { client = k; held_bytes = bytes'; slots = s' } in
    rebuild_entries_are ts w ∙ ap (λ ps. gathering k.top 0 ps ++ fill_entries k.top (rebuild_level k)) (gathered_sources ts k bytes bytes' s s')
    ∙ sym (rebuild_entries_are ts w')

-- ---- one call

-- two outcomes that are the same for the host, and leave the same client
pub record SameOutcome (o o' : Outcome) : Type 0 where
  pub entries : entries_of o.answer ≡ entries_of o'.answer
  pub refused : refusal_of o.answer ≡ refusal_of o'.answer
  pub clients : o.world.client ≡ o'.world.client

same_accepted : (ts : List (List ℕ)) (k : Client) (bytes bytes' : List ℕ) (s s' : List Slot) (c : Call) →
    SameOutcome (accept ts (record { client = k; held_bytes = bytes; slots = s }) c) (accept ts (record { client = k; held_bytes = bytes'; slots = s' }) c)
unfolding loading accessing rebuilding
same_accepted ts k bytes bytes' s s' (load all room) = record { entries = refl; refused = refl; clients = refl }
same_accepted ts k bytes bytes' s s' (access j op a run room) =
    record { entries = fetched_entries true s s' (map (ask_place ts) (asks a k.levels)); refused = refl; clients = refl }
same_accepted ts k bytes bytes' s s' (rebuild j room) =
    record { entries = rebuild_entries_same ts k bytes bytes' s s'; refused = refl; clients = refl }

same_call : (ts : List (List ℕ)) (k : Client) (bytes bytes' : List ℕ) (s s' : List Slot) (c : Call) →
    SameOutcome (performed ts (record { client = k; held_bytes = bytes; slots = s }) c) (performed ts (record { client = k; held_bytes = bytes'; slots = s' }) c)
same_call ts k bytes bytes' s s' c = by (same_accepted ts k bytes bytes' s s' c) (verdict (length ts) k c)
  where
    by : let w : World = record { client = k; held_bytes = bytes; slots = s } in
        let w' : World = record { client = k; held_bytes = bytes'; slots = s' } in
        SameOutcome (accept ts w c) (accept ts w' c) → (d : Option Refusal) →
        SameOutcome (elim d [ Some r ↦ decline w r | None ↦ accept ts w c ]) (elim d [ Some r ↦ decline w' r | None ↦ accept ts w' c ])
    by h (Some r) = record { entries = refl; refused = refl; clients = refl }
    by h None = h

pub same_client_same_outcome : (ts : List (List ℕ)) (v w : World) (c : Call) → v.client ≡ w.client → SameOutcome (performed ts v c) (performed ts w c)
same_client_same_outcome ts v w c e =
    subst (λ k. SameOutcome (performed ts v c) (performed ts (record { client = k; held_bytes = w.held_bytes; slots = w.slots }) c)) e
    (same_call ts v.client v.held_bytes w.held_bytes v.slots w.slots c)

-- ---- a list of calls

same_traces : (ts : List (List ℕ)) (v w : World) (cs : List Call) → v.client ≡ w.client → trace ts v cs ≡ trace ts w cs
same_traces ts v w [] e = refl
same_traces ts v w (c ∷ cs) e =
    let same = same_client_same_outcome ts v w c e in
    ap₂ (λ (xs ys : List Entry). xs ++ ys) same.entries (same_traces ts (performed ts v c).world (performed ts w c).world cs same.clients)

same_refusals : (ts : List (List ℕ)) (v w : World) (cs : List Call) → v.client ≡ w.client → refusals ts v cs ≡ refusals ts w cs
same_refusals ts v w [] e = refl
same_refusals ts v w (c ∷ cs) e =
    let same = same_client_same_outcome ts v w c e in
    ap₂ (λ x xs. x ∷ xs) same.refused (same_refusals ts (performed ts v c).world (performed ts w c).world cs same.clients)

pub store_and_index_do_not_show : StoreAndIndexDoNotShow
store_and_index_do_not_show L W p q cs ts e = record {
  traces = same_traces ts (opening L W p) (opening L W q) cs (ap (opened L W) e);
  declined = same_refusals ts (opening L W p) (opening L W q) cs (ap (opened L W) e);
}
