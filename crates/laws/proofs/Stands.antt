-- The bytes that a client and its store hold, and that each accepted call keeps them. `value` are the current bytes of every block.
use Rattle.std.proofs.Common.{◌≡◌, ℕ, suc, ◌+◌, ◌^◌, ◌<◌, ◌≤◌, true, false, cond, eqb, ltb, ◌⊎◌, List, [], length, get_or, take, replicate, Some, None, filter, Option, sym, refl, ap, ◌∙◌, subst, inl, inr, arith, pow_mono}
use Rattle.std.specs.List.{range_with_len}
use Rattle.std.proofs.lemmas.List.FromFn.{get_or-map-range_with_len, length-map-range_with_len}
use Rattle.std.proofs.lemmas.List.{get_or-set_same, get_or-set_other, get_or-replicate, length-replicate}
use Rattle.std.proofs.lemmas.Bool.{cases_Bool, cases_eq, cases_lt, lt-ltb, cond-true, eqb-false, or_parts, or_from, false≢true}
use Rattle.shape.specs.Numbers.{blocks, level_slots, level_start, level_of_build, places_needed}
use Rattle.shape.proofs.Builds.{build_zero}
use Rattle.store.specs.State.{Slot, slot_at}
use Rattle.store.specs.Requests.{wrote}
use Rattle.store.proofs.Requests.{wrote_length}
use Rattle.index.specs.Lists.{has}
use Rattle.permutations.specs.Tables.{IsPermutation}
use Rattle.permutations.specs.Choices.{size_of, table_of, slot_of}
use Rattle.permutations.specs.Scripts.{Act}
use Rattle.rules.specs.World.{Level, World, size, vacant}
use Rattle.rules.specs.Slots.{block_slot, dummy_slot, block_bytes}
use Rattle.rules.specs.Opening.{opened}
use Rattle.rules.specs.Checks.{rebuild_level}
use Rattle.rules.specs.Loading.{loaded_level, loaded_client, load_requests}
use Rattle.rules.specs.Accessing.{counted_from, accessed_client}
use Rattle.rules.specs.Rebuilding.{listed, taken, blank, kept_for, gathered, held_address, rebuild_requests, rebuilt_level, rebuilt_members, rebuilt_client}
use Rattle.laws.specs.Runs.{build_sizes, Choices}
use Rattle.laws.specs.Keeping.{level_at, said}
use Rattle.laws.proofs.Scripts.{Mark}
use Rattle.laws.proofs.Invariant.{accesses_made, out, Ready}
use Rattle.laws.proofs.Contents.{Filled}
use Rattle.laws.proofs.AfterLoad.{after_load}
use Rattle.laws.proofs.AfterRebuild.{rebuilt_slots, other_levels}
use Rattle.laws.proofs.LevelsAt.{sized_at, rebuild_goes_to_vacant, unlisted_each, unlisted_from, SameList, counted_at, rebuilt_below, rebuilt_here, rebuilt_above, kept_has}

-- an occupied level l holds what its indexes say, with the bytes of its build; of members that are neither held nor in a lower list these are current
pub record Full (ts : List (List ℕ)) (slots : List Slot) (W l : ℕ) (h : Option ℕ) (lower : List Level)
    (From : (ℕ → List ℕ) → Type 0) (value : ℕ → List ℕ) (v : Level) : Type 0 where
  pub built : ℕ → List ℕ
  pub from : From built
  pub table : IsPermutation (level_slots l) (table_of ts v.build)
  pub says : (j : ℕ) → j < level_slots l → slot_at slots (level_start l + slot_of ts v.build j) ≡ said W built v j
  pub current : (j : ℕ) → j < size v → out h lower (get_or v.members j 0) ≡ false → built (get_or v.members j 0) ≡ value (get_or v.members j 0)

-- all occupied levels of a world are full, and what is held is current; From tells of which bytes a level was built
pub record Stocked (ts : List (List ℕ)) (h : Option ℕ) (From : ℕ → (ℕ → List ℕ) → Type 0) (value : ℕ → List ℕ) (w : World) : Type 0 where
  pub choice : Choices w.client.top (length ts) ts
  pub room : places_needed w.client.top ≤ length w.slots
  pub held : (a : ℕ) → h ≡ Some a → w.held_bytes ≡ value a
  pub levels : (l : ℕ) → l ≤ w.client.top → (level_at w.client l).occupied ≡ true →
      Full ts w.slots w.client.width l h (take l w.client.levels) (From l) value (level_at w.client l)

-- ---- builds

-- the table of build b is a permutation of the slots of its level
pub table_of_build : (L b l : ℕ) (ts : List (List ℕ)) → Choices L (length ts) ts → b < length ts → level_of_build L b ≡ l → IsPermutation (level_slots l) (table_of ts b)
table_of_build L b l ts choice low e =
    let many : length (build_sizes L (length ts)) ≡ length ts = length-map-range_with_len (λ c. level_slots (level_of_build L c)) 0 (length ts) in
    let big : size_of (build_sizes L (length ts)) b ≡ level_slots (level_of_build L b) =
    get_or-map-range_with_len (λ c. level_slots (level_of_build L c)) 0 (length ts) b b 0 low (omega arith) in
    subst (λ (n : ℕ). IsPermutation n (table_of ts b)) (big ∙ ap level_slots e) (choice.tables b (omega arith))

-- ---- what is stocked is filled

said_block : (W : ℕ) (bytes : ℕ → List ℕ) (v : Level) (j : ℕ) → j < size v → (said W bytes v j).bytes ≡ bytes (get_or v.members j 0)
said_block W bytes v j h =
    ap (λ (s : Slot). s.bytes) (cond-true (ltb j (size v)) (block_slot (get_or v.members j 0) (bytes (get_or v.members j 0))) (dummy_slot W j) (lt-ltb j (size v) h))

pub stocked_filled : (ts : List (List ℕ)) (K r : ℕ) (h : Option ℕ) (s : List (Act Mark)) (From : ℕ → (ℕ → List ℕ) → Type 0) (value : ℕ → List ℕ) (w : World) →
    Ready w.client.top K r h s w.client → Stocked ts h From value w → Filled ts w.client.top h value w
stocked_filled ts K r h s From value w ready stocked = record {
  held = stocked.held;
  current = λ l low occ j small free.
      let full = stocked.levels l low occ in
      let sized = sized_at w.client.top (accesses_made r h) h s w.client.top 0 r [] w.client.levels ready.levels l low occ in
      let few : size (level_at w.client l) ≤ 2 ^ l = subst (λ (n : ℕ). size (level_at w.client l) ≤ 2 ^ n) {x = 0 + l} {y = l} (omega arith) sized.few in
      ap (λ (s : Slot). s.bytes) (full.says j (omega (arith, few, pow_mono {i = l} {j = l + 1} (omega arith))))
      ∙ said_block w.client.width full.built (level_at w.client l) j small
      ∙ full.current j small free;
}

none_some : (a : ℕ) → ◌≡◌ {A = Option ℕ} None (Some a) → ⊥
none_some a e = let z : ◌≡◌ {A = ℕ} 0 1 = cc in omega arith

some_same : (a b : ℕ) → ◌≡◌ {A = Option ℕ} (Some a) (Some b) → a ≡ b
some_same a b e = cc

-- ---- after a load

module _ (ts : List (List ℕ)) (L W : ℕ) (all held : List ℕ) (slots : List Slot) (From : ℕ → (ℕ → List ℕ) → Type 0)
    (choice : Choices L (length ts) ts) (room : places_needed L ≤ length slots) (some : 0 < length ts) (from : From L (block_bytes W all)) where
  abbrev loaded_world : World
  loaded_world = record { client = loaded_client (opened L W None); held_bytes = held; slots = wrote slots (load_requests L W ts all) }

  top_full : Full ts (wrote slots (load_requests L W ts all)) W L None (take L loaded_world.client.levels) (From L) (block_bytes W all) (loaded_level L)
  top_full = record {
    built = block_bytes W all;
    from = from;
    table = table_of_build L 0 L ts choice some (build_zero L);
    says = after_load L W ts all slots (table_of_build L 0 L ts choice some (build_zero L)) room;
    current = λ j small free. refl;
  }

  pub stocked_load : Stocked ts None From (block_bytes W all) loaded_world
  stocked_load = record {
    choice = choice;
    room = omega (arith, room, wrote_length slots (load_requests L W ts all));
    held = λ a e. absurd (none_some a e);
    levels = λ l low occ. by l low occ (cases_eq l L);
  }
    where
      by : (l : ℕ) → l ≤ L → (level_at loaded_world.client l).occupied ≡ true → (l ≡ L) ⊎ (l ≡ L → ⊥) →
          Full ts (wrote slots (load_requests L W ts all)) W l None (take l loaded_world.client.levels) (From l) (block_bytes W all) (level_at loaded_world.client l)
      by l low occ (inl e) =
          let there : level_at loaded_world.client L ≡ loaded_level L =
          get_or-set_same (replicate (suc L) vacant) L (loaded_level L) vacant (omega (arith, length-replicate (suc L) vacant)) in
          subst (λ (n : ℕ). Full ts (wrote slots (load_requests L W ts all)) W n None (take n loaded_world.client.levels) (From n) (block_bytes W all) (level_at loaded_world.client n)) (sym e)
          (subst (λ (v : Level). Full ts (wrote slots (load_requests L W ts all)) W L None (take L loaded_world.client.levels) (From L) (block_bytes W all) v) (sym there) top_full)
      by l low occ (inr n) =
          let empty : level_at loaded_world.client l ≡ vacant =
          get_or-set_other (replicate (suc L) vacant) L l (loaded_level L) vacant n ∙ get_or-replicate (suc L) l vacant vacant (omega arith) in
          absurd (false≢true (sym (ap (λ (v : Level). v.occupied) empty) ∙ occ))

-- ---- after an access

said_by_members : (W : ℕ) (bytes : ℕ → List ℕ) (u v : Level) (j : ℕ) → u.members ≡ v.members → said W bytes u j ≡ said W bytes v j
said_by_members W bytes u v j e =
    ap (λ (ms : List ℕ). cond (ltb j (length ms)) (block_slot (get_or ms j 0) (bytes (get_or ms j 0))) (dummy_slot W j)) e

module _ (ts : List (List ℕ)) (From From' : ℕ → (ℕ → List ℕ) → Type 0) (value value' : ℕ → List ℕ) (w : World) (a : ℕ) (held : List ℕ)
    (weaker : (l : ℕ) (f : ℕ → List ℕ) → From l f → From' l f) (others : (x : ℕ) → (x ≡ a → ⊥) → value' x ≡ value x) (now : held ≡ value' a)
    (stocked : Stocked ts None From value w) where
  abbrev accessed_world : World
  accessed_world = record { client = accessed_client a w.client; held_bytes = held; slots = w.slots }

  access_full : (l : ℕ) (u v : Level) → SameList u v →
      Full ts w.slots w.client.width l None (take l w.client.levels) (From l) value v →
      Full ts w.slots w.client.width l (Some a) (take l (counted_from false a w.client.levels)) (From' l) value' u
  access_full l u v same full = record {
    built = full.built;
    from = weaker l full.built full.from;
    table = subst (λ (b : ℕ). IsPermutation (level_slots l) (table_of ts b)) (sym same.build) full.table;
    says = λ j h.
        ap (λ (b : ℕ). slot_at w.slots (level_start l + slot_of ts b j)) same.build ∙ full.says j h
        ∙ said_by_members w.client.width full.built v u j (sym same.members);
    current = λ j small free. current j small free;
  }
    where
      current : (j : ℕ) → j < size u → out (Some a) (take l (counted_from false a w.client.levels)) (get_or u.members j 0) ≡ false →
          full.built (get_or u.members j 0) ≡ value' (get_or u.members j 0)
      current j small free =
          let x = get_or u.members j 0 in
          let same_x : get_or u.members j 0 ≡ get_or v.members j 0 = ap (λ (ms : List ℕ). get_or ms j 0) same.members in
          let parts = or_parts (eqb (get_or u.members j 0) a) (listed (take l (counted_from false a w.client.levels)) (get_or u.members j 0)) free in
          let unlisted : listed (take l w.client.levels) (get_or v.members j 0) ≡ false =
          unlisted_from w.client.levels l (get_or v.members j 0) (λ n low.
          ap (λ (ms : List ℕ). has ms (get_or v.members j 0)) (sym (counted_at false a w.client.levels n).members)
          ∙ ap (has (get_or (counted_from false a w.client.levels) n vacant).members) (sym same_x)
          ∙ unlisted_each (counted_from false a w.client.levels) l (get_or u.members j 0) parts.1 n low) in
          let small_v : j < size v = subst (λ (ms : List ℕ). j < length ms) same.members small in
          ap full.built same_x ∙ full.current j small_v unlisted ∙ ap value (sym same_x)
          ∙ sym (others (get_or u.members j 0) (eqb-false (get_or u.members j 0) a parts.0))

  pub stocked_access : Stocked ts (Some a) From' value' accessed_world
  stocked_access = record {
    choice = stocked.choice;
    room = stocked.room;
    held = λ b e. now ∙ ap value' (some_same a b e);
    levels = λ l low occ.
        let same = counted_at false a w.client.levels l in
        access_full l (level_at accessed_world.client l) (level_at w.client l) same (stocked.levels l low (sym same.occupied ∙ occ));
  }

-- ---- after a rebuild

-- what is gathered for the slot of an index is what the new level says of the index
abbrev pub GatheredRight : List (List ℕ) → (ℕ → List ℕ) → World → Type 0
GatheredRight ts value w =
    let k = w.client in
    (j : ℕ) → j < level_slots (rebuild_level k) →
    kept_for ts k.accesses (slot_of ts k.accesses j) (blank k.width) (gathered ts w) ≡ said k.width value (rebuilt_level (rebuilt_members k) k.accesses) j

module _ (ts : List (List ℕ)) (From From' : ℕ → (ℕ → List ℕ) → Type 0) (value : ℕ → List ℕ) (w : World) (r a : ℕ) (s : List (Act Mark))
    (weaker : (l : ℕ) (f : ℕ → List ℕ) → rebuild_level w.client < l → From l f → From' l f) (fresh : From' (rebuild_level w.client) value)
    (right : GatheredRight ts value w) (ready : Ready w.client.top (length ts) r (Some a) s w.client) (stocked : Stocked ts (Some a) From value w) where
  abbrev rebuilt_world : World
  rebuilt_world = record { client = rebuilt_client w.client; held_bytes = []; slots = wrote w.slots (rebuild_requests ts w) }

  new_table : IsPermutation (level_slots (rebuild_level w.client)) (table_of ts w.client.accesses)
  new_table = table_of_build w.client.top w.client.accesses (rebuild_level w.client) ts stocked.choice (omega (arith, ready.accesses, ready.builds_left)) refl

  pub new_says : (j : ℕ) → j < level_slots (rebuild_level w.client) →
      slot_at rebuilt_world.slots (level_start (rebuild_level w.client) + slot_of ts w.client.accesses j)
      ≡ said w.client.width value (rebuilt_level (rebuilt_members w.client) w.client.accesses) j
  new_says j h = rebuilt_slots ts w stocked.room (slot_of ts w.client.accesses j) (new_table.below j h) ∙ right j h

  new_full : Full ts rebuilt_world.slots w.client.width (rebuild_level w.client) None (take (rebuild_level w.client) rebuilt_world.client.levels)
      (From' (rebuild_level w.client)) value (rebuilt_level (rebuilt_members w.client) w.client.accesses)
  new_full = record {
    built = value;
    from = fresh;
    table = new_table;
    says = new_says;
    current = λ j small free. refl;
  }

  -- what is in no list below level i now was not out before
  not_out : (i x : ℕ) → rebuild_level w.client < i → i ≤ w.client.top → x < blocks w.client.top →
      listed (take i (rebuilt_client w.client).levels) x ≡ false → out (Some a) (take i w.client.levels) x ≡ false
  not_out i x high low small free =
      or_from (eqb x a) (listed (take i w.client.levels) x) (ap (eqb x) (sym held_is) ∙ untaken.0)
      (unlisted_from w.client.levels i x (λ n m. each n m (cases_lt n (rebuild_level w.client)) (cases_eq n (rebuild_level w.client))))
    where
      held_is : held_address w.client ≡ a
      held_is = ap (λ (o : Option ℕ). elim o [ Some b ↦ b | None ↦ 0 ]) ready.held

      new_lacks : has (rebuilt_members w.client) x ≡ false
      new_lacks =
          ap (λ (v : Level). has v.members x) (sym (rebuilt_here w.client))
          ∙ unlisted_each (rebuilt_client w.client).levels i x free (rebuild_level w.client) high

      kept_lacks : has (filter (taken (held_address w.client) (take (rebuild_level w.client) w.client.levels)) (range_with_len 0 (blocks w.client.top))) x ≡ false
      kept_lacks =
          ap (λ (ms : List ℕ). has ms x) (sym (cond-true (ltb (rebuild_level w.client) w.client.top)
          (filter (taken (held_address w.client) (take (rebuild_level w.client) w.client.levels)) (range_with_len 0 (blocks w.client.top)))
          (range_with_len 0 (blocks w.client.top)) (lt-ltb (rebuild_level w.client) w.client.top (omega arith))))
          ∙ new_lacks

      not_taken : taken (held_address w.client) (take (rebuild_level w.client) w.client.levels) x ≡ false
      not_taken = by (cases_Bool (taken (held_address w.client) (take (rebuild_level w.client) w.client.levels) x))
        where
          by : (taken (held_address w.client) (take (rebuild_level w.client) w.client.levels) x ≡ true)
              ⊎ (taken (held_address w.client) (take (rebuild_level w.client) w.client.levels) x ≡ false) →
              taken (held_address w.client) (take (rebuild_level w.client) w.client.levels) x ≡ false
          by (inl t) = absurd (false≢true (sym kept_lacks
              ∙ kept_has (taken (held_address w.client) (take (rebuild_level w.client) w.client.levels)) x 0 (blocks w.client.top) (omega arith) (omega arith) t))
          by (inr f) = f

      untaken : (eqb x (held_address w.client) ≡ false) × (listed (take (rebuild_level w.client) w.client.levels) x ≡ false)
      untaken = or_parts (eqb x (held_address w.client)) (listed (take (rebuild_level w.client) w.client.levels) x) not_taken

      old_vacant : get_or w.client.levels (rebuild_level w.client) vacant ≡ vacant
      old_vacant =
          let same : level_of_build w.client.top (suc r) ≡ rebuild_level w.client = ap (level_of_build w.client.top) (sym ready.accesses) in
          ap (λ (n : ℕ). get_or w.client.levels n vacant) (sym same)
          ∙ rebuild_goes_to_vacant w.client.top (suc r) (Some a) s w.client.top 0 r [] w.client.levels ready.levels (omega arith)

      each : (n : ℕ) → n < i → (n < rebuild_level w.client) ⊎ (rebuild_level w.client ≤ n) → (n ≡ rebuild_level w.client) ⊎ (n ≡ rebuild_level w.client → ⊥) →
          has (get_or w.client.levels n vacant).members x ≡ false
      each n m (inl lt) _ = unlisted_each w.client.levels (rebuild_level w.client) x untaken.1 n lt
      each n m (inr ge) (inl e) =
          ap (λ (i : ℕ). has (get_or w.client.levels i vacant).members x) e ∙ ap (λ (v : Level). has v.members x) old_vacant
      each n m (inr ge) (inr ne) =
          ap (λ (v : Level). has v.members x) (sym (rebuilt_above w.client n (omega arith)))
          ∙ unlisted_each (rebuilt_client w.client).levels i x free n m

  higher_full : (i : ℕ) → rebuild_level w.client < i → i ≤ w.client.top → (level_at w.client i).occupied ≡ true →
      Full ts w.slots w.client.width i (Some a) (take i w.client.levels) (From i) value (level_at w.client i) →
      Full ts rebuilt_world.slots w.client.width i None (take i (rebuilt_client w.client).levels) (From' i) value (level_at w.client i)
  higher_full i high low occ full = record {
    built = full.built;
    from = weaker i full.built high full.from;
    table = full.table;
    says = λ j h. other_levels ts w i (slot_of ts (level_at w.client i).build j) low (λ e. omega arith) (full.table.below j h) ∙ full.says j h;
    current = λ j small free.
        full.current j small (not_out i (get_or (level_at w.client i).members j 0) high low
        ((sized_at w.client.top (suc r) (Some a) s w.client.top 0 r [] w.client.levels ready.levels i low occ).addresses j small) free);
  }

  pub stocked_rebuild : Stocked ts None From' value rebuilt_world
  stocked_rebuild = record {
    choice = stocked.choice;
    room = omega (arith, stocked.room, wrote_length w.slots (rebuild_requests ts w));
    held = λ b e. absurd (none_some b e);
    levels = λ i low occ. by i low occ (cases_lt i (rebuild_level w.client)) (cases_eq i (rebuild_level w.client));
  }
    where
      by : (i : ℕ) → i ≤ w.client.top → (level_at (rebuilt_client w.client) i).occupied ≡ true →
          (i < rebuild_level w.client) ⊎ (rebuild_level w.client ≤ i) → (i ≡ rebuild_level w.client) ⊎ (i ≡ rebuild_level w.client → ⊥) →
          Full ts rebuilt_world.slots w.client.width i None (take i (rebuilt_client w.client).levels) (From' i) value (level_at (rebuilt_client w.client) i)
      by i low occ (inl lt) _ = absurd (false≢true (sym (ap (λ (v : Level). v.occupied) (rebuilt_below w.client i lt)) ∙ occ))
      by i low occ (inr ge) (inl e) =
          subst (λ (n : ℕ). Full ts rebuilt_world.slots w.client.width n None (take n (rebuilt_client w.client).levels) (From' n) value (level_at (rebuilt_client w.client) n)) (sym e)
          (subst (λ (v : Level). Full ts rebuilt_world.slots w.client.width (rebuild_level w.client) None (take (rebuild_level w.client) (rebuilt_client w.client).levels) (From' (rebuild_level w.client)) value v)
          (sym (rebuilt_here w.client)) new_full)
      by i low occ (inr ge) (inr ne) =
          let same = rebuilt_above w.client i (omega arith) in
          let occ_old : (level_at w.client i).occupied ≡ true = sym (ap (λ (v : Level). v.occupied) same) ∙ occ in
          subst (λ (v : Level). Full ts rebuilt_world.slots w.client.width i None (take i (rebuilt_client w.client).levels) (From' i) value v) (sym same)
          (higher_full i (omega arith) low occ_old (stocked.levels i low occ_old))
