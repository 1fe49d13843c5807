-- The trace of a run is read off the view of its script.
use Rattle.std.proofs.Common.{◌≡◌, ℕ, zero, suc, ◌+◌, ◌*◌, ◌/◌, ◌^◌, ◌<◌, Bool, true, false, cond, not, ltb, List, [], ◌∷◌, ◌++◌, map, length, take, replicate, Some, None, filter, Option, sym, refl, ap, ◌∙◌, subst, ap₂, ⊎_elim, arith}
use mathlib.Core.List.{map-map}
use native.Mathlib.Nat.{pow-zero}
use Rattle.std.specs.List.{range_with_len, AllByRecursion}
use Rattle.std.proofs.lemmas.List.{append-nil, append_assoc, map-append}
use Rattle.std.proofs.lemmas.Bool.{cases_lt, lt-ltb, le-ltb}
use Rattle.shape.specs.Numbers.{level_slots, level_start, scratch_start, level_of_build}
use Rattle.shape.specs.declared.refusal.Refusal.{Refusal}
use Rattle.store.specs.State.{Slot}
use Rattle.store.specs.declared.entry.Entry.{Entry}
use Rattle.store.specs.Requests.{entry_of, entries}
use Rattle.permutations.specs.Lists.{among}
use Rattle.permutations.specs.Tables.{position}
use Rattle.permutations.specs.Choices.{size_of, table_of, slot_of}
use Rattle.permutations.specs.Scripts.{Act, close, mark, Seen, closed, marked, asked_of, unasked, view_after, view, Sound}
use Rattle.permutations.proofs.Tables.{position_inside}
use Rattle.permutations.proofs.Asking.{asked_push, view_append}
use Rattle.permutations.proofs.AskedSlots.{unasked_by_index}
use Rattle.rules.specs.World.{Level, World, vacant}
use Rattle.rules.specs.Calls.{Call, load, access, rebuild, Outcome, decline, entries_of}
use Rattle.rules.specs.Opening.{opened}
use Rattle.rules.specs.Checks.{verdict}
use Rattle.rules.specs.Loading.{load_requests, loading}
use Rattle.rules.specs.Accessing.{Ask, asks_from, asks, ask_place, fetched, accessing, asked_index}
use Rattle.rules.specs.Rebuilding.{Item, spare, item_at, touched, untouched_slots, level_items, sources, items, held_address, rebuild_requests, rebuilding}
use Rattle.rules.specs.Runs.{accept, performed, trace}
use Rattle.laws.specs.Runs.{build_sizes, Choices}
use Rattle.laws.proofs.Scripts.{Mark, begins, gathers, stores, fills, rebuild_acts, accepted_acts, acts, client_after, script, load_entries, fill_entries, gather_entries, rendered}
use Rattle.laws.proofs.Invariant.{Used, Fits, Ready}
use Rattle.laws.proofs.Schedule.{odd_or_even, level_below, level_highest, level_odd, level_even, next_odd, next_even, next_half_more, half_below}
use Rattle.laws.proofs.Ranks.{kept_same}
use Rattle.laws.proofs.Heads.{odd_part, even_part}
use Rattle.laws.proofs.Accesses.{as_act, found_after, size_at, sizes_count}
use Rattle.laws.proofs.Rebuilds.{held_is}
use Rattle.laws.proofs.Along.{Standing, unloaded, running, turn_due, call_standing, performed_client}
use Rattle.laws.proofs.Moving.{source_of, moves, level_moves, store_moves, rebuild_traced}

-- ---- an access

-- every ask names the level of its build
abbrev PlacedRightly : ℕ → Ask → Type 0
PlacedRightly L q = level_of_build L q.build ≡ q.level

asks_placed : (L t : ℕ) (h : Option ℕ) (s : List (Act Mark)) (more l q : ℕ) (lower vs : List Level) (found : Bool) (a : ℕ) →
    Fits L t h s more l q lower vs → l + more ≡ L → AllByRecursion (PlacedRightly L) (asks_from found a l vs)
asks_placed L t h s zero l q lower [] found a fits e = absurd fits
asks_placed L t h s zero l q lower (v ∷ []) found a fits e =
    let same : L ≡ l = omega arith in
    let level : level_of_build L v.build ≡ l = ap (level_of_build L) (fits.1 ∙ ap (λ n. q * 2 ^ n) (sym same)) ∙ level_highest L q ∙ same in
    subst (λ b. AllByRecursion (PlacedRightly L) (cond b (record { level = l; build = v.build; index = asked_index found a v } ∷ []) [])) (sym fits.0.occupied) (level, tt)
asks_placed L t h s zero l q lower (v ∷ (w ∷ vs)) found a fits e = absurd (omega (arith, ap length fits.3))
asks_placed L t h s (suc more) l q lower [] found a fits e = absurd fits
asks_placed L t h s (suc more) l q lower (v ∷ vs) found a fits e = ⊎_elim
    (λ odd.
    let here = odd_part L t l q h s lower v odd fits.0 in
    let level : level_of_build L v.build ≡ l = ap (level_of_build L) here.1 ∙ level_below L l q (omega arith) odd in
    let rest = asks_from (found_after found a v) a (suc l) vs in
    subst (λ b. AllByRecursion (PlacedRightly L) (cond b (record { level = l; build = v.build; index = asked_index found a v } ∷ rest) rest)) (sym here.0.occupied)
    (level, asks_placed L t h s more (suc l) (q / 2) (lower ++ (v ∷ [])) vs (found_after found a v) a fits.1 (omega arith)))
    (λ even.
    let here = even_part L t l q h s lower v even fits.0 in
    subst (λ u. AllByRecursion (PlacedRightly L) (asks_from found a l (u ∷ vs))) (sym here)
    (asks_placed L t h s more (suc l) (q / 2) (lower ++ (v ∷ [])) vs (found_after found a vacant) a fits.1 (omega arith)))
    (odd_or_even q)

-- asks are seen as one round, and then what follows
asks_seen : (L : ℕ) (ns : List ℕ) (ts : List (List ℕ)) (slots : List Slot) (past : List (Act Mark)) (qs : List Ask) → AllByRecursion (PlacedRightly L) qs →
    (first : Bool) (k : ℕ) (more : List (Seen Mark)) (es : List Entry) → ((f : Bool) (i : ℕ) → rendered L f i more ≡ es) →
    rendered L first k (view_after ns ts past (map as_act qs) ++ more) ≡ entries (fetched first slots (map (ask_place ts) qs)) ++ es
asks_seen L ns ts slots past [] right first k more es then = then first k
asks_seen L ns ts slots past (q ∷ qs) right first k more es then =
    ap₂ (λ (l : ℕ) (r : List Entry). entry_of first false (level_start l + slot_of ts q.build q.index) ∷ r) right.0
    (asks_seen L ns ts slots (past ++ (as_act q ∷ [])) qs right.1 false k more es then)

-- ---- the untouched slots of a level are those not asked for

level_unasked : (L K t l a : ℕ) (ts : List (List ℕ)) (s past : List (Act Mark)) (lower : List Level) (v : Level) → Choices L K ts → Sound (build_sizes L K) s →
    Used L t l (Some a) s lower v → v.build < K → level_of_build L v.build ≡ l → asked_of v.build past ≡ asked_of v.build s →
    unasked (build_sizes L K) ts past v.build ≡ untouched_slots ts a lower l v
unfolding untouched_slots
level_unasked L K t l a ts s past lower v choice sound u below level same =
    let ns = build_sizes L K in
    let b = v.build in
    let b_below : b < length ns = omega (arith, sizes_count L K) in
    let size_is : size_of ns b ≡ level_slots l = size_at L K l b below level in
    ap (λ xs. filter (λ x. not (among (map (slot_of ts b) xs) x)) (range_with_len 0 (size_of ns b))) same
    ∙ unasked_by_index ns ts s b choice sound b_below
    ∙ ap (λ n. filter (λ x. not (among (asked_of b s) (position (table_of ts b) x))) (range_with_len 0 n)) size_is
    ∙ kept_same (λ x. not (among (asked_of b s) (position (table_of ts b) x))) (λ x. not (touched a lower v (position (table_of ts b) x))) 0 (level_slots l)
    (λ x low high.
    let inside : position (table_of ts b) x < size_of ns b = position_inside (size_of ns b) (table_of ts b) (choice.tables b b_below) x (omega (arith, size_is)) in
    ap not (u.asked_touched (position (table_of ts b) x) (omega (arith, size_is))))

-- ---- the gather

-- how many of the levels from here on are gathered
sources_count : (j m : ℕ) → cond (ltb (suc j) (suc m)) (suc j) (suc (suc j)) ≡ suc (cond (ltb j m) j (suc j))
sources_count j m = ⊎_elim
    (λ l. ap (λ b. cond b (suc j) (suc (suc j))) (lt-ltb (suc j) (suc m) (omega arith)) ∙ sym (ap (λ b. suc (cond b j (suc j))) (lt-ltb j m l)))
    (λ l. ap (λ b. cond b (suc j) (suc (suc j))) (le-ltb (suc j) (suc m) (omega arith)) ∙ sym (ap (λ b. suc (cond b j (suc j))) (le-ltb j m l)))
    (cases_lt j m)

abbrev closes : List Level → List (Act Mark)
closes vs = map (λ v. close v.build) vs

module _ (L K t a : ℕ) (ts : List (List ℕ)) (slots : List Slot) (s : List (Act Mark)) (choice : Choices L K ts) (sound : Sound (build_sizes L K) s) where
  -- one level is closed: its untouched slots are gathered, and then what follows
  close_seen : (l : ℕ) (lower : List Level) (v : Level) → Used L t l (Some a) s lower v → v.build < K → level_of_build L v.build ≡ l →
      (past : List (Act Mark)) → ((b : ℕ) → asked_of b past ≡ asked_of b s) → (first : Bool) (k : ℕ) (more : List (Seen Mark)) (is : List Item) (ps : List (Option ℕ)) (es : List Entry) →
      ((i : ℕ) → rendered L first i more ≡ moves L i (map source_of is ++ ps) ++ es) →
      rendered L first k (closed v.build (unasked (build_sizes L K) ts past v.build) ∷ more)
      ≡ moves L k (map source_of (map (item_at ts slots l v) (untouched_slots ts a lower l v) ++ is) ++ ps) ++ es
  close_seen l lower v u below level past same first k more is ps es then =
      let ss = untouched_slots ts a lower l v in
      ap₂ (λ (i : ℕ) (xs : List ℕ). gather_entries L i k xs ++ rendered L first (k + length xs) more) level
      (level_unasked L K t l a ts s past lower v choice sound u below level (same v.build))
      ∙ ap (λ r. gather_entries L l k ss ++ r) (then (k + length ss))
      ∙ sym (append_assoc (gather_entries L l k ss) (moves L (k + length ss) (map source_of is ++ ps)) es)
      ∙ ap (λ r. r ++ es) (sym (level_moves L ts slots l v k ss is ps))

  closes_seen : (more l q : ℕ) (lower vs : List Level) → Fits L t (Some a) s more l q lower vs → l + more ≡ L → q * 2 ^ l < K →
      (past : List (Act Mark)) → ((b : ℕ) → asked_of b past ≡ asked_of b s) →
      (first : Bool) (after : List (Seen Mark)) (ps : List (Option ℕ)) (es : List Entry) →
      ((i : ℕ) → rendered L first i after ≡ moves L i ps ++ es) → (k : ℕ) →
      rendered L first k (view_after (build_sizes L K) ts past (closes (sources more (level_of_build more (suc q)) vs)) ++ after)
      ≡ moves L k (map source_of (level_items ts slots a lower l (sources more (level_of_build more (suc q)) vs)) ++ ps) ++ es
  closes_seen zero l q lower [] fits e below past same first after ps es then k = absurd fits
  closes_seen zero l q lower (v ∷ (w ∷ vs)) fits e below past same first after ps es then k = absurd (omega (arith, ap length fits.3))
  closes_seen zero l q lower (v ∷ []) fits e below past same first after ps es then k =
      let top : L ≡ l = omega arith in
      let level : level_of_build L v.build ≡ l = ap (level_of_build L) (fits.1 ∙ ap (λ n. q * 2 ^ n) (sym top)) ∙ level_highest L q ∙ top in
      close_seen l lower v fits.0 (omega (arith, fits.1)) level past same first k after [] ps es then
  closes_seen (suc more) l q lower [] fits e below past same first after ps es then k = absurd fits
  closes_seen (suc more) l q lower (v ∷ vs) fits e below past same first after ps es then k = ⊎_elim
      (λ odd.
      let here = odd_part L t l q (Some a) s lower v odd fits.0 in
      let j = level_of_build more (suc (q / 2)) in
      let count : cond (ltb (level_of_build (suc more) (suc q)) (suc more)) (level_of_build (suc more) (suc q)) (suc (level_of_build (suc more) (suc q)))
      ≡ suc (cond (ltb j more) j (suc j)) =
      ap (λ i. cond (ltb i (suc more)) i (suc i)) (level_even more (suc q) (next_even q odd) ∙ ap (λ n. suc (level_of_build more n)) (next_half_more q odd))
      ∙ sources_count j more in
      let level : level_of_build L v.build ≡ l = ap (level_of_build L) here.1 ∙ level_below L l q (omega arith) odd in
      let past' = past ++ (close v.build ∷ []) in
      subst (λ n. rendered L first k (view_after (build_sizes L K) ts past (closes (take n (v ∷ vs))) ++ after)
      ≡ moves L k (map source_of (level_items ts slots a lower l (take n (v ∷ vs))) ++ ps) ++ es) (sym count)
      (close_seen l lower v here.0 (omega (arith, here.1)) level past same first k
      (view_after (build_sizes L K) ts past' (closes (sources more j vs)) ++ after)
      (level_items ts slots a (lower ++ (v ∷ [])) (suc l) (sources more j vs)) ps es
      (closes_seen more (suc l) (q / 2) (lower ++ (v ∷ [])) vs fits.1 (omega arith) (omega (arith, half_below q l)) past'
      (λ b. asked_push b past (close v.build) ∙ append-nil (asked_of b past) ∙ same b) first after ps es then)))
      (λ even.
      let count : cond (ltb (level_of_build (suc more) (suc q)) (suc more)) (level_of_build (suc more) (suc q)) (suc (level_of_build (suc more) (suc q))) ≡ 0 =
      ap (λ i. cond (ltb i (suc more)) i (suc i)) (level_odd more (suc q) (next_odd q even)) ∙ ap (λ b. cond b 0 1) (lt-ltb 0 (suc more) (omega arith)) in
      subst (λ n. rendered L first k (view_after (build_sizes L K) ts past (closes (take n (v ∷ vs))) ++ after)
      ≡ moves L k (map source_of (level_items ts slots a lower l (take n (v ∷ vs))) ++ ps) ++ es) (sym count) (then k))
      (odd_or_even q)

-- ---- a rebuild

fresh_sources : (b : Bool) (n : ℕ) → map source_of (cond b (replicate n (spare None)) []) ≡ replicate (cond b n 0) None
fresh_sources true n = spares n
  where
    spares : (n : ℕ) → map source_of (replicate n (spare None)) ≡ replicate n None
    spares zero = refl
    spares (suc n) = ap (λ ps. None ∷ ps) (spares n)
fresh_sources false n = refl

-- the acts of a rebuild of level l
abbrev acts_of : ℕ → ℕ → List Level → List (Act Mark)
acts_of L l vs =
    mark gathers ∷ mark (stores 1) ∷ (closes (sources L l vs) ++ (mark (stores (cond (ltb l L) (2 ^ l) 0)) ∷ mark (fills l) ∷ []))

module _ (L K r a : ℕ) (ts : List (List ℕ)) (w : World) (s : List (Act Mark)) (choice : Choices L K ts) (ready : Ready L K r (Some a) s w.client)
    (first : Bool) (k : ℕ) (more : List (Seen Mark)) (es : List Entry) (then : (f : Bool) (i : ℕ) → rendered L f i more ≡ es) where
  rebuild_acts_are : rebuild_acts w.client ≡ acts_of L (level_of_build L (suc r)) w.client.levels
  rebuild_acts_are =
      ap (λ T. acts_of T (level_of_build T w.client.accesses) w.client.levels) ready.top
      ∙ ap (λ t. acts_of L (level_of_build L t) w.client.levels) ready.accesses

  rebuild_entries_are : entries (rebuild_requests ts w)
      ≡ moves L 0 (map source_of (items L ts w.slots a w.held_bytes (level_of_build L (suc r)) w.client.levels)) ++ fill_entries L (level_of_build L (suc r))
  rebuild_entries_are =
      rebuild_traced ts w
      ∙ ap (λ T. of T w.client.accesses (held_address w.client)) ready.top
      ∙ ap (λ t. of L t (held_address w.client)) ready.accesses
      ∙ ap (of L (suc r)) (held_is w.client a ready.held)
    where
      of : ℕ → ℕ → ℕ → List Entry
      of T t x =
          moves T 0 (map source_of (items T ts w.slots x w.held_bytes (level_of_build T t) w.client.levels)) ++ fill_entries T (level_of_build T t)

  acts_seen : rendered L first k (view_after (build_sizes L K) ts s (acts_of L (level_of_build L (suc r)) w.client.levels) ++ more)
      ≡ (moves L 0 (map source_of (items L ts w.slots a w.held_bytes (level_of_build L (suc r)) w.client.levels)) ++ fill_entries L (level_of_build L (suc r))) ++ es
  unfolding items
  acts_seen =
      let ns = build_sizes L K in
      let l = level_of_build L (suc r) in
      let vs = w.client.levels in
      let m = cond (ltb l L) (2 ^ l) 0 in
      let past : List (Act Mark) = (s ++ (mark gathers ∷ [])) ++ (mark (stores 1) ∷ []) in
      let held : Entry = entry_of true true (scratch_start L + 0) in
      let gathered_items = level_items ts w.slots a [] 0 (sources L l vs) in
      let tail : List (Act Mark) = mark (stores m) ∷ mark (fills l) ∷ [] in
      let after : List (Seen Mark) = marked (stores m) ∷ marked (fills l) ∷ more in
      let one : r * 2 ^ 0 ≡ r = ap (λ p. r * p) (pow-zero 2) ∙ omega arith in
      ap (λ v. held ∷ rendered L first 1 (v ++ more)) (view_append ns ts past (closes (sources L l vs)) tail)
      ∙ ap (λ v. held ∷ rendered L first 1 v)
      (append_assoc (view_after ns ts past (closes (sources L l vs))) (view_after ns ts (past ++ closes (sources L l vs)) tail) more)
      ∙ ap (λ e. held ∷ e)
      (closes_seen L K (suc r) a ts w.slots s choice ready.sound L 0 r [] vs ready.levels (omega arith) (omega (arith, one, ready.builds_left)) past
      (λ b. asked_push b (s ++ (mark gathers ∷ [])) (mark (stores 1)) ∙ append-nil (asked_of b (s ++ (mark gathers ∷ []))) ∙ asked_push b s (mark gathers) ∙ append-nil (asked_of b s))
      first after (replicate m None) (fill_entries L l ++ es)
      (λ i. ap₂ (λ (xs ys : List Entry). xs ++ (fill_entries L l ++ ys)) (sym (store_moves L i m)) (then first (i + m))) 1)
      ∙ sym (append_assoc (held ∷ moves L 1 (map source_of gathered_items ++ replicate m None)) (fill_entries L l) es)
      ∙ ap (λ ps. ((held ∷ moves L 1 ps) ++ fill_entries L l) ++ es)
      (sym (map-append source_of gathered_items (cond (ltb l L) (replicate (2 ^ l) (spare None)) []) ∙ ap (λ ps. map source_of gathered_items ++ ps) (fresh_sources (ltb l L) (2 ^ l))))

  rebuild_seen : rendered L first k (view_after (build_sizes L K) ts s (rebuild_acts w.client) ++ more) ≡ entries (rebuild_requests ts w) ++ es
  rebuild_seen =
      ap (λ p. rendered L first k (view_after (build_sizes L K) ts s p ++ more)) rebuild_acts_are ∙ acts_seen ∙ ap (λ xs. xs ++ es) (sym rebuild_entries_are)

-- ---- a load

load_is : (L W : ℕ) (ts : List (List ℕ)) (bytes : List ℕ) → entries (load_requests L W ts bytes) ≡ load_entries L
unfolding load_requests
load_is L W ts bytes = map-map _ _ (range_with_len 0 (level_slots L))

-- ---- one call

module _ (L W : ℕ) (ts : List (List ℕ)) (choice : Choices L (length ts) ts) (some : 0 < length ts) where
  accepted_seen : (w : World) (s : List (Act Mark)) (c : Call) → Standing L W (length ts) s w.client → verdict (length ts) w.client c ≡ None →
      (first : Bool) (k : ℕ) (more : List (Seen Mark)) (es : List Entry) → ((f : Bool) (i : ℕ) → rendered L f i more ≡ es) →
      rendered L first k (view_after (build_sizes L (length ts)) ts s (accepted_acts w.client c) ++ more) ≡ entries_of (accept ts w c).answer ++ es
  unfolding loading accessing rebuilding
  accepted_seen w s (load bytes room) (unloaded e n) v first k more es then =
      ap (λ xs. load_entries L ++ xs) (then first k)
      ∙ ap (λ xs. xs ++ es) (sym (ap (λ T. entries (load_requests T w.client.width ts bytes)) (ap (λ q. q.top) e) ∙ load_is L w.client.width ts bytes))
  accepted_seen w s (access j op a bytes room) (unloaded e n) v first k more es then =
      let zero_number : w.client.number ≡ 0 = ap (λ q. q.number) e in
      absurd (omega (arith, turn_due (length ts) w.client (access j op a bytes room) v))
  accepted_seen w s (rebuild j room) (unloaded e n) v first k more es then =
      let zero_number : w.client.number ≡ 0 = ap (λ q. q.number) e in
      absurd (omega (arith, turn_due (length ts) w.client (rebuild j room) v))
  accepted_seen w s (load bytes room) (running r h ready wide) v first k more es then =
      absurd (omega (arith, ready.number, turn_due (length ts) w.client (load bytes room) v))
  accepted_seen w s (access j op a bytes room) (running r h ready wide) v first k more es then =
      asks_seen L (build_sizes L (length ts)) ts w.slots (s ++ (mark begins ∷ [])) (asks a w.client.levels)
      (asks_placed L _ h s L 0 r [] w.client.levels false a ready.levels (omega arith)) true k more es then
  accepted_seen w s (rebuild j room) (running r None ready wide) v first k more es then =
      absurd (omega (arith, ready.number, turn_due (length ts) w.client (rebuild j room) v))
  accepted_seen w s (rebuild j room) (running r (Some a) ready wide) v first k more es then =
      rebuild_seen L (length ts) r a ts w s choice ready first k more es then

  call_seen : (w : World) (s : List (Act Mark)) (c : Call) → Standing L W (length ts) s w.client →
      (first : Bool) (k : ℕ) (more : List (Seen Mark)) (es : List Entry) → ((f : Bool) (i : ℕ) → rendered L f i more ≡ es) →
      rendered L first k (view_after (build_sizes L (length ts)) ts s (acts (length ts) w.client c) ++ more) ≡ entries_of (performed ts w c).answer ++ es
  call_seen w s c st first k more es then = by (verdict (length ts) w.client c) (λ v. accepted_seen w s c st v first k more es then)
    where
      by : (o : Option Refusal) → (o ≡ None → rendered L first k (view_after (build_sizes L (length ts)) ts s (accepted_acts w.client c) ++ more) ≡ entries_of (accept ts w c).answer ++ es) →
          rendered L first k (view_after (build_sizes L (length ts)) ts s (elim o [ Some r ↦ [] | None ↦ accepted_acts w.client c ]) ++ more)
          ≡ entries_of (elim o as (λ x. Outcome) [ Some r ↦ decline w r | None ↦ accept ts w c ]).answer ++ es
      by (Some r) ok = then first k
      by None ok = ok refl

  -- ---- a list of calls

  -- from any client that stands after a script s
  pub trace_seen : (w : World) (s : List (Act Mark)) (cs : List Call) → Standing L W (length ts) s w.client → (first : Bool) (k : ℕ) →
      rendered L first k (view_after (build_sizes L (length ts)) ts s (script (length ts) w.client cs)) ≡ trace ts w cs
  trace_seen w s [] st first k = refl
  trace_seen w s (c ∷ cs) st first k =
      let ns = build_sizes L (length ts) in
      let now = acts (length ts) w.client c in
      let w' = (performed ts w c).world in
      let same = performed_client ts w c in
      let st' : Standing L W (length ts) (s ++ now) w'.client = subst (Standing L W (length ts) (s ++ now)) (sym same) (call_standing L W (length ts) s w.client c some st) in
      ap (rendered L first k) (view_append ns ts s now (script (length ts) (client_after (length ts) w.client c) cs))
      ∙ call_seen w s c st first k (view_after ns ts (s ++ now) (script (length ts) (client_after (length ts) w.client c) cs)) (trace ts w' cs)
      (λ f i. ap (λ q. rendered L f i (view_after ns ts (s ++ now) (script (length ts) q cs))) (sym same) ∙ trace_seen w' (s ++ now) cs st' f i)

-- the trace of a run from the opening on
pub trace_of_view : (L W K : ℕ) (ts : List (List ℕ)) (w : World) (cs : List Call) → Choices L K ts → 0 < K → w.client ≡ opened L W None →
    rendered L false 0 (view (build_sizes L K) ts (script K (opened L W None) cs)) ≡ trace ts w cs
trace_of_view L W K ts w cs choice some e =
    let long : K ≡ length ts = sym (choice.counted ∙ sizes_count L K) in
    subst (λ n. Choices L n ts → 0 < n → rendered L false 0 (view (build_sizes L n) ts (script n (opened L W None) cs)) ≡ trace ts w cs) (sym long)
    (λ choice' some'. ap (λ k. rendered L false 0 (view (build_sizes L (length ts)) ts (script (length ts) k cs))) (sym e)
    ∙ trace_seen L W ts choice' some' w [] cs (unloaded e refl) false 0) choice some
