-- The bytes along every run: what is stored is always current, so that a read gives the latest write.
use Rattle.std.proofs.Common.{◌≡◌, ℕ, suc, ◌+◌, ◌*◌, ◌<◌, ◌≤◌, true, false, cond, ◌&&◌, eqb, ◌⊎◌, List, [], ◌∷◌, ◌++◌, length, replicate, Some, None, Option, sym, refl, ap, ap₂, ◌∙◌, subst, inl, inr, add-zero, arith}
use mathlib.Core.Path.{fun_ext}
use Rattle.std.proofs.lemmas.List.FromFn.{length-map-range_with_len}
use Rattle.std.proofs.lemmas.List.{append-nil, append_assoc, get_or_past, get_or-set_same, length-replicate}
use Rattle.std.proofs.lemmas.Bool.{cases_Bool, cases_lt, cond-true, cond-false, eq-eqb, ne_eqb, eqb-true, eqb-false, false≢true, and_left, and_right, and_from}
use Rattle.shape.specs.Numbers.{level_slots, level_start, level_of_build, places_needed}
use Rattle.shape.specs.declared.refusal.Refusal.{Refusal}
use Rattle.shape.specs.declared.refusal.Refusal.TheVariants.{NotOpened}
use Rattle.store.specs.State.{slot_at}
use Rattle.store.specs.Requests.{wrote, entries}
use Rattle.store.specs.declared.entry.Entry.{Entry}
use Rattle.permutations.specs.Choices.{slot_of}
use Rattle.permutations.specs.Scripts.{Act, mark}
use Rattle.rules.specs.World.{Level, Client, World, vacant}
use Rattle.rules.specs.Calls.{Call, load, access, rebuild, Answer, accepted, Outcome}
use Rattle.rules.specs.Checks.{verdict, rebuild_level}
use Rattle.rules.specs.Opening.{Parts, opening_answer, opened, opening}
use Rattle.rules.specs.Slots.{block_bytes}
use Rattle.rules.specs.Loading.{load_requests, loaded_level, loaded_client, loading}
use Rattle.rules.specs.Accessing.{asks, found_from, found_bytes, access_requests, accessing}
use Rattle.rules.specs.Rebuilding.{rebuilt_members, rebuilt_client, gathered, rebuild_requests, rebuilding}
use Rattle.rules.specs.Runs.{accept, performed, after}
use Rattle.laws.specs.Runs.{Choices}
use Rattle.laws.specs.LatestWrite.{set_by, latest, ReadsGiveTheLatestWrite}
use Rattle.laws.specs.Keeping.{level_at, said, Holds, Kept, RebuildsKeepEveryBlock, builds, NoneBuilds, addresses, OccupiedLevelsHold}
use Rattle.laws.proofs.Scripts.{Mark, loads, access_acts, rebuild_acts}
use Rattle.laws.proofs.Invariant.{accesses_made, Ready}
use Rattle.laws.proofs.Contents.{Filled}
use Rattle.laws.proofs.Loads.{load_ready}
use Rattle.laws.proofs.Accesses.{access_ready}
use Rattle.laws.proofs.Rebuilds.{rebuild_ready}
use Rattle.laws.proofs.Gathering.{Places, rebuild_places}
use Rattle.laws.proofs.Reading.{read_gives}
use Rattle.laws.proofs.LevelsAt.{fits_length, rebuilt_here}
use Rattle.laws.proofs.Staying.{level_stays}
use Rattle.laws.proofs.Following.{after_append, accesses_counted}
use Rattle.laws.proofs.Stands.{Stocked, stocked_filled, stocked_load, stocked_access, stocked_rebuild, new_says}
use Rattle.laws.proofs.Accepted.{declined_not_accepted, same_bytes, load_turn, AccessPassed, access_passed, rebuild_turn, outcome_of, accepted_passed, performed_accepted, refused_declines, refused_stays, vacant_anywhere, opened_parts}

-- ---- what is known at any time

-- before the load: nothing was done
pub record Unloaded (ts : List (List ℕ)) (w : World) : Type 0 where
  pub levels : ℕ
  pub width : ℕ
  pub client : w.client ≡ opened levels width None
  pub choice : Choices levels (length ts) ts
  pub some : 0 < length ts
  pub room : places_needed levels ≤ length w.slots

-- after it: the invariant, and current bytes
pub record Running (ts : List (List ℕ)) (From : ℕ → (ℕ → List ℕ) → Type 0) (value : ℕ → List ℕ) (w : World) : Type 0 where
  pub rebuilds : ℕ
  pub due : Option ℕ
  pub script : List (Act Mark)
  pub ready : Ready w.client.top (length ts) rebuilds due script w.client
  pub stocked : Stocked ts due From value w

abbrev pub Known : List (List ℕ) → (ℕ → (ℕ → List ℕ) → Type 0) → (ℕ → List ℕ) → World → Type 0
Known ts From value w = Unloaded ts w ⊎ Running ts From value w

-- ---- lists of calls, one call more

after_push : (ts : List (List ℕ)) (w : World) (cs : List Call) (c : Call) → after ts w (cs ++ (c ∷ [])) ≡ (performed ts (after ts w cs) c).world
after_push ts w [] c = refl
after_push ts w (d ∷ cs) c = after_push ts (performed ts w d).world cs c

latest_push : (ts : List (List ℕ)) (w : World) (a : ℕ) (before : List ℕ) (cs : List Call) (c : Call) →
    latest ts w a before (cs ++ (c ∷ [])) ≡ set_by (after ts w cs).client.width a c (performed ts (after ts w cs) c).answer (latest ts w a before cs)
latest_push ts w a before [] c = refl
latest_push ts w a before (d ∷ cs) c = latest_push ts (performed ts w d).world a (set_by w.client.width a d (performed ts w d).answer before) cs c

none_push : (ts : List (List ℕ)) (w : World) (l : ℕ) (cs : List Call) (c : Call) → NoneBuilds ts w l cs → builds l (after ts w cs) c (performed ts (after ts w cs) c).answer ≡ false →
    NoneBuilds ts w l (cs ++ (c ∷ []))
none_push ts w l [] c none b = (b, tt)
none_push ts w l (d ∷ cs) c none b = (none.0, none_push ts (performed ts w d).world l cs c none.1 b)

-- among these calls one built level l, none later did, and after it the blocks had these bytes
abbrev pub WasBuilt : List (List ℕ) → World → List Call → ℕ → (ℕ → List ℕ) → Type 0
WasBuilt ts start past l f =
    (before : List Call) × (c : Call) × (later : List Call) × (past ≡ before ++ (c ∷ later))
    × (builds l (after ts start before) c (performed ts (after ts start before) c).answer ≡ true)
    × NoneBuilds ts (performed ts (after ts start before) c).world l later
    × (f ≡ (λ a. latest ts start a [] (before ++ (c ∷ []))))

was_built_push : (ts : List (List ℕ)) (start : World) (past : List Call) (c : Call) (l : ℕ) (f : ℕ → List ℕ) →
    builds l (after ts start past) c (performed ts (after ts start past) c).answer ≡ false → WasBuilt ts start past l f → WasBuilt ts start (past ++ (c ∷ [])) l f
was_built_push ts start past c l f other (before, d, later, e, b, none, g) =
    let then_is : after ts start past ≡ after ts (performed ts (after ts start before) d).world later = ap (after ts start) e ∙ after_append ts start before (d ∷ later) in (
      before,
      d,
      later ++ (c ∷ []),
      ap (λ (cs : List Call). cs ++ (c ∷ [])) e ∙ append_assoc before (d ∷ later) (c ∷ []),
      b,
      none_push ts (performed ts (after ts start before) d).world l later c none (ap (λ w. builds l w c (performed ts w c).answer) (sym then_is) ∙ other),
      g,
    )

-- while an access is due no address is held, and while a rebuild is due one is
none_due : (L K : ℕ) (k : Client) (r j : ℕ) (h : Option ℕ) (s : List (Act Mark)) → 2 * j + 1 ≡ k.number → Ready L K r h s k → h ≡ None
none_due L K k r j (Some a) s turn ready = absurd (let n : k.number ≡ r + suc r + 1 = ready.number in omega arith)
none_due L K k r j None s turn ready = refl

some_due : (L K : ℕ) (k : Client) (r j : ℕ) (h : Option ℕ) (s : List (Act Mark)) → 2 * j + 2 ≡ k.number → Ready L K r h s k → (a : ℕ) × (h ≡ Some a)
some_due L K k r j (Some a) s turn ready = (a, refl)
some_due L K k r j None s turn ready = absurd (let n : k.number ≡ r + r + 1 = ready.number in omega arith)

-- ---- one call

module _ (ts : List (List ℕ)) (From From' : ℕ → (ℕ → List ℕ) → Type 0) where
  after_loading : (w : World) (all : List ℕ) → Unloaded ts w → From' w.client.top (block_bytes w.client.width all) →
      Running ts From' (block_bytes w.client.width all) (loading ts w all).world
  unfolding loading
  after_loading w all un fresh =
      subst (λ (k : Client). From' k.top (block_bytes k.width all) →
      Running ts From' (block_bytes k.width all) (record { client = loaded_client k; held_bytes = w.held_bytes; slots = wrote w.slots (load_requests k.top k.width ts all) }))
      (sym un.client)
      (λ from. record {
        rebuilds = 0;
        due = None;
        script = mark loads ∷ [];
        ready = load_ready un.levels un.width (length ts) un.some;
        stocked = stocked_load ts un.levels un.width all w.held_bytes w.slots From' un.choice un.room un.some from;
      })
      fresh

  after_accessing : (w : World) (value : ℕ → List ℕ) (j op a : ℕ) (run : List ℕ) → ((l : ℕ) (f : ℕ → List ℕ) → From l f → From' l f) →
      AccessPassed (length ts) w.client j op a → Running ts From value w →
      Running ts From' (λ x. cond (eqb op 1 && eqb a x) run (value x)) (accessing ts w op a run).world
  unfolding accessing
  after_accessing w value j op a run weaker ok now = record {
    rebuilds = now.rebuilds;
    due = Some a;
    script = now.script ++ access_acts a w.client;
    ready = access_ready w.client.top (length ts) now.rebuilds a now.script w.client ready ok.address (omega (arith, ok.builds, ready.accesses));
    stocked =
        stocked_access ts From From' value (λ x. cond (eqb op 1 && eqb a x) run (value x)) w a
        (cond (eqb op 0) (found_bytes ts w.slots (found_from a 0 w.client.levels) (asks a w.client.levels)) run)
        weaker (λ x ne. cond-false (eqb op 1 && eqb a x) run (value x) (and_right (eqb op 1) (eqb a x) (ne_eqb a x (λ e. ne (sym e))))) (held (cases_Bool (eqb op 0))) stocked;
  }
    where
      at_rest : now.due ≡ None
      at_rest = none_due w.client.top (length ts) w.client now.rebuilds j now.due now.script ok.turn now.ready

      ready : Ready w.client.top (length ts) now.rebuilds None now.script w.client
      ready = subst (λ (h : Option ℕ). Ready w.client.top (length ts) now.rebuilds h now.script w.client) at_rest now.ready

      stocked : Stocked ts None From value w
      stocked = subst (λ (h : Option ℕ). Stocked ts h From value w) at_rest now.stocked

      filled : Filled ts w.client.top None value w
      filled = stocked_filled ts (length ts) now.rebuilds None now.script From value w ready stocked

      held : (eqb op 0 ≡ true) ⊎ (eqb op 0 ≡ false) →
          cond (eqb op 0) (found_bytes ts w.slots (found_from a 0 w.client.levels) (asks a w.client.levels)) run ≡ cond (eqb op 1 && eqb a a) run (value a)
      held (inl e) =
          let z : op ≡ 0 = eqb-true op 0 e in
          cond-true (eqb op 0) (found_bytes ts w.slots (found_from a 0 w.client.levels) (asks a w.client.levels)) run e
          ∙ read_gives ts w.client.top (length ts) now.rebuilds now.script value w a ready filled ok.address
          ∙ sym (cond-false (eqb op 1 && eqb a a) run (value a) (and_left (eqb op 1) (eqb a a) (ne_eqb op 1 (λ q. omega arith))))
      held (inr e) =
          let z : op ≡ 0 → ⊥ = eqb-false op 0 e in
          cond-false (eqb op 0) (found_bytes ts w.slots (found_from a 0 w.client.levels) (asks a w.client.levels)) run e
          ∙ sym (cond-true (eqb op 1 && eqb a a) run (value a) (and_from (eqb op 1) (eqb a a) (eq-eqb op 1 (omega (arith, ok.operation))) (eq-eqb a a refl)))

  after_rebuilding : (w : World) (value : ℕ → List ℕ) (j : ℕ) → ((l : ℕ) (f : ℕ → List ℕ) → rebuild_level w.client < l → From l f → From' l f) →
      2 * j + 2 ≡ w.client.number → Running ts From value w → From' (rebuild_level w.client) value →
      Running ts From' value (rebuilding ts w).world
  unfolding rebuilding
  after_rebuilding w value j weaker turn now fresh = record {
    rebuilds = suc now.rebuilds;
    due = None;
    script = now.script ++ rebuild_acts w.client;
    ready = rebuild_ready w.client.top (length ts) now.rebuilds is_due.0 now.script w.client ready;
    stocked = stocked_rebuild ts From From' value w now.rebuilds is_due.0 now.script weaker fresh
        (rebuild_places ts w.client.top (length ts) now.rebuilds is_due.0 now.script value w stocked.choice ready
        (stocked_filled ts (length ts) now.rebuilds (Some is_due.0) now.script From value w ready stocked)).kept
        ready stocked;
  }
    where
      is_due : (a : ℕ) × (now.due ≡ Some a)
      is_due = some_due w.client.top (length ts) w.client now.rebuilds j now.due now.script turn now.ready

      ready : Ready w.client.top (length ts) now.rebuilds (Some is_due.0) now.script w.client
      ready = subst (λ (h : Option ℕ). Ready w.client.top (length ts) now.rebuilds h now.script w.client) is_due.1 now.ready

      stocked : Stocked ts (Some is_due.0) From value w
      stocked = subst (λ (h : Option ℕ). Stocked ts h From value w) is_due.1 now.stocked

  unchanged : (w : World) (value : ℕ → List ℕ) → ((l : ℕ) (f : ℕ → List ℕ) → From l f → From' l f) → Running ts From value w → Running ts From' value w
  unchanged w value weaker now = record {
    rebuilds = now.rebuilds;
    due = now.due;
    script = now.script;
    ready = now.ready;
    stocked = record {
      choice = now.stocked.choice;
      room = now.stocked.room;
      held = now.stocked.held;
      levels = λ l low occ.
          let full = now.stocked.levels l low occ in
          record { built = full.built; from = weaker l full.built full.from; table = full.table; says = full.says; current = full.current };
    };
  }

  -- the value of each block after a call with this outcome
  abbrev then_value : World → (ℕ → List ℕ) → Call → Outcome → ℕ → List ℕ
  then_value w value c o a = set_by w.client.width a c o.answer (value a)

  unloaded_number : (w : World) → Unloaded ts w → w.client.number ≡ 0
  unloaded_number w un = ap (λ (k : Client). k.number) un.client

  -- what is told of a level's build is still told after a call with this answer, unless the call builds the level
  abbrev Still : World → Call → Answer → Type 0
  Still w c answer = (l : ℕ) (f : ℕ → List ℕ) → builds l w c answer ≡ false → From l f → From' l f

  accepted_step : (w : World) (value : ℕ → List ℕ) (c : Call) → verdict (length ts) w.client c ≡ None → Still w c (accept ts w c).answer → Known ts From value w →
      ((l : ℕ) → builds l w c (accept ts w c).answer ≡ true → From' l (then_value w value c (accept ts w c))) →
      Known ts From' (then_value w value c (accept ts w c)) (accept ts w c).world
  unfolding loading accessing rebuilding
  accepted_step w value (load all room) ok still (inl un) fresh = inr (after_loading w all un (fresh w.client.top (eq-eqb w.client.top w.client.top refl)))
  accepted_step w value (load all room) ok still (inr now) fresh = absurd (omega (arith, load_turn (length ts) w.client all room ok, now.ready.number))
  accepted_step w value (access j op a run room) ok still (inl un) fresh =
      absurd (omega (arith, unloaded_number w un, (access_passed (length ts) w.client j op a run room ok).turn))
  accepted_step w value (access j op a run room) ok still (inr now) fresh = inr (after_accessing w value j op a run (λ l f. still l f refl) (access_passed (length ts) w.client j op a run room ok) now)
  accepted_step w value (rebuild j room) ok still (inl un) fresh = absurd (omega (arith, unloaded_number w un, rebuild_turn (length ts) w.client j room ok))
  accepted_step w value (rebuild j room) ok still (inr now) fresh =
      inr (after_rebuilding w value j (λ l f high. still l f (ne_eqb l (rebuild_level w.client) (λ e. omega arith))) (rebuild_turn (length ts) w.client j room ok) now
      (fresh (rebuild_level w.client) (eq-eqb (rebuild_level w.client) (rebuild_level w.client) refl)))

  -- any call
  known_step : (w : World) (value : ℕ → List ℕ) (c : Call) → Still w c (performed ts w c).answer → Known ts From value w →
      ((l : ℕ) → builds l w c (performed ts w c).answer ≡ true → From' l (then_value w value c (performed ts w c))) →
      Known ts From' (then_value w value c (performed ts w c)) (performed ts w c).world
  known_step w value c still known fresh = by (verdict (length ts) w.client c) refl still known fresh
    where
      by : (o : Option Refusal) → verdict (length ts) w.client c ≡ o → Still w c (outcome_of ts w c o).answer → Known ts From value w →
          ((l : ℕ) → builds l w c (outcome_of ts w c o).answer ≡ true → From' l (then_value w value c (outcome_of ts w c o))) →
          Known ts From' (then_value w value c (outcome_of ts w c o)) (outcome_of ts w c o).world
      by (Some r) e still (inl un) fresh = inl un
      by (Some r) e still (inr now) fresh = inr (unchanged w value (λ l f. still l f refl) now)
      by None e still known fresh = accepted_step w value c e still known fresh

-- ---- every list of calls

module _ (ts : List (List ℕ)) (start : World) where
  abbrev At : List Call → Type 0
  At past = Known ts (WasBuilt ts start past) (λ a. latest ts start a [] past) (after ts start past)

  at_push : (past : List Call) (c : Call) → At past → At (past ++ (c ∷ []))
  at_push past c known =
      subst (Known ts (WasBuilt ts start (past ++ (c ∷ []))) (λ a. latest ts start a [] (past ++ (c ∷ [])))) (sym (after_push ts start past c))
      (subst (λ (value : ℕ → List ℕ). Known ts (WasBuilt ts start (past ++ (c ∷ []))) value (performed ts (after ts start past) c).world) now
      (known_step ts (WasBuilt ts start past) (WasBuilt ts start (past ++ (c ∷ [])))
      (after ts start past) (λ a. latest ts start a [] past) c (was_built_push ts start past c) known (λ l built. (past, c, [], refl, built, tt, now))))
    where
      now : ◌≡◌ {A = ℕ → List ℕ} (λ a. set_by (after ts start past).client.width a c (performed ts (after ts start past) c).answer (latest ts start a [] past))
          (λ a. latest ts start a [] (past ++ (c ∷ [])))
      now = fun_ext (λ a. sym (latest_push ts start a [] past c))

  at_append : (past cs : List Call) → At past → At (past ++ cs)
  at_append past [] known = subst At (sym (append-nil past)) known
  at_append past (c ∷ cs) known = subst At (append_assoc past (c ∷ []) cs) (at_append (past ++ (c ∷ [])) cs (at_push past c known))

  at_all : Unloaded ts start → (cs : List Call) → At cs
  at_all un cs = at_append [] cs (inl un)

-- ---- the laws

-- an opening without a refusal
opened_unloaded : (L W K : ℕ) (p : Parts) (ts : List (List ℕ)) → 1 ≤ K → Choices p.supply_top K ts → opening_answer L W p ≡ None → Unloaded ts (opening L W p)
opened_unloaded L W K p ts some choice e =
    let ok = opened_parts L W p e in
    let many : length ts ≡ K = choice.counted ∙ length-map-range_with_len (λ b. level_slots (level_of_build p.supply_top b)) 0 K in
    record {
      levels = L;
      width = W;
      client = ap (opened L W) e;
      choice = subst (λ (n : ℕ). Choices n (length ts) ts) ok.supply (subst (λ (n : ℕ). Choices p.supply_top n ts) (sym many) choice);
      some = omega arith;
      room = ok.room;
    }

-- an opening with a refusal: no call is accepted, and all levels stay vacant
never_accepted : (L W : ℕ) (p : Parts) (ts : List (List ℕ)) (r : Refusal) (cs : List Call) (c : Call) (bytes : List ℕ) (es : List Entry) → opening_answer L W p ≡ Some r →
    (performed ts (after ts (opening L W p) cs) c).answer ≡ accepted bytes es → ⊥
never_accepted L W p ts r cs c bytes es e answered =
    declined_not_accepted NotOpened bytes es
    (sym (ap (λ (w : World). (performed ts w c).answer) (refused_stays ts (opening L W p) r cs e) ∙ ap (λ (o : Outcome). o.answer) (refused_declines ts (opening L W p) r c e)) ∙ answered)

never_occupied : (L W : ℕ) (p : Parts) (ts : List (List ℕ)) (r : Refusal) (cs : List Call) (l : ℕ) → opening_answer L W p ≡ Some r →
    (level_at (after ts (opening L W p) cs).client l).occupied ≡ true → ⊥
never_occupied L W p ts r cs l e occ =
    false≢true (sym (ap (λ (w : World). (level_at w.client l).occupied) (refused_stays ts (opening L W p) r cs e) ∙ ap (λ (v : Level). v.occupied) (vacant_anywhere (suc L) l)) ∙ occ)

-- a read of what is known
read_now : (ts : List (List ℕ)) (From : ℕ → (ℕ → List ℕ) → Type 0) (value : ℕ → List ℕ) (w : World) (j a room : ℕ) (run bytes : List ℕ) (es : List Entry) →
    Known ts From value w → (performed ts w (access j 0 a run room)).answer ≡ accepted bytes es → bytes ≡ value a
unfolding accessing
read_now ts From value w j a room run bytes es (inl un) answered =
    absurd (omega (arith, ap (λ (k : Client). k.number) un.client, (access_passed (length ts) w.client j 0 a run room (accepted_passed ts w (access j 0 a run room) bytes es answered)).turn))
read_now ts From value w j a room run bytes es (inr now) answered =
    same_bytes bytes (cond (eqb 0 0) (found_bytes ts w.slots (found_from a 0 w.client.levels) (asks a w.client.levels)) run) es
    (entries (access_requests ts w.slots (asks a w.client.levels)))
    (sym answered ∙ ap (λ (o : Outcome). o.answer) (performed_accepted ts w (access j 0 a run room) none))
    ∙ cond-true (eqb 0 0) (found_bytes ts w.slots (found_from a 0 w.client.levels) (asks a w.client.levels)) run (eq-eqb 0 0 refl)
    ∙ read_gives ts w.client.top (length ts) now.rebuilds now.script value w a ready
    (stocked_filled ts (length ts) now.rebuilds None now.script From value w ready (subst (λ (h : Option ℕ). Stocked ts h From value w) at_rest now.stocked))
    ok.address
  where
    none : verdict (length ts) w.client (access j 0 a run room) ≡ None
    none = accepted_passed ts w (access j 0 a run room) bytes es answered

    ok : AccessPassed (length ts) w.client j 0 a
    ok = access_passed (length ts) w.client j 0 a run room none

    at_rest : now.due ≡ None
    at_rest = none_due w.client.top (length ts) w.client now.rebuilds j now.due now.script ok.turn now.ready

    ready : Ready w.client.top (length ts) now.rebuilds None now.script w.client
    ready = subst (λ (h : Option ℕ). Ready w.client.top (length ts) now.rebuilds h now.script w.client) at_rest now.ready

pub reads_give_the_latest_write : ReadsGiveTheLatestWrite
reads_give_the_latest_write L W K p ts some choice cs j a room run bytes es answered = by (opening_answer L W p) refl
  where
    by : (o : Option Refusal) → opening_answer L W p ≡ o → bytes ≡ latest ts (opening L W p) a [] cs
    by (Some r) e = absurd (never_accepted L W p ts r cs (access j 0 a run room) bytes es e answered)
    by None e =
        read_now ts (WasBuilt ts (opening L W p) cs) (λ x. latest ts (opening L W p) x [] cs) (after ts (opening L W p) cs) j a room run bytes es
        (at_all ts (opening L W p) (opened_unloaded L W K p ts some choice e) cs) answered

-- a rebuild of what is known
rebuild_now : (ts : List (List ℕ)) (From : ℕ → (ℕ → List ℕ) → Type 0) (value : ℕ → List ℕ) (w : World) (j room : ℕ) (bytes : List ℕ) (es : List Entry) →
    Known ts From value w → (performed ts w (rebuild j room)).answer ≡ accepted bytes es → Kept ts w value (performed ts w (rebuild j room)).world
unfolding rebuilding
rebuild_now ts From value w j room bytes es (inl un) answered =
    absurd (omega (arith, ap (λ (k : Client). k.number) un.client, rebuild_turn (length ts) w.client j room (accepted_passed ts w (rebuild j room) bytes es answered)))
rebuild_now ts From value w j room bytes es (inr now) answered = record {
  all_gathered = well.count;
  apart = well.apart;
  holds =
      subst (λ (o : Outcome). Holds ts o.world (rebuild_level w.client) value) (sym (performed_accepted ts w (rebuild j room) none))
      (subst (λ (v : Level). (i : ℕ) → i < level_slots (rebuild_level w.client) →
      slot_at (wrote w.slots (rebuild_requests ts w)) (level_start (rebuild_level w.client) + slot_of ts v.build i) ≡ said w.client.width value v i)
      (sym (rebuilt_here w.client))
      (new_says ts From (λ l f. Unit {0}) value w now.rebuilds due.0 now.script (λ l f high x. tt) tt well.kept ready stocked));
}
  where
    none : verdict (length ts) w.client (rebuild j room) ≡ None
    none = accepted_passed ts w (rebuild j room) bytes es answered

    due : (a : ℕ) × (now.due ≡ Some a)
    due = some_due w.client.top (length ts) w.client now.rebuilds j now.due now.script (rebuild_turn (length ts) w.client j room none) now.ready

    ready : Ready w.client.top (length ts) now.rebuilds (Some due.0) now.script w.client
    ready = subst (λ (h : Option ℕ). Ready w.client.top (length ts) now.rebuilds h now.script w.client) due.1 now.ready

    stocked : Stocked ts (Some due.0) From value w
    stocked = subst (λ (h : Option ℕ). Stocked ts h From value w) due.1 now.stocked

    well : Places ts w.client.width value (level_slots (rebuild_level w.client)) w.client.accesses (rebuilt_members w.client) (gathered ts w)
    well = rebuild_places ts w.client.top (length ts) now.rebuilds due.0 now.script value w stocked.choice ready
        (stocked_filled ts (length ts) now.rebuilds (Some due.0) now.script From value w ready stocked)

pub rebuilds_keep_every_block : RebuildsKeepEveryBlock
rebuilds_keep_every_block L W K p ts some choice cs j room bytes es answered = by (opening_answer L W p) refl
  where
    by : (o : Option Refusal) → opening_answer L W p ≡ o →
        Kept ts (after ts (opening L W p) cs) (λ a. latest ts (opening L W p) a [] cs) (performed ts (after ts (opening L W p) cs) (rebuild j room)).world
    by (Some r) e = absurd (never_accepted L W p ts r cs (rebuild j room) bytes es e answered)
    by None e =
        rebuild_now ts (WasBuilt ts (opening L W p) cs) (λ x. latest ts (opening L W p) x [] cs) (after ts (opening L W p) cs) j room bytes es
        (at_all ts (opening L W p) (opened_unloaded L W K p ts some choice e) cs) answered

-- an occupied level of what is known
level_now : (ts : List (List ℕ)) (From : ℕ → (ℕ → List ℕ) → Type 0) (value : ℕ → List ℕ) (w : World) (l : ℕ) → Known ts From value w → (level_at w.client l).occupied ≡ true →
    (f : ℕ → List ℕ) × From l f × Holds ts w l f
level_now ts From value w l (inl un) occ =
    absurd (false≢true (sym (ap (λ (k : Client). (level_at k l).occupied) un.client ∙ ap (λ (v : Level). v.occupied) (vacant_anywhere (suc un.levels) l)) ∙ occ))
level_now ts From value w l (inr now) occ = by (cases_lt l (length w.client.levels))
  where
    by : (l < length w.client.levels) ⊎ (length w.client.levels ≤ l) → (f : ℕ → List ℕ) × From l f × Holds ts w l f
    by (inl low) =
        let many = fits_length w.client.top (accesses_made now.rebuilds now.due) now.due now.script w.client.top 0 now.rebuilds [] w.client.levels now.ready.levels in
        let full = now.stocked.levels l (omega arith) occ in
        (full.built, full.from, full.says)
    by (inr high) = absurd (false≢true (sym (ap (λ (v : Level). v.occupied) (get_or_past w.client.levels l vacant high)) ∙ occ))

-- the build of a level that a call built is the number of accesses before it
built_number : (ts : List (List ℕ)) (From : ℕ → (ℕ → List ℕ) → Type 0) (value : ℕ → List ℕ) (w : World) (c : Call) (l : ℕ) → Known ts From value w →
    builds l w c (performed ts w c).answer ≡ true → (level_at (performed ts w c).world.client l).build ≡ w.client.accesses
unfolding loading accessing rebuilding
built_number ts From value w c l known = by (verdict (length ts) w.client c) refl
  where
    accepts : (c : Call) → verdict (length ts) w.client c ≡ None → Known ts From value w → builds l w c (accept ts w c).answer ≡ true →
        (level_at (accept ts w c).world.client l).build ≡ w.client.accesses
    accepts (load all room) ok (inl un) b =
        let is = un.client in
        ap₂ (λ k i. (level_at (loaded_client k) i).build) is (eqb-true l w.client.top b ∙ ap (λ k. k.top) is)
        ∙ ap (λ v. v.build) (get_or-set_same (replicate (suc un.levels) vacant) un.levels (loaded_level un.levels) vacant (omega (arith, length-replicate (suc un.levels) vacant)))
        ∙ sym (ap (λ k. k.accesses) is)
    accepts (load all room) ok (inr now) b = absurd (omega (arith, load_turn (length ts) w.client all room ok, now.ready.number))
    accepts (access j op a run room) ok known b = absurd (false≢true b)
    accepts (rebuild j room) ok known b =
        ap (λ i. (level_at (rebuilt_client w.client) i).build) (eqb-true l (rebuild_level w.client) b) ∙ ap (λ v. v.build) (rebuilt_here w.client)

    by : (o : Option Refusal) → verdict (length ts) w.client c ≡ o → builds l w c (outcome_of ts w c o).answer ≡ true →
        (level_at (outcome_of ts w c o).world.client l).build ≡ w.client.accesses
    by (Some r) e b = absurd (false≢true b)
    by None e b = accepts c e known b

pub occupied_levels_hold : OccupiedLevelsHold
occupied_levels_hold L W K p ts some choice cs l occ = by (opening_answer L W p) refl
  where
    start : World
    start = opening L W p

    Goal : Type 0
    Goal = (before : List Call) × (c : Call) × (later : List Call) × (cs ≡ before ++ (c ∷ later))
        × (builds l (after ts start before) c (performed ts (after ts start before) c).answer ≡ true)
        × NoneBuilds ts (after ts start (before ++ (c ∷ []))) l later
        × ((level_at (after ts start cs).client l).build ≡ length (addresses ts start before))
        × Holds ts (after ts start cs) l (λ a. latest ts start a [] (before ++ (c ∷ [])))

    from_built : Unloaded ts start → (f : ℕ → List ℕ) → WasBuilt ts start cs l f → Holds ts (after ts start cs) l f → Goal
    from_built un f (before, c, later, e, b, none, g) holds =
        let built = (performed ts (after ts start before) c).world in
        let then_is : after ts start cs ≡ after ts built later = ap (after ts start) e ∙ after_append ts start before (c ∷ later) in
        let kept = (level_stays ts built l later none).same (ap (λ w. (level_at w.client l).occupied) (sym then_is) ∙ occ) in
        let number = built_number ts (WasBuilt ts start before) (λ a. latest ts start a [] before) (after ts start before) c l (at_all ts start un before) b in (
          before,
          c,
          later,
          e,
          b,
          subst (λ w. NoneBuilds ts w l later) (sym (after_push ts start before c)) none,
          ap (λ w. (level_at w.client l).build) then_is ∙ kept ∙ number ∙ sym (accesses_counted ts start before) ∙ add-zero (length (addresses ts start before)),
          subst (Holds ts (after ts start cs) l) g holds,
        )

    by : (o : Option Refusal) → opening_answer L W p ≡ o → Goal
    by (Some r) e = absurd (never_occupied L W p ts r cs l e occ)
    by None e =
        let un = opened_unloaded L W K p ts some choice e in
        let here = level_now ts (WasBuilt ts start cs) (λ x. latest ts start x [] cs) (after ts start cs) l (at_all ts start un cs) occ in
        from_built un here.0 here.1 here.2
