-- Each refusal is given exactly if its condition holds and none of those before it.
use Rattle.std.proofs.Common.{◌≡◌, ℕ, suc, ◌+◌, ◌*◌, ◌^◌, ◌<◌, Bool, true, false, cond, ◌&&◌, ◌||◌, eqb, ltb, leb, ◌↔◌, List, [], ◌∷◌, ◌++◌, map, length, Some, None, filter, Option, sym, refl, ap, ◌∙◌, subst, ap₂, ⊎_elim, arith}
use lib.ListN.{length-map}
use Rattle.std.specs.List.{range_with_len}
use Rattle.std.proofs.lemmas.List.FromFn.{length-map-range_with_len}
use Rattle.std.proofs.lemmas.Bool.{false≢true, both_ways, cases_eq, cases_Bool, cond-true, cond-false}
use Rattle.shape.specs.Numbers.{levels_fit, width_fits, places_needed, blocks, level_slots, level_of_build}
use Rattle.shape.specs.declared.refusal.Refusal.{Refusal}
use Rattle.shape.specs.declared.refusal.Refusal.TheVariants.{OutOfRange, StoreUnfit, IndexOrSupplyUnfit, NotOpened, WrongTurn, UnknownOperation, UnknownAddress, WrongByteLength, BuildsUsedUp, TraceTooShort}
use Rattle.store.specs.State.{Slot}
use Rattle.rules.specs.World.{Level, Client, World}
use Rattle.rules.specs.Calls.{Call, load, access, rebuild, turn_of, Answer, accepted, declined, Outcome, decline, entries_of}
use Rattle.rules.specs.Opening.{all_empty, opening_answer}
use Rattle.rules.specs.Checks.{verdict, unrefused, occupied_count, rebuild_entries, rebuild_level}
use Rattle.rules.specs.Loading.{loading, load_requests}
use Rattle.rules.specs.Accessing.{finds, asked_index, asks_from, asks, ask_place, fetched, access_requests, accessing}
use Rattle.rules.specs.Rebuilding.{rebuilding}
use Rattle.rules.specs.Runs.{accept, performed, outcomes, after, trace}
use Rattle.laws.specs.Runs.{bit}
use Rattle.laws.specs.Histories.{History, world_of, took, calls_so_far, accesses_so_far, outcome_of, Declined, Accepted, RunsGoCallByCall, DeclinedCallsCanBeLeftOut, accepted_only, DeclinedCallsChangeNothing}
use Rattle.laws.specs.Refusals.{IsOutOfRange, IsStoreUnfit, IsIndexOrSupplyUnfit, RefusedOpening, OtherTurn, OtherOperation, OtherAddress, OtherLength, NoBuildLeft, load_room, access_room, rebuild_room, OpeningRefusesExactlyWhen, LoadDeclinedExactlyWhen, AccessDeclinedExactlyWhen, RebuildDeclinedExactlyWhen, EntriesFillTheRoom}
use Rattle.laws.proofs.FirstFailing.{Reflects, Row, Exactly, exactly, none_some}
use Rattle.laws.proofs.Phases.{occupied_by_bits}
use Rattle.laws.proofs.Turns.{Phase, unloaded, resting, due, In, Stands, right_turn, phase_of, counts}
use Rattle.laws.proofs.Reflecting.{reflects_eqb, reflects_leb, reflects_ltb, reflects_operation, reflects_range, reflects_store, reflects_parts, is_none, reflects_opening}

-- ---- the answer is the verdict

refusal_in : Answer → Option Refusal
refusal_in (accepted bytes es) = None
refusal_in (declined r) = Some r

declined_by : Option Refusal → Answer
declined_by (Some r) = declined r
declined_by None = accepted [] []

accept_took : (ts : List (List ℕ)) (w : World) (c : Call) → took (accept ts w c).answer ≡ true
unfolding loading accessing rebuilding
accept_took ts w (load bytes room) = refl
accept_took ts w (access j op a bytes room) = refl
accept_took ts w (rebuild j room) = refl

accept_no_refusal : (ts : List (List ℕ)) (w : World) (c : Call) → refusal_in (accept ts w c).answer ≡ None
unfolding loading accessing rebuilding refusal_in
accept_no_refusal ts w (load bytes room) = refl
accept_no_refusal ts w (access j op a bytes room) = refl
accept_no_refusal ts w (rebuild j room) = refl

module _ (ts : List (List ℕ)) (w : World) (c : Call) where
  abbrev outcome_by : Option Refusal → Outcome
  outcome_by v = elim v [ Some r ↦ decline w r | None ↦ accept ts w c ]

  given_by : (r : Refusal) (v : Option Refusal) → ((outcome_by v).answer ≡ declined r) ↔ (v ≡ Some r)
  unfolding refusal_in declined_by
  given_by r (Some s) = (λ e. ap refusal_in e, λ e. ap declined_by e)
  given_by r None = (λ e. absurd (none_some r (sym (accept_no_refusal ts w c) ∙ ap refusal_in e)), λ e. absurd (none_some r e))

  taken_by : (v : Option Refusal) → (took (outcome_by v).answer ≡ true) ↔ (v ≡ None)
  taken_by (Some s) = (λ e. absurd (false≢true e), λ e. absurd (none_some s (sym e)))
  taken_by None = (λ e. refl, λ e. accept_took ts w c)

  pub given : (r : Refusal) → ((performed ts w c).answer ≡ declined r) ↔ (verdict (length ts) w.client c ≡ Some r)
  given r = given_by r (verdict (length ts) w.client c)

  pub taken : (took (performed ts w c).answer ≡ true) ↔ (verdict (length ts) w.client c ≡ None)
  taken = taken_by (verdict (length ts) w.client c)

  -- an accepted call's outcome is that of `accept`, a declined one's that of `decline`
  pub accepted_outcome : took (performed ts w c).answer ≡ true → performed ts w c ≡ accept ts w c
  accepted_outcome e = ap outcome_by (taken.0 e)

  pub declined_outcome : (r : Refusal) → (performed ts w c).answer ≡ declined r → performed ts w c ≡ decline w r
  declined_outcome r e = ap outcome_by ((given r).0 e)

  untaken_by : (v : Option Refusal) → took (outcome_by v).answer ≡ false → ((outcome_by v).world ≡ w) × (entries_of (outcome_by v).answer ≡ [])
  untaken_by (Some s) e = (refl, refl)
  untaken_by None e = absurd (both_ways _ e (accept_took ts w c))

  untaken : took (performed ts w c).answer ≡ false → ((performed ts w c).world ≡ w) × (entries_of (performed ts w c).answer ≡ [])
  untaken = untaken_by (verdict (length ts) w.client c)

-- ---- opening

pub opening_exactly : OpeningRefusesExactlyWhen
opening_exactly L W p = record { out_of_range = t.0; store_unfit = t.1.0; index_or_supply_unfit = t.1.1.0; opened = t.1.1.1 }
  where
    rows : List Row
    rows =
        record { holds = levels_fit L && width_fits W; refusal = OutOfRange; condition = IsOutOfRange L W }
        ∷ record { holds = eqb p.store_width W && leb (places_needed L) (length p.store_slots); refusal = StoreUnfit; condition = IsStoreUnfit L W p }
        ∷ record {
          holds = eqb (length p.index_lists) L && (eqb p.supply_top L && all_empty p.index_lists);
          refusal = IndexOrSupplyUnfit;
          condition = IsIndexOrSupplyUnfit L p;
        }
        ∷ []

    t : Exactly (λ r. opening_answer L W p ≡ Some r) (opening_answer L W p ≡ None) [] rows
    t =
        exactly (λ r. opening_answer L W p ≡ Some r) (opening_answer L W p ≡ None) (opening_answer L W p)
        (λ r. (λ e. e, λ e. e)) (λ e. e, λ e. e) [] rows (refl, (refl, (refl, tt)))
        (λ none. reflects_range L W, (λ none. reflects_store L W p, (λ none. reflects_parts L p, tt))) tt refl

-- ---- what is known of every history

known : (h : History) → In h.top h.width (opening_answer h.top h.width h.parts) (phase_of h).0 (world_of h).client
known h = (phase_of h).1.0

reflects_refused : (h : History) → Reflects (unrefused (world_of h).client) (RefusedOpening h)
reflects_refused h =
    subst (λ o. Reflects (is_none o) (RefusedOpening h)) (sym (known h).refusal) (reflects_opening h.top h.width h.parts)

reflects_turn : (h : History) (c : Call) → Reflects (eqb (turn_of c) (world_of h).client.number) (OtherTurn h c)
reflects_turn h c = reflects_eqb (turn_of c) (world_of h).client.number (calls_so_far h) (counts h).number

-- at the turn of an access there is one occupied level for each bit that is set, and L
pub access_count : (h : History) (j : ℕ) → 2 * j + 1 ≡ calls_so_far h → occupied_count (world_of h).client.levels ≡ access_room h
access_count h j e = by (phase_of h).0 (phase_of h).1
  where
    by : (q : Phase) → Stands h q → occupied_count (world_of h).client.levels ≡ access_room h
    by unloaded (i, b) = absurd (let n : 0 ≡ 0 + calls_so_far h = b.calls in omega arith)
    by (resting r) (i, b) =
        let n : r ≡ accesses_so_far h = omega (arith, b.accesses) in
        occupied_by_bits h.top r (world_of h).client.levels i.occupied
        ∙ ap (λ (m : ℕ). suc (length (filter (λ i. bit i m) (range_with_len 0 h.top)))) n
    by (due r) (i, b) = absurd (let n : 2 * r + 2 ≡ 0 + calls_so_far h = b.calls in omega arith)

right_turn_of : (h : History) (c : Call) → (OtherTurn h c → ⊥) → turn_of c ≡ calls_so_far h
right_turn_of h c no_other = ⊎_elim (λ e. e) (λ n. absurd (no_other n)) (cases_eq (turn_of c) (calls_so_far h))

rebuild_count : (h : History) → rebuild_entries (world_of h).client.top (rebuild_level (world_of h).client) ≡ rebuild_room h
rebuild_count h = ap₂ (λ (t n : ℕ). rebuild_entries t (level_of_build t n)) (known h).top (counts h).accesses

-- ---- each kind of call

pub load_exactly : LoadDeclinedExactlyWhen
load_exactly h bytes room =
    record { not_opened = t.0; wrong_turn = t.1.0; wrong_length = t.1.1.0; too_short = t.1.1.1.0; accepted = t.1.1.1.1 }
  where
    k : Client
    k = (world_of h).client

    c : Call
    c = load bytes room

    rows : List Row
    rows =
        record { holds = unrefused k; refusal = NotOpened; condition = RefusedOpening h }
        ∷ record { holds = eqb (turn_of c) k.number; refusal = WrongTurn; condition = OtherTurn h c }
        ∷ record { holds = eqb (length bytes) (blocks k.top * k.width); refusal = WrongByteLength; condition = OtherLength (2 ^ h.top * h.width) bytes }
        ∷ record { holds = leb (level_slots k.top) room; refusal = TraceTooShort; condition = room < load_room h }
        ∷ []

    t : Exactly (Declined h c) (Accepted h c) [] rows
    t =
        exactly (Declined h c) (Accepted h c) (verdict (length h.tables) k c) (given h.tables (world_of h) c) (taken h.tables (world_of h) c)
        [] rows (refl, (refl, (refl, (refl, tt)))) (
          λ none. reflects_refused h,
          (
            λ none. reflects_turn h c,
            (
              λ none. reflects_eqb _ _ _ (ap₂ (λ (L W : ℕ). blocks L * W) (known h).top (known h).width),
              (λ none. reflects_leb _ _ _ (ap level_slots (known h).top), tt),
            ),
          ),
        ) tt refl

pub access_exactly : AccessDeclinedExactlyWhen
access_exactly h j op a bytes room =
    record {
      not_opened = t.0;
      wrong_turn = t.1.0;
      unknown_operation = t.1.1.0;
      unknown_address = t.1.1.1.0;
      wrong_length = t.1.1.1.1.0;
      builds_used_up = t.1.1.1.1.1.0;
      too_short = t.1.1.1.1.1.1.0;
      accepted = t.1.1.1.1.1.1.1;
    }
  where
    k : Client
    k = (world_of h).client

    c : Call
    c = access j op a bytes room

    rows : List Row
    rows =
        record { holds = unrefused k; refusal = NotOpened; condition = RefusedOpening h }
        ∷ record { holds = eqb (turn_of c) k.number; refusal = WrongTurn; condition = OtherTurn h c }
        ∷ record { holds = leb op 1; refusal = UnknownOperation; condition = OtherOperation op }
        ∷ record { holds = ltb a (blocks k.top); refusal = UnknownAddress; condition = OtherAddress h a }
        ∷ record { holds = eqb (length bytes) k.width; refusal = WrongByteLength; condition = OtherLength h.width bytes }
        ∷ record { holds = ltb (k.accesses + 1) (length h.tables); refusal = BuildsUsedUp; condition = NoBuildLeft h }
        ∷ record { holds = leb (occupied_count k.levels) room; refusal = TraceTooShort; condition = room < access_room h }
        ∷ []

    t : Exactly (Declined h c) (Accepted h c) [] rows
    t =
        exactly (Declined h c) (Accepted h c) (verdict (length h.tables) k c) (given h.tables (world_of h) c) (taken h.tables (world_of h) c)
        [] rows (refl, (refl, (refl, (refl, (refl, (refl, (refl, tt))))))) (
          λ none. reflects_refused h,
          (
            λ none. reflects_turn h c,
            (
              λ none. reflects_operation op,
              (
                λ none. reflects_ltb _ _ _ _ refl (ap blocks (known h).top),
                (
                  λ none. reflects_eqb _ _ _ (known h).width,
                  (
                    λ none. reflects_ltb _ _ _ _ (ap (λ n. n + 1) (counts h).accesses) refl,
                    (λ none. reflects_leb _ _ _ (access_count h j (right_turn_of h c none.1.0)), tt),
                  ),
                ),
              ),
            ),
          ),
        ) tt refl

pub rebuild_exactly : RebuildDeclinedExactlyWhen
rebuild_exactly h j room =
    record { not_opened = t.0; wrong_turn = t.1.0; too_short = t.1.1.0; accepted = t.1.1.1 }
  where
    k : Client
    k = (world_of h).client

    c : Call
    c = rebuild j room

    rows : List Row
    rows =
        record { holds = unrefused k; refusal = NotOpened; condition = RefusedOpening h }
        ∷ record { holds = eqb (turn_of c) k.number; refusal = WrongTurn; condition = OtherTurn h c }
        ∷ record { holds = leb (rebuild_entries k.top (rebuild_level k)) room; refusal = TraceTooShort; condition = room < rebuild_room h }
        ∷ []

    t : Exactly (Declined h c) (Accepted h c) [] rows
    t =
        exactly (Declined h c) (Accepted h c) (verdict (length h.tables) k c) (given h.tables (world_of h) c) (taken h.tables (world_of h) c)
        [] rows (refl, (refl, (refl, tt))) (
          λ none. reflects_refused h,
          (
            λ none. reflects_turn h c,
            (λ none. reflects_leb _ _ _ (rebuild_count h), tt),
          ),
        ) tt refl

-- ---- declined calls

pub unchanged : DeclinedCallsChangeNothing
unchanged h c r e =
    let out = declined_outcome h.tables (world_of h) c r e in
    record { world = ap (λ o. o.world) out; requests = ap (λ o. o.requests) out; entries = ap entries_of e }

call_by_call_from : (ts : List (List ℕ)) (w : World) (cs : List Call) (c : Call) (later : List Call) →
    outcomes ts w (cs ++ (c ∷ later))
    ≡ outcomes ts w cs ++ (performed ts (after ts w cs) c ∷ outcomes ts (performed ts (after ts w cs) c).world later)
call_by_call_from ts w [] c later = refl
call_by_call_from ts w (d ∷ cs) c later = ap (λ os. performed ts w d ∷ os) (call_by_call_from ts (performed ts w d).world cs c later)

pub call_by_call : RunsGoCallByCall
call_by_call h c later = call_by_call_from h.tables _ h.calls c later

pub left_out : DeclinedCallsCanBeLeftOut
left_out ts w [] = (refl, refl)
left_out ts w (c ∷ cs) = ⊎_elim (kept (left_out ts next cs)) (dropped (left_out ts next cs)) (cases_Bool (took (performed ts w c).answer))
  where
    next : World
    next = (performed ts w c).world

    rest : List Call
    rest = accepted_only ts next cs

    Same : World → List Call → List Call → Type 0
    Same v ds es = (after ts v ds ≡ after ts v es) × (trace ts v ds ≡ trace ts v es)

    kept : Same next rest cs → took (performed ts w c).answer ≡ true → Same w (accepted_only ts w (c ∷ cs)) (c ∷ cs)
    kept ih e = subst (λ ds. Same w ds (c ∷ cs)) (sym (cond-true _ _ _ e)) (ih.0, ap (λ es. entries_of (performed ts w c).answer ++ es) ih.1)

    dropped : Same next rest cs → took (performed ts w c).answer ≡ false → Same w (accepted_only ts w (c ∷ cs)) (c ∷ cs)
    dropped ih e =
        let left = untaken ts w c e in
        subst (λ ds. Same w ds (c ∷ cs)) (sym (cond-false _ _ _ e)) (
          ap (λ v. after ts v rest) (sym left.0) ∙ ih.0,
          ap (λ v. trace ts v rest) (sym left.0) ∙ ih.1 ∙ ap (λ es. es ++ trace ts next cs) (sym left.1),
        )

-- ---- entries

load_length : (ts : List (List ℕ)) (w : World) (bytes : List ℕ) → length (entries_of (loading ts w bytes).answer) ≡ level_slots w.client.top
unfolding loading load_requests
load_length ts w bytes = length-map _ (λ r. r.entry) ∙ length-map-range_with_len _ 0 (level_slots w.client.top)

asks_length : (found : Bool) (a l : ℕ) (vs : List Level) → length (asks_from found a l vs) ≡ occupied_count vs
asks_length found a l [] = refl
asks_length found a l (v ∷ vs) = by v.occupied (asks_length (found || finds found a v) a (suc l) vs)
  where
    by : (b : Bool) → length (asks_from (found || finds found a v) a (suc l) vs) ≡ occupied_count vs →
        length (cond b
        (record { level = l; build = v.build; index = asked_index found a v } ∷ asks_from (found || finds found a v) a (suc l) vs)
        (asks_from (found || finds found a v) a (suc l) vs))
        ≡ cond b (suc (occupied_count vs)) (occupied_count vs)
    by true e = ap suc e
    by false e = e

fetched_length : (first : Bool) (slots : List Slot) (ps : List ℕ) → length (fetched first slots ps) ≡ length ps
fetched_length first slots [] = refl
fetched_length first slots (p ∷ ps) = ap suc (fetched_length false slots ps)

access_length : (ts : List (List ℕ)) (w : World) (op a : ℕ) (bytes : List ℕ) →
    length (entries_of (accessing ts w op a bytes).answer) ≡ occupied_count w.client.levels
unfolding accessing
access_length ts w op a bytes =
    let qs = asks a w.client.levels in
    length-map (access_requests ts w.slots qs) (λ r. r.entry)
    ∙ fetched_length true w.slots (map (ask_place ts) qs)
    ∙ length-map qs (ask_place ts)
    ∙ asks_length false a 0 w.client.levels

pub entries_fill : EntriesFillTheRoom
entries_fill = (loads, accesses)
  where
    loads : (h : History) (bytes : List ℕ) (room : ℕ) →
        Accepted h (load bytes room) → length (entries_of (outcome_of h (load bytes room)).answer) ≡ load_room h
    loads h bytes room e =
        ap (λ o. length (entries_of o.answer)) (accepted_outcome h.tables (world_of h) (load bytes room) e)
        ∙ load_length h.tables (world_of h) bytes
        ∙ ap level_slots (known h).top

    accesses : (h : History) (j op a : ℕ) (bytes : List ℕ) (room : ℕ) →
        Accepted h (access j op a bytes room) → length (entries_of (outcome_of h (access j op a bytes room)).answer) ≡ access_room h
    accesses h j op a bytes room e =
        let c = access j op a bytes room in
        let turn = right_turn (length h.tables) (world_of h).client c ((taken h.tables (world_of h) c).0 e) in
        ap (λ o. length (entries_of o.answer)) (accepted_outcome h.tables (world_of h) c e)
        ∙ access_length h.tables (world_of h) op a bytes
        ∙ access_count h j (turn ∙ (counts h).number)
