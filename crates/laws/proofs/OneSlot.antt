-- Each accepted access is one round of one slot in every occupied level.
use Rattle.std.proofs.Common.{◌≡◌, ℕ, ◌+◌, ◌*◌, ◌≤◌, true, false, List, [], ◌∷◌, ◌++◌, map, length, Some, None, filter, Option, sym, refl, ap, ◌∙◌, subst, ap₂, zero-add, arith}
use Rattle.std.specs.List.{range_with_len, AllByRecursion}
use Rattle.shape.specs.Numbers.{level_start}
use Rattle.store.specs.declared.entry.Entry.{Entry}
use Rattle.store.specs.State.{Slot}
use Rattle.store.specs.Requests.{entry_of, entries}
use Rattle.permutations.specs.Scripts.{Act, mark, Sound}
use Rattle.rules.specs.World.{Client, World}
use Rattle.rules.specs.Calls.{Call, access, accepted, entries_of}
use Rattle.rules.specs.Checks.{verdict}
use Rattle.rules.specs.Opening.{Parts, opening_answer, opened, opening}
use Rattle.rules.specs.Accessing.{asks, ask_place, fetched, accessing}
use Rattle.rules.specs.Runs.{accept, performed, after}
use Rattle.laws.specs.Runs.{build_sizes, Choices, bit}
use Rattle.laws.specs.Keeping.{addresses}
use Rattle.laws.specs.OneRound.{occupied_levels, one_round, OneSlotInEveryOccupiedLevel}
use Rattle.laws.proofs.Scripts.{Mark, begins, access_acts, script}
use Rattle.laws.proofs.Invariant.{Ready}
use Rattle.laws.proofs.Accesses.{sizes_count}
use Rattle.laws.proofs.AskedLevels.{asked_levels, asked_builds, levels_rise, places_by_level, slot_asked}
use Rattle.laws.proofs.SlotsAsked.{sound_later, New, asks_new, Fitting, asks_within, slot_asked_within}
use Rattle.laws.proofs.Along.{Standing, unloaded, running, turn_due, clients_after, after_client, always_standing, always_sound}
use Rattle.laws.proofs.Following.{script_append, accepted_call, accepted_script, accepted_unrefused, refusal_same, accesses_counted, opened_fits}

-- ---- one round

later_entries : (slots : List Slot) (ps : List ℕ) → entries (fetched false slots ps) ≡ map (entry_of false false) ps
later_entries slots [] = refl
later_entries slots (p ∷ ps) = ap (λ es. entry_of false false p ∷ es) (later_entries slots ps)

pub round_entries : (slots : List Slot) (ps : List ℕ) → entries (fetched true slots ps) ≡ one_round ps
round_entries slots [] = refl
round_entries slots (p ∷ ps) = ap (λ es. entry_of true false p ∷ es) (later_entries slots ps)

pub access_entries : (ts : List (List ℕ)) (w : World) (j op a room : ℕ) (run bytes : List ℕ) (es : List Entry) →
    (accept ts w (access j op a run room)).answer ≡ accepted bytes es → es ≡ one_round (map (ask_place ts) (asks a w.client.levels))
unfolding accessing
access_entries ts w j op a room run bytes es e = sym (ap entries_of e) ∙ round_entries w.slots (map (ask_place ts) (asks a w.client.levels))

-- ---- a client at rest

-- the asks of an access: one of every occupied level, and of its build
pub resting_levels : (L K r : ℕ) (s : List (Act Mark)) (k : Client) (a : ℕ) → Ready L K r None s k →
    map (λ q. q.level) (asks a k.levels) ≡ occupied_levels L r
resting_levels L K r s k a ready =
    asked_levels L r None s L 0 r [] k.levels false a (λ i. bit i r) ready.levels (λ i. ap (λ j. bit j r) (zero-add i))
    ∙ ap (λ l. filter (λ i. bit i r) (range_with_len 0 L) ++ (l ∷ [])) (zero-add L)

pub resting_builds : (L K r : ℕ) (s : List (Act Mark)) (k : Client) (a : ℕ) → Ready L K r None s k → AllByRecursion (Fitting L) (asks a k.levels)
resting_builds L K r s k a ready = asked_builds L r None s L 0 r [] k.levels false a (sym (zero-add L)) ready.levels

-- an odd turn is a resting one
pub odd_turn_rests : (L K r : ℕ) (h : Option ℕ) (s : List (Act Mark)) (k : Client) (j : ℕ) → Ready L K r h s k → 2 * j + 1 ≡ k.number → h ≡ None
odd_turn_rests L K r (Some b) s k j ready e = absurd (omega (arith, ready.number))
odd_turn_rests L K r None s k j ready e = refl

pub ready_to_access : (L W K : ℕ) (s : List (Act Mark)) (k : Client) (j : ℕ) → Standing L W K s k → 2 * j + 1 ≡ k.number → (r : ℕ) × Ready L K r None s k
ready_to_access L W K s k j (unloaded e n) turn = absurd (let none : k.number ≡ 0 = ap (λ u. u.number) e in omega arith)
ready_to_access L W K s k j (running r h ready w) turn = (r, subst (λ o. Ready L K r o s k) (odd_turn_rests L K r h s k j ready turn) ready)

-- ---- an opening without a refusal, and an accepted access after it

pub record Accessed (L W K : ℕ) (p : Parts) (ts : List (List ℕ)) (cs : List Call) (j op a room : ℕ) (run : List ℕ) : Type 0 where
  pub client_is : (after ts (opening L W p) cs).client ≡ clients_after K (opened L W None) cs
  pub tables : Choices L K ts
  pub passed : verdict K (clients_after K (opened L W None) cs) (access j op a run room) ≡ None

pub is_accessed : (L W K : ℕ) (p : Parts) (ts : List (List ℕ)) → Choices p.supply_top K ts →
    (cs : List Call) (j op a room : ℕ) (run bytes : List ℕ) (es : List Entry) →
    (performed ts (after ts (opening L W p) cs) (access j op a run room)).answer ≡ accepted bytes es → Accessed L W K p ts cs j op a room run
is_accessed L W K p ts choice cs j op a room run bytes es ok =
    let w = after ts (opening L W p) cs in
    let KIs : length ts ≡ K = choice.counted ∙ sizes_count p.supply_top K in
    let passed = (accepted_call ts w (access j op a run room) bytes es ok).0 in
    let refused = accepted_unrefused (length ts) w.client (access j op a run room) passed in
    let none : opening_answer L W p ≡ None =
    sym (refusal_same (length ts) (opening L W p).client cs) ∙ ap (λ k. k.refusal) (sym (after_client ts (opening L W p) cs)) ∙ refused in
    let client_is : w.client ≡ clients_after K (opened L W None) cs =
    after_client ts (opening L W p) cs ∙ ap₂ (λ n k. clients_after n k cs) KIs (ap (opened L W) none) in
    record {
      client_is = client_is;
      tables = subst (λ l. Choices l K ts) (opened_fits L W p none) choice;
      passed = ap₂ (λ n k. verdict n k (access j op a run room)) (sym KIs) (sym client_is) ∙ passed;
    }

-- ---- the law

-- before an accepted access the client is at rest
pub rests : (L W K : ℕ) → 1 ≤ K → (cs : List Call) (j op a room : ℕ) (run : List ℕ) →
    verdict K (clients_after K (opened L W None) cs) (access j op a run room) ≡ None →
    (r : ℕ) × Ready L K r None (script K (opened L W None) cs) (clients_after K (opened L W None) cs)
rests L W K some cs j op a room run passed =
    let k = clients_after K (opened L W None) cs in
    ready_to_access L W K (script K (opened L W None) cs) k j (always_standing L W K cs some) (turn_due K k (access j op a run room) passed)

-- the asks of an accepted access are new
pub access_asks_new : (L W K : ℕ) → 1 ≤ K → (cs : List Call) (j op a room : ℕ) (run : List ℕ) →
    verdict K (clients_after K (opened L W None) cs) (access j op a run room) ≡ None →
    AllByRecursion (New (build_sizes L K) (script K (opened L W None) cs ++ (mark begins ∷ []))) (asks a (clients_after K (opened L W None) cs).levels)
access_asks_new L W K some cs j op a room run passed =
    let s = script K (opened L W None) cs in
    let k = clients_after K (opened L W None) cs in
    let c : Call = access j op a run room in
    let script_is : script K (opened L W None) (cs ++ (c ∷ [])) ≡ s ++ (access_acts a k ++ []) =
    script_append K (opened L W None) cs (c ∷ []) ∙ ap (λ t. s ++ (t ++ [])) (accepted_script K k c passed) in
    asks_new (build_sizes L K) (s ++ (mark begins ∷ [])) (asks a k.levels) []
    (sound_later (build_sizes L K) [] s (access_acts a k ++ []) (subst (Sound (build_sizes L K)) script_is (always_sound L W K (cs ++ (c ∷ [])) some))).1

pub one_slot_in_every_occupied_level : OneSlotInEveryOccupiedLevel
one_slot_in_every_occupied_level L W K p ts some choice cs j op a room run bytes es ok =
    let w = after ts (opening L W p) cs in
    let k = clients_after K (opened L W None) cs in
    let s = script K (opened L W None) cs in
    let it = is_accessed L W K p ts choice cs j op a room run bytes es ok in
    let resting = rests L W K some cs j op a room run it.passed in
    let r = resting.0 in
    let ready = resting.1 in
    let qs = asks a k.levels in
    let within = asks_within L K ts (s ++ (mark begins ∷ [])) qs it.tables (resting_builds L K r s k a ready)
    (access_asks_new L W K some cs j op a room run it.passed) in
    let count : r ≡ length (addresses ts (opening L W p) cs) =
    omega (arith, accesses_counted ts (opening L W p) cs, ap (λ u. u.accesses) it.client_is, ready.accesses) in
    let es_are : es ≡ one_round (map (ask_place ts) qs) =
    access_entries ts w j op a room run bytes es (accepted_call ts w (access j op a run room) bytes es ok).1
    ∙ ap (λ u. one_round (map (ask_place ts) (asks a u.levels))) it.client_is in (
      slot_asked ts qs,
      λ l h. slot_asked_within ts qs within l,
      es_are ∙ ap one_round (places_by_level ts qs (levels_rise false a 0 k.levels)
          ∙ ap (map (λ l. level_start l + slot_asked ts qs l)) (resting_levels L K r s k a ready ∙ ap (occupied_levels L) count)),
    )
