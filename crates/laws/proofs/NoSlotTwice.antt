-- No slot is asked twice between builds of its level.
use Rattle.std.proofs.Common.{◌≡◌, ℕ, ◌+◌, ◌<◌, ◌≤◌, true, false, cond, eqb, ◌⊎◌, List, [], ◌∷◌, ◌++◌, map, get_or, None, sym, refl, ap, ◌∙◌, subst, inl, inr, arith}
use Rattle.std.specs.List.{AllByRecursion}
use Rattle.std.proofs.lemmas.Bool.{or_cases, or_left, eqb-true, eq-eqb, false≢true, both_ways}
use Rattle.shape.specs.Numbers.{level_slots, level_start}
use Rattle.store.specs.declared.entry.Entry.{Entry}
use Rattle.store.specs.Requests.{entry_of}
use Rattle.index.specs.Lists.{has}
use Rattle.permutations.specs.Lists.{among}
use Rattle.permutations.specs.Choices.{slot_of}
use Rattle.permutations.specs.Scripts.{Act, ask, mark, asked_of}
use Rattle.permutations.proofs.Asking.{asked_append}
use Rattle.rules.specs.World.{Level, vacant}
use Rattle.rules.specs.Calls.{Call, access, accepted}
use Rattle.rules.specs.Opening.{Parts, opened, opening}
use Rattle.rules.specs.Accessing.{Ask, asks, ask_place}
use Rattle.rules.specs.Runs.{performed, after}
use Rattle.laws.specs.Runs.{build_sizes, Choices}
use Rattle.laws.specs.Keeping.{level_at, builds}
use Rattle.laws.specs.OneRound.{one_round, places, NoSlotTwiceBetweenBuilds}
use Rattle.laws.proofs.Scripts.{Mark, begins, access_acts, client_after, script}
use Rattle.laws.proofs.Staying.{level_stays}
use Rattle.laws.proofs.AskedLevels.{asked_of_level}
use Rattle.laws.proofs.SlotsAsked.{among_left, among_right, New, Within, asks_within, place_tells}
use Rattle.laws.proofs.Along.{clients_after}
use Rattle.laws.proofs.Following.{after_append, script_append, accepted_call, accepted_script}
use Rattle.laws.proofs.OneSlot.{access_entries, resting_builds, is_accessed, rests, access_asks_new}

-- ---- an ask at a place

places_of_round : (ps : List ℕ) → places (one_round ps) ≡ ps
places_of_round [] = refl
places_of_round (p ∷ ps) = ap (λ qs. p ∷ qs) (later ps)
  where
    later : (qs : List ℕ) → map (λ e. e.place) (map (entry_of false false) qs) ≡ qs
    later [] = refl
    later (q ∷ qs) = ap (λ xs. q ∷ xs) (later qs)

all_both : {X : Type 0} (P Q : X → Type 0) (xs : List X) → AllByRecursion P xs → AllByRecursion Q xs → AllByRecursion (λ x. P x × Q x) xs
all_both P Q [] h k = tt
all_both P Q (x ∷ xs) h k = ((h.0, k.0), all_both P Q xs h.1 k.1)

abbrev pub as_acts : List Ask → List (Act Mark)
as_acts = map (λ q. ask q.build q.index)

-- of asks that all are P, one is at a place where one is
pub ask_at : (ts : List (List ℕ)) (P : Ask → Type 0) (qs : List Ask) → AllByRecursion P qs → (x : ℕ) → has (map (ask_place ts) qs) x ≡ true →
    (q : Ask) × P q × (ask_place ts q ≡ x) × (among (asked_of q.build (as_acts qs)) q.index ≡ true)
ask_at ts P [] h x e = absurd (false≢true e)
ask_at ts P (q ∷ qs) h x e = by (ask_at ts P qs h.1 x) (or_cases (eqb (ask_place ts q) x) (has (map (ask_place ts) qs) x) e)
  where
    here : among (cond (eqb q.build q.build) (q.index ∷ []) [] ++ asked_of q.build (as_acts qs)) q.index ≡ true
    here =
        subst (λ b. among (cond b (q.index ∷ []) [] ++ asked_of q.build (as_acts qs)) q.index ≡ true) (sym (eq-eqb q.build q.build refl))
        (or_left (eqb q.index q.index) _ (eq-eqb q.index q.index refl))

    by : (has (map (ask_place ts) qs) x ≡ true → (p : Ask) × P p × (ask_place ts p ≡ x) × (among (asked_of p.build (as_acts qs)) p.index ≡ true)) →
        (eqb (ask_place ts q) x ≡ true) ⊎ (has (map (ask_place ts) qs) x ≡ true) →
        (p : Ask) × P p × (ask_place ts p ≡ x) × (among (asked_of p.build (as_acts (q ∷ qs))) p.index ≡ true)
    by rest (inl s) = (q, h.0, eqb-true (ask_place ts q) x s, here)
    by rest (inr s) =
        let found = rest s in
        let p = found.0 in
        (p, found.1, found.2, among_right (cond (eqb q.build p.build) (q.index ∷ []) []) (asked_of p.build (as_acts qs)) p.index found.3)

asked_left : (b i : ℕ) (s t : List (Act Mark)) → among (asked_of b s) i ≡ true → among (asked_of b (s ++ t)) i ≡ true
asked_left b i s t h = ap (λ xs. among xs i) (asked_append b s t) ∙ among_left (asked_of b s) (asked_of b t) i h

asked_right : (b i : ℕ) (s t : List (Act Mark)) → among (asked_of b t) i ≡ true → among (asked_of b (s ++ t)) i ≡ true
asked_right b i s t h = ap (λ xs. among xs i) (asked_append b s t) ∙ among_right (asked_of b s) (asked_of b t) i h

-- ---- the law

-- what is known of an ask of an accepted access, after this past, by a client with these levels
abbrev pub Good : ℕ → ℕ → List (List ℕ) → List (Act Mark) → List Level → Ask → Type 0
Good L K ts past vs q =
    (Within ts q × New (build_sizes L K) past q) × (((get_or vs q.level vacant).occupied ≡ true) × ((get_or vs q.level vacant).build ≡ q.build))

-- the ask of an accepted access at a place of level l: of the level's build, and the slot
pub asked_there : (L W K : ℕ) (p : Parts) (ts : List (List ℕ)) → 1 ≤ K → Choices p.supply_top K ts →
    (cs : List Call) (j op a room : ℕ) (run bytes : List ℕ) (es : List Entry) →
    (performed ts (after ts (opening L W p) cs) (access j op a run room)).answer ≡ accepted bytes es →
    (l s : ℕ) → s < level_slots l → has (places es) (level_start l + s) ≡ true →
    let k = clients_after K (opened L W None) cs in
    (i : ℕ) × ((level_at k l).occupied ≡ true) × (slot_of ts (level_at k l).build i ≡ s)
    × New (build_sizes L K) (script K (opened L W None) cs ++ (mark begins ∷ [])) (record { level = l; build = (level_at k l).build; index = i })
    × (among (asked_of (level_at k l).build (as_acts (asks a k.levels))) i ≡ true)
asked_there L W K p ts some choice cs j op a room run bytes es ok l s hs there =
    let w = after ts (opening L W p) cs in
    let k = clients_after K (opened L W None) cs in
    let past = script K (opened L W None) cs ++ (mark begins ∷ []) in
    let it = is_accessed L W K p ts choice cs j op a room run bytes es ok in
    let resting = rests L W K some cs j op a room run it.passed in
    let qs = asks a k.levels in
    let new = access_asks_new L W K some cs j op a room run it.passed in
    let within = asks_within L K ts past qs it.tables (resting_builds L K resting.0 (script K (opened L W None) cs) k a resting.1) new in
    let good = all_both _ _ qs (all_both _ _ qs within new) (asked_of_level k.levels false a 0 k.levels (λ i. ap (λ n. get_or k.levels n vacant) (omega arith))) in
    let es_are : es ≡ one_round (map (ask_place ts) qs) =
    access_entries ts w j op a room run bytes es (accepted_call ts w (access j op a run room) bytes es ok).1
    ∙ ap (λ u. one_round (map (ask_place ts) (asks a u.levels))) it.client_is in
    let places_are : places es ≡ map (ask_place ts) qs = ap places es_are ∙ places_of_round (map (ask_place ts) qs) in
    let found = ask_at ts (Good L K ts past k.levels) qs good (level_start l + s) (ap (λ ps. has ps (level_start l + s)) (sym places_are) ∙ there) in
    let q = found.0 in
    let told = place_tells q.level l (slot_of ts q.build q.index) s found.1.0.0 hs found.2 in
    let level_is : (level_at k l).build ≡ q.build = ap (λ i. (level_at k i).build) (sym told.0) ∙ found.1.1.1 in (
      q.index,
      ap (λ i. (level_at k i).occupied) (sym told.0) ∙ found.1.1.0,
      ap (λ b. slot_of ts b q.index) level_is ∙ told.1,
      subst (λ b. New (build_sizes L K) past (record { level = l; build = b; index = q.index })) (sym level_is) found.1.0.1,
      ap (λ b. among (asked_of b (as_acts qs)) q.index) level_is ∙ found.3,
    )

pub no_slot_twice_between_builds : NoSlotTwiceBetweenBuilds
no_slot_twice_between_builds L W K p ts some choice cs ds j op a room j' op' a' room' run run' bytes bytes' es es' ok ok' l s high hs none there there' =
    let start = opening L W p in
    let before = after ts start cs in
    let c : Call = access j op a run room in
    let c' : Call = access j' op' a' run' room' in
    let both = cs ++ (c ∷ ds) in
    let k = clients_after K (opened L W None) cs in
    let k' = clients_after K (opened L W None) both in
    let then_is : after ts start both ≡ after ts before (c ∷ ds) = after_append ts start cs (c ∷ ds) in
    let again : (performed ts (after ts start both) c').answer ≡ accepted bytes' es' = ap (λ w. (performed ts w c').answer) then_is ∙ ok' in
    let it = is_accessed L W K p ts choice cs j op a room run bytes es ok in
    let it' = is_accessed L W K p ts choice both j' op' a' room' run' bytes' es' again in
    let one = asked_there L W K p ts some choice cs j op a room run bytes es ok l s hs there in
    let two = asked_there L W K p ts some choice both j' op' a' room' run' bytes' es' again l s hs there' in
    let stays = level_stays ts before l (c ∷ ds) (ap (builds l before c) ok, none) in
    let later_is : (after ts before (c ∷ ds)).client ≡ k' = ap (λ w. w.client) (sym then_is) ∙ it'.client_is in
    let same : (level_at k' l).build ≡ (level_at k l).build =
    ap (λ u. (level_at u l).build) (sym later_is)
    ∙ stays.same (ap (λ u. (level_at u l).occupied) later_is ∙ two.1)
    ∙ ap (λ u. (level_at u l).build) it.client_is in
    let b = (level_at k l).build in
    let past = script K (opened L W None) both ++ (mark begins ∷ []) in
    let new' = subst (λ n. New (build_sizes L K) past (record { level = l; build = n; index = two.0 })) same two.3 in
    let slots_same : slot_of ts b one.0 ≡ slot_of ts b two.0 = one.2 ∙ sym two.2 ∙ ap (λ n. slot_of ts n two.0) same in
    let index_same : one.0 ≡ two.0 = (it.tables.tables b one.3.0).apart one.0 two.0 one.3.1 new'.1 slots_same in
    let script_is : script K (opened L W None) both ≡ script K (opened L W None) cs ++ (access_acts a k ++ script K (client_after K k c) ds) =
    script_append K (opened L W None) cs (c ∷ ds)
    ∙ ap (λ u. script K (opened L W None) cs ++ (u ++ script K (client_after K k c) ds)) (accepted_script K k c it.passed) in
    let asked_then : among (asked_of b past) one.0 ≡ true =
    asked_left b one.0 (script K (opened L W None) both) (mark begins ∷ [])
    (ap (λ u. among (asked_of b u) one.0) script_is
    ∙ asked_right b one.0 (script K (opened L W None) cs) (access_acts a k ++ script K (client_after K k c) ds)
    (asked_left b one.0 (access_acts a k) (script K (client_after K k c) ds) one.4)) in
    both_ways (among (asked_of b past) two.0) new'.2 (ap (among (asked_of b past)) (sym index_same) ∙ asked_then)
