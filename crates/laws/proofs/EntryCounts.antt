-- How many entries a rebuild makes: one for the held block, two for every slot that is gathered, one for every fresh dummy, and those of the fill.
use Rattle.std.proofs.Common.{◌≡◌, ℕ, zero, suc, ◌+◌, ◌-◌, ◌*◌, ◌^◌, ◌≤◌, true, false, cond, ltb, List, [], ◌∷◌, ◌++◌, map, length, replicate, Some, None, Option, sym, refl, ap, ◌∙◌, subst, ap₂, ⊎_elim, pow-suc, arith, length-append}
use lib.ListN.{length-map}
use Rattle.std.specs.List.{range_with_len, flat_map}
use Rattle.std.proofs.lemmas.List.FromFn.{length-map-range_with_len, length-range_with_len}
use Rattle.std.proofs.lemmas.List.{map-append}
use Rattle.std.proofs.lemmas.Bool.{cases_Bool, ltb-false, cond-true, cond-false, false≢true}
use Rattle.shape.specs.Numbers.{level_slots, level_start, scratch_start, level_of_build, batch_slots}
use Rattle.shape.specs.declared.refusal.Refusal.{Refusal}
use Rattle.shape.proofs.Builds.{level_at_most}
use Rattle.store.specs.State.{Slot}
use Rattle.store.specs.declared.entry.Entry.{Entry}
use Rattle.store.specs.Requests.{entry_of, entries}
use Rattle.permutations.specs.Scripts.{Act}
use Rattle.rules.specs.World.{Level, World}
use Rattle.rules.specs.Calls.{Call, rebuild, Outcome, entries_of}
use Rattle.rules.specs.Checks.{verdict, rebuild_level, batches, rebuild_entries}
use Rattle.rules.specs.Opening.{opening_answer, opened, opening}
use Rattle.rules.specs.Rebuilding.{spare, item_at, untouched_slots, level_items, sources, items, rebuild_requests, rebuilding}
use Rattle.rules.specs.Runs.{performed}
use Rattle.laws.specs.Runs.{Choices}
use Rattle.laws.specs.Histories.{History, world_of, took, Accepted}
use Rattle.laws.specs.Refusals.{rebuild_room, RebuildEntriesFillTheRoom}
use Rattle.laws.proofs.Scripts.{Mark, batch_entries, fill_entries, gather_entries, script}
use Rattle.laws.proofs.Invariant.{Ready}
use Rattle.laws.proofs.Along.{Standing, unloaded, running, turn_due, clients_after, always_standing, after_client}
use Rattle.laws.proofs.Moving.{source_of, moves, level_moves, store_moves, rebuild_traced}
use Rattle.laws.proofs.Turns.{phase_of, counts}
use Rattle.laws.proofs.Grounds.{taken, accepted_outcome}
use Rattle.laws.proofs.Sources.{Along, along_weaker, Fresh, Gathers, gathers, Source, source}
use Rattle.laws.proofs.Items.{items_from_levels}
use Rattle.laws.proofs.Accepted.{refused_declines, refused_stays, opened_parts}

-- ---- the gather

-- a read and a write for every slot
gather_length : (L l k : ℕ) (ss : List ℕ) → length (gather_entries L l k ss) ≡ 2 * length ss
gather_length L l k [] = refl
gather_length L l k (s ∷ ss) = omega (arith, gather_length L l (suc k) ss)

-- the items of the levels, and then what follows
levels_length : (L a : ℕ) (ts : List (List ℕ)) (slots : List Slot) (lower : List Level) (l : ℕ) (vs : List Level) (k : ℕ) (ps : List (Option ℕ)) →
    length (moves L k (map source_of (level_items ts slots a lower l vs) ++ ps))
    ≡ 2 * length (level_items ts slots a lower l vs) + length (moves L (k + length (level_items ts slots a lower l vs)) ps)
levels_length L a ts slots lower l [] k ps =
    let same : k ≡ k + 0 = omega arith in
    let plain : length (moves L (k + 0) ps) ≡ 2 * 0 + length (moves L (k + 0) ps) = omega arith in
    ap (λ (i : ℕ). length (moves L i ps)) same ∙ plain
levels_length L a ts slots lower l (v ∷ vs) k ps =
    let ss = untouched_slots ts a lower l v in
    let mine = map (item_at ts slots l v) ss in
    let rest = level_items ts slots a (lower ++ (v ∷ [])) (suc l) vs in
    let here : length mine ≡ length ss = length-map ss (item_at ts slots l v) in
    let both : length (mine ++ rest) ≡ length mine + length rest = length-append mine rest in
    let order : k + length ss + length rest ≡ k + length (mine ++ rest) = omega (arith, here, both) in
    let split : length (moves L k (map source_of (mine ++ rest) ++ ps)) ≡ length (gather_entries L l k ss) + length (moves L (k + length ss) (map source_of rest ++ ps)) =
    ap length (level_moves L ts slots l v k ss rest ps) ∙ length-append (gather_entries L l k ss) (moves L (k + length ss) (map source_of rest ++ ps)) in
    let up : length (moves L (k + length ss) (map source_of rest ++ ps)) ≡ 2 * length rest + length (moves L (k + length (mine ++ rest)) ps) =
    levels_length L a ts slots (lower ++ (v ∷ [])) (suc l) vs (k + length ss) ps ∙ ap (λ (i : ℕ). 2 * length rest + length (moves L i ps)) order in
    omega (arith, split, up, gather_length L l k ss, here, both)

-- fresh dummies are not read
fresh_sources : (n : ℕ) → map source_of (replicate n (spare None)) ≡ replicate n None
fresh_sources zero = refl
fresh_sources (suc n) = ap (λ (ps : List (Option ℕ)). None ∷ ps) (fresh_sources n)

fresh_length : (L k n : ℕ) → length (moves L k (map source_of (replicate n (spare None)))) ≡ n
fresh_length L k n =
    ap (λ (ps : List (Option ℕ)). length (moves L k ps)) (fresh_sources n)
    ∙ ap length (store_moves L k n)
    ∙ length-map-range_with_len (λ i. entry_of true true (scratch_start L + (k + i))) 0 n

-- m items from the levels
abbrev gather_room : ℕ → ℕ → ℕ
gather_room L l = cond (ltb l L) (3 * 2 ^ l - 1) (4 * 2 ^ L - 1)

gather_count : (L l n m k : ℕ) → l ≤ L → m + 2 ^ 0 ≡ 2 ^ (0 + n) → n ≡ cond (ltb l L) l (suc l) →
    suc (2 * m + length (moves L k (map source_of (cond (ltb l L) (replicate (2 ^ l) (spare None)) [])))) ≡ gather_room L l
gather_count L l n m k low e f = ⊎_elim below top (cases_Bool (ltb l L))
  where
    plain : (i : ℕ) → 0 + i ≡ i
    plain i = omega arith

    below : ltb l L ≡ true → suc (2 * m + length (moves L k (map source_of (cond (ltb l L) (replicate (2 ^ l) (spare None)) [])))) ≡ gather_room L l
    below b =
        let count : 0 + n ≡ l = plain n ∙ f ∙ cond-true (ltb l L) l (suc l) b in
        let power : m + 1 ≡ 2 ^ l = e ∙ ap (λ (i : ℕ). 2 ^ i) count in
        let some : length (moves L k (map source_of (cond (ltb l L) (replicate (2 ^ l) (spare None)) []))) ≡ 2 ^ l =
        ap (λ is. length (moves L k (map source_of is))) (cond-true (ltb l L) (replicate (2 ^ l) (spare None)) [] b) ∙ fresh_length L k (2 ^ l) in
        omega (arith, power, some, cond-true (ltb l L) (3 * 2 ^ l - 1) (4 * 2 ^ L - 1) b)

    top : ltb l L ≡ false → suc (2 * m + length (moves L k (map source_of (cond (ltb l L) (replicate (2 ^ l) (spare None)) [])))) ≡ gather_room L l
    top b =
        let same : l ≡ L = omega (arith, ltb-false l L b) in
        let count : 0 + n ≡ suc L = plain n ∙ f ∙ cond-false (ltb l L) l (suc l) b ∙ ap suc same in
        let power : m + 1 ≡ 2 ^ suc L = e ∙ ap (λ (i : ℕ). 2 ^ i) count in
        let none : length (moves L k (map source_of (cond (ltb l L) (replicate (2 ^ l) (spare None)) []))) ≡ 0 =
        ap (λ is. length (moves L k (map source_of is))) (cond-false (ltb l L) (replicate (2 ^ l) (spare None)) [] b) in
        omega (arith, power, none, pow-suc 2 L, cond-false (ltb l L) (3 * 2 ^ l - 1) (4 * 2 ^ L - 1) b)

items_length : (L t a : ℕ) (ts : List (List ℕ)) (s : List (Act Mark)) (slots : List Slot) (bytes : List ℕ) (l : ℕ) (vs : List Level) →
    l ≤ L → Along (Source L t a ts s) [] 0 (sources L l vs) → length (sources L l vs) ≡ cond (ltb l L) l (suc l) →
    length (moves L 0 (map source_of (items L ts slots a bytes l vs))) ≡ gather_room L l
unfolding items
items_length L t a ts s slots bytes l vs low along many =
    let levels = level_items ts slots a [] 0 (sources L l vs) in
    let fresh = cond (ltb l L) (replicate (2 ^ l) (spare None)) [] in
    ap (λ (ps : List (Option ℕ)). suc (length (moves L 1 ps))) (map-append source_of levels fresh)
    ∙ ap suc (levels_length L a ts slots [] 0 (sources L l vs) 1 (map source_of fresh))
    ∙ gather_count L l (length (sources L l vs)) (length levels) (1 + length levels) low (items_from_levels L t a ts s slots [] 0 (sources L l vs) along) many

-- ---- the fill

joined_length : (f : ℕ → List Entry) (c : ℕ) → ((x : ℕ) → length (f x) ≡ c) → (xs : List ℕ) → length (flat_map f xs) ≡ length xs * c
joined_length f c each [] = let none : 0 * c ≡ 0 = omega arith in sym none
joined_length f c each (x ∷ xs) =
    let rest : length (flat_map f xs) ≡ length xs * c = joined_length f c each xs in
    let one : suc (length xs) * c ≡ c + length xs * c = omega arith in
    length-append (f x) (flat_map f xs) ∙ ap₂ (λ (i j : ℕ). i + j) (each x) rest ∙ sym one

batch_length : (L l b : ℕ) → length (batch_entries L l b) ≡ level_slots l + batch_slots (level_slots l)
batch_length L l b =
    let N = level_slots l in
    let B = batch_slots N in
    length-append (map (λ k. entry_of true false (scratch_start L + k)) (range_with_len 0 N)) (map (λ s. entry_of true true (level_start l + (b * B + s))) (range_with_len 0 B))
    ∙ ap₂ (λ (i j : ℕ). i + j) (length-map-range_with_len (λ k. entry_of true false (scratch_start L + k)) 0 N)
    (length-map-range_with_len (λ s. entry_of true true (level_start l + (b * B + s))) 0 B)

fill_length : (L l : ℕ) → length (fill_entries L l) ≡ batches l * (level_slots l + batch_slots (level_slots l))
fill_length L l =
    joined_length (batch_entries L l) (level_slots l + batch_slots (level_slots l)) (batch_length L l) (range_with_len 0 (batches l))
    ∙ ap (λ (n : ℕ). n * (level_slots l + batch_slots (level_slots l))) (length-range_with_len 0 (batches l))

-- ---- the rebuild that is due

-- the entries of a rebuild of L, numbered t, of the held block, are as many as its check asks room for
abbrev Fills : List (List ℕ) → World → ℕ → ℕ → Option ℕ → Type 0
Fills ts w L t h =
    let l = level_of_build L t in
    let a : ℕ = elim h [ Some x ↦ x | None ↦ 0 ] in
    length (moves L 0 (map source_of (items L ts w.slots a w.held_bytes l w.client.levels)) ++ fill_entries L l) ≡ rebuild_entries L l

fills : (ts : List (List ℕ)) (L K r a : ℕ) (s : List (Act Mark)) (w : World) → Choices L K ts → Ready L K r (Some a) s w.client → Fills ts w L (suc r) (Some a)
fills ts L K r a s w choice ready =
    let vs = w.client.levels in
    let t = suc r in
    let l = level_of_build L t in
    let step : r + 1 ≡ suc r = omega arith in
    let once : (r + 1) * 2 ^ 0 ≡ suc r = omega arith in
    let all : L ≡ L + 0 = omega arith in
    let g : Gathers L t a s L l 0 [] (sources L l vs) =
    subst (λ (n : ℕ). Gathers L t a s L (level_of_build L n) 0 [] (sources L (level_of_build L n) vs)) step (gathers L t a s L 0 r [] vs all once ready.levels) in
    let along : Along (Source L t a ts s) [] 0 (sources L l vs) =
    along_weaker (Fresh L t a s) (Source L t a ts s) (source L K t a ts s choice ready.sound ready.builds_left) [] 0 (sources L l vs) g.fresh in
    length-append (moves L 0 (map source_of (items L ts w.slots a w.held_bytes l vs))) (fill_entries L l)
    ∙ ap₂ (λ (i j : ℕ). i + j) (items_length L t a ts s w.slots w.held_bytes l vs (level_at_most L t) along g.many) (fill_length L l)

due_length : (ts : List (List ℕ)) (L K r a : ℕ) (s : List (Act Mark)) (w : World) → Choices L K ts → Ready L K r (Some a) s w.client →
    length (entries (rebuild_requests ts w)) ≡ rebuild_entries w.client.top (rebuild_level w.client)
due_length ts L K r a s w choice ready =
    ap length (rebuild_traced ts w)
    ∙ subst (λ (n : ℕ). Fills ts w n w.client.accesses w.client.held) (sym ready.top)
    (subst (λ (n : ℕ). Fills ts w L n w.client.held) (sym ready.accesses)
    (subst (λ (h : Option ℕ). Fills ts w L (suc r) h) (sym ready.held) (fills ts L K r a s w choice ready)))

-- a rebuild is accepted only while one is due
standing_length : (ts : List (List ℕ)) (L W : ℕ) (s : List (Act Mark)) (w : World) (j room : ℕ) → Choices L (length ts) ts → verdict (length ts) w.client (rebuild j room) ≡ None →
    Standing L W (length ts) s w.client → length (entries (rebuild_requests ts w)) ≡ rebuild_entries w.client.top (rebuild_level w.client)
standing_length ts L W s w j room choice v (unloaded e n) =
    let zero_number : w.client.number ≡ 0 = ap (λ q. q.number) e in
    absurd (omega (arith, turn_due (length ts) w.client (rebuild j room) v))
standing_length ts L W s w j room choice v (running r None ready e) =
    absurd (omega (arith, ready.number, turn_due (length ts) w.client (rebuild j room) v))
standing_length ts L W s w j room choice v (running r (Some a) ready e) = due_length ts L (length ts) r a s w choice ready

-- ---- the law

rebuilding_entries : (ts : List (List ℕ)) (w : World) → entries_of (rebuilding ts w).answer ≡ entries (rebuild_requests ts w)
unfolding rebuilding
rebuilding_entries ts w = refl

-- the room that is checked is that of the history
room_of : (h : History) → rebuild_entries (world_of h).client.top (rebuild_level (world_of h).client) ≡ rebuild_room h
room_of h = ap₂ (λ (t n : ℕ). rebuild_entries t (level_of_build t n)) (phase_of h).1.0.top (counts h).accesses

-- after an opening with a refusal no call is accepted
never_accepted : (h : History) (r : Refusal) (c : Call) → opening_answer h.top h.width h.parts ≡ Some r → Accepted h c → ⊥
never_accepted h r c e ok =
    let start = opening h.top h.width h.parts in
    false≢true (sym (ap (λ (w : World). took (performed h.tables w c).answer) (refused_stays h.tables start r h.calls e)
    ∙ ap (λ (o : Outcome). took o.answer) (refused_declines h.tables start r c e)) ∙ ok)

pub rebuild_entries_fill : RebuildEntriesFillTheRoom
rebuild_entries_fill h K some choice j room ok =
    ap (λ (o : Outcome). length (entries_of o.answer)) (accepted_outcome h.tables (world_of h) (rebuild j room) ok)
    ∙ ap length (rebuilding_entries h.tables (world_of h))
    ∙ by (opening_answer h.top h.width h.parts) refl
    ∙ room_of h
  where
    by : (o : Option Refusal) → opening_answer h.top h.width h.parts ≡ o →
        length (entries (rebuild_requests h.tables (world_of h))) ≡ rebuild_entries (world_of h).client.top (rebuild_level (world_of h).client)
    by (Some r) e = absurd (never_accepted h r (rebuild j room) e ok)
    by None e =
        let ts = h.tables in
        let n = length ts in
        let L = h.top in
        let W = h.width in
        let many : length ts ≡ K = choice.counted ∙ length-map-range_with_len (λ b. level_slots (level_of_build h.parts.supply_top b)) 0 K in
        let mine : Choices L n ts =
        subst (λ (i : ℕ). Choices i n ts) (opened_parts L W h.parts e).supply (subst (λ (i : ℕ). Choices h.parts.supply_top i ts) (sym many) choice) in
        let client : (world_of h).client ≡ clients_after n (opened L W None) h.calls =
        after_client ts (opening L W h.parts) h.calls ∙ ap (λ (o : Option Refusal). clients_after n (opened L W o) h.calls) e in
        standing_length ts L W (script n (opened L W None) h.calls) (world_of h) j room mine ((taken ts (world_of h) (rebuild j room)).0 ok)
        (subst (Standing L W n (script n (opened L W None) h.calls)) (sym client) (always_standing L W n h.calls (omega arith)))
