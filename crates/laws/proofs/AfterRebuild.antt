-- After a rebuild of level l: each of its slots holds what is kept for it, and every place outside level l and the scratch area is as before.
use Rattle.std.proofs.Common.{◌≡◌, ℕ, zero, suc, ◌+◌, ◌-◌, ◌*◌, ◌/◌, ◌^◌, ◌<◌, ◌≤◌, min, ◌⊎◌, List, [], ◌∷◌, ◌++◌, map, length, Some, None, Option, sym, refl, ap, ◌∙◌, subst, inl, inr, suc-mul, pow-suc, add-one, arith, pow_mono}
use native.Mathlib.Nat.{div_self}
use Rattle.std.specs.List.{range_with_len, flat_map}
use Rattle.std.proofs.lemmas.Nat.{pow-add, pow_pos}
use Rattle.std.proofs.lemmas.List.{append_assoc}
use Rattle.std.proofs.lemmas.Bool.{cases_lt, false≢true}
use Rattle.shape.specs.Numbers.{level_slots, level_start, scratch_start, scratch_slots, batch_slots, places_needed}
use Rattle.shape.proofs.Builds.{level_at_most}
use Rattle.store.specs.State.{Slot, slot_at}
use Rattle.store.specs.Requests.{Request, wrote}
use Rattle.store.proofs.Requests.{wrote_append, wrote_length}
use Rattle.rules.specs.World.{World}
use Rattle.rules.specs.Checks.{batches, rebuild_level}
use Rattle.rules.specs.Slots.{read_round, write_round}
use Rattle.rules.specs.Rebuilding.{Placed, gather_step, gather_steps, blank, kept_for, batch_step, gathered, rebuild_steps, rebuild_requests}
use Rattle.laws.proofs.Written.{Spared, spared_as_before, spared_append, reads_spare, writes_spare, written_there}

-- ---- numbers

-- the batches of a level fill it
pub batches_fill : (l : ℕ) → batches l * batch_slots (level_slots l) ≡ level_slots l
batches_fill l = by (cases_lt 6 (l + 1))
  where
    by : (6 < l + 1) ⊎ (l + 1 ≤ 6) → batches l * batch_slots (level_slots l) ≡ level_slots l
    by (inl h) =
        let e : 6 + (l - 5) ≡ l + 1 = omega arith in
        let n : 2 ^ (l + 1) ≡ 64 * 2 ^ (l - 5) = ap (λ (k : ℕ). 2 ^ k) (sym e) ∙ pow-add 2 6 (l - 5) in
        let b : min (2 ^ (l + 1)) 64 ≡ 64 = omega (arith, pow_mono {i = 6} {j = l + 1} (omega arith)) in
        ap (λ (k : ℕ). 2 ^ (l + 1) / k * k) b ∙ omega arith
    by (inr h) =
        let b : min (2 ^ (l + 1)) 64 ≡ 2 ^ (l + 1) = omega (arith, pow_mono {i = l + 1} {j = 6} h) in
        ap (λ (k : ℕ). 2 ^ (l + 1) / k * k) b ∙ ap (λ (k : ℕ). k * 2 ^ (l + 1)) (div_self (pow_pos (l + 1))) ∙ omega arith

-- level l ends where level l + 1 begins
pub level_end : (l : ℕ) → level_start l + level_slots l ≡ level_start (suc l)
level_end l =
    let e : 2 ^ (suc l + 1) ≡ 2 * 2 ^ (l + 1) = ap (λ (k : ℕ). 2 ^ k) {x = suc l + 1} {y = suc (l + 1)} (omega arith) ∙ pow-suc 2 (l + 1) ∙ omega arith in
    let two : 2 ≤ 2 ^ (l + 1) = pow_mono {i = 1} {j = l + 1} (omega arith) in
    omega arith

pub level_starts_rise : (i l : ℕ) → i ≤ l → level_start i ≤ level_start l
level_starts_rise i l h = omega (arith, pow_mono {i = i + 1} {j = l + 1} (omega arith))

-- the levels lie before the scratch area, and scratch within the places needed
pub scratch_after_levels : (L l s : ℕ) → l ≤ L → s < level_slots l → level_start l + s < scratch_start L
scratch_after_levels L l s h m =
    let e : scratch_start L ≡ level_start (suc L) = ap (λ (k : ℕ). 2 ^ k - 2) {x = L + 2} {y = suc L + 1} (omega arith) in
    omega (arith, level_end l, level_starts_rise (suc l) (suc L) (omega arith))

pub scratch_end : (L : ℕ) → scratch_start L + scratch_slots L ≡ places_needed L
scratch_end L =
    let a : 2 ^ (L + 1) ≡ 2 * 2 ^ L = ap (λ (k : ℕ). 2 ^ k) (add-one L) ∙ pow-suc 2 L ∙ omega arith in
    let b : 2 ^ (L + 2) ≡ 2 * 2 ^ (L + 1) = ap (λ (k : ℕ). 2 ^ k) {x = L + 2} {y = suc (L + 1)} (omega arith) ∙ pow-suc 2 (L + 1) ∙ omega arith in
    omega (arith, pow_pos L)

-- ---- the gather

-- it writes to scratch alone
gather_spares : (L : ℕ) (slots : List Slot) (p k : ℕ) (gs : List Placed) → (p < scratch_start L + k) ⊎ (scratch_start L + (k + length gs) ≤ p) →
    Spared p (flat_map (λ r. r) (gather_steps L slots k gs))
gather_spares L slots p k [] h = tt
gather_spares L slots p k (g ∷ gs) h =
    spared_append p (gather_step L slots k g) (flat_map (λ r. r) (gather_steps L slots (suc k) gs)) (one g.source h) (gather_spares L slots p (suc k) gs (later h))
  where
    apart : (p < scratch_start L + k) ⊎ (scratch_start L + (k + suc (length gs)) ≤ p) → scratch_start L + k ≡ p → ⊥
    apart (inl h) e = omega arith
    apart (inr h) e = omega arith

    later : (p < scratch_start L + k) ⊎ (scratch_start L + (k + suc (length gs)) ≤ p) → (p < scratch_start L + suc k) ⊎ (scratch_start L + (suc k + length gs) ≤ p)
    later (inl h) = inl (omega arith)
    later (inr h) = inr (omega arith)

    one : (source : Option ℕ) → (p < scratch_start L + k) ⊎ (scratch_start L + (k + suc (length gs)) ≤ p) →
        Spared p (elim source [
          | Some q ↦ read_round q (slot_at slots q) ∷ write_round (scratch_start L + k) g.slot ∷ []
          | None ↦ write_round (scratch_start L + k) g.slot ∷ []
        ])
    one (Some q) h = ((λ e _. false≢true e), ((λ _ e. apart h e), tt))
    one None h = ((λ _ e. apart h e), tt)

-- ---- the batches

-- a batch reads N places and writes the slots kept from b B on, B of them
abbrev batch : (start B N : ℕ) → (ℕ → ℕ) → (ℕ → Slot) → (ℕ → Slot) → ℕ → List Request
batch start B N place read keep b =
    map (λ k. read_round (place k) (read k)) (range_with_len 0 N) ++ map (λ s. write_round (start + (b * B + s)) (keep (b * B + s))) (range_with_len 0 B)

module _ (start B N : ℕ) (place : ℕ → ℕ) (read keep : ℕ → Slot) where
  batch_spares : (b p : ℕ) → (p < start + b * B) ⊎ (start + suc b * B ≤ p) → Spared p (batch start B N place read keep b)
  batch_spares b p h =
      spared_append p (map (λ k. read_round (place k) (read k)) (range_with_len 0 N)) (map (λ s. write_round (start + (b * B + s)) (keep (b * B + s))) (range_with_len 0 B))
      (reads_spare p place read (range_with_len 0 N))
      (writes_spare p (λ s. start + (b * B + s)) (λ s. keep (b * B + s)) 0 B (λ i low high e. apart i high e h))
    where
      apart : (i : ℕ) → i < 0 + B → start + (b * B + i) ≡ p → (p < start + b * B) ⊎ (start + suc b * B ≤ p) → ⊥
      apart i high e (inl m) = omega arith
      apart i high e (inr m) = omega (arith, suc-mul b B)

  batches_spare : (b n p : ℕ) → (p < start + b * B) ⊎ (start + (b + n) * B ≤ p) → Spared p (flat_map (λ r. r) (map (batch start B N place read keep) (range_with_len b n)))
  batches_spare b zero p h = tt
  batches_spare b (suc n) p h =
      spared_append p (batch start B N place read keep b) (flat_map (λ r. r) (map (batch start B N place read keep) (range_with_len (b + 1) n)))
      (batch_spares b p (now h)) (batches_spare (b + 1) n p (later h))
    where
      now : (p < start + b * B) ⊎ (start + (b + suc n) * B ≤ p) → (p < start + b * B) ⊎ (start + suc b * B ≤ p)
      now (inl m) = inl m
      now (inr m) = inr (omega arith)

      later : (p < start + b * B) ⊎ (start + (b + suc n) * B ≤ p) → (p < start + (b + 1) * B) ⊎ (start + ((b + 1) + n) * B ≤ p)
      later (inl m) = inl (omega arith)
      later (inr m) = inr (omega arith)

  batch_writes : (slots : List Slot) (b s : ℕ) → b * B ≤ s → s < suc b * B → start + s < length slots →
      slot_at (wrote slots (batch start B N place read keep b)) (start + s) ≡ keep s
  batch_writes slots b s low high inside =
      let reads = map (λ k. read_round (place k) (read k)) (range_with_len 0 N) in
      let e : b * B + (s - b * B) ≡ s = omega arith in
      let long : length (wrote slots reads) ≡ length slots = wrote_length slots reads in
      ap (λ (zs : List Slot). slot_at zs (start + s)) (wrote_append slots reads (map (λ k. write_round (start + (b * B + k)) (keep (b * B + k))) (range_with_len 0 B)))
      ∙ ap (λ (k : ℕ). slot_at (wrote (wrote slots reads) (map (λ k. write_round (start + (b * B + k)) (keep (b * B + k))) (range_with_len 0 B))) (start + k)) (sym e)
      ∙ written_there (wrote slots reads) (λ k. start + (b * B + k)) (λ k. keep (b * B + k)) (λ i j q. omega arith) 0 B (s - b * B)
      (omega arith) (omega (arith, suc-mul b B)) (omega arith)
      ∙ ap keep e

  batches_write : (slots : List Slot) (b n s : ℕ) → b * B ≤ s → s < (b + n) * B → start + s < length slots →
      slot_at (wrote slots (flat_map (λ r. r) (map (batch start B N place read keep) (range_with_len b n)))) (start + s) ≡ keep s
  batches_write slots b zero s low high inside = absurd (omega arith)
  batches_write slots b (suc n) s low high inside =
      ap (λ (zs : List Slot). slot_at zs (start + s)) (wrote_append slots (batch start B N place read keep b) (flat_map (λ r. r) (map (batch start B N place read keep) (range_with_len (b + 1) n))))
      ∙ by (cases_lt s (suc b * B)) (batches_write (wrote slots (batch start B N place read keep b)) (b + 1) n s)
    where
      by : (s < suc b * B) ⊎ (suc b * B ≤ s) →
          ((b + 1) * B ≤ s → s < ((b + 1) + n) * B → start + s < length (wrote slots (batch start B N place read keep b)) →
          slot_at (wrote (wrote slots (batch start B N place read keep b)) (flat_map (λ r. r) (map (batch start B N place read keep) (range_with_len (b + 1) n)))) (start + s) ≡ keep s) →
          slot_at (wrote (wrote slots (batch start B N place read keep b)) (flat_map (λ r. r) (map (batch start B N place read keep) (range_with_len (b + 1) n)))) (start + s) ≡ keep s
      by (inl m) later =
          spared_as_before (wrote slots (batch start B N place read keep b)) (flat_map (λ r. r) (map (batch start B N place read keep) (range_with_len (b + 1) n))) (start + s)
          (batches_spare (b + 1) n (start + s) (inl (omega arith)))
          ∙ batch_writes slots b s low m inside
      by (inr m) later = later (omega arith) (omega arith) (omega (arith, wrote_length slots (batch start B N place read keep b)))

-- ---- the whole rebuild

module _ (ts : List (List ℕ)) (w : World) where
  abbrev first_slots : List Slot
  first_slots = wrote w.slots (flat_map (λ r. r) (gather_steps w.client.top w.slots 0 (gathered ts w)))

  abbrev kept_slot : ℕ → Slot
  kept_slot s = kept_for ts w.client.accesses s (blank w.client.width) (gathered ts w)

  -- a rebuild's requests: the gather's, and then the batches'
  abbrev last_requests : List Request
  last_requests =
      flat_map (λ r. r) (map
      (batch (level_start (rebuild_level w.client)) (batch_slots (level_slots (rebuild_level w.client))) (level_slots (rebuild_level w.client))
      (λ k. scratch_start w.client.top + k) (λ k. slot_at first_slots (scratch_start w.client.top + k)) kept_slot)
      (range_with_len 0 (batches (rebuild_level w.client))))

  joined_append : (xs ys : List (List Request)) → flat_map (λ r. r) (xs ++ ys) ≡ flat_map (λ r. r) xs ++ flat_map (λ r. r) ys
  joined_append [] ys = refl
  joined_append (x ∷ xs) ys = ap (λ (zs : List Request). x ++ zs) (joined_append xs ys) ∙ sym (append_assoc x (flat_map (λ r. r) xs) (flat_map (λ r. r) ys))

  slots_after : wrote w.slots (rebuild_requests ts w) ≡ wrote first_slots last_requests
  unfolding rebuild_steps batch_step
  slots_after =
      ap (wrote w.slots) (joined_append (gather_steps w.client.top w.slots 0 (gathered ts w))
      (map (batch_step w.client.top w.client.width ts w.client.accesses (rebuild_level w.client) first_slots (gathered ts w)) (range_with_len 0 (batches (rebuild_level w.client)))))
      ∙ wrote_append w.slots (flat_map (λ r. r) (gather_steps w.client.top w.slots 0 (gathered ts w))) last_requests

  -- every slot of the level that is rebuilt holds what is kept for it
  pub rebuilt_slots : places_needed w.client.top ≤ length w.slots → (s : ℕ) → s < level_slots (rebuild_level w.client) →
      slot_at (wrote w.slots (rebuild_requests ts w)) (level_start (rebuild_level w.client) + s) ≡ kept_slot s
  rebuilt_slots room s h =
      let l = rebuild_level w.client in
      let L = w.client.top in
      let below : level_start l + s < scratch_start L = scratch_after_levels L l s (level_at_most L w.client.accesses) h in
      let long : length first_slots ≡ length w.slots = wrote_length w.slots (flat_map (λ r. r) (gather_steps L w.slots 0 (gathered ts w))) in
      ap (λ (zs : List Slot). slot_at zs (level_start l + s)) slots_after
      ∙ batches_write (level_start l) (batch_slots (level_slots l)) (level_slots l)
      (λ k. scratch_start L + k) (λ k. slot_at first_slots (scratch_start L + k)) kept_slot first_slots 0 (batches l) s
      (omega arith)
      (subst (λ (n : ℕ). s < n) (sym (batches_fill l) ∙ ap (λ (k : ℕ). k * batch_slots (level_slots l)) {x = batches l} {y = 0 + batches l} (omega arith)) h)
      (omega (arith, scratch_end L))

  -- a place outside that level and outside what the gather fills of scratch is as before
  pub other_slots : (p : ℕ) → (p < level_start (rebuild_level w.client)) ⊎ (level_start (rebuild_level w.client) + level_slots (rebuild_level w.client) ≤ p) →
      (p < scratch_start w.client.top) ⊎ (scratch_start w.client.top + length (gathered ts w) ≤ p) →
      slot_at (wrote w.slots (rebuild_requests ts w)) p ≡ slot_at w.slots p
  other_slots p outside unscratched =
      let l = rebuild_level w.client in
      let L = w.client.top in
      ap (λ (zs : List Slot). slot_at zs p) slots_after
      ∙ spared_as_before first_slots last_requests p
      (batches_spare (level_start l) (batch_slots (level_slots l)) (level_slots l)
      (λ k. scratch_start L + k) (λ k. slot_at first_slots (scratch_start L + k)) kept_slot 0 (batches l) p (level_side outside))
      ∙ spared_as_before w.slots (flat_map (λ r. r) (gather_steps L w.slots 0 (gathered ts w))) p (gather_spares L w.slots p 0 (gathered ts w) (scratch_side unscratched))
    where
      level_side : (p < level_start (rebuild_level w.client)) ⊎ (level_start (rebuild_level w.client) + level_slots (rebuild_level w.client) ≤ p) →
          (p < level_start (rebuild_level w.client) + 0 * batch_slots (level_slots (rebuild_level w.client)))
          ⊎ (level_start (rebuild_level w.client) + (0 + batches (rebuild_level w.client)) * batch_slots (level_slots (rebuild_level w.client)) ≤ p)
      level_side (inl m) = inl (omega arith)
      level_side (inr m) =
          inr (subst (λ (n : ℕ). level_start (rebuild_level w.client) + n ≤ p)
          (sym (batches_fill (rebuild_level w.client)) ∙ ap (λ (k : ℕ). k * batch_slots (level_slots (rebuild_level w.client))) {x = batches (rebuild_level w.client)} {y = 0 + batches (rebuild_level w.client)} (omega arith)) m)

      scratch_side : (p < scratch_start w.client.top) ⊎ (scratch_start w.client.top + length (gathered ts w) ≤ p) →
          (p < scratch_start w.client.top + 0) ⊎ (scratch_start w.client.top + (0 + length (gathered ts w)) ≤ p)
      scratch_side (inl m) = inl (omega arith)
      scratch_side (inr m) = inr (omega arith)

  -- the slots of every other level are as before
  pub other_levels : (i s : ℕ) → i ≤ w.client.top → (i ≡ rebuild_level w.client → ⊥) → s < level_slots i →
      slot_at (wrote w.slots (rebuild_requests ts w)) (level_start i + s) ≡ slot_at w.slots (level_start i + s)
  other_levels i s h other m =
      other_slots (level_start i + s) (side (cases_lt i (rebuild_level w.client))) (inl (scratch_after_levels w.client.top i s h m))
    where
      side : (i < rebuild_level w.client) ⊎ (rebuild_level w.client ≤ i) →
          (level_start i + s < level_start (rebuild_level w.client))
          ⊎ (level_start (rebuild_level w.client) + level_slots (rebuild_level w.client) ≤ level_start i + s)
      side (inl k) = inl (omega (arith, level_end i, level_starts_rise (suc i) (rebuild_level w.client) k))
      side (inr k) =
          let above : suc (rebuild_level w.client) ≤ i = omega arith in
          inr (omega (arith, level_end (rebuild_level w.client), level_starts_rise (suc (rebuild_level w.client)) i above))
