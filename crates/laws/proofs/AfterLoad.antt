-- After a load every slot of level L holds what its index under build 0 says.
use Rattle.std.proofs.Common.{◌≡◌, ℕ, ◌+◌, ◌<◌, ◌≤◌, ltb, ◌⊎◌, List, length, get_or, sym, ap, ◌∙◌, inl, inr, arith}
use Rattle.std.specs.List.{range_with_len}
use Rattle.std.proofs.lemmas.List.FromFn.{length-range_with_len, get_or-range_with_len}
use Rattle.std.proofs.lemmas.Bool.{cases_lt, lt-ltb, le-ltb, cond-true, cond-false}
use Rattle.shape.specs.Numbers.{blocks, level_slots, level_start, places_needed}
use Rattle.shape.proofs.TopLevel.{top_slot_inside}
use Rattle.store.specs.State.{Slot, slot_at}
use Rattle.store.specs.Requests.{wrote}
use Rattle.permutations.specs.Tables.{IsPermutation, position}
use Rattle.permutations.specs.Choices.{table_of, slot_of}
use Rattle.permutations.proofs.Tables.{onto}
use Rattle.rules.specs.Slots.{block_slot, dummy_slot, block_bytes}
use Rattle.rules.specs.Loading.{loaded_slot, load_requests, loaded_level}
use Rattle.laws.specs.Keeping.{said}
use Rattle.laws.proofs.Written.{written_there}

-- what a load writes for an index is what the loaded level says of it
pub loaded_said : (L W : ℕ) (all : List ℕ) (j : ℕ) → loaded_slot L W all j ≡ said W (block_bytes W all) (loaded_level L) j
loaded_said L W all j = by (cases_lt j (blocks L))
  where
    many : length (range_with_len 0 (blocks L)) ≡ blocks L
    many = length-range_with_len 0 (blocks L)

    by : (j < blocks L) ⊎ (blocks L ≤ j) → loaded_slot L W all j ≡ said W (block_bytes W all) (loaded_level L) j
    by (inl l) =
        let x : get_or (range_with_len 0 (blocks L)) j 0 ≡ j = get_or-range_with_len 0 (blocks L) j 0 l ∙ omega arith in
        cond-true (ltb j (blocks L)) (block_slot j (block_bytes W all j)) (dummy_slot W j) (lt-ltb j (blocks L) l)
        ∙ ap (λ (i : ℕ). block_slot i (block_bytes W all i)) (sym x)
        ∙ sym (cond-true (ltb j (length (range_with_len 0 (blocks L)))) _ _ (lt-ltb j (length (range_with_len 0 (blocks L))) (omega (arith, many))))
    by (inr l) =
        cond-false (ltb j (blocks L)) (block_slot j (block_bytes W all j)) (dummy_slot W j) (le-ltb j (blocks L) l)
        ∙ sym (cond-false (ltb j (length (range_with_len 0 (blocks L)))) _ _ (le-ltb j (length (range_with_len 0 (blocks L))) (omega (arith, many))))

-- the slot of each index of level L after a load's requests
pub after_load : (L W : ℕ) (ts : List (List ℕ)) (all : List ℕ) (slots : List Slot) →
    IsPermutation (level_slots L) (table_of ts 0) → places_needed L ≤ length slots →
    (j : ℕ) → j < level_slots L →
    slot_at (wrote slots (load_requests L W ts all)) (level_start L + slot_of ts 0 j) ≡ said W (block_bytes W all) (loaded_level L) j
unfolding load_requests
after_load L W ts all slots is room j h =
    written_there slots (λ s. level_start L + s) (λ s. loaded_slot L W all (position (table_of ts 0) s)) (λ i k e. omega arith)
    0 (level_slots L) (slot_of ts 0 j) (omega arith) (omega (arith, is.below j h)) (omega (arith, top_slot_inside L (slot_of ts 0 j) (is.below j h)))
    ∙ ap (loaded_slot L W all) ((onto (level_slots L) (table_of ts 0) is).nowhere_else j h)
    ∙ loaded_said L W all j
