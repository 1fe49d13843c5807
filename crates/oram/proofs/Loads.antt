-- What a load needs of its parts, and its slots one by one.
use Rattle.std.proofs.Common.{◌≡◌, ℕ, ◌<◌, ◌≤◌, ltb, List, take, replicate, Ok, sym, ap, ◌∙◌, subst, arith}
use Rattle.std.proofs.lemmas.List.{take-replicate}
use Rattle.std.proofs.lemmas.Bool.{cond-false, le-ltb}
use Rattle.shape.specs.Numbers.{blocks, level_slots, dummy_key}
use Rattle.store.specs.State.{Slot}
use Rattle.supply.specs.Choice.{Choice, Lawful, build_slots, index_answer}
use Rattle.supply.proofs.Answers.{index_answered, first_build_slots}
use Rattle.oram.specs.Loading.{block_slot, dummy_slot, loaded_slot}

-- a supply made for L answers for every slot of level L in build 0, with an index of level L
pub first_index : (c : Choice) → Lawful c → (L s : ℕ) → c.levels ≡ L → s < level_slots L → (index_answer c 0 s ≡ Ok (c.index_of 0 s)) × (c.index_of 0 s < level_slots L)
first_index c lawful L s e h =
    let size : build_slots c 0 ≡ level_slots L = first_build_slots c ∙ ap level_slots e in
    let some : 0 < c.builds = lawful.builds_low in
    let below : s < build_slots c 0 = omega arith in
    (index_answered c 0 s some below, subst (λ n. c.index_of 0 s < n) size (lawful.index_below 0 s some below))

-- the slot of a dummy, from the zeros that lie ready
pub dummy_loaded : (L W : ℕ) (bs zs : List ℕ) (i k : ℕ) → blocks L ≤ i → W ≤ 512 → k ≡ dummy_key i → zs ≡ replicate 512 0 → ◌≡◌ {A = Slot} (record { key = k; bytes = take W zs }) (loaded_slot L W bs i)
dummy_loaded L W bs zs i k beyond narrow key zeros =
    let payload : take W zs ≡ replicate W 0 = ap (take W) zeros ∙ take-replicate W 512 0 narrow in
    ap (λ j. record { key = j; bytes = take W zs }) key
    ∙ ap (λ l. record { key = dummy_key i; bytes = l }) payload
    ∙ sym (cond-false (ltb i (blocks L)) (block_slot W bs i) (dummy_slot W i) (le-ltb i (blocks L) beyond))
