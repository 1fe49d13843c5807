-- The batches of a fill put every slot of a level at its batch and its seat.
use Rattle.std.specs.Prelude.{◌≡◌, ℕ, ◌+◌, List, [], ◌∷◌, map, Some, filter, Option}
use Rattle.std.specs.List.{range_with_len, flat_map}
use Rattle.shape.specs.Numbers.{level_slots, level_start, batch_and_seat}
use Rattle.store.specs.State.{Slot}
use Rattle.store.specs.Requests.{Request}
use Rattle.rules.specs.Checks.{batches}
use Rattle.rules.specs.Slots.{write_round}
use Rattle.rules.specs.Rebuilding.{Placed, blank, kept_for, batch_step}

-- the writes of batch b in order, each with its batch and its seat, from seat s on
abbrev pub seated : ℕ → ℕ → List Request → List (Option (ℕ × ℕ) × Request)
seated b s [] = []
seated b s (r ∷ rs) = (Some (b, s), r) ∷ seated b (s + 1) rs

abbrev pub writes : List Request → List Request
writes = filter (λ r. r.entry.write)

-- All that the batches of level l write, one batch after another and seat by seat, is each slot of the level, once and in order: slot d with what is
-- kept for d, at the batch and the seat of d.
abbrev pub EverySlotAtItsSeat : Type 0
EverySlotAtItsSeat =
    (L W t l : ℕ) (ts : List (List ℕ)) (slots : List Slot) (gs : List Placed) →
    flat_map (λ b. seated b 0 (writes (batch_step L W ts t l slots gs b))) (range_with_len 0 (batches l))
    ≡ map (λ d. (batch_and_seat (level_slots l) d, write_round (level_start l + d) (kept_for ts t d (blank W) gs))) (range_with_len 0 (level_slots l))
