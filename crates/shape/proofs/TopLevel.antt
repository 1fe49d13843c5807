-- The levels and the scratch area lie one after another within the places needed.
use Rattle.std.proofs.Common.{◌≡◌, ℕ, ◌+◌, ◌*◌, ◌<◌, ◌≤◌, pow-suc, add-one, arith, pow_mono}
use Rattle.shape.specs.Numbers.{blocks, level_slots, level_start, places_needed}

pub slots_double : (L : ℕ) → level_slots L ≡ 2 * blocks L
slots_double L = rw (add-one L, pow-suc 2 L) (omega arith)

-- a slot of level L lies within the places needed
pub top_slot_inside : (L s : ℕ) → s < level_slots L → level_start L + s < places_needed L
top_slot_inside L s h = omega (arith, slots_double L)

pub top_slots_few : (L : ℕ) → L ≤ 12 → level_slots L ≤ 8192
top_slots_few L h = pow_mono {i = L + 1} {j = 13} (omega arith)
