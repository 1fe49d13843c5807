-- The halves that the rounds end with make the number that they mean, which is one of the level's.
use Rattle.std.proofs.Common.{◌≡◌, ℕ, ◌+◌, ◌*◌, ◌/◌, ◌%◌, ◌^◌, ◌<◌, List, refl}
use Rattle.shape.specs.Numbers.{level_slots}
use Rattle.keyed_supply.specs.Rounds.{Undone, from_even, back_odd, forth, back}
use Rattle.keyed_supply.specs.Keyed.{right_width, network}
use Rattle.keyed_supply.specs.Undoing.{directions_undo_each_other}
use Rattle.keyed_supply.specs.Widths.{numbers_are_slots, within_numbers}

module _ (key : List ℕ) (b l x : ℕ) (s h : ℕ × ℕ) (p : s ≡ (x / 2 ^ right_width l, x % 2 ^ right_width l)) where
  pub forth_joined : h ≡ from_even (network key b l) 8 s.0 s.1 → h.0 * 2 ^ right_width l + h.1 ≡ forth (network key b l) x
  unfolding forth
  forth_joined q = rw (q, p) refl

  pub back_joined : h ≡ back_odd (network key b l) 8 s.0 s.1 → h.0 * 2 ^ right_width l + h.1 ≡ back (network key b l) x
  unfolding back
  back_joined q = rw (q, p) refl

  undone : x < level_slots l → Undone (network key b l) x
  undone k = directions_undo_each_other (network key b l) x (within_numbers l x k)

  pub forth_fits : h ≡ from_even (network key b l) 8 s.0 s.1 → x < level_slots l → h.0 * 2 ^ right_width l + h.1 < level_slots l
  forth_fits q k = rw (forth_joined q, ← numbers_are_slots l) (undone k).forth_below

  pub back_fits : h ≡ back_odd (network key b l) 8 s.0 s.1 → x < level_slots l → h.0 * 2 ^ right_width l + h.1 < level_slots l
  back_fits q k = rw (back_joined q, ← numbers_are_slots l) (undone k).back_below
