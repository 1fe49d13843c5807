-- The numbers of the layout: levels, places, builds, batches and keys. L is the number of the highest level.
use Rattle.std.specs.Prelude.{ℕ, zero, suc, ◌+◌, ◌-◌, ◌*◌, ◌/◌, ◌%◌, ◌^◌, min, Bool, cond, ◌&&◌, Some, None, Ok, Err, Option, Result, nat_le, nat_lt}
use Rattle.std.specs.Int.Count.{under}
use Rattle.shape.specs.declared.refusal.Refusal.{Refusal}
use Rattle.shape.specs.declared.refusal.Refusal.TheVariants.{OutOfRange}

-- L is 1 to 12
abbrev pub levels_fit : ℕ → Bool
levels_fit L = nat_le 1 L && nat_le L 12

-- W, the bytes of a block, is 1 to 512
abbrev pub width_fits : ℕ → Bool
width_fits W = nat_le 1 W && nat_le W 512

-- n, the number of blocks
abbrev pub blocks : ℕ → ℕ
blocks L = 2 ^ L

-- the slots of level l
abbrev pub level_slots : ℕ → ℕ
level_slots l = 2 ^ (l + 1)

-- the first place of level l
abbrev pub level_start : ℕ → ℕ
level_start l = 2 ^ (l + 1) - 2

-- the scratch area: as many slots as level L has, after the places of level L
abbrev pub scratch_slots : ℕ → ℕ
scratch_slots L = 2 ^ (L + 1)

abbrev pub scratch_start : ℕ → ℕ
scratch_start L = 2 ^ (L + 2) - 2

-- the places that a store needs
abbrev pub places_needed : ℕ → ℕ
places_needed L = 6 * 2 ^ L - 2

-- the level of a build: the number of its trailing zero bits, but L where that is more; build 0 goes to L
abbrev pub level_of_build : ℕ → ℕ → ℕ
level_of_build zero b = zero
level_of_build (suc l) b = under (b % 2) (level_of_build l (b / 2))

-- the slots of one batch when a level of N slots is filled
abbrev pub batch_slots : ℕ → ℕ
batch_slots N = min N 64

-- the batch of a destination and its seat there; absent beyond the level
abbrev pub batch_and_seat : ℕ → ℕ → Option (ℕ × ℕ)
batch_and_seat N d = cond (nat_lt d N) (Some (d / batch_slots N, d % batch_slots N)) None

-- the key of the dummy with index i
abbrev pub dummy_key : ℕ → ℕ
dummy_key i = 65536 + i

-- the places that a store needs, for whoever asks
abbrev pub places_answer : ℕ → Result ℕ Refusal
places_answer L = cond (levels_fit L) (Ok (places_needed L)) (Err OutOfRange)
