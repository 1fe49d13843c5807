-- What a supply means, whatever its kind: one permutation for each build.
use Rattle.std.specs.Prelude.{◌≡◌, ℕ, ◌<◌, ◌≤◌, Bool, cond, ◌&&◌, Ok, Err, Result, nat_lt}
use Rattle.shape.specs.declared.refusal.Refusal.{Refusal}
use Rattle.shape.specs.declared.refusal.Refusal.TheVariants.{BeyondSupply}
use Rattle.shape.specs.Numbers.{level_slots, level_of_build}

-- L, K, and in every build the slot of an index and the index of a slot
pub record Choice : Type 0 where
  pub levels : ℕ
  pub builds : ℕ
  pub slot_of : ℕ → ℕ → ℕ
  pub index_of : ℕ → ℕ → ℕ

-- the size of a build: the slots of its level
abbrev pub build_slots : Choice → ℕ → ℕ
build_slots c b = level_slots (level_of_build c.levels b)

-- L is 1 to 12, K is 1 to 1,000,000, and within the size of a build the two directions undo each other
pub record Lawful (c : Choice) : Type 0 where
  pub levels_low : 1 ≤ c.levels
  pub levels_high : c.levels ≤ 12
  pub builds_low : 1 ≤ c.builds
  pub builds_high : c.builds ≤ 1000000
  pub slot_below : (b i : ℕ) → b < c.builds → i < build_slots c b → c.slot_of b i < build_slots c b
  pub index_below : (b s : ℕ) → b < c.builds → s < build_slots c b → c.index_of b s < build_slots c b
  pub index_undoes_slot : (b i : ℕ) → b < c.builds → i < build_slots c b → c.index_of b (c.slot_of b i) ≡ i
  pub slot_undoes_index : (b s : ℕ) → b < c.builds → s < build_slots c b → c.slot_of b (c.index_of b s) ≡ s

-- a question lies within a supply of this L and K
abbrev pub asked_within : ℕ → ℕ → ℕ → ℕ → Bool
asked_within L K b x = nat_lt b K && nat_lt x (level_slots (level_of_build L b))

abbrev pub within : Choice → ℕ → ℕ → Bool
within c b x = asked_within c.levels c.builds b x

-- the answers to the two questions
abbrev pub slot_answer : Choice → ℕ → ℕ → Result ℕ Refusal
slot_answer c b i = cond (within c b i) (Ok (c.slot_of b i)) (Err BeyondSupply)

abbrev pub index_answer : Choice → ℕ → ℕ → Result ℕ Refusal
index_answer c b s = cond (within c b s) (Ok (c.index_of b s)) (Err BeyondSupply)
