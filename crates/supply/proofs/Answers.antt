-- What a lawful supply answers to a question within it.
use Rattle.std.proofs.Common.{◌≡◌, ℕ, ◌<◌, true, Ok, ap}
use Rattle.std.proofs.lemmas.Bool.{and_from, lt-ltb, cond-true}
use Rattle.shape.specs.Numbers.{level_slots}
use Rattle.shape.proofs.Builds.{build_zero}
use Rattle.supply.specs.Choice.{Choice, build_slots, within, index_answer}

pub within_true : (c : Choice) (b x : ℕ) → b < c.builds → x < build_slots c b → within c b x ≡ true
within_true c b x h l = and_from _ _ (lt-ltb b c.builds h) (lt-ltb x (build_slots c b) l)

pub index_answered : (c : Choice) (b s : ℕ) → b < c.builds → s < build_slots c b → index_answer c b s ≡ Ok (c.index_of b s)
index_answered c b s h l = cond-true _ _ _ (within_true c b s h l)

-- build 0 has the size of the highest level
pub first_build_slots : (c : Choice) → build_slots c 0 ≡ level_slots c.levels
first_build_slots c = ap level_slots (build_zero c.levels)
