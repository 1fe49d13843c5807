-- The slots of the builds before one: by halves, at most so many, and one part after another.
use Rattle.std.specs.Prelude.{◌≡◌, ℕ, zero, suc, ◌+◌, ◌-◌, ◌*◌, ◌/◌, ◌%◌, ◌^◌, ◌<◌, ◌≤◌, ◌⊎◌, ◌≢◌, true, nat_lt, refl}
use Rattle.std.proofs.Common.{inl, inr, ap, ◌∙◌, pow-suc, arith, pow_mono}
use Rattle.std.specs.Int.Count.{under}
use Rattle.std.proofs.lemmas.Bool.{cases_eq, and_parts, ltb-true}
use Rattle.shape.specs.Numbers.{level_of_build}
use Rattle.shape.proofs.Builds.{level_at_most}
use Rattle.supply.specs.Choice.{asked_within}
use Rattle.table_supply.specs.Table.{part_slots, slots_before}

-- ---- one build more

pub before_more : (L b : ℕ) → slots_before L (suc b) ≡ slots_before L b + part_slots L b
unfolding slots_before
before_more L b = refl

-- ---- by halves

-- without levels every build has two slots
pub before_level_zero : (l b : ℕ) → l ≡ 0 → slots_before l b ≡ 2 * b
unfolding slots_before
before_level_zero l zero e = refl
before_level_zero l (suc b) e = omega (arith, before_level_zero l b e, ap (λ (k : ℕ). part_slots k b) e)

even_slots : (l b : ℕ) → b % 2 ≡ 0 → part_slots (suc l) b ≡ 2 * part_slots l (b / 2)
even_slots l b e =
    let k = level_of_build l (b / 2) in
    ap (λ (d : ℕ). 2 ^ (under d k + 1)) e ∙ ap (λ (x : ℕ). 2 ^ x) {x = suc k + 1} {y = suc (k + 1)} (omega arith) ∙ omega (arith, pow-suc 2 (k + 1))

odd_slots : (l b : ℕ) → b % 2 ≡ 1 → part_slots (suc l) b ≡ 2
odd_slots l b e = ap (λ (d : ℕ). 2 ^ (under d (level_of_build l (b / 2)) + 1)) e

-- the odd builds have two slots each, and the even ones twice those of their halves
halves : (l b : ℕ) → slots_before (suc l) b ≡ 2 * (b / 2 + slots_before l (b - b / 2))
unfolding slots_before
halves l zero = refl
halves l (suc b) = more (halves l b) (cases_eq (b % 2) 0)
  where
    more : slots_before (suc l) b ≡ 2 * (b / 2 + slots_before l (b - b / 2)) → (b % 2 ≡ 0) ⊎ (b % 2 ≢ 0) → slots_before (suc l) (suc b) ≡ 2 * (suc b / 2 + slots_before l (suc b - suc b / 2))
    more rest (inl e) =
        omega (arith, rest, even_slots l b e, ap (slots_before l) {x = suc b - suc b / 2} {y = suc (b / 2)} (omega arith), ap (slots_before l) {x = b - b / 2} {y = b / 2} (omega arith))
    more rest (inr e) =
        omega (arith, rest, odd_slots l b (omega arith), ap (slots_before l) {x = suc b - suc b / 2} {y = b - b / 2} (omega arith))

pub before_halves : (l b : ℕ) → 0 < l → slots_before l b ≡ 2 * (b / 2 + slots_before (l - 1) (b - b / 2))
before_halves zero b h = absurd (omega arith)
before_halves (suc l) b h = let less : suc l - 1 ≡ l = omega arith in rw less (halves l b)

-- ---- how many

pub part_at_most : (L b : ℕ) → L ≤ 12 → part_slots L b ≤ 8192
part_at_most L b h = pow_mono {i = level_of_build L b + 1} {j = 13} (omega (arith, level_at_most L b))

pub before_at_most : (L b : ℕ) → L ≤ 12 → slots_before L b ≤ 8192 * b
unfolding slots_before
before_at_most L zero h = omega arith
before_at_most L (suc b) h = omega (arith, before_at_most L b h, part_at_most L b h)

-- ---- one part after another

pub before_grows : (L b d : ℕ) → slots_before L b ≤ slots_before L (b + d)
before_grows L b zero = omega (arith, ap (slots_before L) {x = b + 0} {y = b} (omega arith))
before_grows L b (suc d) =
    omega (arith, before_grows L b d, ap (slots_before L) {x = b + suc d} {y = suc (b + d)} (omega arith), before_more L (b + d))

-- the part of a build ends within the parts of the first n builds
pub part_inside : (L b n : ℕ) → b < n → slots_before L b + part_slots L b ≤ slots_before L n
part_inside L b n h =
    omega (arith, before_more L b, before_grows L (suc b) (n - suc b), ap (slots_before L) {x = suc b + (n - suc b)} {y = n} (omega arith))

-- a place lies within the parts of the first K builds
pub placed : (L K b x n : ℕ) → asked_within L K b x ≡ true → n ≡ slots_before L b → n + x < slots_before L K
placed L K b x n t e =
    let w = and_parts (nat_lt b K) (nat_lt x (part_slots L b)) t in
    omega (arith, ltb-true x (part_slots L b) w.1, part_inside L b K (ltb-true b K w.0))

pub ruleset counts = (before_level_zero, before_halves, before_at_most)
