-- The schedule of builds: which level a build goes to, and what the next rebuild does to the bits of the number of rebuilds.
-- q is r / 2^l, and halves with each level up.
use Rattle.std.proofs.Common.{◌≡◌, ℕ, zero, suc, ◌+◌, ◌*◌, ◌/◌, ◌%◌, ◌^◌, ◌<◌, ◌≤◌, true, false, eqb, ◌⊎◌, refl, ap, ◌∙◌, inl, inr, ⊎_elim, pow-suc, arith}
use native.Mathlib.Nat.{pow-zero}
use lib.Count.{under}
use Rattle.std.proofs.lemmas.Nat.{mul-le}
use Rattle.std.proofs.lemmas.Bool.{cases_eq, eq-eqb, ne_eqb}
use Rattle.shape.specs.Numbers.{level_of_build}

-- ---- odd and even

pub odd_or_even : (q : ℕ) → (q % 2 ≡ 1) ⊎ (q % 2 ≡ 0)
odd_or_even q = ⊎_elim inl (λ n. inr (omega arith)) (cases_eq (q % 2) 1)

pub odd_tests : (q : ℕ) → q % 2 ≡ 1 → eqb (q % 2) 1 ≡ true
odd_tests q e = eq-eqb (q % 2) 1 e

pub even_tests : (q : ℕ) → q % 2 ≡ 0 → eqb (q % 2) 1 ≡ false
even_tests q e = ne_eqb (q % 2) 1 (λ o. omega arith)

-- ---- the level of a build

double_power : (q l : ℕ) → q * 2 ^ suc l ≡ 2 * (q * 2 ^ l)
double_power q l = ap (λ p. q * p) (pow-suc 2 l) ∙ omega arith

one_power : (q : ℕ) → q * 2 ^ 0 ≡ q
one_power q = ap (λ p. q * p) (pow-zero 2) ∙ omega arith

pub level_odd : (m u : ℕ) → u % 2 ≡ 1 → level_of_build (suc m) u ≡ 0
level_odd m u e = ap (λ d. under d (level_of_build m (u / 2))) e

pub level_even : (m u : ℕ) → u % 2 ≡ 0 → level_of_build (suc m) u ≡ suc (level_of_build m (u / 2))
level_even m u e = ap (λ d. under d (level_of_build m (u / 2))) e

-- an odd multiple of 2^l goes to level l below L
pub level_below : (L l q : ℕ) → l < L → q % 2 ≡ 1 → level_of_build L (q * 2 ^ l) ≡ l
level_below zero l q lt odd = absurd (omega arith)
level_below (suc L) zero q lt odd = level_odd L (q * 2 ^ 0) (ap (λ x. x % 2) (one_power q) ∙ odd)
level_below (suc L) (suc l) q lt odd =
    let half : (q * 2 ^ suc l) / 2 ≡ q * 2 ^ l = omega (arith, double_power q l) in
    level_even L (q * 2 ^ suc l) (omega (arith, double_power q l))
    ∙ ap (λ b. suc (level_of_build L b)) half ∙ ap suc (level_below L l q (omega arith) odd)

-- a multiple of 2^L goes to level L
pub level_highest : (L q : ℕ) → level_of_build L (q * 2 ^ L) ≡ L
level_highest zero q = refl
level_highest (suc L) q =
    let half : (q * 2 ^ suc L) / 2 ≡ q * 2 ^ L = omega (arith, double_power q L) in
    level_even L (q * 2 ^ suc L) (omega (arith, double_power q L))
    ∙ ap (λ b. suc (level_of_build L b)) half ∙ ap suc (level_highest L q)

-- ---- halving

power_some : (l : ℕ) → 0 < 2 ^ l
power_some zero = omega (arith, pow-zero 2)
power_some (suc l) = omega (arith, pow-suc 2 l, power_some l)

pub power_double : (l : ℕ) → 2 ^ suc l ≡ 2 ^ l + 2 ^ l
power_double l = pow-suc 2 l ∙ omega arith

-- the latest build of a level is no later than that of the level below, and earlier if that one is occupied
pub half_below : (q l : ℕ) → q / 2 * 2 ^ suc l ≤ q * 2 ^ l
half_below q l = omega (arith, double_power (q / 2) l, mul-le (q / 2 * 2) (2 ^ l) q (2 ^ l) (omega arith) (omega arith))

pub builds_fall : (q l : ℕ) → q % 2 ≡ 1 → q / 2 * 2 ^ suc l < q * 2 ^ l
builds_fall q l odd =
    omega (arith, double_power (q / 2) l, mul-le (suc (q / 2 * 2)) (2 ^ l) q (2 ^ l) (omega arith) (omega arith), power_some l)

pub half_above : (q l r : ℕ) → r < suc q * 2 ^ l → r < suc (q / 2) * 2 ^ suc l
half_above q l r h =
    omega (arith, double_power (suc (q / 2)) l, mul-le (suc q) (2 ^ l) (suc (q / 2) * 2) (2 ^ l) (omega arith) (omega arith))

-- ---- one more rebuild: t = (q + 1) * 2^l

pub next_odd : (q : ℕ) → q % 2 ≡ 0 → suc q % 2 ≡ 1
next_odd q e = omega arith

pub next_even : (q : ℕ) → q % 2 ≡ 1 → suc q % 2 ≡ 0
next_even q e = omega arith

pub next_half_same : (q : ℕ) → q % 2 ≡ 0 → suc q / 2 ≡ q / 2
next_half_same q e = omega arith

pub next_half_more : (q : ℕ) → q % 2 ≡ 1 → suc q / 2 ≡ suc (q / 2)
next_half_more q e = omega arith

pub whole_half : (q l t : ℕ) → q % 2 ≡ 1 → t ≡ suc q * 2 ^ l → t ≡ suc (q / 2) * 2 ^ suc l
whole_half q l t odd e =
    let double : suc q ≡ 2 * suc (q / 2) = omega arith in
    e ∙ ap (λ x. x * 2 ^ l) double ∙ omega (arith, double_power (suc (q / 2)) l)
