-- Parts of equal size, one after another.
use Rattle.std.proofs.Common.{ℕ, suc, ◌+◌, ◌*◌, ◌<◌, ◌≤◌, suc-mul, arith}
use Rattle.std.proofs.lemmas.Nat.{mul-le}

-- the p-th of n parts ends within what n parts fill
pub part_fits : (n p size len : ℕ) → p < n → n * size ≤ len → p * size + size ≤ len
part_fits n p size len h l = omega (arith, suc-mul p size, mul-le (suc p) size n size (omega arith) (omega arith))
