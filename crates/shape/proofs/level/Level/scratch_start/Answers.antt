use Rattle.std.proofs.Common.{◌≡◌, ◌+◌, ◌*◌, ◌%◌, ◌^◌, ◌≤◌, arith, pow_mono}
use Rattle.std.proofs.lemmas.Nat.{one_shl}
use Rattle.shape.proofs.level.Level.scratch_start.Goals as goal

pub overflow_sub-result : goal.overflow_sub-result
overflow_sub-result c =
    let whole : (1 * 2 ^ (c.args.self.number + 2)) % 4294967296 ≡ 2 ^ (c.args.self.number + 2) = one_shl (c.args.self.number + 2) 32 (omega arith) in
    let p : 2 ^ 1 ≤ 2 ^ (c.args.self.number + 2) = pow_mono {i = 1} (omega arith) in
    rw whole (omega arith)
