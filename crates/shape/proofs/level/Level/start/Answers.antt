use Rattle.std.proofs.Common.{◌+◌, ◌^◌, ◌≤◌, arith, pow_mono}
use Rattle.shape.proofs.level.Level.start.Goals as goal

pub overflow_sub-result : goal.overflow_sub-result
overflow_sub-result c = let p : 2 ^ 1 ≤ 2 ^ (c.args.self.number + 1) = pow_mono {i = 1} (omega arith) in omega arith
