use Rattle.std.proofs.Common.{◌∙◌, arith}
use Rattle.shape.proofs.Builds.{level_is_trailing_zeros}
use Rattle.shape.proofs.level.Level.of_build.Goals as goal

pub returns : goal.returns
returns c = record {
  value = c.min.ensures ∙ level_is_trailing_zeros 32 c.args.self.number c.args.build (omega arith);
  bound = omega arith;
}
