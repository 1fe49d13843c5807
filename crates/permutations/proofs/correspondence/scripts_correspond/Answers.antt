use Rattle.permutations.proofs.Choosing.{scripts_correspond}
use Rattle.permutations.proofs.correspondence.scripts_correspond.Goals as goal

pub returns : goal.returns
returns c = scripts_correspond
