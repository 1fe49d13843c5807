use Rattle.permutations.proofs.Carrying.{lists_extend}
use Rattle.permutations.proofs.correspondence.lists_extend.Goals as goal

pub returns : goal.returns
returns c = lists_extend
