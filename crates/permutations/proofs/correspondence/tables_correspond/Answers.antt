use Rattle.permutations.proofs.Carrying.{tables_correspond}
use Rattle.permutations.proofs.correspondence.tables_correspond.Goals as goal

pub returns : goal.returns
returns c = tables_correspond
