use Rattle.laws.proofs.Corresponding.{traces_correspond}
use Rattle.laws.proofs.correspondence.traces_correspond.Goals as goal

pub returns : goal.returns
returns c = traces_correspond
