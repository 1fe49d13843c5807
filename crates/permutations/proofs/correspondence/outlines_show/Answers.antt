use Rattle.permutations.proofs.Views.{outlines_show}
use Rattle.permutations.proofs.correspondence.outlines_show.Goals as goal

pub returns : goal.returns
returns c = outlines_show
