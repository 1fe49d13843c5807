use Rattle.laws.proofs.Differences.{differing_lists_show}
use Rattle.laws.proofs.teeth.differing_lists_show.Goals as goal

pub returns : goal.returns
returns c = differing_lists_show
