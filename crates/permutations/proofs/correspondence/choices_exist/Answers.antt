use Rattle.permutations.proofs.Choosing.{straight_choice}
use Rattle.permutations.proofs.correspondence.choices_exist.Goals as goal

pub returns : goal.returns
returns c = straight_choice
