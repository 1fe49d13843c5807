use Rattle.permutations.proofs.Tables.{onto}
use Rattle.permutations.proofs.positions.every_number_stands_once.Goals as goal

pub returns : goal.returns
returns c = onto
