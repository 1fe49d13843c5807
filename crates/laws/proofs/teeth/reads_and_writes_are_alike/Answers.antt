use Rattle.laws.proofs.Differences.{reads_and_writes_are_alike}
use Rattle.laws.proofs.teeth.reads_and_writes_are_alike.Goals as goal

pub returns : goal.returns
returns c = reads_and_writes_are_alike
