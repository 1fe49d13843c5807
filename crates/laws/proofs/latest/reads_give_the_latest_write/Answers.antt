use Rattle.laws.proofs.Bytes.{reads_give_the_latest_write}
use Rattle.laws.proofs.latest.reads_give_the_latest_write.Goals as goal

pub returns : goal.returns
returns c = reads_give_the_latest_write
