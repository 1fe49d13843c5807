use Rattle.laws.proofs.Bytes.{rebuilds_keep_every_block}
use Rattle.laws.proofs.latest.rebuilds_keep_every_block.Goals as goal

pub returns : goal.returns
returns c = rebuilds_keep_every_block
