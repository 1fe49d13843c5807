use Rattle.std.proofs.Common.{arith}
use Rattle.oram.proofs.Loads.{dummy_loaded}
use Rattle.oram.proofs.load.Blocks.slot.Goals as goal

pub returns-else-index-blocks-clause-slot : goal.returns-else-index-blocks-clause-slot
returns-else-index-blocks-clause-slot c =
    let b = c.args.self.now in
    dummy_loaded b.dimensions.levels.number b.dimensions.width b.bytes.now b.zeros.now c.args.index c.key_of_dummy.result (omega arith) b.dimensions.narrow c.key_of_dummy.ensures b.blank
