use Rattle.laws.proofs.EntryCounts.{rebuild_entries_fill}
use Rattle.laws.proofs.refusals.rebuild_entries_fill_the_room.Goals as goal

pub returns : goal.returns
returns c = rebuild_entries_fill
