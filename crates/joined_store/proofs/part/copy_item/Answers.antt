use Rattle.std.proofs.Common.{rules}
use Rattle.std.proofs.lemmas.Slice.{overwrites}
use Rattle.joined_store.proofs.part.copy_item.Goals as goal

pub returns-clause-back : goal.returns-clause-back
returns-clause-back g c = search (rules, overwrites)
