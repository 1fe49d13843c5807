use Rattle.std.proofs.Common.{rules}
use Rattle.keyed_supply.proofs.Joined.{back_joined, back_fits}
use Rattle.keyed_supply.proofs.rounds.Permutation.back.Goals as goal

pub join-requires : goal.join-requires
join-requires c = search (rules, back_fits)

pub returns : goal.returns
returns c = search (rules, back_joined)
