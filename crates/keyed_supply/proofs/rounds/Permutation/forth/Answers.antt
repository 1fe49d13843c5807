use Rattle.std.proofs.Common.{rules}
use Rattle.keyed_supply.proofs.Joined.{forth_joined, forth_fits}
use Rattle.keyed_supply.proofs.rounds.Permutation.forth.Goals as goal

pub join-requires : goal.join-requires
join-requires c = search (rules, forth_fits)

pub returns : goal.returns
returns c = search (rules, forth_joined)
