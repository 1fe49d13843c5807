use Rattle.keyed_supply.proofs.rounds.Permutation.+even_odd.Given as goal

abbrev pub decreases-even : goal.decreases-even
decreases-even l = l.rounds

abbrev pub decreases-odd : goal.decreases-odd
decreases-odd l = l.rounds
