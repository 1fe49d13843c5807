use Rattle.keyed_supply.proofs.rounds.Permutation.+even_back_odd_back.Given as goal

abbrev pub decreases-even_back : goal.decreases-even_back
decreases-even_back l = l.rounds

abbrev pub decreases-odd_back : goal.decreases-odd_back
decreases-odd_back l = l.rounds
