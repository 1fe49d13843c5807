-- What a joined store means, from what its parts mean.
use Rattle.store.specs.State.{State}
use Rattle.store.specs.declared.store.Store.{Ghosts}
use Rattle.joined_store.specs.declared.JoinedStore.{JoinedStore}
use Rattle.joined_store.specs.Joined.{joined_state}

abbrev pub state_of : {F S : Type 0} {p : Ghosts F} {q : Ghosts S} → (F → State) → (S → State) → JoinedStore F S p q → State
state_of f g s = joined_state s.width (f s.first) (g s.second) s.meter.served s.meter.trail
