use Rattle.std.proofs.Common.{◌≡◌, map}
use lib.Seq.{sets}
use Rattle.std.specs.List.{range_with_len}
use Rattle.store.specs.Requests.{ran, entries}
use Rattle.oram.specs.Loading.{load_request}
use Rattle.oram.proofs.load.load_level.Given as goal

-- the rounds of the slots so far are made
abbrev pub invariant-loop-slot : goal.invariant-loop-slot
invariant-loop-slot g l =
    let c = g.P.Supply.choice l.initial.supply in
    let rs = map (load_request l.blocks.dimensions.levels.number l.blocks.dimensions.width c l.blocks.bytes.now) (range_with_len 0 l.slot) in
    (g.S.Store.state l.store ≡ ran (g.S.Store.state l.initial.store) rs)
    × (g.P.Supply.choice l.supply ≡ c)
    × (l.trace ≡ sets l.initial.trace 0 (entries rs))
