use Rattle.std.proofs.Common.{rules, length}
use Rattle.joined_store.proofs.Parts.{parted, both_put}
use Rattle.joined_store.proofs.JoinedStoreStore.put.Goals as goal

pub put-requires : goal.put-requires
put-requires g c =
    let j = c.args.self.now in
    let h = parted j.width (g.F.Store.state j.first) (g.S.Store.state j.second) c.args.places.now (length c.args.keys.now) (length c.args.bytes.now) (search rules) in
    search rules

pub put-requires-2 : goal.put-requires-2
put-requires-2 g c =
    let j = c.args.self.now in
    let h = parted j.width (g.F.Store.state j.first) (g.S.Store.state j.second) c.args.places.now (length c.args.keys.now) (length c.args.bytes.now) (search rules) in
    search rules

pub returns-clause-state : goal.returns-clause-state
returns-clause-state g c =
    let j = c.args.self.now in
    let h = parted j.width (g.F.Store.state j.first) (g.S.Store.state j.second) c.args.places.now (length c.args.keys.now) (length c.args.bytes.now) (search rules) in
    let first = rw (c.both.ensures.first, c.places-2.ensures) at c.put.ensures in
    let second = rw (c.both.ensures.second, c.places-2.ensures) at c.put-2.ensures in
    both_put _ _ _ _ _ _ c.args.keys.now c.args.bytes.now h first second c.run.ensures.served c.run.ensures.trail
