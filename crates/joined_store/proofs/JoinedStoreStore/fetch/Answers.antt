use Rattle.std.proofs.Common.{rules, length}
use Rattle.joined_store.proofs.Parts.{parted, keys_filled, bytes_filled, both_fetched}
use Rattle.joined_store.proofs.JoinedStoreStore.fetch.Goals as goal

pub fetch-requires : goal.fetch-requires
fetch-requires g c =
    let j = c.args.self.now in
    let h = parted j.width (g.F.Store.state j.first) (g.S.Store.state j.second) c.args.places.now (length c.args.keys.now) (length c.args.bytes.now) (search rules) in
    search rules

pub fetch-requires-2 : goal.fetch-requires-2
fetch-requires-2 g c =
    let j = c.args.self.now in
    let h = parted j.width (g.F.Store.state j.first) (g.S.Store.state j.second) c.args.places.now (length c.args.keys.now) (length c.args.bytes.now) (search rules) in
    search rules

pub returns-clause-keys : goal.returns-clause-keys
returns-clause-keys g c =
    let j = c.args.self.now in
    let h = parted j.width (g.F.Store.state j.first) (g.S.Store.state j.second) c.args.places.now (length c.args.keys.now) (length c.args.bytes.now) (search rules) in
    rw (c.fetch-2.ensures.keys, c.fetch.ensures.keys, c.both.ensures.first, c.both.ensures.second, c.places-2.ensures) (keys_filled c.args.keys.now h)

pub returns-clause-bytes : goal.returns-clause-bytes
returns-clause-bytes g c =
    let j = c.args.self.now in
    let h = parted j.width (g.F.Store.state j.first) (g.S.Store.state j.second) c.args.places.now (length c.args.keys.now) (length c.args.bytes.now) (search rules) in
    rw (c.fetch-2.ensures.bytes, c.fetch.ensures.bytes, c.both.ensures.first, c.both.ensures.second, c.places-2.ensures)
    (bytes_filled c.args.bytes.now h (g.met.F.Store.wide j.first) (g.met.S.Store.wide j.second))

pub returns-clause-state : goal.returns-clause-state
returns-clause-state g c =
    let j = c.args.self.now in
    let first = rw (c.both.ensures.first, c.places-2.ensures) at c.fetch.ensures.state in
    let second = rw (c.both.ensures.second, c.places-2.ensures) at c.fetch-2.ensures.state in
    both_fetched j.width _ (g.F.Store.state j.first) (g.S.Store.state j.second) _ _ _ _ _ _ c.args.places.now first second c.run.ensures.served c.run.ensures.trail
