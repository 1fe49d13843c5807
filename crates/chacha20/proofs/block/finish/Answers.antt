use Rattle.std.proofs.Common.{rules, refl, sym}
use Rattle.std.proofs.lemmas.Simd.{pick_l_whole}
use Rattle.chacha20.proofs.block.finish.Goals as goal

-- with each list written out the two sides are the same
pub returns : goal.returns
returns c =
    let words = sym (pick_l_whole 0 c.args.words.now 16 (search rules)) in
    let key = rw (c.add.ensures, words, ← pick_l_whole 0 c.args.key.now.words 8 (search rules)) at c.add-2.ensures in
    rw (c.add-3.ensures, key, c.add.ensures, words, ← pick_l_whole 0 c.args.nonce 3 (search rules)) refl
