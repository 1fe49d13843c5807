use Rattle.std.proofs.Common.{rules, refl}
use Rattle.std.proofs.lemmas.Simd.{pick_l_whole}
use Rattle.chacha20.proofs.block.start.Goals as goal

-- with each list written out the two sides are the same
pub returns : goal.returns
returns c =
    rw (
      c.copy_from_slice-3.ensures.after,
      c.copy_from_slice-2.ensures.after,
      c.copy_from_slice.ensures.after,
      ← pick_l_whole 0 c.args.words.now 16 (search rules),
      ← pick_l_whole 0 c.args.key.now.words 8 (search rules),
      ← pick_l_whole 0 c.args.nonce 3 (search rules),
    ) refl
