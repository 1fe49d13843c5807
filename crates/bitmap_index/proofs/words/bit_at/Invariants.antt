use Rattle.std.proofs.Common.{◌≡◌, drop}
use Rattle.bitmap_index.specs.Bitmap.{places_of}
use Rattle.bitmap_index.proofs.words.bit_at.Given as goal

-- each turn drops the lowest place
abbrev pub invariant-loop : goal.invariant-loop
invariant-loop l = places_of l.rest ≡ drop l.counter (places_of l.word)
