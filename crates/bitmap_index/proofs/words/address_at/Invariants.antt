use Rattle.std.proofs.Common.{◌≡◌, ◌+◌, ◌-◌, ◌*◌, ◌≤◌, length}
use Rattle.bitmap_index.specs.Bitmap.{members}
use Rattle.bitmap_index.proofs.words.address_at.Given as goal

-- the words passed hold as many members as were taken from the position
abbrev pub invariant-loop-i : goal.invariant-loop-i
invariant-loop-i l = (l.left + length (members (64 * l.i) l.row) ≡ l.position) × (l.i ≤ length l.row)

abbrev pub decreases-loop-i : goal.decreases-loop-i
decreases-loop-i l = length l.row - l.i
