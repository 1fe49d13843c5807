-- The list that a row of bits stands for: its members rise, are addresses, and are no more than it has room for.
use Rattle.std.specs.Prelude.{ℕ, ◌^◌, ◌<◌, ◌≤◌, Bool, List, length, filter, slice_index}
use Rattle.std.proofs.Common.{arith}
use Rattle.std.specs.List.{range_with_len, All, AllPairs}
use Rattle.std.proofs.lemmas.List.FromFn.{length-range_with_len, get_or-range_with_len}
use Rattle.std.proofs.lemmas.List.Elements.{All-from_get_or, All-filter}
use Rattle.std.proofs.lemmas.List.Kept.{AllPairs-filter}
use Rattle.index.specs.Lists.{Rising}
use Rattle.index.specs.RowLists.{row_takes}
use Rattle.bitmap_index.specs.Bitmap.{bit_of, members}
use Rattle.bitmap_index.specs.declared.row.BitmapRow.{BitmapRow}

-- the list of a row
abbrev pub list_of : BitmapRow → List ℕ
list_of r = members (2 ^ r.levels.number) r.words.items

-- a row takes a
abbrev pub takes : BitmapRow → ℕ → Bool
takes r a = row_takes (list_of r) (2 ^ r.levels.number) (2 ^ r.level.number) a

-- ---- what an index asks of it

range_rises : (n : ℕ) → AllPairs (λ x y. x < y) (range_with_len 0 n)
range_rises n i j d h l =
    let m : j < n = omega (arith, length-range_with_len 0 n) in
    omega (arith, get_or-range_with_len 0 n i d (omega arith), get_or-range_with_len 0 n j d m)

kept_inside : (p : ℕ → Bool) (n : ℕ) → All (λ x. x < n) (filter p (range_with_len 0 n))
kept_inside p n = All-filter p (λ x. x < n) (range_with_len 0 n) below
  where
    below : All (λ x. x < n) (range_with_len 0 n)
    below = All-from_get_or (λ x. x < n) (range_with_len 0 n) 0 (λ k l. let m : k < n = omega (arith, length-range_with_len 0 n) in omega (arith, get_or-range_with_len 0 n k 0 m))

pub kept_below : (p : ℕ → Bool) (n i : ℕ) → i < length (filter p (range_with_len 0 n)) → slice_index (filter p (range_with_len 0 n)) i < n
kept_below p n i h = kept_inside p n i 0 h

members_rise : (n : ℕ) (ws : List ℕ) → Rising (members n ws)
unfolding members
members_rise n ws i j h l = AllPairs-filter (λ x y. x < y) (bit_of ws) (range_with_len 0 n) (range_rises n) i j 0 h l

members_below : (n : ℕ) (ws : List ℕ) → All (λ a. a < n) (members n ws)
unfolding members
members_below n ws = kept_inside (bit_of ws) n

pub list_rises : (r : BitmapRow) → Rising (list_of r)
list_rises r = members_rise (2 ^ r.levels.number) r.words.items

pub list_below : (r : BitmapRow) → All (λ a. a < 2 ^ r.levels.number) (list_of r)
list_below r = members_below (2 ^ r.levels.number) r.words.items

pub list_fits : (r : BitmapRow) → length (list_of r) ≤ 2 ^ r.level.number
list_fits r = omega (arith, r.counted, r.few)
