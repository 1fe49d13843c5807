-- One row: what a change leaves of its members, and which address it takes.
use Rattle.std.proofs.Common.{◌≡◌, ℕ, zero, suc, ◌+◌, ◌*◌, ◌/◌, ◌%◌, ◌^◌, ◌<◌, ◌≤◌, true, ◌&&◌, ltb, leb, List, [], ◌∷◌, ◌++◌, length, get_or, replicate, sym, refl, ap, ◌∙◌, arith}
use Rattle.std.specs.Vec.{with_items}
use Rattle.std.proofs.lemmas.List.{length-set, length_push, with_items_is}
use Rattle.std.proofs.lemmas.Option.{gets}
use Rattle.index.specs.Lists.{above}
use Rattle.index.specs.RowLists.{blocks_small}
use Rattle.std.proofs.lemmas.Grind.{common_steps}
use Rattle.std.proofs.lemmas.Bool.Decides.{nat_tests}
use Rattle.bitmap_index.specs.Bitmap.{word_bit, bit_of, members, past_last, with_bit}
use Rattle.bitmap_index.specs.Members.{list_of, takes}
use Rattle.bitmap_index.specs.declared.row.BitmapRow.{BitmapRow}
use Rattle.bitmap_index.proofs.Kept.{kept_none, kept_push, above_past_last, past_last_push}
use Rattle.bitmap_index.proofs.Counts.{members_grow, members_more, members_have, members_lack, members_smaller}
use Rattle.bitmap_index.proofs.Bits.{or_sets, or_keeps, zero_clear}

-- ---- a bit is set

with_bit_sets : (ws : List ℕ) (a : ℕ) → a / 64 < length ws → bit_of (with_bit ws a) a ≡ true
unfolding with_bit bit_of
with_bit_sets ws a h = grind (arith, common_steps, or_sets (get_or ws (a / 64) 0) (a % 64))

with_bit_keeps : (ws : List ℕ) (a k : ℕ) → a / 64 < length ws → (k ≡ a → ⊥) → bit_of (with_bit ws a) k ≡ bit_of ws k
unfolding with_bit bit_of
with_bit_keeps ws a k h ne = grind (arith, common_steps, ne, or_keeps (get_or ws (a / 64) 0) (a % 64) (k % 64))

length_with_bit : (ws : List ℕ) (a : ℕ) → length (with_bit ws a) ≡ length ws
unfolding with_bit
length_with_bit ws a = length-set ws (a / 64) _

-- where the address is above every member, it is added at the end
members_with_bit : (n : ℕ) (ws : List ℕ) (a : ℕ) → n ≤ 64 * length ws → a < n → above (members n ws) a ≡ true → members n (with_bit ws a) ≡ members n ws ++ a ∷ []
unfolding members
members_with_bit n ws a wide h over =
    kept_push (bit_of ws) (bit_of (with_bit ws a)) 0 n a (omega arith) (omega arith) (λ k l m ne. with_bit_keeps ws a k (omega arith) ne) (with_bit_sets ws a (omega arith)) over

-- ---- words that are all zero have no members

get_or-zeros : (n i : ℕ) → ◌≡◌ {A = ℕ} (get_or (replicate n 0) i 0) 0
get_or-zeros zero i = refl
get_or-zeros (suc n) zero = refl
get_or-zeros (suc n) (suc i) = get_or-zeros n i

pub members_zeros : (n k : ℕ) (ws : List ℕ) → ws ≡ replicate k 0 → members n ws ≡ []
unfolding members bit_of
members_zeros n k ws e =
    ap (members n) e
    ∙ kept_none (bit_of (replicate k 0)) 0 n (λ a l m. ap (λ (w : ℕ). word_bit w (a % 64)) (get_or-zeros k (a / 64)) ∙ zero_clear (a % 64))

-- ---- whether a row takes an address

-- told by what it keeps beside the words
pub takes_is : (r : BitmapRow) (a : ℕ) → takes r a ≡ (ltb a (2 ^ r.levels.number) && (leb r.next a && ltb r.size (2 ^ r.level.number)))
takes_is r a = rw (above_past_last (list_of r) a, ← r.ended, ← r.counted) refl

record Taken (r : BitmapRow) (a : ℕ) : Type 0 where
  address : a < 2 ^ r.levels.number
  over : above (list_of r) a ≡ true
  room : length (list_of r) < 2 ^ r.level.number

taken : (r : BitmapRow) (a : ℕ) → takes r a ≡ true → Taken r a
taken r a t = record { address = grind (arith, nat_tests, t); over = grind (arith, nat_tests, t); room = grind (arith, nat_tests, t) }

pub takes_address : (r : BitmapRow) (a : ℕ) → takes r a ≡ true → a < 2 ^ r.levels.number
takes_address r a t = (taken r a t).address

pub takes_room : (r : BitmapRow) (a : ℕ) → takes r a ≡ true → length (list_of r) < 2 ^ r.level.number
takes_room r a t = (taken r a t).room

pub takes_last : (r : BitmapRow) (a : ℕ) → takes r a ≡ true → past_last (list_of r ++ a ∷ []) ≡ a + 1
takes_last r a t = grind (arith, nat_tests, above_past_last (list_of r) a, past_last_push (list_of r) a, (taken r a t).over)

-- the members once the bit is set
pub members_pushed : (r : BitmapRow) (a : ℕ) (ws new : List ℕ) → takes r a ≡ true → ws ≡ r.words.items → new ≡ with_bit ws a → members (2 ^ r.levels.number) (with_items r.words new).items ≡ list_of r ++ a ∷ []
members_pushed r a ws new t old e =
    let h = taken r a t in
    let bit : new ≡ with_bit r.words.items a = e ∙ ap (λ (ys : List ℕ). with_bit ys a) old in
    let n : length new ≡ r.words.len = ap length bit ∙ length_with_bit r.words.items a ∙ sym r.words.ok.0 in
    ap (members (2 ^ r.levels.number)) (with_items_is r.words new n ∙ bit)
    ∙ members_with_bit (2 ^ r.levels.number) r.words.items a (omega (arith, r.wide, r.words.ok.0)) h.address h.over

pub counted_pushed : (r : BitmapRow) (a : ℕ) (ws new : List ℕ) → takes r a ≡ true → ws ≡ r.words.items → new ≡ with_bit ws a → r.size + 1 ≡ length (members (2 ^ r.levels.number) (with_items r.words new).items)
counted_pushed r a ws new t old e = omega (arith, r.counted, ap length (members_pushed r a ws new t old e), length_push (list_of r) a)

pub ended_pushed : (r : BitmapRow) (a : ℕ) (ws new : List ℕ) → takes r a ≡ true → ws ≡ r.words.items → new ≡ with_bit ws a → a + 1 ≡ past_last (members (2 ^ r.levels.number) (with_items r.words new).items)
ended_pushed r a ws new t old e = sym (ap past_last (members_pushed r a ws new t old e) ∙ takes_last r a t)

-- what the methods of a row rest on
pub ruleset row_facts = (members_grow, members_more, members_have, members_lack, members_smaller, blocks_small, members_zeros, takes_is, takes_address, takes_room, members_pushed, counted_pushed, ended_pushed, gets)
