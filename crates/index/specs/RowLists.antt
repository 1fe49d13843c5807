-- Rows, each with the list of one level, and why their lists are lawful.
use Rattle.std.proofs.Common.{◌≡◌, ℕ, ◌^◌, ◌<◌, ◌≤◌, Bool, ◌&&◌, cond, nat_lt, List, [], ◌∷◌, map, length, get_or, replicate, Option, Some, None, sym, ap, ◌∙◌, arith, pow_mono}
use Rattle.std.specs.List.{All, range_with_len}
use Rattle.std.proofs.lemmas.List.{length-map, get_or-map, get_or-replicate}
use Rattle.std.proofs.lemmas.List.FromFn.{length-map-range_with_len, get_or-map-range_with_len}
use Rattle.index.specs.Lists.{list_at, has, smaller, above, Rising, Lawful}

-- the rank of an address in one list
abbrev pub rank_in : List ℕ → ℕ → Option ℕ
rank_in xs a = cond (has xs a) (Some (smaller xs a)) None

-- a row takes a: a is below the bound and above its members, and there is room
abbrev pub row_takes : List ℕ → ℕ → ℕ → ℕ → Bool
row_takes xs bound room a = nat_lt a bound && (above xs a && nat_lt (length xs) room)

-- the first n powers of 2
abbrev pub powers : ℕ → List ℕ
powers n = map (λ l. 2 ^ l) (range_with_len 0 n)

pub blocks_small : (L : ℕ) → L ≤ 12 → 2 ^ L ≤ 4096
blocks_small L h = pow_mono h

-- ---- rows with a list, a bound and a room each

module _ {R : Type 0} where
  pub list_is : (list : R → List ℕ) (rows : List R) (l : ℕ) (r : R) → l < length rows → list_at (map list rows) l ≡ list (get_or rows l r)
  list_is list rows l r h = get_or-map list rows l r [] h

  pub rows_number : (room : R → ℕ) (L : ℕ) (rows : List R) → map room rows ≡ powers L → length rows ≡ L
  rows_number room L rows rooms = sym (length-map rows room) ∙ ap length rooms ∙ length-map-range_with_len (λ l. 2 ^ l) 0 L

  pub room_is : (room : R → ℕ) (L : ℕ) (rows : List R) (l : ℕ) (r : R) → map room rows ≡ powers L → l < length rows → room (get_or rows l r) ≡ 2 ^ l
  room_is room L rows l r rooms h = grind (arith, rooms, rows_number room L rows rooms, get_or-map room rows l r 0 h, get_or-map-range_with_len (λ l. 2 ^ l) 0 L l l 0)

  pub bound_is : (bound : R → ℕ) (L : ℕ) (rows : List R) (l : ℕ) (r : R) → map bound rows ≡ replicate L (2 ^ L) → l < L → l < length rows → bound (get_or rows l r) ≡ 2 ^ L
  bound_is bound L rows l r bounds h i = grind (arith, bounds, get_or-map bound rows l r 0 i, get_or-replicate L l (2 ^ L) 0 h)

pub rows_lawful : {R : Type 0} (list : R → List ℕ) (bound room : R → ℕ)
    → ((r : R) → Rising (list r)) → ((r : R) → All (λ a. a < bound r) (list r)) → ((r : R) → length (list r) ≤ room r)
    → (L : ℕ) (rows : List R) → 1 ≤ L → L ≤ 12 → map room rows ≡ powers L → map bound rows ≡ replicate L (2 ^ L) → Lawful (map list rows)
rows_lawful list bound room rises below fits L [] low high rooms bounds = absurd (omega (arith, rows_number room L [] rooms))
rows_lawful list bound room rises below fits L (first ∷ rest) low high rooms bounds =
    let rows = first ∷ rest in
    let n : length (map list rows) ≡ L = length-map rows list ∙ rows_number room L rows rooms in
    let inner : (l : ℕ) → l < length (map list rows) → l < length rows = λ l h. omega (arith, n, rows_number room L rows rooms) in
    record {
      levels_low = omega arith;
      levels_high = omega arith;
      rises = λ l h. rw (list_is list rows l first (inner l h)) (rises (get_or rows l first));
      addresses = λ l p h. let r = get_or rows l first in rw (list_is list rows l first (inner l h), n, ← bound_is bound L rows l first bounds (omega (arith, n)) (inner l h)) (below r p 0);
      sizes = λ l h. let r = get_or rows l first in omega (arith, ap length (list_is list rows l first (inner l h)), fits r, room_is room L rows l first rooms (inner l h));
    }
