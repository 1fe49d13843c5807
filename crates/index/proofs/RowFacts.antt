-- What the methods of an index of rows rest on: what becomes of the lists when one row changes or is added.
use Rattle.std.proofs.Common.{◌≡◌, ℕ, ◌+◌, ◌^◌, ◌<◌, true, false, if◌then◌else◌, List, [], ◌∷◌, ◌++◌, Bool, map, length, get_or, set, replicate, sym, ap, ◌∙◌, arith}
use Rattle.std.proofs.Math.Seq.{map-set_same}
use Rattle.std.proofs.lemmas.List.{length-map, map-set, map_push, replicate_more}
use Rattle.std.proofs.lemmas.List.FromFn.{map-range_with_len_more}
use Rattle.std.proofs.lemmas.Bool.Decides.{nat_tests}
use Rattle.index.specs.Lists.{takes, appended}
use Rattle.index.specs.RowLists.{powers, row_takes, list_is, rows_number, room_is, bound_is}

module _ {R : Type 0} (list : R → List ℕ) where
  pub lists_number : (room : R → ℕ) (L : ℕ) (rows : List R) → map room rows ≡ powers L → L ≡ length (map list rows)
  lists_number room L rows rooms = sym (length-map rows list ∙ rows_number room L rows rooms)

  pub takes_is : (bound room : R → ℕ) (L : ℕ) (rows : List R) (l a : ℕ) (r : R) → map room rows ≡ powers L → map bound rows ≡ replicate L (2 ^ L) → l < length rows → r ≡ get_or rows l r → takes (map list rows) l a ≡ row_takes (list r) (bound r) (room r) a
  takes_is bound room L rows l a r rooms bounds h e = grind (arith, nat_tests, e, rows_number room L rows rooms, bound_is bound L rows l r bounds (omega (arith, rows_number room L rows rooms)) h, lists_number room L rows rooms, list_is list rows l r h, room_is room L rows l r rooms h)

  pub lists_append : (rows : List R) (l a : ℕ) (r new : R) (b : Bool) → l < length rows → r ≡ get_or rows l r → list new ≡ (if b then list r ++ a ∷ [] else list r) → map list (set rows l new) ≡ (if b then appended (map list rows) l a else map list rows)
  lists_append rows l a r new true h e more =
      map-set list rows l new
      ∙ ap (set (map list rows) l) (more ∙ ap (λ (xs : List ℕ). xs ++ a ∷ []) (ap list e ∙ sym (list_is list rows l r h)))
  lists_append rows l a r new false h e same = map-set_same list rows l new r (same ∙ ap list e)

  pub lists_clear : (rows : List R) (l : ℕ) (new : R) → list new ≡ [] → map list (set rows l new) ≡ set (map list rows) l []
  lists_clear rows l new e = map-set list rows l new ∙ ap (set (map list rows) l) e

  pub lists_more : (rows new : List R) (n : ℕ) (r : R) → map list rows ≡ replicate n [] → new ≡ rows ++ r ∷ [] → list r ≡ [] → map list new ≡ replicate (n + 1) []
  lists_more rows new n r empty e none = grind (arith, empty, e, none, map_push list rows r, replicate_more {X = List ℕ} n [])

-- rooms and bounds
module _ {R : Type 0} (f : R → ℕ) where
  pub numbers_kept : (rows : List R) (l : ℕ) (r new : R) (xs : List ℕ) → map f rows ≡ xs → r ≡ get_or rows l r → f new ≡ f r → map f (set rows l new) ≡ xs
  numbers_kept rows l r new xs all e same = map-set_same f rows l new r (same ∙ ap f e) ∙ all

  pub rooms_more : (rows new : List R) (n : ℕ) (r : R) → map f rows ≡ powers n → new ≡ rows ++ r ∷ [] → f r ≡ 2 ^ n → map f new ≡ powers (n + 1)
  rooms_more rows new n r all e own = grind (arith, all, e, own, map_push f rows r, map-range_with_len_more (λ l. 2 ^ l) 0 n n)

  pub bounds_more : (rows new : List R) (n b : ℕ) (r : R) → map f rows ≡ replicate n b → new ≡ rows ++ r ∷ [] → f r ≡ b → map f new ≡ replicate (n + 1) b
  bounds_more rows new n b r all e own = grind (arith, all, e, own, map_push f rows r, replicate_more n b)

pub ruleset rows_facts = (lists_number, takes_is, lists_append, lists_clear, lists_more, numbers_kept, rooms_more, bounds_more)
