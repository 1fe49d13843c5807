-- Going through the lists of an index to see that all are empty.
use Rattle.std.proofs.Common.{◌≡◌, ℕ, ◌+◌, ◌<◌, ◌≤◌, true, false, eqb, List, [], length, drop, refl}
use Rattle.std.proofs.lemmas.List.{drop_more, drop_all}
use Rattle.index.specs.Lists.{list_at}
use Rattle.oram.specs.Fitting.{all_empty}

pub all_empty_more : (lists : List (List ℕ)) (l : ℕ) → l < length lists → eqb (length (list_at lists l)) 0 ≡ true → all_empty (drop (l + 1) lists) ≡ all_empty (drop l lists)
all_empty_more lists l h e = rw (drop_more lists l [] h, e) refl

pub all_empty_fails : (lists : List (List ℕ)) (l : ℕ) → l < length lists → eqb (length (list_at lists l)) 0 ≡ false → all_empty (drop l lists) ≡ false
all_empty_fails lists l h e = rw (drop_more lists l [] h, e) refl

pub all_empty_all : (lists : List (List ℕ)) (l : ℕ) → length lists ≤ l → all_empty (drop l lists) ≡ true
all_empty_all lists l h = rw (drop_all l lists h) refl
