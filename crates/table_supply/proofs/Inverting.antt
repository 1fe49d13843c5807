-- Inverting one part after another.
use Rattle.std.specs.Prelude.{◌≡◌, ℕ, suc, ◌+◌, ◌<◌, ◌≤◌, ◌⊎◌, List, length, take, drop, ◌≢◌, slice_index, refl}
use Rattle.std.proofs.Common.{inl, inr, sym, ap, subst, ◌∙◌, arith}
use Rattle.std.proofs.lemmas.Bool.{cases_eq}
use Rattle.permutations.specs.Tables.{IsPermutation, position}
use Rattle.table_supply.specs.Table.{part_slots, slots_before, part, Permuted}
use Rattle.table_supply.specs.Inverses.{Inverse, Unnoted, Inverted}
use Rattle.table_supply.proofs.Sums.{before_more, part_inside}

-- the parts of the first b builds are done
pub record Inverting (L : ℕ) (slots indices : List ℕ) (b start : ℕ) : Type 0 where
  pub started : start ≡ slots_before L b
  pub beside : length indices ≡ length slots
  pub permuted : Permuted L slots b
  pub inverse : Inverse L slots b indices
  pub unnoted : Unnoted indices start (length slots)

pub inverting_none : (L : ℕ) (slots indices : List ℕ) → length indices ≡ length slots → Unnoted indices 0 (length slots) → Inverting L slots indices 0 0
unfolding slots_before
inverting_none L slots indices e h = record {
  started = refl;
  beside = e;
  permuted = λ b k. absurd (omega arith);
  inverse = λ b s k. absurd (omega (arith, k.0));
  unnoted = h;
}

pub inverting_more : (L : ℕ) (slots old new : List ℕ) (b start size : ℕ) → Inverting L slots old b start → size ≡ part_slots L b → length new ≡ length old → Inverted size (take size (drop start slots)) new start → ((k : ℕ) → (k < start) ⊎ (start + size ≤ k) → slice_index new k ≡ slice_index old k) → Inverting L slots new (b + 1) (start + size)
inverting_more L slots old new b start size done e f (is, inverse) others = record {
  started = omega (arith, done.started, before_more L b, ap (slots_before L) {x = b + 1} {y = suc b} (omega arith));
  beside = f ∙ done.beside;
  permuted = λ c k. permuted c (cases_eq c b) k;
  inverse = λ c s k. inversed c s (cases_eq c b) k.0 k.1;
  unnoted = λ k low high. others k (inr low) ∙ done.unnoted k (omega arith) high;
}
  where
    here : take size (drop start slots) ≡ part L slots b
    here = ap (λ (n : ℕ). take n (drop start slots)) e ∙ ap (λ (n : ℕ). take (part_slots L b) (drop n slots)) done.started

    permuted : (c : ℕ) → (c ≡ b) ⊎ (c ≢ b) → c < b + 1 → IsPermutation (part_slots L c) (part L slots c)
    permuted c (inl g) k =
        subst (λ (x : ℕ). IsPermutation (part_slots L x) (part L slots x)) (sym g)
        (subst (λ (n : ℕ). IsPermutation n (part L slots b)) e (subst (λ (xs : List ℕ). IsPermutation size xs) here is))
    permuted c (inr g) k = done.permuted c (omega arith)

    inversed : (c s : ℕ) → (c ≡ b) ⊎ (c ≢ b) → c < b + 1 → s < part_slots L c → slice_index new (slots_before L c + s) ≡ position (part L slots c) s
    inversed c s (inl g) k l =
        let m : s < size = omega (arith, ap (part_slots L) g) in
        ap (λ (x : ℕ). slice_index new (slots_before L x + s)) g ∙ ap (λ (x : ℕ). slice_index new (x + s)) (sym done.started) ∙ inverse s m
        ∙ ap (λ (xs : List ℕ). position xs s) here ∙ ap (λ (x : ℕ). position (part L slots x) s) (sym g)
    inversed c s (inr g) k l =
        others (slots_before L c + s) (inl (omega (arith, part_inside L c b (omega arith), done.started))) ∙ done.inverse c s (omega arith, l)
