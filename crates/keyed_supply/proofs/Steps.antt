-- One round more, by how many are left.
use Rattle.std.proofs.Common.{◌≡◌, ℕ, zero, suc, ◌-◌, ◌<◌, refl, ap, arith}
use Rattle.keyed_supply.specs.Rounds.{Network, left_changed, right_changed, from_even, from_odd, back_even, back_odd}

module _ (net : Network) where
  pub even_none : (n l r : ℕ) → n ≡ 0 → from_even net n l r ≡ (l, r)
  unfolding from_even
  even_none n l r p = ap (λ (k : ℕ). from_even net k l r) p

  pub odd_none : (n l r : ℕ) → n ≡ 0 → from_odd net n l r ≡ (l, r)
  unfolding from_odd
  odd_none n l r p = ap (λ (k : ℕ). from_odd net k l r) p

  pub even_back_none : (n l r : ℕ) → n ≡ 0 → back_even net n l r ≡ (l, r)
  unfolding back_even
  even_back_none n l r p = ap (λ (k : ℕ). back_even net k l r) p

  pub odd_back_none : (n l r : ℕ) → n ≡ 0 → back_odd net n l r ≡ (l, r)
  unfolding back_odd
  odd_back_none n l r p = ap (λ (k : ℕ). back_odd net k l r) p

  pub even_more : (n l r : ℕ) → 0 < n → from_even net n l r ≡ from_odd net (n - 1) (left_changed net (8 - n) l r) r
  unfolding from_even
  even_more zero l r h = absurd (omega arith)
  even_more (suc n) l r h = let m : suc n - 1 ≡ n = omega arith in let i : 8 - suc n ≡ 7 - n = omega arith in rw (m, i) refl

  pub odd_more : (n l r : ℕ) → 0 < n → from_odd net n l r ≡ from_even net (n - 1) l (right_changed net (8 - n) l r)
  unfolding from_odd
  odd_more zero l r h = absurd (omega arith)
  odd_more (suc n) l r h = let m : suc n - 1 ≡ n = omega arith in let i : 8 - suc n ≡ 7 - n = omega arith in rw (m, i) refl

  pub even_back_more : (n l r : ℕ) → 0 < n → back_even net n l r ≡ back_odd net (n - 1) (left_changed net (n - 1) l r) r
  unfolding back_even
  even_back_more zero l r h = absurd (omega arith)
  even_back_more (suc n) l r h = let m : suc n - 1 ≡ n = omega arith in rw m refl

  pub odd_back_more : (n l r : ℕ) → 0 < n → back_odd net n l r ≡ back_even net (n - 1) l (right_changed net (n - 1) l r)
  unfolding back_odd
  odd_back_more zero l r h = absurd (omega arith)
  odd_back_more (suc n) l r h = let m : suc n - 1 ≡ n = omega arith in rw m refl

pub ruleset steps = (even_none, odd_none, even_back_none, odd_back_none, even_more, odd_more, even_back_more, odd_back_more)
