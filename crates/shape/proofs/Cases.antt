-- An answer is of one case only.
use Rattle.std.proofs.Common.{◌≡◌, ℕ, Bool, true, false, cond, Ok, Err, Result, sym, refl, arith}

pub not_both : {X E : Type 0} {a : Result X E} {x : X} {e : E} → Err e ≡ a → a ≡ Ok x → ⊥
not_both p q = let z : ◌≡◌ {A = ℕ} 0 1 = cc in omega arith

pub same_ok : {X E : Type 0} {a : Result X E} {x y : X} → Ok x ≡ a → a ≡ Ok y → x ≡ y
same_ok p q = cc

-- a check that was passed
pub passed : {X E : Type 0} (b : Bool) (e : E) {r : Result X E} {x : X} → Ok x ≡ cond b r (Err e) → (b ≡ true) × (Ok x ≡ r)
passed true e p = (refl, p)
passed false e p = absurd (not_both (sym p) refl)
