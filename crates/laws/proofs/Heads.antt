-- What the invariant says of one level below L, by the parity of q.
use Rattle.std.proofs.Common.{◌≡◌, ℕ, ◌*◌, ◌%◌, ◌^◌, cond, eqb, List, Option, sym, subst}
use Rattle.permutations.specs.Scripts.{Act}
use Rattle.rules.specs.World.{Level, vacant}
use Rattle.laws.proofs.Scripts.{Mark}
use Rattle.laws.proofs.Invariant.{Used}
use Rattle.laws.proofs.Schedule.{odd_tests, even_tests}

module _ (L t l q : ℕ) (h : Option ℕ) (s : List (Act Mark)) (lower : List Level) (v : Level) where
  -- what the invariant says of level l below L
  abbrev pub Head : Type 0
  Head = cond (eqb (q % 2) 1) (Used L t l h s lower v × (v.build ≡ q * 2 ^ l)) (v ≡ vacant)

  pub odd_part : q % 2 ≡ 1 → Head → Used L t l h s lower v × (v.build ≡ q * 2 ^ l)
  odd_part odd c = subst (λ b. cond b (Used L t l h s lower v × (v.build ≡ q * 2 ^ l)) (v ≡ vacant)) (odd_tests q odd) c

  pub even_part : q % 2 ≡ 0 → Head → v ≡ vacant
  even_part even c = subst (λ b. cond b (Used L t l h s lower v × (v.build ≡ q * 2 ^ l)) (v ≡ vacant)) (even_tests q even) c

  pub odd_put : q % 2 ≡ 1 → Used L t l h s lower v × (v.build ≡ q * 2 ^ l) → Head
  odd_put odd c = subst (λ b. cond b (Used L t l h s lower v × (v.build ≡ q * 2 ^ l)) (v ≡ vacant)) (sym (odd_tests q odd)) c

  pub even_put : q % 2 ≡ 0 → v ≡ vacant → Head
  even_put even c = subst (λ b. cond b (Used L t l h s lower v × (v.build ≡ q * 2 ^ l)) (v ≡ vacant)) (sym (even_tests q even)) c
