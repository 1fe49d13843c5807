-- After a load: level L is occupied, and nothing is asked.
use Rattle.std.proofs.Common.{◌≡◌, ℕ, zero, suc, ◌+◌, ◌^◌, ◌<◌, ◌≤◌, true, false, List, [], ◌∷◌, ◌++◌, length, set, replicate, None, sym, refl, ap, subst, arith}
use Rattle.std.specs.List.{range_with_len}
use Rattle.std.proofs.lemmas.List.FromFn.{length-range_with_len}
use Rattle.shape.specs.Numbers.{blocks}
use Rattle.permutations.specs.Scripts.{Act, mark, asked_of}
use Rattle.rules.specs.World.{Level, vacant}
use Rattle.rules.specs.Opening.{opened}
use Rattle.rules.specs.Loading.{loaded_level, loaded_client}
use Rattle.rules.specs.Rebuilding.{listed, rebuilt_level}
pub use Rattle.laws.proofs.Booleans.{none_not_some}
use Rattle.laws.proofs.Scripts.{Mark, loads}
use Rattle.laws.proofs.Invariant.{Fits, Ready}
use Rattle.laws.proofs.Fresh.{counting_rises, counting_below, listed_push_vacant, fresh_used}

loaded_is : (L : ℕ) → loaded_level L ≡ rebuilt_level (range_with_len 0 (blocks L)) 0
loaded_is L =
    ap (λ (c : ℕ). record { occupied = true; members = range_with_len 0 (blocks L); counter = c; build = 0 }) (sym (length-range_with_len 0 (blocks L)))

-- levels below L stay vacant
loaded_fits : (L : ℕ) (s : List (Act Mark)) → ((b : ℕ) → asked_of b s ≡ []) → (more l : ℕ) (lower : List Level) → l + more ≡ L →
    ((x : ℕ) → listed lower x ≡ false) →
    Fits L 0 None s more l 0 lower (set (replicate (suc more) vacant) more (rebuilt_level (range_with_len 0 (blocks L)) 0))
loaded_fits L s unasked zero l lower e none = (
  fresh_used L 0 l s lower (range_with_len 0 (blocks L)) (counting_rises (blocks L)) (counting_below (blocks L))
      (let e' : L ≡ l = omega arith in subst (λ i. length (range_with_len 0 (blocks L)) ≤ 2 ^ i) e' (omega (arith, length-range_with_len 0 (blocks L)))) (unasked 0) none,
  omega arith,
  refl,
  refl,
)
loaded_fits L s unasked (suc more) l lower e none =
    (refl, loaded_fits L s unasked more (suc l) (lower ++ (vacant ∷ [])) (omega arith) (λ x. listed_push_vacant lower x (none x)))

pub load_ready : (L W K : ℕ) → 0 < K → Ready L K 0 None (mark loads ∷ []) (loaded_client (opened L W None))
load_ready L W K some = record {
  unrefused = refl;
  top = refl;
  number = refl;
  accesses = refl;
  held = refl;
  held_address = λ a e. absurd (none_not_some a e);
  builds_left = some;
  levels = subst (λ v. Fits L 0 None (mark loads ∷ []) L 0 0 [] (set (replicate (suc L) vacant) L v)) (sym (loaded_is L))
      (loaded_fits L (mark loads ∷ []) (λ b. refl) L 0 [] (omega arith) (λ x. refl));
  sound = (tt, tt);
  later_unasked = λ b l. refl;
}
