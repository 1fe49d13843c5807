-- A level that was just built: nothing of it is touched, and nothing asked.
use Rattle.std.proofs.Common.{◌≡◌, ℕ, ◌^◌, ◌<◌, ◌≤◌, Bool, true, false, cond, ◌||◌, ltb, List, [], ◌∷◌, ◌++◌, length, get_or, None, sym, refl, ap, ◌∙◌, arith}
use Rattle.std.specs.List.{range_with_len}
use Rattle.std.proofs.lemmas.List.FromFn.{length-range_with_len, get_or-range_with_len}
use Rattle.shape.specs.Numbers.{blocks}
use Rattle.index.specs.Lists.{has, Rising}
use Rattle.permutations.specs.Lists.{among}
use Rattle.permutations.specs.Scripts.{Act, asked_of}
use Rattle.rules.specs.World.{Level, vacant}
use Rattle.rules.specs.Rebuilding.{listed, rebuilt_level}
use Rattle.laws.proofs.Booleans.{or_false, or_assoc}
use Rattle.laws.proofs.Scripts.{Mark}
use Rattle.laws.proofs.Invariant.{is_touched, Used}

-- ---- lists of levels

-- one level more
pub listed_push : (lower : List Level) (v : Level) (x : ℕ) → listed (lower ++ (v ∷ [])) x ≡ (listed lower x || has v.members x)
listed_push [] v x = or_false (has v.members x)
listed_push (u ∷ lower) v x =
    ap (λ b. has u.members x || b) (listed_push lower v x) ∙ sym (or_assoc (has u.members x) (listed lower x) (has v.members x))

pub listed_push_vacant : (lower : List Level) (x : ℕ) → listed lower x ≡ false → listed (lower ++ (vacant ∷ [])) x ≡ false
listed_push_vacant lower x e = listed_push lower vacant x ∙ ap (λ b. b || false) e

-- ---- all addresses

pub counting_rises : (n : ℕ) → Rising (range_with_len 0 n)
counting_rises n i j l m =
    let m' : j < n = omega (arith, length-range_with_len 0 n) in
    omega (arith, get_or-range_with_len 0 n i 0 (omega arith), get_or-range_with_len 0 n j 0 m')

pub counting_below : (n j : ℕ) → j < length (range_with_len 0 n) → get_or (range_with_len 0 n) j 0 < n
counting_below n j l =
    let m : j < n = omega (arith, length-range_with_len 0 n) in
    omega (arith, get_or-range_with_len 0 n j 0 m)

-- ---- the level

fresh_untouched : (lower : List Level) (xs : List ℕ) (t j : ℕ) → ((x : ℕ) → listed lower x ≡ false) → is_touched None lower (rebuilt_level xs t) j ≡ false
fresh_untouched lower xs t j none = by (ltb j (length xs))
  where
    by : (b : Bool) → cond b (listed lower (get_or xs j 0)) b ≡ false
    by true = none (get_or xs j 0)
    by false = refl

pub fresh_used : (L t l : ℕ) (s : List (Act Mark)) (lower : List Level) (xs : List ℕ) → Rising xs → ((j : ℕ) → j < length xs → get_or xs j 0 < blocks L) →
    length xs ≤ 2 ^ l → asked_of t s ≡ [] → ((x : ℕ) → listed lower x ≡ false) → Used L t l None s lower (rebuilt_level xs t)
fresh_used L t l s lower xs rises below few unasked none = record {
  occupied = refl;
  rising = rises;
  addresses = below;
  few = few;
  counter_low = omega arith;
  counter_high = omega arith;
  asked_count = omega (arith, ap length unasked);
  asked_touched = λ j m. ap (λ xs. among xs j) unasked ∙ sym (fresh_untouched lower xs t j none);
}
