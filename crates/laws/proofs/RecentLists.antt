-- The list of an occupied level below L is the set of the addresses of the 2^l accesses up to its build.
use Rattle.std.proofs.Common.{◌≡◌, ℕ, zero, suc, ◌+◌, ◌-◌, ◌*◌, ◌/◌, ◌%◌, ◌^◌, ◌<◌, ◌≤◌, Bool, true, false, ◌||◌, eqb, ltb, ◌⊎◌, List, [], ◌∷◌, ◌++◌, length, get_or, take, drop, Some, filter, Option, sym, refl, ap, ◌∙◌, ap₂, inl, inr, add-zero, zero-add, add-one, arith, pow_mono}
use native.Mathlib.Nat.{pow-zero}
use Rattle.std.specs.List.{range_with_len}
use Rattle.std.proofs.lemmas.List.{length-append, get_or_past, take_more, drop_at}
use Rattle.std.proofs.lemmas.Bool.{cases_lt, lt-ltb, cond-true, false≢true}
use Rattle.shape.specs.Numbers.{blocks, level_of_build}
use Rattle.index.specs.Lists.{has}
use Rattle.permutations.proofs.Members.{eqb_same}
use Rattle.permutations.specs.Scripts.{Act}
use Rattle.rules.specs.World.{Level, Client, vacant}
use Rattle.rules.specs.Checks.{rebuild_level}
use Rattle.rules.specs.Rebuilding.{listed, taken, rebuilt_members, rebuilt_level}
use Rattle.laws.specs.Keeping.{level_at}
use Rattle.laws.proofs.Scripts.{Mark}
use Rattle.laws.proofs.Invariant.{Fits, Ready}
use Rattle.laws.proofs.Schedule.{odd_or_even, level_odd, level_even, next_odd, next_even, next_half_more, whole_half, power_double}
use Rattle.laws.proofs.Ranks.{has_kept, kept_same}
use Rattle.laws.proofs.Fresh.{listed_push}
use Rattle.laws.proofs.Accesses.{odd_part}
use Rattle.laws.proofs.Rebuilds.{held_is}
use Rattle.laws.proofs.Stretches.{or_turn, has_append, stretches_join, stretch_stays}

-- ---- recent addresses

-- the list of level l is the set of the addresses of the 2^l accesses up to its build
abbrev pub ListsRecent : ℕ → List ℕ → ℕ → Level → Type 0
ListsRecent L xs l v =
    (2 ^ l ≤ v.build) × (v.build ≤ length xs) × (v.members ≡ filter (has (take (2 ^ l) (drop (v.build - 2 ^ l) xs))) (range_with_len 0 (blocks L)))

-- where more accesses are made, and the level stays
pub recent_stays : (L : ℕ) (xs ys : List ℕ) (l : ℕ) (u v : Level) → v.build ≡ u.build → v.members ≡ u.members → ListsRecent L xs l u → ListsRecent L (xs ++ ys) l v
recent_stays L xs ys l u v same listing h = (
  omega (arith, same, h.0),
  omega (arith, same, h.1, length-append xs ys),
  listing ∙ h.2
      ∙ ap (λ zs. filter (has zs) (range_with_len 0 (blocks L)))
      (sym (stretch_stays (2 ^ l) (u.build - 2 ^ l) xs ys (omega (arith, h.0, h.1)))
      ∙ ap (λ b. take (2 ^ l) (drop (b - 2 ^ l) (xs ++ ys))) (sym same)),
)

-- xs are the addresses accessed so far
pub record Recent (L : ℕ) (xs : List ℕ) (k : Client) : Type 0 where
  pub counted : length xs ≡ k.accesses
  pub held_last : (a : ℕ) → k.held ≡ Some a → (ys : List ℕ) × (xs ≡ ys ++ (a ∷ []))
  pub lists : (l : ℕ) → l < L → (level_at k l).occupied ≡ true → ListsRecent L xs l (level_at k l)

-- ---- the levels below that of a rebuild

-- where t = (q + 1) * 2^l: the levels from l on below that of build t are occupied, and level l + i was built 2^(l + i) before
low_levels : (L t : ℕ) (h : Option ℕ) (s : List (Act Mark)) (u more l q : ℕ) (lower vs : List Level) → Fits L t h s more l q lower vs → u ≡ suc q * 2 ^ l →
    (i : ℕ) → i < level_of_build more (suc q) → ((get_or vs i vacant).occupied ≡ true) × ((get_or vs i vacant).build + 2 ^ (l + i) ≡ u)
low_levels L t h s u zero l q lower vs fits e i below = absurd (omega arith)
low_levels L t h s u (suc more) l q lower [] fits e i below = absurd fits
low_levels L t h s u (suc more) l q lower (v ∷ vs) fits e i below =
    by (λ g. low_levels L t h s u more (suc l) (q / 2) (lower ++ (v ∷ [])) vs fits.1 g) (odd_or_even q) i below
  where
    by : (u ≡ suc (q / 2) * 2 ^ suc l → (i : ℕ) → i < level_of_build more (suc (q / 2)) → ((get_or vs i vacant).occupied ≡ true) × ((get_or vs i vacant).build + 2 ^ (suc l + i) ≡ u)) →
        (q % 2 ≡ 1) ⊎ (q % 2 ≡ 0) →
        (i : ℕ) → i < level_of_build (suc more) (suc q) → ((get_or (v ∷ vs) i vacant).occupied ≡ true) × ((get_or (v ∷ vs) i vacant).build + 2 ^ (l + i) ≡ u)
    by rest (inl odd) zero below =
        let used = odd_part L t l q h s lower v odd fits.0 in
        (used.0.occupied, ap (λ n. v.build + 2 ^ n) (add-zero l) ∙ omega (arith, used.1))
    by rest (inl odd) (suc i) below =
        let level_is : level_of_build (suc more) (suc q) ≡ suc (level_of_build more (suc (q / 2))) =
        level_even more (suc q) (next_even q odd) ∙ ap (λ n. suc (level_of_build more n)) (next_half_more q odd) in
        let found = rest (whole_half q l u odd e) i (omega (arith, level_is)) in
        (found.0, ap (λ n. (get_or vs i vacant).build + 2 ^ n) (let n : l + suc i ≡ suc l + i = omega arith in n) ∙ found.1)
    by rest (inr even) i below = absurd (omega (arith, level_odd more (suc q) (next_odd q even)))

-- ---- the union of the lower lists

module _ (L t m : ℕ) (xs : List ℕ) (vs : List Level) (some : 1 ≤ t)
    (full : (i : ℕ) → i < m → ((get_or vs i vacant).occupied ≡ true) × ((get_or vs i vacant).build + 2 ^ i ≡ t))
    (recent : (i : ℕ) → i < m → ListsRecent L xs i (get_or vs i vacant)) where
  inside : (i : ℕ) → i < m → i < length vs
  inside i h = by (cases_lt i (length vs))
    where
      by : (i < length vs) ⊎ (length vs ≤ i) → i < length vs
      by (inl l) = l
      by (inr l) = absurd (false≢true (sym (ap (λ v. v.occupied) (get_or_past vs i vacant l)) ∙ (full i h).0))

  pub early_enough : (i : ℕ) → i ≤ m → 2 ^ i ≤ t
  early_enough zero h = omega (arith, pow-zero 2)
  early_enough (suc i) h = omega (arith, power_double i, (full i (omega arith)).1, (recent i (omega arith)).0)

  lower_listed : (i : ℕ) → i ≤ m → (x : ℕ) → x < blocks L → listed (take i vs) x ≡ has (take (2 ^ i - 1) (drop (t - 2 ^ i) xs)) x
  lower_listed zero h x below = refl
  lower_listed (suc i) h x below =
      let v = get_or vs i vacant in
      let p = 2 ^ i in
      let lt : i < m = omega arith in
      let new : List ℕ = take p (drop (t - 2 ^ suc i) xs) in
      let old : List ℕ = take (p - 1) (drop (t - p) xs) in
      let v_lists : has v.members x ≡ has new x =
      ap (λ ys. has ys x) (recent i lt).2 ∙ has_kept (has (take p (drop (v.build - p) xs))) (blocks L) x below
      ∙ ap (λ n. has (take p (drop n xs)) x) (let n : v.build - p ≡ t - 2 ^ suc i = omega (arith, (full i lt).1, power_double i) in n) in
      let joined_is : take (2 ^ suc i - 1) (drop (t - 2 ^ suc i) xs) ≡ new ++ old =
      ap (λ n. take n (drop (t - 2 ^ suc i) xs)) (let n : 2 ^ suc i - 1 ≡ p + (p - 1) = omega (arith, power_double i, pow_mono {i = 0} {j = i} (omega arith), pow-zero 2) in n)
      ∙ stretches_join p (p - 1) (t - 2 ^ suc i) xs
      ∙ ap (λ n. new ++ take (p - 1) (drop n xs)) (let n : t - 2 ^ suc i + p ≡ t - p = omega (arith, power_double i, early_enough (suc i) h) in n) in
      ap (λ us. listed us x) (ap (λ n. take n vs) (sym (add-one i)) ∙ take_more vs i vacant (inside i lt))
      ∙ listed_push (take i vs) v x
      ∙ ap₂ (λ (b c : Bool). b || c) (lower_listed i (omega arith) x below) v_lists
      ∙ or_turn (has old x) (has new x)
      ∙ sym (has_append new old x)
      ∙ ap (λ ys. has ys x) (sym joined_is)

  -- with the held address, which is the last
  pub taken_recent : (a : ℕ) (ys : List ℕ) → xs ≡ ys ++ (a ∷ []) → length xs ≡ t → (x : ℕ) → x < blocks L →
      taken a (take m vs) x ≡ has (take (2 ^ m) (drop (t - 2 ^ m) xs)) x
  taken_recent a ys e counted x below =
      let p = 2 ^ m in
      let low : p ≤ t = early_enough m (omega arith) in
      let one : 1 ≤ p = omega (arith, pow_mono {i = 0} {j = m} (omega arith), pow-zero 2) in
      let ys_count : length ys + 1 ≡ t = omega (arith, counted, ap length e, length-append ys (a ∷ [])) in
      let rest : List ℕ = take (p - 1) (drop (t - p) xs) in
      let last : take 1 (drop (t - p + (p - 1)) xs) ≡ a ∷ [] =
      ap₂ (λ n zs. take 1 (drop n zs)) (let n : t - p + (p - 1) ≡ length ys = omega arith in n) e ∙ ap (take 1) (drop_at ys (a ∷ []) (length ys) refl) in
      let whole : take p (drop (t - p) xs) ≡ rest ++ (a ∷ []) =
      ap (λ n. take n (drop (t - p) xs)) (let n : p ≡ p - 1 + 1 = omega arith in n) ∙ stretches_join (p - 1) 1 (t - p) xs ∙ ap (λ zs. rest ++ zs) last in
      ap₂ (λ (b c : Bool). b || c) (eqb_same x a a x sym sym) (lower_listed m (omega arith) x below)
      ∙ or_turn (eqb a x) (has rest x)
      ∙ ap (λ b. has rest x || b) (or_turn false (eqb a x))
      ∙ sym (has_append rest (a ∷ []) x)
      ∙ ap (λ zs. has zs x) (sym whole)

-- ---- a rebuild

pub rebuilt_recent : (L K r a : ℕ) (s : List (Act Mark)) (k : Client) (xs : List ℕ) → Ready L K r (Some a) s k → Recent L xs k → rebuild_level k < L →
    ListsRecent L xs (rebuild_level k) (rebuilt_level (rebuilt_members k) k.accesses)
rebuilt_recent L K r a s k xs ready recent low =
    (early_enough L t m xs vs some full lists m (omega arith), omega (arith, recent.counted), members_are)
  where
    m : ℕ
    m = rebuild_level k

    t : ℕ
    t = k.accesses

    vs : List Level
    vs = k.levels

    some : 1 ≤ t
    some = omega (arith, ready.accesses)

    level_is : m ≡ level_of_build L (suc r)
    level_is = ap₂ level_of_build ready.top ready.accesses

    full : (i : ℕ) → i < m → ((get_or vs i vacant).occupied ≡ true) × ((get_or vs i vacant).build + 2 ^ i ≡ t)
    full i h =
        let one : suc r ≡ suc r * 2 ^ 0 = sym (ap (λ p. suc r * p) (pow-zero 2) ∙ omega arith) in
        let found = low_levels L (suc r) (Some a) s (suc r) L 0 r [] vs ready.levels one i (omega (arith, level_is)) in
        (found.0, ap (λ n. (get_or vs i vacant).build + 2 ^ n) (sym (zero-add i)) ∙ found.1 ∙ sym ready.accesses)

    lists : (i : ℕ) → i < m → ListsRecent L xs i (get_or vs i vacant)
    lists i h = recent.lists i (omega arith) (full i h).0

    last : (ys : List ℕ) × (xs ≡ ys ++ (a ∷ []))
    last = recent.held_last a ready.held

    members_are : rebuilt_members k ≡ filter (has (take (2 ^ m) (drop (t - 2 ^ m) xs))) (range_with_len 0 (blocks L))
    members_are =
        cond-true (ltb m k.top) _ _ (lt-ltb m k.top (omega (arith, ready.top)))
        ∙ ap₂ (λ b n. filter (taken b (take m vs)) (range_with_len 0 (blocks n))) (held_is k a ready.held) ready.top
        ∙ kept_same (taken a (take m vs)) (has (take (2 ^ m) (drop (t - 2 ^ m) xs))) 0 (blocks L)
        (λ x from below. taken_recent L t m xs vs some full lists a last.0 last.1 recent.counted x (omega (arith, zero-add (blocks L))))
