-- A rebuild keeps the invariant, and asks nothing.
use Rattle.std.proofs.Common.{◌≡◌, ℕ, zero, suc, ◌+◌, ◌*◌, ◌/◌, ◌^◌, ◌<◌, ◌≤◌, Bool, false, cond, ◌||◌, eqb, ltb, List, [], ◌∷◌, ◌++◌, map, length, get_or, take, drop, replicate, Some, None, filter, Option, sym, refl, ap, ◌∙◌, subst, ap₂, ⊎_elim, arith}
use native.Mathlib.Nat.{pow-zero}
use Rattle.std.specs.List.{range_with_len}
use Rattle.std.proofs.lemmas.List.FromFn.{length-range_with_len}
use Rattle.std.proofs.lemmas.List.{append-nil, append_assoc}
use Rattle.std.proofs.lemmas.Bool.{cases_lt, lt-ltb, le-ltb, cond-true, cond-false}
use Rattle.shape.specs.Numbers.{blocks, level_of_build}
use Rattle.index.specs.Lists.{has}
use Rattle.permutations.specs.Lists.{among}
use Rattle.permutations.specs.Scripts.{Act, ask, close, mark, asked_of, SoundAfter}
use Rattle.permutations.proofs.Asking.{asked_append, sound_append}
use Rattle.rules.specs.World.{Level, Client, size, vacant}
use Rattle.rules.specs.Checks.{rebuild_level}
use Rattle.rules.specs.Rebuilding.{listed, taken, new_members, sources, held_address, rebuilt_level, rebuilt_client}
use Rattle.laws.specs.Runs.{build_sizes}
use Rattle.laws.proofs.Booleans.{or_false, or_assoc, none_not_some}
use Rattle.laws.proofs.Scripts.{Mark, stores, fills, rebuild_acts}
use Rattle.laws.proofs.Invariant.{out, is_touched, Used, Fits, Ready}
use Rattle.laws.proofs.Schedule.{odd_or_even, level_odd, level_even, next_odd, next_even, next_half_same, next_half_more, whole_half, power_double}
use Rattle.laws.proofs.Ranks.{kept_same, kept_rises, kept_below, has_kept, kept_list_more, kept_alone}
use Rattle.laws.proofs.Fresh.{listed_push, listed_push_vacant, counting_rises, counting_below, fresh_used}
use Rattle.laws.proofs.Heads.{odd_part, even_part, odd_put, even_put}

-- ---- acts that ask nothing

abbrev pub Quiet : List (Act Mark) → Type 0
Quiet [] = Unit {0}
Quiet (ask b i ∷ s) = ⊥
Quiet (close b ∷ s) = Quiet s
Quiet (mark m ∷ s) = Quiet s

pub quiet_asked : (b : ℕ) (s : List (Act Mark)) → Quiet s → asked_of b s ≡ []
quiet_asked b [] q = refl
quiet_asked b (ask c i ∷ s) q = absurd q
quiet_asked b (close c ∷ s) q = quiet_asked b s q
quiet_asked b (mark m ∷ s) q = quiet_asked b s q

quiet_sound : (ns : List ℕ) (past s : List (Act Mark)) → Quiet s → SoundAfter ns past s
quiet_sound ns past [] q = tt
quiet_sound ns past (ask c i ∷ s) q = absurd q
quiet_sound ns past (close c ∷ s) q = (tt, quiet_sound ns (past ++ (close c ∷ [])) s q)
quiet_sound ns past (mark m ∷ s) q = (tt, quiet_sound ns (past ++ (mark m ∷ [])) s q)

quiet_closes : (vs : List Level) (s : List (Act Mark)) → Quiet s → Quiet (map (λ v. close v.build) vs ++ s)
quiet_closes [] s q = q
quiet_closes (v ∷ vs) s q = quiet_closes vs s q

pub quiet_append : (b : ℕ) (s t : List (Act Mark)) → Quiet t → asked_of b (s ++ t) ≡ asked_of b s
quiet_append b s t q = asked_append b s t ∙ ap (λ xs. asked_of b s ++ xs) (quiet_asked b t q) ∙ append-nil (asked_of b s)

-- ---- levels above stay as they are

out_push : (h : Option ℕ) (lower : List Level) (v : Level) (x : ℕ) → out h (lower ++ (v ∷ [])) x ≡ (out h lower x || has v.members x)
out_push (Some a) lower v x = ap (λ b. eqb x a || b) (listed_push lower v x) ∙ sym (or_assoc (eqb x a) (listed lower x) (has v.members x))
out_push None lower v x = listed_push lower v x

module _ (L t : ℕ) (h h' : Option ℕ) (s s' : List (Act Mark)) (asks : (b : ℕ) → asked_of b s' ≡ asked_of b s) where
  used_same : (l : ℕ) (lower lower' : List Level) (v : Level) → Used L t l h s lower v →
      ((x : ℕ) → x < blocks L → out h lower x ≡ out h' lower' x) → Used L t l h' s' lower' v
  used_same l lower lower' v u same = record {
    occupied = u.occupied;
    rising = u.rising;
    addresses = u.addresses;
    few = u.few;
    counter_low = u.counter_low;
    counter_high = u.counter_high;
    asked_count = ap (λ xs. length xs + v.build) (asks v.build) ∙ u.asked_count;
    asked_touched = λ j m. ap (λ xs. among xs j) (asks v.build) ∙ u.asked_touched j m ∙ touched_same j;
  }
    where
      touched_same : (j : ℕ) → is_touched h lower v j ≡ is_touched h' lower' v j
      touched_same j = ⊎_elim
          (λ k. ap (λ b. cond b (out h lower (get_or v.members j 0)) (ltb j v.counter)) (lt-ltb j (size v) k)
          ∙ same (get_or v.members j 0) (u.addresses j k)
          ∙ sym (ap (λ b. cond b (out h' lower' (get_or v.members j 0)) (ltb j v.counter)) (lt-ltb j (size v) k)))
          (λ k. ap (λ b. cond b (out h lower (get_or v.members j 0)) (ltb j v.counter)) (le-ltb j (size v) k)
          ∙ sym (ap (λ b. cond b (out h' lower' (get_or v.members j 0)) (ltb j v.counter)) (le-ltb j (size v) k)))
          (cases_lt j (size v))

  fits_same : (more l q : ℕ) (lower lower' vs : List Level) → Fits L t h s more l q lower vs →
      ((x : ℕ) → x < blocks L → out h lower x ≡ out h' lower' x) → Fits L t h' s' more l q lower' vs
  fits_same zero l q lower lower' [] fits same = fits
  fits_same zero l q lower lower' (v ∷ vs) fits same = (used_same l lower lower' v fits.0 same, fits.1, fits.2, fits.3)
  fits_same (suc more) l q lower lower' [] fits same = fits
  fits_same (suc more) l q lower lower' (v ∷ vs) fits same = (
    ⊎_elim
        (λ odd.
        let here = odd_part L t l q h s lower v odd fits.0 in
        odd_put L t l q h' s' lower' v odd (used_same l lower lower' v here.0 same, here.1))
        (λ even. even_put L t l q h' s' lower' v even (even_part L t l q h s lower v even fits.0))
        (odd_or_even q),
    fits_same more (suc l) (q / 2) (lower ++ (v ∷ [])) (lower' ++ (v ∷ [])) vs fits.1
        (λ x m. out_push h lower v x ∙ ap (λ b. b || has v.members x) (same x m) ∙ sym (out_push h' lower' v x)),
  )

-- ---- the new list

-- at most one for each of the levels' members, and the held one
taken_more : (L l a : ℕ) (lower : List Level) (v : Level) → length (filter (taken a lower) (range_with_len 0 (blocks L))) ≤ 2 ^ l → size v ≤ 2 ^ l →
    length (filter (taken a (lower ++ (v ∷ []))) (range_with_len 0 (blocks L))) ≤ 2 ^ suc l
taken_more L l a lower v few small =
    let same : filter (taken a (lower ++ (v ∷ []))) (range_with_len 0 (blocks L)) ≡ filter (λ x. taken a lower x || has v.members x) (range_with_len 0 (blocks L)) =
    kept_same (taken a (lower ++ (v ∷ []))) (λ x. taken a lower x || has v.members x) 0 (blocks L) (λ x l m. out_push (Some a) lower v x) in
    omega (arith, ap length same, kept_list_more (taken a lower) v.members (blocks L), power_double l)

taken_alone : (L a : ℕ) → length (filter (taken a []) (range_with_len 0 (blocks L))) ≤ 2 ^ 0
taken_alone L a =
    let same : filter (taken a []) (range_with_len 0 (blocks L)) ≡ filter (λ x. eqb x a) (range_with_len 0 (blocks L)) =
    kept_same (taken a []) (λ x. eqb x a) 0 (blocks L) (λ x l m. or_false (eqb x a)) in
    omega (arith, ap length same, kept_alone a (blocks L), pow-zero 2)

new_at_top : (L a : ℕ) (lower : List Level) → new_members L L a lower ≡ range_with_len 0 (blocks L)
new_at_top L a lower =
    cond-false (ltb L L) (filter (taken a lower) (range_with_len 0 (blocks L))) (range_with_len 0 (blocks L)) (le-ltb L L (omega arith))

new_below : (L l a : ℕ) (lower : List Level) → l < L → new_members L l a lower ≡ filter (taken a lower) (range_with_len 0 (blocks L))
new_below L l a lower lt =
    cond-true (ltb l L) (filter (taken a lower) (range_with_len 0 (blocks L))) (range_with_len 0 (blocks L)) (lt-ltb l L lt)

-- ---- all levels

-- levels after build t goes to the j-th of these
abbrev pub levels_after : ℕ → ℕ → List ℕ → List Level → List Level
levels_after j t new vs = replicate j vacant ++ (rebuilt_level new t ∷ drop (suc j) vs)

module _ (L t a : ℕ) (s s' : List (Act Mark)) (asks : (b : ℕ) → asked_of b s' ≡ asked_of b s) (unasked : asked_of t s ≡ []) where
  rebuilt_fits : (more l q : ℕ) (lower lower' vs : List Level) (new : List ℕ) → Fits L t (Some a) s more l q lower vs → l + more ≡ L → t ≡ suc q * 2 ^ l →
      ((x : ℕ) → listed lower' x ≡ false) → length (filter (taken a lower) (range_with_len 0 (blocks L))) ≤ 2 ^ l →
      new ≡ new_members L (l + level_of_build more (suc q)) a (lower ++ take (level_of_build more (suc q)) vs) →
      Fits L t None s' more l (suc q) lower' (levels_after (level_of_build more (suc q)) t new vs)
  rebuilt_fits zero l q lower lower' [] new fits e whole none few is = absurd fits
  rebuilt_fits zero l q lower lower' (v ∷ (w ∷ vs)) new fits e whole none few is = absurd (omega (arith, ap length fits.3))
  rebuilt_fits zero l q lower lower' (v ∷ []) new fits e whole none few is =
      let all : new ≡ range_with_len 0 (blocks L) = is ∙ ap (λ i. new_members L i a (lower ++ [])) e ∙ new_at_top L a (lower ++ []) in
      let same : L ≡ l = omega arith in (
        subst (λ xs. Used L t l None s' lower' (rebuilt_level xs t)) (sym all)
            (fresh_used L t l s' lower' (range_with_len 0 (blocks L)) (counting_rises (blocks L)) (counting_below (blocks L))
            (subst (λ i. length (range_with_len 0 (blocks L)) ≤ 2 ^ i) same (omega (arith, length-range_with_len 0 (blocks L)))) (asks t ∙ unasked) none),
        whole,
        all,
        refl,
      )
  rebuilt_fits (suc more) l q lower lower' [] new fits e whole none few is = absurd fits
  rebuilt_fits (suc more) l q lower lower' (v ∷ vs) new fits e whole none few is = ⊎_elim
      (λ odd.
      let here = odd_part L t l q (Some a) s lower v odd fits.0 in
      let j = level_of_build more (suc (q / 2)) in
      let level : level_of_build (suc more) (suc q) ≡ suc j =
      level_even more (suc q) (next_even q odd) ∙ ap (λ n. suc (level_of_build more n)) (next_half_more q odd) in
      let after : l + suc j ≡ suc l + j = omega arith in
      let is' : new ≡ new_members L (suc l + j) a ((lower ++ (v ∷ [])) ++ take j vs) =
      is ∙ ap (λ i. new_members L (l + i) a (lower ++ take i (v ∷ vs))) level
      ∙ ap₂ (λ (i : ℕ) (ws : List Level). new_members L i a ws) after (sym (append_assoc lower (v ∷ []) (take j vs))) in
      subst (λ i. Fits L t None s' (suc more) l (suc q) lower' (levels_after i t new (v ∷ vs))) (sym level) (
        even_put L t l (suc q) None s' lower' vacant (next_even q odd) refl,
        subst (λ n. Fits L t None s' more (suc l) n (lower' ++ (vacant ∷ [])) (levels_after j t new vs)) (sym (next_half_more q odd))
            (rebuilt_fits more (suc l) (q / 2) (lower ++ (v ∷ [])) (lower' ++ (vacant ∷ [])) vs new fits.1 (omega arith) (whole_half q l t odd whole)
            (λ x. listed_push_vacant lower' x (none x)) (taken_more L l a lower v few here.0.few) is'),
      ))
      (λ even.
      let here = even_part L t l q (Some a) s lower v even fits.0 in
      let level : level_of_build (suc more) (suc q) ≡ 0 = level_odd more (suc q) (next_odd q even) in
      let lt : l + 0 < L = omega arith in
      let kept : new ≡ filter (taken a lower) (range_with_len 0 (blocks L)) =
      is ∙ ap (λ i. new_members L (l + i) a (lower ++ take i (v ∷ vs))) level ∙ ap (λ ws. new_members L (l + 0) a ws) (append-nil lower)
      ∙ new_below L (l + 0) a lower lt in
      subst (λ i. Fits L t None s' (suc more) l (suc q) lower' (levels_after i t new (v ∷ vs))) (sym level) (
        odd_put L t l (suc q) None s' lower' (rebuilt_level new t) (next_odd q even) (
          subst (λ xs. Used L t l None s' lower' (rebuilt_level xs t)) (sym kept)
              (fresh_used L t l s' lower' (filter (taken a lower) (range_with_len 0 (blocks L))) (kept_rises (taken a lower) 0 (blocks L))
              (kept_below (taken a lower) (blocks L)) few (asks t ∙ unasked) none),
          whole,
        ),
        subst (λ n. Fits L t None s' more (suc l) n (lower' ++ (rebuilt_level new t ∷ [])) vs) (sym (next_half_same q even))
            (fits_same L t (Some a) None s s' asks more (suc l) (q / 2) (lower ++ (v ∷ [])) (lower' ++ (rebuilt_level new t ∷ [])) vs fits.1
            (λ x m. out_push (Some a) lower v x ∙ ap (λ w. taken a lower x || has w.members x) here ∙ or_false (taken a lower x)
            ∙ sym (listed_push lower' (rebuilt_level new t) x ∙ ap₂ (λ (b : Bool) (xs : List ℕ). b || has xs x) (none x) kept ∙ has_kept (taken a lower) (blocks L) x m))),
      ))
      (odd_or_even q)

-- ---- the whole rebuild

pub held_is : (k : Client) (a : ℕ) → k.held ≡ Some a → held_address k ≡ a
held_is k a e = ap (λ o. held_address (record { refusal = k.refusal; top = k.top; width = k.width; number = k.number; accesses = k.accesses; held = o; levels = k.levels })) e

pub rebuild_quiet : (k : Client) → Quiet (rebuild_acts k)
rebuild_quiet k =
    quiet_closes (sources k.top (rebuild_level k) k.levels)
    (mark (stores (cond (ltb (rebuild_level k) k.top) (2 ^ rebuild_level k) 0)) ∷ mark (fills (rebuild_level k)) ∷ []) tt

module _ (L K r a : ℕ) (s : List (Act Mark)) (k : Client) (ready : Ready L K r (Some a) s k) where
  rebuilt_levels : (rebuilt_client k).levels ≡ levels_after (level_of_build L (suc r)) (suc r) (new_members L (level_of_build L (suc r)) a (take (level_of_build L (suc r)) k.levels)) k.levels
  rebuilt_levels =
      ap (λ L'. of L' k.accesses (held_address k)) ready.top ∙ ap (λ t. of L t (held_address k)) ready.accesses ∙ ap (of L (suc r)) (held_is k a ready.held)
    where
      of : ℕ → ℕ → ℕ → List Level
      of L t x = levels_after (level_of_build L t) t (new_members L (level_of_build L t) x (take (level_of_build L t) k.levels)) k.levels

  pub rebuild_sound : SoundAfter (build_sizes L K) s (rebuild_acts k)
  rebuild_sound = quiet_sound (build_sizes L K) s (rebuild_acts k) (rebuild_quiet k)

  pub rebuild_ready : Ready L K (suc r) None (s ++ rebuild_acts k) (rebuilt_client k)
  rebuild_ready = record {
    unrefused = ready.unrefused;
    top = ready.top;
    number = omega (arith, ready.number);
    accesses = ready.accesses;
    held = refl;
    held_address = λ b e. absurd (none_not_some b e);
    builds_left = ready.builds_left;
    levels =
        subst (Fits L (suc r) None (s ++ rebuild_acts k) L 0 (suc r) []) (sym rebuilt_levels)
        (rebuilt_fits L (suc r) a s (s ++ rebuild_acts k) asks (ready.later_unasked (suc r) (omega arith)) L 0 r [] [] k.levels
        (new_members L (level_of_build L (suc r)) a (take (level_of_build L (suc r)) k.levels)) ready.levels (omega arith) one (λ x. refl) (taken_alone L a)
        (ap (λ i. new_members L i a (take (level_of_build L (suc r)) k.levels)) from_zero));
    sound = sound_append (build_sizes L K) [] s (rebuild_acts k) ready.sound rebuild_sound;
    later_unasked = λ b l. asks b ∙ ready.later_unasked b (omega arith);
  }
    where
      asks : (b : ℕ) → asked_of b (s ++ rebuild_acts k) ≡ asked_of b s
      asks b = quiet_append b s (rebuild_acts k) (rebuild_quiet k)

      one : suc r ≡ suc r * 2 ^ 0
      one = sym (ap (λ p. suc r * p) (pow-zero 2) ∙ omega arith)

      from_zero : level_of_build L (suc r) ≡ 0 + level_of_build L (suc r)
      from_zero = omega arith
