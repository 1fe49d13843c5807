-- The slots that an access asks: within their levels, and places of different levels differ.
use Rattle.std.proofs.Common.{◌≡◌, ℕ, suc, ◌+◌, ◌^◌, ◌<◌, Bool, true, false, ◌||◌, eqb, ◌⊎◌, List, [], ◌∷◌, ◌++◌, map, length, sym, refl, ap, ◌∙◌, subst, ap₂, inl, inr, pow-suc, arith, pow_mono}
use Rattle.std.specs.List.{AllByRecursion}
use Rattle.std.proofs.lemmas.List.{append_assoc, append-nil}
use Rattle.std.proofs.lemmas.Bool.{cases_Bool, cond-true, cond-false, cases_order, or_parts, or_right, eqb-true, both_ways}
use Rattle.shape.specs.Numbers.{level_slots, level_start, level_of_build}
use Rattle.permutations.specs.Lists.{among}
use Rattle.permutations.specs.Choices.{size_of, slot_of}
use Rattle.permutations.specs.Scripts.{Act, ask, asked_of, SoundAfter}
use Rattle.permutations.proofs.Asking.{asked_append}
use Rattle.rules.specs.Accessing.{Ask}
use Rattle.laws.specs.Runs.{build_sizes, Choices}
use Rattle.laws.proofs.Scripts.{Mark}
use Rattle.laws.proofs.Accesses.{sizes_count, size_at}
use Rattle.laws.proofs.AskedLevels.{slot_asked}

-- ---- the later part of a sound script

pub sound_later : {M : Type 0} (ns : List ℕ) (past s t : List (Act M)) → SoundAfter ns past (s ++ t) → SoundAfter ns (past ++ s) t
sound_later ns past [] t ok = subst (λ p. SoundAfter ns p t) (sym (append-nil past)) ok
sound_later ns past (a ∷ s) t ok = subst (λ p. SoundAfter ns p t) (append_assoc past (a ∷ []) s) (sound_later ns (past ++ (a ∷ [])) s t ok.1)

-- ---- what stands in lists one after another

pub not_among_left : (xs ys : List ℕ) (x : ℕ) → among (xs ++ ys) x ≡ false → among xs x ≡ false
not_among_left [] ys x h = refl
not_among_left (y ∷ xs) ys x h =
    let parts = or_parts (eqb y x) (among (xs ++ ys) x) h in
    ap₂ (λ (b c : Bool). b || c) parts.0 (not_among_left xs ys x parts.1)

pub among_left : (xs ys : List ℕ) (x : ℕ) → among xs x ≡ true → among (xs ++ ys) x ≡ true
among_left xs ys x h = by (cases_Bool (among (xs ++ ys) x))
  where
    by : (among (xs ++ ys) x ≡ true) ⊎ (among (xs ++ ys) x ≡ false) → among (xs ++ ys) x ≡ true
    by (inl e) = e
    by (inr e) = absurd (both_ways (among xs x) (not_among_left xs ys x e) h)

pub among_right : (xs ys : List ℕ) (x : ℕ) → among ys x ≡ true → among (xs ++ ys) x ≡ true
among_right [] ys x h = h
among_right (y ∷ xs) ys x h = or_right (eqb y x) (among (xs ++ ys) x) (among_right xs ys x h)

not_asked_before : {M : Type 0} (b i : ℕ) (s t : List (Act M)) → among (asked_of b (s ++ t)) i ≡ false → among (asked_of b s) i ≡ false
not_asked_before b i s t h = not_among_left (asked_of b s) (asked_of b t) i (ap (λ xs. among xs i) (sym (asked_append b s t)) ∙ h)

-- ---- asks of a sound script

-- an ask of a build that there is, within its size, of an index that this past has not asked
abbrev pub New : List ℕ → List (Act Mark) → Ask → Type 0
New ns past q = (q.build < length ns) × (q.index < size_of ns q.build) × (among (asked_of q.build past) q.index ≡ false)

new_before : (ns : List ℕ) (past more : List (Act Mark)) (qs : List Ask) → AllByRecursion (New ns (past ++ more)) qs → AllByRecursion (New ns past) qs
new_before ns past more [] h = tt
new_before ns past more (q ∷ qs) h =
    ((h.0.0, h.0.1, not_asked_before q.build q.index past more h.0.2), new_before ns past more qs h.1)

pub asks_new : (ns : List ℕ) (past : List (Act Mark)) (qs : List Ask) (rest : List (Act Mark)) →
    SoundAfter ns past (map (λ q. ask q.build q.index) qs ++ rest) → AllByRecursion (New ns past) qs
asks_new ns past [] rest ok = tt
asks_new ns past (q ∷ qs) rest ok =
    (ok.0, new_before ns past (ask q.build q.index ∷ []) qs (asks_new ns (past ++ (ask q.build q.index ∷ [])) qs rest ok.1))

-- ---- slots within their levels

-- an ask whose build goes to its level
abbrev pub Fitting : ℕ → Ask → Type 0
Fitting L q = level_of_build L q.build ≡ q.level

abbrev pub Within : List (List ℕ) → Ask → Type 0
Within ts q = slot_of ts q.build q.index < level_slots q.level

ask_within : (L K : ℕ) (ts : List (List ℕ)) (past : List (Act Mark)) (q : Ask) → Choices L K ts → Fitting L q → New (build_sizes L K) past q → Within ts q
ask_within L K ts past q choice fit new =
    let b = q.build in
    let l : b < K = subst (λ n. b < n) (sizes_count L K) new.0 in
    subst (λ n. slot_of ts b q.index < n) (size_at L K q.level b l fit) ((choice.tables b new.0).below q.index new.1)

pub asks_within : (L K : ℕ) (ts : List (List ℕ)) (past : List (Act Mark)) (qs : List Ask) → Choices L K ts →
    AllByRecursion (Fitting L) qs → AllByRecursion (New (build_sizes L K) past) qs → AllByRecursion (Within ts) qs
asks_within L K ts past [] choice fit new = tt
asks_within L K ts past (q ∷ qs) choice fit new = (ask_within L K ts past q choice fit.0 new.0, asks_within L K ts past qs choice fit.1 new.1)

power_some : (l : ℕ) → 0 < 2 ^ l
power_some l = pow_mono {i = 0} {j = l} (omega arith)

pub slot_asked_within : (ts : List (List ℕ)) (qs : List Ask) → AllByRecursion (Within ts) qs → (l : ℕ) → slot_asked ts qs l < level_slots l
slot_asked_within ts [] h l = power_some (l + 1)
slot_asked_within ts (q ∷ qs) h l = by (slot_asked_within ts qs h.1 l) (cases_Bool (eqb q.level l))
  where
    by : slot_asked ts qs l < level_slots l → (eqb q.level l ≡ true) ⊎ (eqb q.level l ≡ false) → slot_asked ts (q ∷ qs) l < level_slots l
    by rest (inl e) =
        subst (λ n. n < level_slots l) (sym (cond-true (eqb q.level l) (slot_of ts q.build q.index) (slot_asked ts qs l) e))
        (subst (λ i. slot_of ts q.build q.index < level_slots i) (eqb-true q.level l e) h.0)
    by rest (inr e) =
        subst (λ n. n < level_slots l) (sym (cond-false (eqb q.level l) (slot_of ts q.build q.index) (slot_asked ts qs l) e)) rest

-- ---- places of different levels differ

place_below : (l m s u : ℕ) → l < m → s < level_slots l → level_start l + s ≡ level_start m + u → ⊥
place_below l m s u h k e =
    omega (arith, pow_mono {i = suc (l + 1)} {j = m + 1} (omega arith), pow-suc 2 (l + 1), pow_mono {i = 1} {j = l + 1} (omega arith))

pub place_tells : (l m s u : ℕ) → s < level_slots l → u < level_slots m → level_start l + s ≡ level_start m + u → (l ≡ m) × (s ≡ u)
place_tells l m s u hs hu e = by (cases_order l m)
  where
    by : (l ≡ m) ⊎ ((l < m) ⊎ (m < l)) → (l ≡ m) × (s ≡ u)
    by (inl same) = (same, (let k : level_start l + s ≡ level_start l + u = e ∙ ap (λ i. level_start i + u) (sym same) in omega arith))
    by (inr (inl low)) = absurd (place_below l m s u low hs e)
    by (inr (inr high)) = absurd (place_below m l u s high hu (sym e))
