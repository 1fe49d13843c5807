-- What an access asks, level by level: one ask of every occupied level, of that level's build.
use Rattle.std.proofs.Common.{◌≡◌, ℕ, zero, suc, ◌+◌, ◌*◌, ◌/◌, ◌%◌, ◌^◌, ◌<◌, ◌≤◌, Bool, true, false, cond, ◌||◌, eqb, ◌⊎◌, List, [], ◌∷◌, ◌++◌, map, get_or, filter, Option, sym, refl, ap, ◌∙◌, subst, ap₂, inl, inr, add-zero, arith}
use Rattle.std.specs.List.{range_with_len, AllByRecursion}
use Rattle.std.proofs.ByRecursion.{All-weaker}
use Rattle.std.proofs.lemmas.Bool.{cases_Bool, cond-true, cond-false, eq-eqb, ne_eqb}
use Rattle.shape.specs.Numbers.{level_start, level_of_build}
use Rattle.permutations.specs.Choices.{slot_of}
use Rattle.permutations.specs.Scripts.{Act}
use Rattle.rules.specs.World.{Level, vacant}
use Rattle.rules.specs.Accessing.{Ask, finds, asked_index, asks_from, ask_place}
use Rattle.laws.specs.Runs.{bit}
use Rattle.laws.proofs.Scripts.{Mark}
use Rattle.laws.proofs.Invariant.{Fits}
use Rattle.laws.proofs.Accesses.{odd_part, even_part}
use Rattle.laws.proofs.Schedule.{level_below, level_highest, odd_or_even, odd_tests, even_tests}

-- ---- one ask, or none, of a level

-- the ask of level l
abbrev pub ask_of : Bool → ℕ → ℕ → Level → Ask
ask_of found a l v = record { level = l; build = v.build; index = asked_index found a v }

pub asks_occupied : (found : Bool) (a l : ℕ) (v : Level) (vs : List Level) → v.occupied ≡ true →
    asks_from found a l (v ∷ vs) ≡ ask_of found a l v ∷ asks_from (found || finds found a v) a (suc l) vs
asks_occupied found a l v vs e = cond-true v.occupied _ _ e

pub asks_vacant : (found : Bool) (a l : ℕ) (v : Level) (vs : List Level) → v.occupied ≡ false →
    asks_from found a l (v ∷ vs) ≡ asks_from (found || finds found a v) a (suc l) vs
asks_vacant found a l v vs e = cond-false v.occupied _ _ e

-- ---- the levels asked rise

abbrev pub RisingLevels : List Ask → Type 0
RisingLevels [] = Unit {0}
RisingLevels (q ∷ qs) = AllByRecursion (λ p. q.level < p.level) qs × RisingLevels qs

pub levels_from : (found : Bool) (a l : ℕ) (vs : List Level) → AllByRecursion (λ q. l ≤ q.level) (asks_from found a l vs)
levels_from found a l [] = tt
levels_from found a l (v ∷ vs) =
    by (All-weaker (λ (q : Ask). suc l ≤ q.level) (λ q. l ≤ q.level) (λ q h. omega arith) _ (levels_from (found || finds found a v) a (suc l) vs)) (cases_Bool v.occupied)
  where
    rest : List Ask
    rest = asks_from (found || finds found a v) a (suc l) vs

    by : AllByRecursion (λ q. l ≤ q.level) rest → (v.occupied ≡ true) ⊎ (v.occupied ≡ false) → AllByRecursion (λ q. l ≤ q.level) (asks_from found a l (v ∷ vs))
    by h (inl e) = subst (AllByRecursion (λ q. l ≤ q.level)) (sym (asks_occupied found a l v vs e)) (omega arith, h)
    by h (inr e) = subst (AllByRecursion (λ q. l ≤ q.level)) (sym (asks_vacant found a l v vs e)) h

pub levels_rise : (found : Bool) (a l : ℕ) (vs : List Level) → RisingLevels (asks_from found a l vs)
levels_rise found a l [] = tt
levels_rise found a l (v ∷ vs) = by (levels_rise (found || finds found a v) a (suc l) vs) (cases_Bool v.occupied)
  where
    by : RisingLevels (asks_from (found || finds found a v) a (suc l) vs) → (v.occupied ≡ true) ⊎ (v.occupied ≡ false) → RisingLevels (asks_from found a l (v ∷ vs))
    by h (inl e) = subst RisingLevels (sym (asks_occupied found a l v vs e)) (levels_from (found || finds found a v) a (suc l) vs, h)
    by h (inr e) = subst RisingLevels (sym (asks_vacant found a l v vs e)) h

-- ---- the slot asked of a level, and the places by level

abbrev pub slot_asked : List (List ℕ) → List Ask → ℕ → ℕ
slot_asked ts [] l = 0
slot_asked ts (q ∷ qs) l = cond (eqb q.level l) (slot_of ts q.build q.index) (slot_asked ts qs l)

later_levels : (ts : List (List ℕ)) (q : Ask) (qs ps : List Ask) → AllByRecursion (λ p. q.level < p.level) ps →
    map (λ l. level_start l + slot_asked ts (q ∷ qs) l) (map (λ p. p.level) ps) ≡ map (λ l. level_start l + slot_asked ts qs l) (map (λ p. p.level) ps)
later_levels ts q qs [] h = refl
later_levels ts q qs (p ∷ ps) h =
    let other : eqb q.level p.level ≡ false = ne_eqb q.level p.level (λ e. omega (arith, h.0)) in
    ap₂ (λ x xs. x ∷ xs) (ap (λ x. level_start p.level + x) (cond-false (eqb q.level p.level) _ _ other)) (later_levels ts q qs ps h.1)

pub places_by_level : (ts : List (List ℕ)) (qs : List Ask) → RisingLevels qs →
    map (ask_place ts) qs ≡ map (λ l. level_start l + slot_asked ts qs l) (map (λ q. q.level) qs)
places_by_level ts [] h = refl
places_by_level ts (q ∷ qs) h =
    ap₂ (λ x xs. x ∷ xs)
    (ap (λ x. level_start q.level + x) (sym (cond-true (eqb q.level q.level) _ _ (eq-eqb q.level q.level refl))))
    (places_by_level ts qs h.1 ∙ sym (later_levels ts q qs qs h.0))

-- ---- exactly the levels whose bit is set, and L

module _ (L t : ℕ) (h : Option ℕ) (s : List (Act Mark)) where
  abbrev pub BitsFrom : (ℕ → Bool) → ℕ → ℕ → Type 0
  BitsFrom test l q = (i : ℕ) → test (l + i) ≡ bit i q

  bits_here : (test : ℕ → Bool) (l q : ℕ) → BitsFrom test l q → test l ≡ eqb (q % 2) 1
  bits_here test l q b = ap test (sym (add-zero l)) ∙ b 0

  bits_up : (test : ℕ → Bool) (l q : ℕ) → BitsFrom test l q → BitsFrom test (suc l) (q / 2)
  bits_up test l q b i = ap test (omega arith) ∙ b (suc i)

  pub asked_levels : (more l q : ℕ) (lower vs : List Level) (found : Bool) (a : ℕ) (test : ℕ → Bool) →
      Fits L t h s more l q lower vs → BitsFrom test l q →
      map (λ p. p.level) (asks_from found a l vs) ≡ filter test (range_with_len l more) ++ ((l + more) ∷ [])
  asked_levels zero l q lower [] found a test fits b = absurd fits
  asked_levels zero l q lower (v ∷ vs) found a test fits b =
      ap (map (λ p. p.level)) (asks_occupied found a l v vs fits.0.occupied ∙ ap (λ us. ask_of found a l v ∷ asks_from (found || finds found a v) a (suc l) us) fits.3)
      ∙ ap (λ i. i ∷ []) (sym (add-zero l))
  asked_levels (suc more) l q lower [] found a test fits b = absurd fits
  asked_levels (suc more) l q lower (v ∷ vs) found a test fits b =
      by (asked_levels more (suc l) (q / 2) (lower ++ (v ∷ [])) vs (found || finds found a v) a test fits.1 (bits_up test l q b)) (odd_or_even q)
    where
      there : filter test (range_with_len (suc l) more) ++ ((suc l + more) ∷ []) ≡ filter test (range_with_len (l + 1) more) ++ ((l + suc more) ∷ [])
      there = ap₂ (λ (i j : ℕ). filter test (range_with_len i more) ++ (j ∷ [])) (omega arith) (omega arith)

      by : map (λ p. p.level) (asks_from (found || finds found a v) a (suc l) vs) ≡ filter test (range_with_len (suc l) more) ++ ((suc l + more) ∷ []) →
          (q % 2 ≡ 1) ⊎ (q % 2 ≡ 0) → map (λ p. p.level) (asks_from found a l (v ∷ vs)) ≡ filter test (range_with_len l (suc more)) ++ ((l + suc more) ∷ [])
      by up (inl odd) =
          let used = odd_part L t l q h s lower v odd fits.0 in
          let kept : filter test (range_with_len l (suc more)) ≡ l ∷ filter test (range_with_len (l + 1) more) = cond-true (test l) _ _ (bits_here test l q b ∙ odd_tests q odd) in
          ap (map (λ p. p.level)) (asks_occupied found a l v vs used.0.occupied)
          ∙ ap (λ is. l ∷ is) (up ∙ there)
          ∙ ap (λ is. is ++ ((l + suc more) ∷ [])) (sym kept)
      by up (inr even) =
          let empty = even_part L t l q h s lower v even fits.0 in
          let kept : filter test (range_with_len l (suc more)) ≡ filter test (range_with_len (l + 1) more) = cond-false (test l) _ _ (bits_here test l q b ∙ even_tests q even) in
          ap (map (λ p. p.level)) (asks_vacant found a l v vs (ap (λ u. u.occupied) empty))
          ∙ (up ∙ there)
          ∙ ap (λ is. is ++ ((l + suc more) ∷ [])) (sym kept)

  -- the build that is asked goes to the level that is asked
  pub asked_builds : (more l q : ℕ) (lower vs : List Level) (found : Bool) (a : ℕ) → L ≡ l + more →
      Fits L t h s more l q lower vs → AllByRecursion (λ p. level_of_build L p.build ≡ p.level) (asks_from found a l vs)
  asked_builds zero l q lower [] found a e fits = absurd fits
  asked_builds zero l q lower (v ∷ vs) found a e fits =
      let top : L ≡ l = e ∙ add-zero l in
      let here : level_of_build L v.build ≡ l = ap (level_of_build L) fits.1 ∙ ap (λ i. level_of_build L (q * 2 ^ i)) (sym top) ∙ level_highest L q ∙ top in
      subst (AllByRecursion (λ p. level_of_build L p.build ≡ p.level))
      (sym (asks_occupied found a l v vs fits.0.occupied ∙ ap (λ us. ask_of found a l v ∷ asks_from (found || finds found a v) a (suc l) us) fits.3))
      (here, tt)
  asked_builds (suc more) l q lower [] found a e fits = absurd fits
  asked_builds (suc more) l q lower (v ∷ vs) found a e fits =
      by (asked_builds more (suc l) (q / 2) (lower ++ (v ∷ [])) vs (found || finds found a v) a (omega arith) fits.1) (odd_or_even q)
    where
      by : AllByRecursion (λ p. level_of_build L p.build ≡ p.level) (asks_from (found || finds found a v) a (suc l) vs) →
          (q % 2 ≡ 1) ⊎ (q % 2 ≡ 0) → AllByRecursion (λ p. level_of_build L p.build ≡ p.level) (asks_from found a l (v ∷ vs))
      by up (inl odd) =
          let used = odd_part L t l q h s lower v odd fits.0 in
          subst (AllByRecursion (λ p. level_of_build L p.build ≡ p.level)) (sym (asks_occupied found a l v vs used.0.occupied))
          (ap (level_of_build L) used.1 ∙ level_below L l q (omega arith) odd, up)
      by up (inr even) =
          let empty = even_part L t l q h s lower v even fits.0 in
          subst (AllByRecursion (λ p. level_of_build L p.build ≡ p.level)) (sym (asks_vacant found a l v vs (ap (λ u. u.occupied) empty))) up

-- a level that is asked is occupied, and it is its build that is asked
pub asked_of_level : (all : List Level) (found : Bool) (a l : ℕ) (vs : List Level) → ((i : ℕ) → get_or all (l + i) vacant ≡ get_or vs i vacant) →
    AllByRecursion (λ p. ((get_or all p.level vacant).occupied ≡ true) × ((get_or all p.level vacant).build ≡ p.build)) (asks_from found a l vs)
asked_of_level all found a l [] same = tt
asked_of_level all found a l (v ∷ vs) same =
    by (asked_of_level all (found || finds found a v) a (suc l) vs (λ i. ap (λ j. get_or all j vacant) (omega arith) ∙ same (suc i))) (cases_Bool v.occupied)
  where
    here : get_or all l vacant ≡ v
    here = ap (λ j. get_or all j vacant) (sym (add-zero l)) ∙ same 0

    P : Ask → Type 0
    P p = ((get_or all p.level vacant).occupied ≡ true) × ((get_or all p.level vacant).build ≡ p.build)

    by : AllByRecursion P (asks_from (found || finds found a v) a (suc l) vs) → (v.occupied ≡ true) ⊎ (v.occupied ≡ false) → AllByRecursion P (asks_from found a l (v ∷ vs))
    by up (inl e) = subst (AllByRecursion P) (sym (asks_occupied found a l v vs e)) ((ap (λ u. u.occupied) here ∙ e, ap (λ u. u.build) here), up)
    by up (inr e) = subst (AllByRecursion P) (sym (asks_vacant found a l v vs e)) up
