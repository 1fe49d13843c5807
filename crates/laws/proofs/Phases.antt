-- The phases of a client: unloaded, resting or with a rebuild due, after so many rebuilds. In each phase the turn number, the accesses so far
-- and the levels that are occupied are known.
use Rattle.std.proofs.Common.{◌≡◌, ℕ, zero, suc, ◌+◌, ◌/◌, ◌%◌, ◌<◌, Bool, true, false, cond, not, ◌&&◌, ◌||◌, eqb, ◌⊎◌, List, [], ◌∷◌, ◌++◌, map, length, get_or, drop, set, replicate, filter, sym, refl, ap, ◌∙◌, ap₂, subst₂, inl, inr, arith}
use lib.Count.{under}
use lib.ListN.{get_or-map}
use Rattle.std.specs.List.{range_with_len}
use Rattle.std.proofs.lemmas.List.{map-append, map-set, drop-map}
use Rattle.std.proofs.lemmas.Bool.{cases_eq}
use Rattle.shape.specs.Numbers.{level_of_build}
use Rattle.rules.specs.World.{Level, vacant}
use Rattle.rules.specs.Checks.{occupied_count}
use Rattle.rules.specs.Accessing.{finds, counted_from}
use Rattle.laws.specs.Runs.{bit}

-- ---- which levels are occupied

abbrev pub flags : List Level → List Bool
flags = map (λ v. v.occupied)

-- after q rebuilds, with `more` levels below L: a level is occupied if its bit of q is set, and L always
abbrev pub flags_after : ℕ → ℕ → List Bool
flags_after zero q = true ∷ []
flags_after (suc more) q = eqb (q % 2) 1 ∷ flags_after more (q / 2)

-- an access leaves them
pub counted_flags : (found : Bool) (a : ℕ) (vs : List Level) → flags (counted_from found a vs) ≡ flags vs
counted_flags found a [] = refl
counted_flags found a (v ∷ vs) = ap₂ (λ (b : Bool) (bs : List Bool). b ∷ bs) (same (v.occupied && not (finds found a v))) (counted_flags (found || finds found a v) a vs)
  where
    same : (b : Bool) →
        (cond b (record { occupied = v.occupied; members = v.members; counter = v.counter + 1; build = v.build }) v).occupied ≡ v.occupied
    same true = refl
    same false = refl

-- a load fills L
vacant_flags : (n : ℕ) → flags (replicate n vacant) ≡ replicate n false
vacant_flags zero = refl
vacant_flags (suc n) = ap (λ bs. false ∷ bs) (vacant_flags n)

fill_top : (L : ℕ) → set (replicate (suc L) false) L true ≡ flags_after L 0
fill_top zero = refl
fill_top (suc L) = ap (λ bs. false ∷ bs) (fill_top L)

-- a rebuild empties the levels below its own and fills its own: a carry
abbrev carried_flags : ℕ → List Bool → List Bool
carried_flags l bs = replicate l false ++ (true ∷ drop (suc l) bs)

-- the goal at one level more, by the lowest bit and the half of the number of builds
abbrev Carried : ℕ → ℕ → ℕ → ℕ → Type 0
Carried L q d half = carried_flags (under d (level_of_build L half)) (eqb (q % 2) 1 ∷ flags_after L (q / 2)) ≡ eqb d 1 ∷ flags_after L half

carry : (L q : ℕ) → carried_flags (level_of_build L (suc q)) (flags_after L q) ≡ flags_after L (suc q)
carry zero q = refl
carry (suc L) q = by (ap (λ bs. false ∷ bs) (carry L (q / 2))) (cases_eq (q % 2) 0)
  where
    by : Carried L q 0 (suc (q / 2)) → (q % 2 ≡ 0) ⊎ (q % 2 ≡ 0 → ⊥) → Carried L q (suc q % 2) (suc q / 2)
    by odd (inl e) =
        let d : 1 ≡ suc q % 2 = omega arith in
        let half : q / 2 ≡ suc q / 2 = omega arith in
        subst₂ (Carried L q) d half refl
    by odd (inr e) =
        let d : 0 ≡ suc q % 2 = omega arith in
        let half : suc (q / 2) ≡ suc q / 2 = omega arith in
        subst₂ (Carried L q) d half odd

pub rebuilt_flags : (L q : ℕ) (vs : List Level) (v : Level) → flags vs ≡ flags_after L q → v.occupied ≡ true →
    flags (replicate (level_of_build L (suc q)) vacant ++ (v ∷ drop (suc (level_of_build L (suc q))) vs)) ≡ flags_after L (suc q)
rebuilt_flags L q vs v e o =
    let l = level_of_build L (suc q) in
    map-append (λ v. v.occupied) (replicate l vacant) (v ∷ drop (suc l) vs)
    ∙ ap₂ (λ (bs cs : List Bool). bs ++ cs) (vacant_flags l)
    (ap₂ (λ (b : Bool) (bs : List Bool). b ∷ bs) o (sym (drop-map (λ v. v.occupied) (suc l) vs) ∙ ap (drop (suc l)) e))
    ∙ carry L q

pub loaded_flags : (L : ℕ) (vs : List Level) (v : Level) → flags vs ≡ replicate (suc L) false → v.occupied ≡ true →
    flags (set vs L v) ≡ flags_after L 0
loaded_flags L vs v e o =
    map-set (λ v. v.occupied) vs L v ∙ ap₂ (λ (bs : List Bool) (b : Bool). set bs L b) e o ∙ fill_top L

pub opened_flags : (L : ℕ) → flags (replicate (suc L) vacant) ≡ replicate (suc L) false
opened_flags L = vacant_flags (suc L)

-- ---- how many levels are occupied

abbrev count_true : List Bool → ℕ
count_true [] = 0
count_true (b ∷ bs) = cond b (suc (count_true bs)) (count_true bs)

count_flags : (vs : List Level) → occupied_count vs ≡ count_true (flags vs)
count_flags [] = refl
count_flags (v ∷ vs) = ap (λ n. cond v.occupied (suc n) n) (count_flags vs)

kept_shift : (f : ℕ → Bool) (a n : ℕ) → length (filter f (range_with_len (suc a) n)) ≡ length (filter (λ i. f (suc i)) (range_with_len a n))
kept_shift f a zero = refl
kept_shift f a (suc n) = by (f (suc a)) (ap (λ b. length (filter f (range_with_len b n))) (omega arith) ∙ kept_shift f (a + 1) n)
  where
    by : (b : Bool) → length (filter f (range_with_len (suc a + 1) n)) ≡ length (filter (λ i. f (suc i)) (range_with_len (a + 1) n)) →
        length (cond b (suc a ∷ filter f (range_with_len (suc a + 1) n)) (filter f (range_with_len (suc a + 1) n)))
        ≡ length (cond b (a ∷ filter (λ i. f (suc i)) (range_with_len (a + 1) n)) (filter (λ i. f (suc i)) (range_with_len (a + 1) n)))
    by true e = ap suc e
    by false e = e

count_after : (L q : ℕ) → count_true (flags_after L q) ≡ suc (length (filter (λ i. bit i q) (range_with_len 0 L)))
count_after zero q = refl
count_after (suc L) q = by (eqb (q % 2) 1) (count_after L (q / 2)) (kept_shift (λ i. bit i q) 0 L)
  where
    by : (b : Bool) → count_true (flags_after L (q / 2)) ≡ suc (length (filter (λ i. bit i (q / 2)) (range_with_len 0 L))) →
        length (filter (λ i. bit i q) (range_with_len 1 L)) ≡ length (filter (λ i. bit i (q / 2)) (range_with_len 0 L)) →
        cond b (suc (count_true (flags_after L (q / 2)))) (count_true (flags_after L (q / 2)))
        ≡ suc (length (cond b (0 ∷ filter (λ i. bit i q) (range_with_len 1 L)) (filter (λ i. bit i q) (range_with_len 1 L))))
    by true e s = omega arith
    by false e s = omega arith

-- one for each bit that is set below L, and one for L
pub occupied_by_bits : (L q : ℕ) (vs : List Level) → flags vs ≡ flags_after L q →
    occupied_count vs ≡ suc (length (filter (λ i. bit i q) (range_with_len 0 L)))
occupied_by_bits L q vs e = count_flags vs ∙ ap count_true e ∙ count_after L q

-- ---- the flag of each level

pub flag_at : (vs : List Level) (i : ℕ) → get_or (flags vs) i false ≡ (get_or vs i vacant).occupied
flag_at vs i = get_or-map (λ v. v.occupied) vs i vacant

pub flag_before : (n i : ℕ) → get_or (replicate n false) i false ≡ false
flag_before zero i = refl
flag_before (suc n) zero = refl
flag_before (suc n) (suc i) = flag_before n i

pub flag_below : (L q i : ℕ) → i < L → get_or (flags_after L q) i false ≡ bit i q
flag_below zero q i l = absurd (omega arith)
flag_below (suc L) q zero l = refl
flag_below (suc L) q (suc i) l = flag_below L (q / 2) i (omega arith)

pub flag_top : (L q : ℕ) → get_or (flags_after L q) L false ≡ true
flag_top zero q = refl
flag_top (suc L) q = flag_top L (q / 2)

pub flags_count : (L q : ℕ) → length (flags_after L q) ≡ suc L
flags_count zero q = refl
flags_count (suc L) q = ap suc (flags_count L (q / 2))
