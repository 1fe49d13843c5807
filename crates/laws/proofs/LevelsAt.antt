-- The levels one by one, by their number: what the invariant says of each, and what an access and a rebuild leave of it.
use Rattle.std.proofs.Common.{◌≡◌, ℕ, zero, suc, ◌+◌, ◌-◌, ◌*◌, ◌/◌, ◌%◌, ◌^◌, ◌<◌, ◌≤◌, Bool, true, false, cond, not, ◌&&◌, ◌||◌, eqb, ◌⊎◌, List, [], ◌∷◌, ◌++◌, length, get_or, take, drop, replicate, filter, Option, sym, refl, ap, ◌∙◌, subst, inl, inr, arith}
use lib.Count.{under}
use Rattle.std.specs.List.{range_with_len}
use Rattle.std.proofs.lemmas.List.{get_or_append_left, get_or-append_right, length-replicate, get_or-replicate, get_or-drop}
use Rattle.std.proofs.lemmas.Bool.{cases_Bool, cases_eq, eqb-true, eqb-false, eq-eqb, or_parts, or_from, or_left, or_right, false≢true}
use Rattle.shape.specs.Numbers.{blocks, level_of_build}
use Rattle.index.specs.Lists.{has}
use Rattle.permutations.specs.Scripts.{Act}
use Rattle.rules.specs.World.{Level, Client, size, vacant}
use Rattle.rules.specs.Checks.{rebuild_level}
use Rattle.rules.specs.Accessing.{finds, counted_from}
use Rattle.rules.specs.Rebuilding.{listed, rebuilt_level, rebuilt_members, rebuilt_client}
use Rattle.laws.specs.Keeping.{level_at}
use Rattle.laws.proofs.Scripts.{Mark}
use Rattle.laws.proofs.Invariant.{Used, Fits}

-- ---- what the invariant says

pub fits_length : (L t : ℕ) (h : Option ℕ) (s : List (Act Mark)) (more l q : ℕ) (lower vs : List Level) → Fits L t h s more l q lower vs → length vs ≡ suc more
fits_length L t h s zero l q lower [] fits = elim fits [ ]
fits_length L t h s zero l q lower (v ∷ vs) fits = ap (λ (us : List Level). suc (length us)) fits.3
fits_length L t h s (suc more) l q lower [] fits = elim fits [ ]
fits_length L t h s (suc more) l q lower (v ∷ vs) fits = ap suc (fits_length L t h s more (suc l) (q / 2) (lower ++ (v ∷ [])) vs fits.1)

-- an occupied level l has at most 2^l members, all of them addresses
pub record Sized (L l : ℕ) (v : Level) : Type 0 where
  pub few : size v ≤ 2 ^ l
  pub addresses : (j : ℕ) → j < size v → get_or v.members j 0 < blocks L

used_sized : (L t l m : ℕ) (h : Option ℕ) (s : List (Act Mark)) (lower : List Level) (v : Level) → l ≡ m → Used L t l h s lower v → Sized L m v
used_sized L t l m h s lower v e used = record { few = subst (λ (n : ℕ). size v ≤ 2 ^ n) e used.few; addresses = used.addresses }

pub sized_at : (L t : ℕ) (h : Option ℕ) (s : List (Act Mark)) (more l q : ℕ) (lower vs : List Level) → Fits L t h s more l q lower vs →
    (i : ℕ) → i ≤ more → (get_or vs i vacant).occupied ≡ true → Sized L (l + i) (get_or vs i vacant)
sized_at L t h s zero l q lower [] fits i low occ = elim fits [ ]
sized_at L t h s zero l q lower (v ∷ vs) fits zero low occ = used_sized L t l (l + 0) h s lower v (omega arith) fits.0
sized_at L t h s zero l q lower (v ∷ vs) fits (suc i) low occ = absurd (omega arith)
sized_at L t h s (suc more) l q lower [] fits i low occ = elim fits [ ]
sized_at L t h s (suc more) l q lower (v ∷ vs) fits zero low occ = by (cases_Bool (eqb (q % 2) 1))
  where
    by : (eqb (q % 2) 1 ≡ true) ⊎ (eqb (q % 2) 1 ≡ false) → Sized L (l + 0) v
    by (inl odd) =
        let used = subst (λ (b : Bool). cond b (Used L t l h s lower v × (v.build ≡ q * 2 ^ l)) (v ≡ vacant)) odd fits.0 in
        used_sized L t l (l + 0) h s lower v (omega arith) used.0
    by (inr even) =
        let empty = subst (λ (b : Bool). cond b (Used L t l h s lower v × (v.build ≡ q * 2 ^ l)) (v ≡ vacant)) even fits.0 in
        absurd (false≢true (sym (ap (λ (u : Level). u.occupied) empty) ∙ occ))
sized_at L t h s (suc more) l q lower (v ∷ vs) fits (suc i) low occ =
    subst (λ (n : ℕ). Sized L n (get_or vs i vacant)) {x = suc l + i} {y = l + suc i} (omega arith)
    (sized_at L t h s more (suc l) (q / 2) (lower ++ (v ∷ [])) vs fits.1 i (omega arith) occ)

-- the level that a rebuild goes to is vacant, if it is below L
pub rebuild_goes_to_vacant : (L t : ℕ) (h : Option ℕ) (s : List (Act Mark)) (more l q : ℕ) (lower vs : List Level) → Fits L t h s more l q lower vs →
    level_of_build more (suc q) < more → get_or vs (level_of_build more (suc q)) vacant ≡ vacant
rebuild_goes_to_vacant L t h s zero l q lower vs fits low = absurd (omega arith)
rebuild_goes_to_vacant L t h s (suc more) l q lower [] fits low = elim fits [ ]
rebuild_goes_to_vacant L t h s (suc more) l q lower (v ∷ vs) fits low =
    by (cases_Bool (eqb (q % 2) 1)) (rebuild_goes_to_vacant L t h s more (suc l) (q / 2) (lower ++ (v ∷ [])) vs fits.1)
  where
    by : (eqb (q % 2) 1 ≡ true) ⊎ (eqb (q % 2) 1 ≡ false) → (level_of_build more (suc (q / 2)) < more → get_or vs (level_of_build more (suc (q / 2))) vacant ≡ vacant) →
        get_or (v ∷ vs) (level_of_build (suc more) (suc q)) vacant ≡ vacant
    by (inl odd) up =
        let o : q % 2 ≡ 1 = eqb-true (q % 2) 1 odd in
        let e : suc q % 2 ≡ 0 = omega arith in
        let f : suc q / 2 ≡ suc (q / 2) = omega arith in
        let n : level_of_build (suc more) (suc q) ≡ suc (level_of_build more (suc (q / 2))) =
        ap (λ (d : ℕ). under d (level_of_build more (suc q / 2))) e ∙ ap (λ (b : ℕ). suc (level_of_build more b)) f in
        ap (λ (i : ℕ). get_or (v ∷ vs) i vacant) n ∙ up (omega arith)
    by (inr even) up =
        let o : q % 2 ≡ 1 → ⊥ = eqb-false (q % 2) 1 even in
        let e : suc q % 2 ≡ 1 = omega arith in
        let n : level_of_build (suc more) (suc q) ≡ 0 = ap (λ (d : ℕ). under d (level_of_build more (suc q / 2))) e in
        ap (λ (i : ℕ). get_or (v ∷ vs) i vacant) n
        ∙ subst (λ (b : Bool). cond b (Used L t l h s lower v × (v.build ≡ q * 2 ^ l)) (v ≡ vacant)) even fits.0

-- ---- lists by number

-- an address is in none of the first i lists exactly if each has it not
pub unlisted_each : (vs : List Level) (i x : ℕ) → listed (take i vs) x ≡ false → (n : ℕ) → n < i → has (get_or vs n vacant).members x ≡ false
unlisted_each vs zero x h n low = absurd (omega arith)
unlisted_each [] (suc i) x h n low = refl
unlisted_each (v ∷ vs) (suc i) x h zero low = (or_parts (has v.members x) (listed (take i vs) x) h).0
unlisted_each (v ∷ vs) (suc i) x h (suc n) low = unlisted_each vs i x (or_parts (has v.members x) (listed (take i vs) x) h).1 n (omega arith)

pub unlisted_from : (vs : List Level) (i x : ℕ) → ((n : ℕ) → n < i → has (get_or vs n vacant).members x ≡ false) → listed (take i vs) x ≡ false
unlisted_from vs zero x h = refl
unlisted_from [] (suc i) x h = refl
unlisted_from (v ∷ vs) (suc i) x h =
    or_from (has v.members x) (listed (take i vs) x) (h 0 (omega arith)) (unlisted_from vs i x (λ n low. h (suc n) (omega arith)))

-- ---- after an access

-- a level is as it was but for its counter
pub record SameList (u v : Level) : Type 0 where
  pub occupied : u.occupied ≡ v.occupied
  pub members : u.members ≡ v.members
  pub build : u.build ≡ v.build

pub counted_at : (found : Bool) (a : ℕ) (vs : List Level) (i : ℕ) → SameList (get_or (counted_from found a vs) i vacant) (get_or vs i vacant)
counted_at found a [] i = record { occupied = refl; members = refl; build = refl }
counted_at found a (v ∷ vs) zero = by (v.occupied && not (finds found a v))
  where
    by : (b : Bool) → SameList (cond b (record { occupied = v.occupied; members = v.members; counter = v.counter + 1; build = v.build }) v) v
    by true = record { occupied = refl; members = refl; build = refl }
    by false = record { occupied = refl; members = refl; build = refl }
counted_at found a (v ∷ vs) (suc i) = counted_at (found || finds found a v) a vs i

-- ---- after a rebuild

pub rebuilt_below : (k : Client) (i : ℕ) → i < rebuild_level k → level_at (rebuilt_client k) i ≡ vacant
rebuilt_below k i low =
    let l = rebuild_level k in
    let rest = rebuilt_level (rebuilt_members k) k.accesses ∷ drop (suc l) k.levels in
    get_or_append_left (replicate l vacant) rest vacant i (omega (arith, length-replicate l vacant)) ∙ get_or-replicate l i vacant vacant low

pub rebuilt_here : (k : Client) → level_at (rebuilt_client k) (rebuild_level k) ≡ rebuilt_level (rebuilt_members k) k.accesses
rebuilt_here k =
    let l = rebuild_level k in
    let rest = rebuilt_level (rebuilt_members k) k.accesses ∷ drop (suc l) k.levels in
    get_or-append_right (replicate l vacant) rest l l vacant (length-replicate l vacant) (omega arith)
    ∙ ap (λ (n : ℕ). get_or rest n vacant) {x = l - l} {y = 0} (omega arith)

pub rebuilt_above : (k : Client) (i : ℕ) → rebuild_level k < i → level_at (rebuilt_client k) i ≡ level_at k i
rebuilt_above k i high =
    let l = rebuild_level k in
    let rest = rebuilt_level (rebuilt_members k) k.accesses ∷ drop (suc l) k.levels in
    get_or-append_right (replicate l vacant) rest l i vacant (length-replicate l vacant) (omega arith)
    ∙ ap (λ (n : ℕ). get_or rest n vacant) {x = i - l} {y = suc (i - suc l)} (omega arith)
    ∙ get_or-drop (suc l) k.levels (i - suc l) vacant
    ∙ ap (λ (n : ℕ). get_or k.levels n vacant) {x = suc l + (i - suc l)} {y = i} (omega arith)

-- what passes a test stands in the filter
pub kept_has : (p : ℕ → Bool) (x a n : ℕ) → a ≤ x → x < a + n → p x ≡ true → has (filter p (range_with_len a n)) x ≡ true
kept_has p x a zero low high h = absurd (omega arith)
kept_has p x a (suc n) low high h = by (cases_eq a x) (cases_Bool (p a)) (λ m. kept_has p x (a + 1) n (omega arith) (omega arith) h)
  where
    by : (a ≡ x) ⊎ (a ≡ x → ⊥) → (p a ≡ true) ⊎ (p a ≡ false) → ((a ≡ x → ⊥) → has (filter p (range_with_len (a + 1) n)) x ≡ true) → has (filter p (range_with_len a (suc n))) x ≡ true
    by (inl e) (inl t) later =
        ap (λ (b : Bool). has (cond b (a ∷ filter p (range_with_len (a + 1) n)) (filter p (range_with_len (a + 1) n))) x) t ∙ or_left (eqb a x) (has (filter p (range_with_len (a + 1) n)) x) (eq-eqb a x e)
    by (inl e) (inr f) later = absurd (false≢true (sym f ∙ ap p e ∙ h))
    by (inr e) (inl t) later =
        ap (λ (b : Bool). has (cond b (a ∷ filter p (range_with_len (a + 1) n)) (filter p (range_with_len (a + 1) n))) x) t ∙ or_right (eqb a x) (has (filter p (range_with_len (a + 1) n)) x) (later e)
    by (inr e) (inr f) later =
        ap (λ (b : Bool). has (cond b (a ∷ filter p (range_with_len (a + 1) n)) (filter p (range_with_len (a + 1) n))) x) f ∙ later e
