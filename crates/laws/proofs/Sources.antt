-- The levels that a rebuild gathers: all are occupied, level i was built 2^i accesses ago, and at L they list every address.
use Rattle.std.proofs.Common.{◌≡◌, ℕ, zero, suc, ◌+◌, ◌*◌, ◌/◌, ◌%◌, ◌^◌, ◌<◌, ◌≤◌, Bool, true, false, cond, ltb, List, [], ◌∷◌, ◌++◌, length, get_or, take, Some, sym, refl, ap, ◌∙◌, subst, ap₂, ⊎_elim, pow-suc, arith}
use lib.Count.{under}
use Rattle.std.specs.List.{range_with_len}
use Rattle.std.proofs.lemmas.List.FromFn.{length-map-range_with_len, get_or-map-range_with_len, length-range_with_len, get_or-range_with_len}
use Rattle.std.proofs.lemmas.List.{append_assoc, take_at, get_or_at, length_push}
use Rattle.std.proofs.lemmas.Bool.{cases_lt, eq-eqb, lt-ltb, le-ltb, cond-true, cond-false, or_left, or_right}
use Rattle.shape.specs.Numbers.{blocks, level_slots, level_of_build}
use Rattle.index.specs.Lists.{has}
use Rattle.permutations.specs.Tables.{IsPermutation}
use Rattle.permutations.specs.Lists.{AreIndexes}
use Rattle.permutations.specs.Choices.{size_of, table_of}
use Rattle.permutations.specs.Scripts.{Act, asked_of, Sound}
use Rattle.permutations.proofs.Asking.{asked_indexes}
use Rattle.rules.specs.World.{Level, vacant}
use Rattle.rules.specs.Rebuilding.{listed, sources}
use Rattle.laws.specs.Runs.{build_sizes, Choices}
use Rattle.laws.proofs.Scripts.{Mark}
use Rattle.laws.proofs.Invariant.{Used, Fits}
use Rattle.laws.proofs.Ranks.{stands_has}

-- ---- levels one above another

-- P holds of each of these levels, from l up; `lower` are the levels below
abbrev pub Along : (ℕ → List Level → Level → Type 0) → List Level → ℕ → List Level → Type 0
Along P lower l [] = Unit {0}
Along P lower l (v ∷ vs) = P l lower v × Along P (lower ++ (v ∷ [])) (suc l) vs

pub along_places : (P : ℕ → List Level → Level → Type 0) (all lower : List Level) (l : ℕ) (vs : List Level) → lower ++ vs ≡ all → length lower ≡ l →
    ((i : ℕ) → i < length all → P i (take i all) (get_or all i vacant)) → Along P lower l vs
along_places P all lower l [] e n h = tt
along_places P all lower l (v ∷ vs) e n h = (
  subst (λ (u : Level). P l lower u) (ap (λ (xs : List Level). get_or xs l vacant) (sym e) ∙ get_or_at lower v vs vacant l n)
      (subst (λ (xs : List Level). P l xs (get_or all l vacant)) (ap (take l) (sym e) ∙ take_at lower (v ∷ vs) l n) (h l inside)),
  along_places P all (lower ++ (v ∷ [])) (suc l) vs (append_assoc lower (v ∷ []) vs ∙ e) (omega (arith, length_push lower v)) h,
)
  where
    longer : (xs ys : List Level) → length xs < length (xs ++ (v ∷ ys))
    longer [] ys = omega arith
    longer (x ∷ xs) ys = omega (arith, longer xs ys)

    inside : l < length all
    inside = omega (arith, longer lower vs, ap length e)

pub along_both : (P Q : ℕ → List Level → Level → Type 0) (lower : List Level) (l : ℕ) (vs : List Level) → Along P lower l vs → Along Q lower l vs →
    Along (λ i below v. P i below v × Q i below v) lower l vs
along_both P Q lower l [] h k = tt
along_both P Q lower l (v ∷ vs) h k = ((h.0, k.0), along_both P Q (lower ++ (v ∷ [])) (suc l) vs h.1 k.1)

pub along_weaker : (P Q : ℕ → List Level → Level → Type 0) → ((i : ℕ) (below : List Level) (v : Level) → P i below v → Q i below v) →
    (lower : List Level) (l : ℕ) (vs : List Level) → Along P lower l vs → Along Q lower l vs
along_weaker P Q f lower l [] h = tt
along_weaker P Q f lower l (v ∷ vs) h = (f l lower v h.0, along_weaker P Q f (lower ++ (v ∷ [])) (suc l) vs h.1)

-- ---- the level of a build

pub build_level : (L l more q : ℕ) → L ≡ more + l → level_of_build more q ≡ 0 → level_of_build L (q * 2 ^ l) ≡ l
build_level L zero more q e z =
    let all : L ≡ more = omega arith in
    let once : q * 2 ^ 0 ≡ q = omega arith in
    ap₂ level_of_build all once ∙ z
build_level zero (suc l) more q e z = absurd (omega arith)
build_level (suc L) (suc l) more q e z =
    let c = q * 2 ^ l in
    let double : q * 2 ^ suc l ≡ 2 * c = ap (λ (x : ℕ). q * x) (pow-suc 2 l) ∙ omega arith in
    let none : (2 * c) % 2 ≡ 0 = omega arith in
    let half : (2 * c) / 2 ≡ c = omega arith in
    ap (level_of_build (suc L)) double ∙ ap₂ (λ (d x : ℕ). under d (level_of_build L x)) none half ∙ ap suc (build_level L l more q (omega arith) z)

odd_level : (more q : ℕ) → q % 2 ≡ 1 → level_of_build (suc more) q ≡ 0
odd_level more q e = ap (λ (d : ℕ). under d (level_of_build more (q / 2))) e

-- ---- what is gathered

-- an occupied level that was built 2^l accesses ago
pub record Fresh (L t a : ℕ) (s : List (Act Mark)) (l : ℕ) (lower : List Level) (v : Level) : Type 0 where
  pub used : Used L t l (Some a) s lower v
  pub since : v.build + 2 ^ l ≡ t
  pub level : level_of_build L v.build ≡ l

-- the levels gathered for level l + k, of the levels from l up, `more` of them below L
pub record Gathers (L t a : ℕ) (s : List (Act Mark)) (more k l : ℕ) (lower src : List Level) : Type 0 where
  pub fresh : Along (Fresh L t a s) lower l src
  pub many : length src ≡ cond (ltb k more) k (suc k)
  pub whole : k ≡ more → (x : ℕ) → x < blocks L → listed src x ≡ true

source_count : (k more : ℕ) → cond (ltb (suc k) (suc more)) (suc k) (suc (suc k)) ≡ suc (cond (ltb k more) k (suc k))
source_count k more = ⊎_elim low high (cases_lt k more)
  where
    low : k < more → cond (ltb (suc k) (suc more)) (suc k) (suc (suc k)) ≡ suc (cond (ltb k more) k (suc k))
    low l = cond-true (ltb (suc k) (suc more)) (suc k) (suc (suc k)) (lt-ltb (suc k) (suc more) (omega arith)) ∙ ap suc (sym (cond-true (ltb k more) k (suc k) (lt-ltb k more l)))

    high : more ≤ k → cond (ltb (suc k) (suc more)) (suc k) (suc (suc k)) ≡ suc (cond (ltb k more) k (suc k))
    high l = cond-false (ltb (suc k) (suc more)) (suc k) (suc (suc k)) (le-ltb (suc k) (suc more) (omega arith)) ∙ ap suc (sym (cond-false (ltb k more) k (suc k) (le-ltb k more l)))

counted_has : (n x : ℕ) → x < n → has (range_with_len 0 n) x ≡ true
counted_has n x l =
    let at : get_or (range_with_len 0 n) x 0 ≡ x = get_or-range_with_len 0 n x 0 l ∙ omega arith in
    subst (λ (y : ℕ). has (range_with_len 0 n) y ≡ true) at (stands_has (range_with_len 0 n) x (omega (arith, length-range_with_len 0 n)))

grown : (q l t : ℕ) (b : ℕ) → b ≡ q * 2 ^ l → (q + 1) * 2 ^ l ≡ t → b + 2 ^ l ≡ t
grown q l t b e f = omega (arith, e, f)

next_grown : (q l t : ℕ) → q % 2 ≡ 1 → (q + 1) * 2 ^ l ≡ t → (q / 2 + 1) * 2 ^ suc l ≡ t
next_grown q l t o f =
    let m = q / 2 in
    let twice : q + 1 ≡ 2 * (m + 1) = omega arith in
    ap (λ (x : ℕ). (m + 1) * x) (pow-suc 2 l) ∙ sym (sym f ∙ ap (λ (x : ℕ). x * 2 ^ l) twice ∙ omega arith)

pub gathers : (L t a : ℕ) (s : List (Act Mark)) (more l q : ℕ) (lower vs : List Level) → L ≡ more + l → (q + 1) * 2 ^ l ≡ t →
    Fits L t (Some a) s more l q lower vs → Gathers L t a s more (level_of_build more (q + 1)) l lower (sources more (level_of_build more (q + 1)) vs)
gathers L t a s zero l q lower [] e f h = absurd h
gathers L t a s zero l q lower (v ∷ vs) e f h =
    subst (Gathers L t a s zero 0 l lower) (ap (λ (n : ℕ). take n (v ∷ vs)) (sym (cond-false (ltb 0 0) 0 1 (le-ltb 0 0 (omega arith)))))
    (record {
      fresh = (record { used = h.0; since = grown q l t v.build h.1 f; level = ap (level_of_build L) h.1 ∙ build_level L l zero q e refl }, tt);
      many = sym (cond-false (ltb 0 0) 0 1 (le-ltb 0 0 (omega arith)));
      whole = λ z x i. or_left (has v.members x) false (ap (λ (xs : List ℕ). has xs x) h.2 ∙ counted_has (blocks L) x i);
    })
gathers L t a s (suc more) l q lower [] e f h = absurd h
gathers L t a s (suc more) l q lower (v ∷ vs) e f h =
    by ((q + 1) % 2) refl (λ o. gathers L t a s more (suc l) (q / 2) (lower ++ (v ∷ [])) vs (omega arith) (next_grown q l t o f) h.1)
  where
    none_up : 0 ≡ suc more → ⊥
    none_up z = omega arith

    by : (d : ℕ) → (q + 1) % 2 ≡ d →
        (q % 2 ≡ 1 → Gathers L t a s more (level_of_build more (q / 2 + 1)) (suc l) (lower ++ (v ∷ [])) (sources more (level_of_build more (q / 2 + 1)) vs)) →
        Gathers L t a s (suc more) (under d (level_of_build more ((q + 1) / 2))) l lower (sources (suc more) (under d (level_of_build more ((q + 1) / 2))) (v ∷ vs))
    by zero g rest =
        let odd : q % 2 ≡ 1 = omega arith in
        let k = level_of_build more (q / 2 + 1) in
        let up : (q + 1) / 2 ≡ q / 2 + 1 = omega arith in
        let src = sources more k vs in
        let here : Used L t l (Some a) s lower v × (v.build ≡ q * 2 ^ l) =
        subst (λ (b : Bool). cond b (Used L t l (Some a) s lower v × (v.build ≡ q * 2 ^ l)) (v ≡ vacant)) (eq-eqb (q % 2) 1 odd) h.0 in
        let r = rest odd in
        let whole : Gathers L t a s (suc more) (suc k) l lower (v ∷ src) = record {
          fresh = (record { used = here.0; since = grown q l t v.build here.1 f; level = ap (level_of_build L) here.1 ∙ build_level L l (suc more) q e (odd_level more q odd) }, r.fresh);
          many = ap suc r.many ∙ sym (source_count k more);
          whole = λ z x i. or_right (has v.members x) (listed src x) (r.whole (omega arith) x i);
        } in
        subst (λ (n : ℕ). Gathers L t a s (suc more) (suc (level_of_build more n)) l lower (sources (suc more) (suc (level_of_build more n)) (v ∷ vs))) (sym up)
        (subst (Gathers L t a s (suc more) (suc k) l lower) (ap (λ (n : ℕ). take n (v ∷ vs)) (sym (source_count k more))) whole)
    by (suc d) g rest =
        let none : cond (ltb 0 (suc more)) 0 1 ≡ 0 = cond-true (ltb 0 (suc more)) 0 1 (lt-ltb 0 (suc more) (omega arith)) in
        subst (Gathers L t a s (suc more) 0 l lower) (ap (λ (n : ℕ). take n (v ∷ vs)) (sym none))
        (record { fresh = tt; many = sym none; whole = λ z x i. absurd (none_up z) })

-- ---- their tables, and what was asked of them

pub size_of_build : (L K b : ℕ) → b < K → size_of (build_sizes L K) b ≡ level_slots (level_of_build L b)
size_of_build L K b l = get_or-map-range_with_len (λ c. level_slots (level_of_build L c)) 0 K b b 0 l (omega arith)

pub table_of_build : (L K b l : ℕ) (ts : List (List ℕ)) → Choices L K ts → b < K → level_of_build L b ≡ l → IsPermutation (level_slots l) (table_of ts b)
table_of_build L K b l ts choice low e =
    subst (λ (n : ℕ). IsPermutation n (table_of ts b)) (size_of_build L K b low ∙ ap level_slots e)
    (choice.tables b (omega (arith, length-map-range_with_len (λ c. level_slots (level_of_build L c)) 0 K)))

pub asked_of_build : (L K b l : ℕ) (s : List (Act Mark)) → Sound (build_sizes L K) s → b < K → level_of_build L b ≡ l → AreIndexes (level_slots l) (asked_of b s)
asked_of_build L K b l s sound low e =
    subst (λ (n : ℕ). AreIndexes n (asked_of b s)) (size_of_build L K b low ∙ ap level_slots e) (asked_indexes (build_sizes L K) s sound b)

-- a level that is gathered, with its table
pub record Source (L t a : ℕ) (ts : List (List ℕ)) (s : List (Act Mark)) (l : ℕ) (lower : List Level) (v : Level) : Type 0 where
  pub used : Used L t l (Some a) s lower v
  pub since : v.build + 2 ^ l ≡ t
  pub table : IsPermutation (level_slots l) (table_of ts v.build)
  pub asked : AreIndexes (level_slots l) (asked_of v.build s)

pub source : (L K t a : ℕ) (ts : List (List ℕ)) (s : List (Act Mark)) → Choices L K ts → Sound (build_sizes L K) s → t < K →
    (l : ℕ) (lower : List Level) (v : Level) → Fresh L t a s l lower v → Source L t a ts s l lower v
source L K t a ts s choice sound low l lower v f =
    let early : v.build < K = omega (arith, f.since) in
    record {
      used = f.used;
      since = f.since;
      table = table_of_build L K v.build l ts choice early f.level;
      asked = asked_of_build L K v.build l s sound early f.level;
    }
