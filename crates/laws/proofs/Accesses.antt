-- An access keeps the invariant, and its asks are sound.
use Rattle.std.proofs.Common.{◌≡◌, ℕ, zero, suc, ◌+◌, ◌*◌, ◌/◌, ◌^◌, ◌<◌, ◌≤◌, Bool, true, false, cond, not, ◌&&◌, ◌||◌, List, [], ◌∷◌, ◌++◌, map, length, Some, None, Option, sym, refl, ap, ◌∙◌, subst, ap₂, ⊎_elim, arith}
use native.Mathlib.Nat.{pow-zero}
use Rattle.std.proofs.lemmas.List.FromFn.{get_or-map-range_with_len, length-map-range_with_len}
use Rattle.std.proofs.lemmas.List.{append-nil}
use Rattle.std.proofs.lemmas.Bool.{cases_Bool, eq-eqb, ne_eqb, true≢false, false≢true}
use Rattle.shape.specs.Numbers.{blocks, level_slots, level_of_build}
use Rattle.shape.proofs.TopLevel.{slots_double}
use Rattle.index.specs.Lists.{has, smaller}
use Rattle.permutations.specs.Lists.{among}
use Rattle.permutations.specs.Choices.{size_of}
use Rattle.permutations.specs.Scripts.{Act, ask, mark, asked_of, Allowed, SoundAfter}
use Rattle.permutations.proofs.Asking.{asked_append, asked_push, sound_append}
use Rattle.rules.specs.World.{Level, Client, vacant}
use Rattle.rules.specs.Accessing.{Ask, finds, asked_index, asks_from, asks, counted_from, accessed_client}
use Rattle.rules.specs.Rebuilding.{listed}
use Rattle.laws.specs.Runs.{build_sizes}
use Rattle.laws.proofs.Scripts.{Mark, begins, access_acts}
use Rattle.laws.proofs.Invariant.{Used, Fits, Ready}
use Rattle.laws.proofs.Booleans.{some_same}
pub use Rattle.laws.proofs.Heads.{odd_part, even_part, odd_put, even_put}
use Rattle.laws.proofs.Schedule.{odd_or_even, level_below, level_highest, half_below, builds_fall, half_above}
use Rattle.laws.proofs.Fresh.{listed_push}
use Rattle.laws.proofs.Touching.{counted_level, rank_new, counter_new, found_used, elsewhere_used}

abbrev pub as_act : Ask → Act Mark
as_act q = ask q.build q.index

-- what is asked of levels l and up
abbrev pub acts_from : Bool → ℕ → ℕ → List Level → List (Act Mark)
acts_from found a l vs = map as_act (asks_from found a l vs)

-- whether the block is found in a level or below it
abbrev pub found_after : Bool → ℕ → Level → Bool
found_after found a v = found || finds found a v

pub occupied_acts : (found : Bool) (a l : ℕ) (v : Level) (vs : List Level) → v.occupied ≡ true →
    acts_from found a l (v ∷ vs) ≡ ask v.build (asked_index found a v) ∷ acts_from (found_after found a v) a (suc l) vs
occupied_acts found a l v vs e =
    ap (λ b. map as_act
    (cond b (record { level = l; build = v.build; index = asked_index found a v } ∷ asks_from (found_after found a v) a (suc l) vs) (asks_from (found_after found a v) a (suc l) vs))) e

-- ---- Booleans

finds_is : (found : Bool) (a : ℕ) (v : Level) → v.occupied ≡ true → finds found a v ≡ (not found && has v.members a)
finds_is found a v e = ap (λ b. not found && (b && has v.members a)) e

found_more : (f h : Bool) → (f || (not f && h)) ≡ (f || h)
found_more true h = refl
found_more false h = refl

found_same : (f : Bool) → (f || (not f && false)) ≡ f
found_same true = refl
found_same false = refl

found_parts : (f h : Bool) → (not f && h) ≡ true → (f ≡ false) × (h ≡ true)
found_parts true h e = absurd (false≢true e)
found_parts false h e = (refl, e)

elsewhere_parts : (f h : Bool) → (not f && h) ≡ false → h ≡ true → f ≡ true
elsewhere_parts true h e k = refl
elsewhere_parts false h e k = absurd (true≢false (sym k ∙ e))

pub found_lists : (found : Bool) (a : ℕ) (lower : List Level) (v : Level) → v.occupied ≡ true → found ≡ listed lower a →
    found_after found a v ≡ listed (lower ++ (v ∷ [])) a
found_lists found a lower v e f =
    ap (λ b. found || b) (finds_is found a v e) ∙ found_more found (has v.members a)
    ∙ ap (λ b. b || has v.members a) f ∙ sym (listed_push lower v a)

pub found_lists_vacant : (found : Bool) (a : ℕ) (lower : List Level) → found ≡ listed lower a → found_after found a vacant ≡ listed (lower ++ (vacant ∷ [])) a
found_lists_vacant found a lower f = found_same found ∙ f ∙ by (listed lower a) ∙ sym (listed_push lower vacant a)
  where
    by : (b : Bool) → b ≡ (b || false)
    by true = refl
    by false = refl

-- ---- asks of one build

-- an ask of another build
pub other_build : (b c i : ℕ) (s : List (Act Mark)) → b < c → asked_of b (ask c i ∷ s) ≡ asked_of b s
other_build b c i s l = ap (λ t. cond t (i ∷ []) [] ++ asked_of b s) (ne_eqb c b (λ e. omega arith))

own_build : (c i : ℕ) (s : List (Act Mark)) → asked_of c s ≡ [] → asked_of c (ask c i ∷ s) ≡ i ∷ []
own_build c i s e = ap₂ (λ (t : Bool) (r : List ℕ). cond t (i ∷ []) [] ++ r) (eq-eqb c c refl) e

-- nothing is asked of a build that is later than those of the levels
pub later_build : (L t : ℕ) (h : Option ℕ) (s : List (Act Mark)) (more l q : ℕ) (lower vs : List Level) → Fits L t h s more l q lower vs →
    (found : Bool) (a b : ℕ) → q * 2 ^ l < b → asked_of b (acts_from found a l vs) ≡ []
later_build L t h s zero l q lower [] fits found a b lt = absurd fits
later_build L t h s zero l q lower (v ∷ []) fits found a b lt =
    ap (asked_of b) (occupied_acts found a l v [] fits.0.occupied)
    ∙ ap (λ t. cond t (asked_index found a v ∷ []) [] ++ []) (ne_eqb v.build b (λ e. omega (arith, fits.1)))
later_build L t h s zero l q lower (v ∷ (w ∷ vs)) fits found a b lt = absurd (omega (arith, ap length fits.3))
later_build L t h s (suc more) l q lower [] fits found a b lt = absurd fits
later_build L t h s (suc more) l q lower (v ∷ vs) fits found a b lt = ⊎_elim
    (λ odd.
    let here = odd_part L t l q h s lower v odd fits.0 in
    ap (asked_of b) (occupied_acts found a l v vs here.0.occupied)
    ∙ ap (λ t. cond t (asked_index found a v ∷ []) [] ++ asked_of b (acts_from (found_after found a v) a (suc l) vs)) (ne_eqb v.build b (λ e. omega (arith, here.1)))
    ∙ later_build L t h s more (suc l) (q / 2) (lower ++ (v ∷ [])) vs fits.1 (found_after found a v) a b (omega (arith, half_below q l)))
    (λ even.
    let here = even_part L t l q h s lower v even fits.0 in
    ap (λ u. asked_of b (acts_from found a l (u ∷ vs))) here
    ∙ later_build L t h s more (suc l) (q / 2) (lower ++ (v ∷ [])) vs fits.1 (found_after found a vacant) a b (omega (arith, half_below q l)))
    (odd_or_even q)

-- ---- one level

module _ (L r l q a : ℕ) (s : List (Act Mark)) (lower : List Level) (v : Level) (u : Used L r l None s lower v)
    (built : v.build ≡ q * 2 ^ l) (lt : r < suc q * 2 ^ l) (found : Bool) (f : found ≡ listed lower a) where
  counter_fits : v.counter < level_slots l
  counter_fits = omega (arith, slots_double l, u.counter_high, u.few, built)

  -- the index asked is within the level, and new
  pub ask_new : (asked_index found a v < level_slots l) × (among (asked_of v.build s) (asked_index found a v) ≡ false)
  ask_new = ⊎_elim here elsewhere (cases_Bool (finds found a v))
    where
      here : finds found a v ≡ true → (asked_index found a v < level_slots l) × (among (asked_of v.build s) (asked_index found a v) ≡ false)
      here e =
          let parts = found_parts found (has v.members a) (sym (finds_is found a v u.occupied) ∙ e) in
          subst (λ b. (cond b (smaller v.members a) v.counter < level_slots l) × (among (asked_of v.build s) (cond b (smaller v.members a) v.counter) ≡ false)) (sym e)
          (rank_new L r l a s lower v u (sym f ∙ parts.0) parts.1)

      elsewhere : finds found a v ≡ false → (asked_index found a v < level_slots l) × (among (asked_of v.build s) (asked_index found a v) ≡ false)
      elsewhere e =
          subst (λ b. (cond b (smaller v.members a) v.counter < level_slots l) × (among (asked_of v.build s) (cond b (smaller v.members a) v.counter) ≡ false)) (sym e)
          (counter_fits, counter_new L r l a s lower v u counter_fits)

  -- the level after it
  abbrev pub after_ask : Level
  after_ask = cond (v.occupied && not (finds found a v))
      (record { occupied = v.occupied; members = v.members; counter = v.counter + 1; build = v.build }) v

  pub ask_used : (s' : List (Act Mark)) (lower' : List Level) → ((x : ℕ) → listed lower' x ≡ listed lower x) →
      asked_of v.build s' ≡ asked_of v.build s ++ (asked_index found a v ∷ []) →
      Used L (suc r) l (Some a) s' lower' after_ask × (after_ask.build ≡ v.build) × (after_ask.members ≡ v.members)
  ask_used s' lower' same asks = ⊎_elim here elsewhere (cases_Bool (finds found a v))
    where
      here : finds found a v ≡ true → Used L (suc r) l (Some a) s' lower' after_ask × (after_ask.build ≡ v.build) × (after_ask.members ≡ v.members)
      here e =
          let parts = found_parts found (has v.members a) (sym (finds_is found a v u.occupied) ∙ e) in
          subst (λ w. Used L (suc r) l (Some a) s' lower' w × (w.build ≡ v.build) × (w.members ≡ v.members))
          (sym (ap₂ (λ (b c : Bool). cond (b && not c) (counted_level v) v) u.occupied e)) (
            found_used L r l a s lower v u s' lower' same (sym f ∙ parts.0) parts.1
                (asks ∙ ap (λ b. asked_of v.build s ++ (cond b (smaller v.members a) v.counter ∷ [])) e),
            refl,
            refl,
          )

      elsewhere : finds found a v ≡ false → Used L (suc r) l (Some a) s' lower' after_ask × (after_ask.build ≡ v.build) × (after_ask.members ≡ v.members)
      elsewhere e =
          let only = elsewhere_parts found (has v.members a) (sym (finds_is found a v u.occupied) ∙ e) in
          subst (λ w. Used L (suc r) l (Some a) s' lower' w × (w.build ≡ v.build) × (w.members ≡ v.members))
          (sym (ap₂ (λ (b c : Bool). cond (b && not c) (counted_level v) v) u.occupied e)) (
            elsewhere_used L r l a s lower v u s' lower' same (λ h. sym f ∙ only h)
                (asks ∙ ap (λ b. asked_of v.build s ++ (cond b (smaller v.members a) v.counter ∷ [])) e),
            refl,
            refl,
          )

-- lists of the same members
listed_push_same : (lower lower' : List Level) (v v' : Level) → ((x : ℕ) → listed lower' x ≡ listed lower x) → v'.members ≡ v.members →
    (x : ℕ) → listed (lower' ++ (v' ∷ [])) x ≡ listed (lower ++ (v ∷ [])) x
listed_push_same lower lower' v v' same e x =
    listed_push lower' v' x ∙ ap₂ (λ (b : Bool) (ms : List ℕ). b || has ms x) (same x) e ∙ sym (listed_push lower v x)

-- ---- all levels

accessed_fits : (L r a : ℕ) (s s' : List (Act Mark)) (more l q : ℕ) (lower lower' vs : List Level) (found : Bool) →
    Fits L r None s more l q lower vs → ((x : ℕ) → listed lower' x ≡ listed lower x) → found ≡ listed lower a → r < suc q * 2 ^ l →
    ((b : ℕ) → b ≤ q * 2 ^ l → asked_of b s' ≡ asked_of b s ++ asked_of b (acts_from found a l vs)) →
    Fits L (suc r) (Some a) s' more l q lower' (counted_from found a vs)
accessed_fits L r a s s' zero l q lower lower' [] found fits same f lt asks = absurd fits
accessed_fits L r a s s' zero l q lower lower' (v ∷ []) found fits same f lt asks =
    let u = fits.0 in
    let own : asked_of v.build s' ≡ asked_of v.build s ++ (asked_index found a v ∷ []) =
    asks v.build (omega (arith, fits.1))
    ∙ ap (λ ys. asked_of v.build s ++ asked_of v.build ys) (occupied_acts found a l v [] u.occupied)
    ∙ ap (λ ys. asked_of v.build s ++ ys) (own_build v.build (asked_index found a v) [] refl) in
    let now = ask_used L r l q a s lower v u fits.1 lt found f s' lower' same own in
    (now.0, now.1 ∙ fits.1, now.2 ∙ fits.2, refl)
accessed_fits L r a s s' zero l q lower lower' (v ∷ (w ∷ vs)) found fits same f lt asks = absurd (omega (arith, ap length fits.3))
accessed_fits L r a s s' (suc more) l q lower lower' [] found fits same f lt asks = absurd fits
accessed_fits L r a s s' (suc more) l q lower lower' (v ∷ vs) found fits same f lt asks = ⊎_elim
    (λ odd.
    let here = odd_part L r l q None s lower v odd fits.0 in
    let u = here.0 in
    let i = asked_index found a v in
    let found' = found_after found a v in
    let rest = acts_from found' a (suc l) vs in
    let unasked : asked_of v.build rest ≡ [] =
    later_build L r None s more (suc l) (q / 2) (lower ++ (v ∷ [])) vs fits.1 found' a v.build (omega (arith, builds_fall q l odd, here.1)) in
    let own : asked_of v.build s' ≡ asked_of v.build s ++ (i ∷ []) =
    asks v.build (omega (arith, here.1))
    ∙ ap (λ ys. asked_of v.build s ++ asked_of v.build ys) (occupied_acts found a l v vs u.occupied)
    ∙ ap (λ ys. asked_of v.build s ++ ys) (own_build v.build i rest unasked) in
    let now = ask_used L r l q a s lower v u here.1 lt found f s' lower' same own in
    let v' = after_ask L r l q a s lower v u here.1 lt found f in (
      odd_put L (suc r) l q (Some a) s' lower' v' odd (now.0, now.1 ∙ here.1),
      accessed_fits L r a s s' more (suc l) (q / 2) (lower ++ (v ∷ [])) (lower' ++ (v' ∷ [])) vs found' fits.1
          (listed_push_same lower lower' v v' same now.2) (found_lists found a lower v u.occupied f) (half_above q l r lt)
          (λ b m. asks b (omega (arith, half_below q l)) ∙ ap (λ ys. asked_of b s ++ asked_of b ys) (occupied_acts found a l v vs u.occupied)
          ∙ ap (λ ys. asked_of b s ++ ys) (other_build b v.build i rest (omega (arith, builds_fall q l odd, here.1)))),
    ))
    (λ even.
    let here = even_part L r l q None s lower v even fits.0 in
    let found' = found_after found a vacant in
    subst (λ w. Fits L (suc r) (Some a) s' (suc more) l q lower' (counted_from found a (w ∷ vs))) (sym here) (
      even_put L (suc r) l q (Some a) s' lower' vacant even refl,
      accessed_fits L r a s s' more (suc l) (q / 2) (lower ++ (v ∷ [])) (lower' ++ (vacant ∷ [])) vs found' fits.1
          (listed_push_same lower lower' v vacant same (ap (λ w. w.members) (sym here)))
          (found_lists_vacant found a lower f ∙ ap (λ w. listed (lower ++ (w ∷ [])) a) (sym here)) (half_above q l r lt)
          (λ b m. asks b (omega (arith, half_below q l)) ∙ ap (λ w. asked_of b s ++ asked_of b (acts_from found a l (w ∷ vs))) here),
    ))
    (odd_or_even q)

-- ---- the asks are sound

size_below : (L K b : ℕ) → b < K → size_of (build_sizes L K) b ≡ level_slots (level_of_build L b)
size_below L K b l = get_or-map-range_with_len (λ c. level_slots (level_of_build L c)) 0 K b b 0 l (omega arith)

pub sizes_count : (L K : ℕ) → length (build_sizes L K) ≡ K
sizes_count L K = length-map-range_with_len (λ c. level_slots (level_of_build L c)) 0 K

-- the size of a build of level l
pub size_at : (L K l b : ℕ) → b < K → level_of_build L b ≡ l → size_of (build_sizes L K) b ≡ level_slots l
size_at L K l b lt e = size_below L K b lt ∙ ap level_slots e

ask_allowed : (L K l b i : ℕ) (past s : List (Act Mark)) → b < K → level_of_build L b ≡ l → asked_of b past ≡ asked_of b s →
    (i < level_slots l) × (among (asked_of b s) i ≡ false) → Allowed (build_sizes L K) past (ask b i)
ask_allowed L K l b i past s lt e same new = (
  omega (arith, sizes_count L K),
  subst (λ n. i < n) (sym (size_at L K l b lt e)) new.0,
  ap (λ xs. among xs i) same ∙ new.1,
)

asks_sound : (L K r a : ℕ) (s past : List (Act Mark)) (more l q : ℕ) (lower vs : List Level) (found : Bool) →
    Fits L r None s more l q lower vs → l + more ≡ L → found ≡ listed lower a → q * 2 ^ l ≤ r → r < K → r < suc q * 2 ^ l →
    ((b : ℕ) → b ≤ q * 2 ^ l → asked_of b past ≡ asked_of b s) →
    SoundAfter (build_sizes L K) past (acts_from found a l vs)
asks_sound L K r a s past zero l q lower [] found fits e f le few lt asks = absurd fits
asks_sound L K r a s past zero l q lower (v ∷ []) found fits e f le few lt asks =
    let u = fits.0 in
    let level : level_of_build L v.build ≡ l = let same : L ≡ l = omega arith in
    ap (level_of_build L) (fits.1 ∙ ap (λ n. q * 2 ^ n) (sym same)) ∙ level_highest L q ∙ same in
    subst (SoundAfter (build_sizes L K) past) (sym (occupied_acts found a l v [] u.occupied)) (
      ask_allowed L K l v.build (asked_index found a v) past s (omega (arith, fits.1)) level (asks v.build (omega (arith, fits.1)))
          (ask_new L r l q a s lower v u fits.1 lt found f),
      tt,
    )
asks_sound L K r a s past zero l q lower (v ∷ (w ∷ vs)) found fits e f le few lt asks = absurd (omega (arith, ap length fits.3))
asks_sound L K r a s past (suc more) l q lower [] found fits e f le few lt asks = absurd fits
asks_sound L K r a s past (suc more) l q lower (v ∷ vs) found fits e f le few lt asks = ⊎_elim
    (λ odd.
    let here = odd_part L r l q None s lower v odd fits.0 in
    let u = here.0 in
    let i = asked_index found a v in
    let level : level_of_build L v.build ≡ l = ap (level_of_build L) here.1 ∙ level_below L l q (omega arith) odd in
    subst (SoundAfter (build_sizes L K) past) (sym (occupied_acts found a l v vs u.occupied)) (
      ask_allowed L K l v.build i past s (omega (arith, here.1)) level (asks v.build (omega (arith, here.1)))
          (ask_new L r l q a s lower v u here.1 lt found f),
      asks_sound L K r a s (past ++ (ask v.build i ∷ [])) more (suc l) (q / 2) (lower ++ (v ∷ [])) vs (found_after found a v) fits.1 (omega arith)
          (found_lists found a lower v u.occupied f) (omega (arith, half_below q l)) few (half_above q l r lt)
          (λ b m. asked_push b past (ask v.build i)
          ∙ ap (λ t. asked_of b past ++ cond t (i ∷ []) []) (ne_eqb v.build b (λ d. omega (arith, builds_fall q l odd, here.1)))
          ∙ append-nil (asked_of b past) ∙ asks b (omega (arith, half_below q l))),
    ))
    (λ even.
    let here = even_part L r l q None s lower v even fits.0 in
    subst (λ w. SoundAfter (build_sizes L K) past (acts_from found a l (w ∷ vs))) (sym here)
    (asks_sound L K r a s past more (suc l) (q / 2) (lower ++ (v ∷ [])) vs (found_after found a vacant) fits.1 (omega arith)
    (found_lists_vacant found a lower f ∙ ap (λ w. listed (lower ++ (w ∷ [])) a) (sym here)) (omega (arith, half_below q l)) few (half_above q l r lt)
    (λ b m. asks b (omega (arith, half_below q l)))))
    (odd_or_even q)

-- ---- the whole access

module _ (L K r a : ℕ) (s : List (Act Mark)) (k : Client) (ready : Ready L K r None s k) (address : a < blocks L) (left : r + 1 < K) where
  one : r * 2 ^ 0 ≡ r
  one = ap (λ p. r * p) (pow-zero 2) ∙ omega arith

  one_more : suc r * 2 ^ 0 ≡ suc r
  one_more = ap (λ p. suc r * p) (pow-zero 2) ∙ omega arith

  pub access_sound : SoundAfter (build_sizes L K) s (access_acts a k)
  access_sound = (
    tt,
    asks_sound L K r a s (s ++ (mark begins ∷ [])) L 0 r [] k.levels false ready.levels (omega arith) refl
        (omega (arith, one)) (omega arith) (omega (arith, one_more)) (λ b l. asked_push b s (mark begins) ∙ append-nil (asked_of b s)),
  )

  pub access_ready : Ready L K r (Some a) (s ++ access_acts a k) (accessed_client a k)
  access_ready = record {
    unrefused = ready.unrefused;
    top = ready.top;
    number = omega (arith, ready.number);
    accesses = omega (arith, ready.accesses);
    held = refl;
    held_address = λ b e. subst (λ x. x < blocks L) (some_same a b e) address;
    builds_left = omega arith;
    levels =
        accessed_fits L r a s (s ++ access_acts a k) L 0 r [] [] k.levels false ready.levels (λ x. refl) refl (omega (arith, one_more))
        (λ b l. asked_append b s (access_acts a k));
    sound = sound_append (build_sizes L K) [] s (access_acts a k) ready.sound access_sound;
    later_unasked = λ b l.
        asked_append b s (access_acts a k)
        ∙ ap₂ (λ (xs ys : List ℕ). xs ++ ys) (ready.later_unasked b l)
        (later_build L r None s L 0 r [] k.levels ready.levels false a b (omega (arith, one)));
  }
