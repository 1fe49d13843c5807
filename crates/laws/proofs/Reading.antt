-- A read finds the block at the lowest level that lists it, at its rank, and there its current bytes.
use Rattle.std.proofs.Common.{◌≡◌, ℕ, zero, suc, ◌+◌, ◌*◌, ◌/◌, ◌%◌, ◌^◌, ◌<◌, ◌≤◌, Bool, true, false, cond, ◌||◌, eqb, ◌⊎◌, List, [], ◌∷◌, ◌++◌, length, get_or, take, None, sym, refl, ap, ◌∙◌, subst, inl, inr, arith}
use Rattle.std.specs.List.{range_with_len}
use Rattle.std.proofs.lemmas.List.FromFn.{length-range_with_len, get_or-range_with_len}
use Rattle.std.proofs.lemmas.List.{append_assoc}
use Rattle.std.proofs.lemmas.Bool.{cases_Bool, eq-eqb, ne_eqb, cond-true, cond-false, or_from, and_right, and_from}
use Rattle.shape.specs.Numbers.{blocks, level_start}
use Rattle.store.specs.State.{Slot, slot_at}
use Rattle.index.specs.Lists.{has, smaller, Rising}
use Rattle.permutations.specs.Choices.{slot_of}
use Rattle.permutations.specs.Scripts.{Act}
use Rattle.rules.specs.World.{Level, World, vacant}
use Rattle.rules.specs.Accessing.{finds, Ask, asked_index, asks_from, asks, found_from, ask_place, found_bytes}
use Rattle.rules.specs.Rebuilding.{listed}
use Rattle.laws.proofs.Scripts.{Mark}
use Rattle.laws.proofs.Invariant.{Used, Fits, Ready}
use Rattle.laws.proofs.Ranks.{stands_has, rank_place}
use Rattle.laws.proofs.Contents.{Filled}

-- ---- one level after another

pub listed_append : (us vs : List Level) (x : ℕ) → listed (us ++ vs) x ≡ (listed us x || listed vs x)
listed_append [] vs x = refl
listed_append (u ∷ us) vs x = ap (λ (b : Bool). has u.members x || b) (listed_append us vs x) ∙ or_assoc (has u.members x) (listed us x) (listed vs x)
  where
    or_assoc : (a b c : Bool) → (a || (b || c)) ≡ ((a || b) || c)
    or_assoc true b c = refl
    or_assoc false b c = refl

found_from_low : (a l : ℕ) (vs : List Level) → l ≤ found_from a l vs
found_from_low a l [] = omega arith
found_from_low a l (v ∷ vs) = by (finds false a v) (found_from_low a (suc l) vs)
  where
    by : (b : Bool) → suc l ≤ found_from a (suc l) vs → l ≤ cond b l (found_from a (suc l) vs)
    by true h = omega arith
    by false h = omega arith

module _ (ts : List (List ℕ)) (slots : List Slot) (a : ℕ) where
  -- the bytes that a read of a takes from these levels, l and up
  abbrev taken_bytes : ℕ → List Level → List ℕ
  taken_bytes l vs = found_bytes ts slots (found_from a l vs) (asks_from false a l vs)

  abbrev own_ask : ℕ → Level → Ask
  own_ask l v = record { level = l; build = v.build; index = asked_index false a v }

  skipped : (l : ℕ) (v : Level) (vs : List Level) → finds false a v ≡ false → taken_bytes l (v ∷ vs) ≡ taken_bytes (suc l) vs
  skipped l v vs none = by (cases_Bool v.occupied)
    where
      higher : found_from a l (v ∷ vs) ≡ found_from a (suc l) vs
      higher = cond-false (finds false a v) l (found_from a (suc l) vs) none

      rest : asks_from (false || finds false a v) a (suc l) vs ≡ asks_from false a (suc l) vs
      rest = ap (λ (b : Bool). asks_from b a (suc l) vs) none

      by : (v.occupied ≡ true) ⊎ (v.occupied ≡ false) → taken_bytes l (v ∷ vs) ≡ taken_bytes (suc l) vs
      by (inl e) =
          ap (λ (n : ℕ). found_bytes ts slots n (asks_from false a l (v ∷ vs))) higher
          ∙ ap (found_bytes ts slots (found_from a (suc l) vs)) (cond-true v.occupied (own_ask l v ∷ asks_from (false || finds false a v) a (suc l) vs) (asks_from (false || finds false a v) a (suc l) vs) e)
          ∙ cond-false (eqb l (found_from a (suc l) vs)) (slot_at slots (ask_place ts (own_ask l v))).bytes (found_bytes ts slots (found_from a (suc l) vs) (asks_from (false || finds false a v) a (suc l) vs))
          (ne_eqb l (found_from a (suc l) vs) (λ q. omega (arith, found_from_low a (suc l) vs)))
          ∙ ap (found_bytes ts slots (found_from a (suc l) vs)) rest
      by (inr e) =
          ap (λ (n : ℕ). found_bytes ts slots n (asks_from false a l (v ∷ vs))) higher
          ∙ ap (found_bytes ts slots (found_from a (suc l) vs)) (cond-false v.occupied (own_ask l v ∷ asks_from (false || finds false a v) a (suc l) vs) (asks_from (false || finds false a v) a (suc l) vs) e ∙ rest)

  here : (l : ℕ) (v : Level) (vs : List Level) → v.occupied ≡ true → has v.members a ≡ true →
      taken_bytes l (v ∷ vs) ≡ (slot_at slots (level_start l + slot_of ts v.build (smaller v.members a))).bytes
  here l v vs e h =
      ap (λ (n : ℕ). found_bytes ts slots n (asks_from false a l (v ∷ vs))) (cond-true (finds false a v) l (found_from a (suc l) vs) found)
      ∙ ap (found_bytes ts slots l) (cond-true v.occupied (own_ask l v ∷ asks_from (false || finds false a v) a (suc l) vs) (asks_from (false || finds false a v) a (suc l) vs) e)
      ∙ cond-true (eqb l l) (slot_at slots (ask_place ts (own_ask l v))).bytes (found_bytes ts slots l (asks_from (false || finds false a v) a (suc l) vs)) (eq-eqb l l refl)
      ∙ ap (λ (i : ℕ). (slot_at slots (level_start l + slot_of ts v.build i)).bytes) (cond-true (finds false a v) (smaller v.members a) v.counter found)
    where
      found : finds false a v ≡ true
      found = and_from v.occupied (has v.members a) e h

-- where a read finds its block among levels l and up, `more` of them below L: in an occupied level, `at` levels up, that has it, while no lower one has
pub record Found (ts : List (List ℕ)) (slots : List Slot) (a more l : ℕ) (lower vs : List Level) : Type 0 where
  pub at : ℕ
  pub inside : at ≤ more
  pub occupied : (get_or vs at vacant).occupied ≡ true
  pub rising : Rising (get_or vs at vacant).members
  pub member : has (get_or vs at vacant).members a ≡ true
  pub clear : listed (lower ++ take at vs) a ≡ false
  pub bytes :
      found_bytes ts slots (found_from a l vs) (asks_from false a l vs)
      ≡ (slot_at slots (level_start (l + at) + slot_of ts (get_or vs at vacant).build (smaller (get_or vs at vacant).members a))).bytes

module _ (ts : List (List ℕ)) (slots : List Slot) (a : ℕ) where
  -- at the lowest of these levels
  found_here : (more l : ℕ) (lower : List Level) (v : Level) (vs : List Level) → v.occupied ≡ true → Rising v.members → has v.members a ≡ true →
      listed lower a ≡ false → Found ts slots a more l lower (v ∷ vs)
  found_here more l lower v vs e rises h clear = record {
    at = 0;
    inside = omega arith;
    occupied = e;
    rising = rises;
    member = h;
    clear = listed_append lower [] a ∙ or_from (listed lower a) false clear refl;
    bytes =
        here ts slots a l v vs e h
        ∙ ap (λ (n : ℕ). (slot_at slots (level_start n + slot_of ts v.build (smaller v.members a))).bytes) {x = l} {y = l + 0} (omega arith);
  }

  -- higher up
  found_higher : (more l : ℕ) (lower : List Level) (v : Level) (vs : List Level) → finds false a v ≡ false →
      Found ts slots a more (suc l) (lower ++ (v ∷ [])) vs → Found ts slots a (suc more) l lower (v ∷ vs)
  found_higher more l lower v vs none up = record {
    at = suc up.at;
    inside = omega (arith, up.inside);
    occupied = up.occupied;
    rising = up.rising;
    member = up.member;
    clear = ap (λ (us : List Level). listed us a) (sym (append_assoc lower (v ∷ []) (take up.at vs))) ∙ up.clear;
    bytes =
        skipped ts slots a l v vs none ∙ up.bytes
        ∙ ap (λ (n : ℕ). (slot_at slots (level_start n + slot_of ts (get_or vs up.at vacant).build (smaller (get_or vs up.at vacant).members a))).bytes)
        {x = suc l + up.at} {y = l + suc up.at} (omega arith);
  }

  -- a level that has not the block is passed over, and leaves it in no lower list
  passed_list : (lower : List Level) (v : Level) → listed lower a ≡ false → has v.members a ≡ false → listed (lower ++ (v ∷ [])) a ≡ false
  passed_list lower v clear h = listed_append lower (v ∷ []) a ∙ or_from (listed lower a) (has v.members a || false) clear (or_from (has v.members a) false h refl)

  pub found_in : (L t : ℕ) (s : List (Act Mark)) → a < blocks L →
      (more l q : ℕ) (lower vs : List Level) → Fits L t None s more l q lower vs → listed lower a ≡ false → Found ts slots a more l lower vs
  found_in L t s low zero l q lower [] fits clear = elim fits [ ]
  found_in L t s low zero l q lower (v ∷ vs) fits clear =
      found_here zero l lower v vs fits.0.occupied fits.0.rising (ap (λ (xs : List ℕ). has xs a) fits.2 ∙ all_have) clear
    where
      all_have : has (range_with_len 0 (blocks L)) a ≡ true
      all_have =
          let at : get_or (range_with_len 0 (blocks L)) a 0 ≡ a = get_or-range_with_len 0 (blocks L) a 0 low ∙ omega arith in
          ap (has (range_with_len 0 (blocks L))) (sym at) ∙ stands_has (range_with_len 0 (blocks L)) a (omega (arith, length-range_with_len 0 (blocks L)))
  found_in L t s low (suc more) l q lower [] fits clear = elim fits [ ]
  found_in L t s low (suc more) l q lower (v ∷ vs) fits clear =
      by (cases_Bool (eqb (q % 2) 1)) (λ h. found_in L t s low more (suc l) (q / 2) (lower ++ (v ∷ [])) vs fits.1 (passed_list lower v clear h))
    where
      by : (eqb (q % 2) 1 ≡ true) ⊎ (eqb (q % 2) 1 ≡ false) → (has v.members a ≡ false → Found ts slots a more (suc l) (lower ++ (v ∷ [])) vs) →
          Found ts slots a (suc more) l lower (v ∷ vs)
      by (inl odd) up = look (cases_Bool (has v.members a))
        where
          used : Used L t l None s lower v × (v.build ≡ q * 2 ^ l)
          used = subst (λ (b : Bool). cond b (Used L t l None s lower v × (v.build ≡ q * 2 ^ l)) (v ≡ vacant)) odd fits.0

          look : (has v.members a ≡ true) ⊎ (has v.members a ≡ false) → Found ts slots a (suc more) l lower (v ∷ vs)
          look (inl h) = found_here (suc more) l lower v vs used.0.occupied used.0.rising h clear
          look (inr h) = found_higher more l lower v vs (and_right v.occupied (has v.members a) h) (up h)
      by (inr even) up =
          found_higher more l lower v vs (ap (finds false a) empty) (up (ap (λ (u : Level). has u.members a) empty))
        where
          empty : v ≡ vacant
          empty = subst (λ (b : Bool). cond b (Used L t l None s lower v × (v.build ≡ q * 2 ^ l)) (v ≡ vacant)) even fits.0

-- a read at rest gives the current bytes
pub read_gives : (ts : List (List ℕ)) (L K r : ℕ) (s : List (Act Mark)) (value : ℕ → List ℕ) (w : World) (a : ℕ) →
    Ready L K r None s w.client → Filled ts L None value w → a < blocks L →
    found_bytes ts w.slots (found_from a 0 w.client.levels) (asks a w.client.levels) ≡ value a
read_gives ts L K r s value w a ready filled low =
    f.bytes
    ∙ ap (λ (n : ℕ). (slot_at w.slots (level_start n + slot_of ts v.build (smaller v.members a))).bytes) {x = 0 + f.at} {y = f.at} (omega arith)
    ∙ filled.current f.at f.inside f.occupied (smaller v.members a) rank.0
    (ap (listed (take f.at w.client.levels)) rank.1 ∙ f.clear)
    ∙ ap value rank.1
  where
    f : Found ts w.slots a L 0 [] w.client.levels
    f = found_in ts w.slots a L r s low L 0 r [] w.client.levels ready.levels refl

    v : Level
    v = get_or w.client.levels f.at vacant

    rank : (smaller (get_or w.client.levels f.at vacant).members a < length (get_or w.client.levels f.at vacant).members)
        × (get_or (get_or w.client.levels f.at vacant).members (smaller (get_or w.client.levels f.at vacant).members a) 0 ≡ a)
    rank = rank_place (get_or w.client.levels f.at vacant).members a f.rising f.member
