-- Along every run a client is in one of its phases, and accepted calls take it from one to the next.
use Rattle.std.proofs.Common.{◌≡◌, ℕ, suc, ◌+◌, ◌-◌, ◌*◌, ◌/◌, ◌<◌, min, Bool, true, false, cond, ◌&&◌, List, [], ◌∷◌, ◌++◌, length, get_or, drop, set, replicate, Some, None, Option, sym, refl, ap, ◌∙◌, ap₂, arith}
use lib.ListN.{length-map, length-replicate}
use Rattle.std.proofs.lemmas.Bool.{eqb-true}
use Rattle.shape.specs.Numbers.{level_of_build}
use Rattle.shape.specs.declared.refusal.Refusal.{Refusal}
use Rattle.rules.specs.World.{Level, Client, World, vacant}
use Rattle.rules.specs.Calls.{Call, load, access, rebuild, turn_of, Outcome, decline}
use Rattle.rules.specs.Opening.{opening, opening_answer}
use Rattle.rules.specs.Checks.{verdict}
use Rattle.rules.specs.Loading.{loading, loaded_level}
use Rattle.rules.specs.Accessing.{accessing}
use Rattle.rules.specs.Rebuilding.{rebuilding, rebuilt_level, rebuilt_members}
use Rattle.rules.specs.Runs.{accept, performed, after}
use Rattle.laws.specs.Runs.{bit}
use Rattle.laws.specs.Histories.{History, world_of, took, tally, any_call, is_load, is_access, is_rebuild, calls_so_far, loads_so_far, accesses_so_far, rebuilds_so_far, Counts, AcceptedCallsTakeTurns, Occupation, LevelsOccupiedByBits}
use Rattle.laws.proofs.FirstFailing.{none_some}
use Rattle.laws.proofs.Phases.{flags, flags_after, counted_flags, rebuilt_flags, loaded_flags, opened_flags, flag_at, flag_before, flag_below, flag_top, flags_count}

-- not loaded; at rest after r rebuilds; a rebuild due after r rebuilds
pub data Phase : Type 0 where
  unloaded : Phase
  resting : ℕ → Phase
  due : ℕ → Phase

abbrev pub number_at : Phase → ℕ
number_at unloaded = 0
number_at (resting r) = 2 * r + 1
number_at (due r) = 2 * r + 2

abbrev pub loads_at : Phase → ℕ
loads_at unloaded = 0
loads_at (resting r) = 1
loads_at (due r) = 1

abbrev pub accesses_at : Phase → ℕ
accesses_at unloaded = 0
accesses_at (resting r) = r
accesses_at (due r) = suc r

abbrev pub rebuilds_at : Phase → ℕ
rebuilds_at unloaded = 0
rebuilds_at (resting r) = r
rebuilds_at (due r) = r

abbrev pub flags_at : ℕ → Phase → List Bool
flags_at L unloaded = replicate (suc L) false
flags_at L (resting r) = flags_after L r
flags_at L (due r) = flags_after L r

-- a client that was opened with L and W to this answer is in this phase
pub record In (L W : ℕ) (o : Option Refusal) (p : Phase) (k : Client) : Type 0 where
  pub refusal : k.refusal ≡ o
  pub top : k.top ≡ L
  pub width : k.width ≡ W
  pub number : k.number ≡ number_at p
  pub accesses : k.accesses ≡ accesses_at p
  pub occupied : flags k.levels ≡ flags_at L p

-- from one phase to another, so many calls of each kind were accepted
pub record Between (p q : Phase) (n ls ms rs : ℕ) : Type 0 where
  pub calls : number_at q ≡ number_at p + n
  pub loads : loads_at q ≡ loads_at p + ls
  pub accesses : accesses_at q ≡ accesses_at p + ms
  pub rebuilds : rebuilds_at q ≡ rebuilds_at p + rs

abbrev one_if : Bool → ℕ
one_if b = cond b 1 0

-- ---- one call

passed : (b : Bool) (rest : Option Refusal) (r : Refusal) → cond b rest (Some r) ≡ None → (b ≡ true) × (rest ≡ None)
passed true rest r e = (refl, e)
passed false rest r e = absurd (none_some r (sym e))

-- a call that is accepted brings the right turn
pub right_turn : (K : ℕ) (k : Client) (c : Call) → verdict K k c ≡ None → turn_of c ≡ k.number
right_turn K k (load bytes room) e = eqb-true _ _ (passed _ _ _ (passed _ _ _ e).1).0
right_turn K k (access j op a bytes room) e = eqb-true _ _ (passed _ _ _ (passed _ _ _ e).1).0
right_turn K k (rebuild j room) e = eqb-true _ _ (passed _ _ _ (passed _ _ _ e).1).0

module _ (L W : ℕ) (o : Option Refusal) (ts : List (List ℕ)) where
  -- what an outcome of a call from phase p leaves
  abbrev Leaves : Phase → Call → Outcome → Type 0
  Leaves p c out =
      let b = took out.answer in
      (q : Phase) × In L W o q out.world.client
      × Between p q (one_if (any_call c && b)) (one_if (is_load c && b)) (one_if (is_access c && b)) (one_if (is_rebuild c && b))

  declined_leaves : (p : Phase) (c : Call) (w : World) (r : Refusal) → In L W o p w.client → Leaves p c (decline w r)
  declined_leaves p c w r i =
      (p, i, record { calls = omega arith; loads = same (is_load c) (loads_at p); accesses = same (is_access c) (accesses_at p); rebuilds = same (is_rebuild c) (rebuilds_at p) })
    where
      same : (b : Bool) (n : ℕ) → n ≡ n + one_if (b && false)
      same true n = omega arith
      same false n = omega arith

  loading_leaves : (p : Phase) (w : World) (bytes : List ℕ) (room : ℕ) → In L W o p w.client → 0 ≡ w.client.number →
      Leaves p (load bytes room) (loading ts w bytes)
  unfolding loading
  loading_leaves unloaded w bytes room i e = (
    resting 0,
    record {
      refusal = i.refusal;
      top = i.top;
      width = i.width;
      number = omega (arith, i.number);
      accesses = i.accesses;
      occupied =
          ap (λ t. flags (set w.client.levels t (loaded_level w.client.top))) i.top
          ∙ loaded_flags L w.client.levels (loaded_level w.client.top) i.occupied refl;
    },
    record { calls = refl; loads = refl; accesses = refl; rebuilds = refl },
  )
  loading_leaves (resting r) w bytes room i e = absurd (let n : 0 ≡ 2 * r + 1 = e ∙ i.number in omega arith)
  loading_leaves (due r) w bytes room i e = absurd (let n : 0 ≡ 2 * r + 2 = e ∙ i.number in omega arith)

  accessing_leaves : (p : Phase) (w : World) (j op a : ℕ) (bytes : List ℕ) (room : ℕ) → In L W o p w.client → 2 * j + 1 ≡ w.client.number →
      Leaves p (access j op a bytes room) (accessing ts w op a bytes)
  unfolding accessing
  accessing_leaves unloaded w j op a bytes room i e = absurd (let n : 2 * j + 1 ≡ 0 = e ∙ i.number in omega arith)
  accessing_leaves (resting r) w j op a bytes room i e = (
    due r,
    record {
      refusal = i.refusal;
      top = i.top;
      width = i.width;
      number = omega (arith, i.number);
      accesses = omega (arith, i.accesses);
      occupied = counted_flags false a w.client.levels ∙ i.occupied;
    },
    record { calls = omega arith; loads = refl; accesses = omega arith; rebuilds = omega arith },
  )
  accessing_leaves (due r) w j op a bytes room i e = absurd (let n : 2 * j + 1 ≡ 2 * r + 2 = e ∙ i.number in omega arith)

  rebuilding_leaves : (p : Phase) (w : World) (j room : ℕ) → In L W o p w.client → 2 * j + 2 ≡ w.client.number →
      Leaves p (rebuild j room) (rebuilding ts w)
  unfolding rebuilding
  rebuilding_leaves unloaded w j room i e = absurd (let n : 2 * j + 2 ≡ 0 = e ∙ i.number in omega arith)
  rebuilding_leaves (resting r) w j room i e = absurd (let n : 2 * j + 2 ≡ 2 * r + 1 = e ∙ i.number in omega arith)
  rebuilding_leaves (due r) w j room i e =
      let k = w.client in
      let new : Level = rebuilt_level (rebuilt_members k) k.accesses in (
        resting (suc r),
        record {
          refusal = i.refusal;
          top = i.top;
          width = i.width;
          number = omega (arith, i.number);
          accesses = i.accesses;
          occupied =
              ap₂ (λ (t n : ℕ). flags (replicate (level_of_build t n) vacant ++ (new ∷ drop (suc (level_of_build t n)) k.levels))) i.top i.accesses
              ∙ rebuilt_flags L r k.levels new i.occupied refl;
        },
        record { calls = omega arith; loads = refl; accesses = omega arith; rebuilds = omega arith },
      )

  accepted_leaves : (p : Phase) (c : Call) (w : World) → In L W o p w.client → turn_of c ≡ w.client.number → Leaves p c (accept ts w c)
  accepted_leaves p (load bytes room) w i e = loading_leaves p w bytes room i e
  accepted_leaves p (access j op a bytes room) w i e = accessing_leaves p w j op a bytes room i e
  accepted_leaves p (rebuild j room) w i e = rebuilding_leaves p w j room i e

  performed_leaves : (p : Phase) (c : Call) (w : World) → In L W o p w.client → Leaves p c (performed ts w c)
  performed_leaves p c w i = by (verdict (length ts) w.client c) refl
    where
      by : (v : Option Refusal) → verdict (length ts) w.client c ≡ v → Leaves p c (elim v [ Some r ↦ decline w r | None ↦ accept ts w c ])
      by (Some r) e = declined_leaves p c w r i
      by None e = accepted_leaves p c w i (right_turn (length ts) w.client c e)

  -- ---- a list of calls

  abbrev Reaches : Phase → World → List Call → Type 0
  Reaches p w cs =
      (q : Phase) × In L W o q (after ts w cs).client
      × Between p q (tally ts any_call w cs) (tally ts is_load w cs) (tally ts is_access w cs) (tally ts is_rebuild w cs)

  summed : (b : Bool) (x y z n : ℕ) → y ≡ x + one_if b → z ≡ y + n → z ≡ x + cond b (suc n) n
  summed true x y z n d e = omega arith
  summed false x y z n d e = omega arith

  reaches : (p : Phase) (w : World) (cs : List Call) → In L W o p w.client → Reaches p w cs
  reaches p w [] i = (p, i, record { calls = omega arith; loads = omega arith; accesses = omega arith; rebuilds = omega arith })
  reaches p w (c ∷ cs) i =
      let first = performed_leaves p c w i in
      let rest = reaches first.0 (performed ts w c).world cs first.1 in (
        rest.0,
        rest.1,
        record {
          calls = summed _ _ _ _ _ first.2.calls rest.2.calls;
          loads = summed _ _ _ _ _ first.2.loads rest.2.loads;
          accesses = summed _ _ _ _ _ first.2.accesses rest.2.accesses;
          rebuilds = summed _ _ _ _ _ first.2.rebuilds rest.2.rebuilds;
        },
      )

-- ---- every history

abbrev pub Stands : History → Phase → Type 0
Stands h q =
    In h.top h.width (opening_answer h.top h.width h.parts) q (world_of h).client
    × Between unloaded q (calls_so_far h) (loads_so_far h) (accesses_so_far h) (rebuilds_so_far h)

pub phase_of : (h : History) → (q : Phase) × Stands h q
phase_of h =
    let all = reaches h.top h.width (opening_answer h.top h.width h.parts) h.tables unloaded
    (opening h.top h.width h.parts) h.calls
    (record { refusal = refl; top = refl; width = refl; number = refl; accesses = refl; occupied = opened_flags h.top }) in
    (all.0, (all.1, all.2))

phase_numbers : (q : Phase) →
    (loads_at q ≡ min 1 (number_at q)) × (accesses_at q ≡ number_at q / 2) × (rebuilds_at q ≡ (number_at q - 1) / 2)
    × (number_at q ≡ loads_at q + accesses_at q + rebuilds_at q)
phase_numbers unloaded = (refl, refl, refl, refl)
phase_numbers (resting r) = omega arith
phase_numbers (due r) = omega arith

pub counts : AcceptedCallsTakeTurns
counts h = by (phase_of h).0 (phase_of h).1
  where
    by : (q : Phase) → Stands h q → Counts h
    by q (i, b) =
        let n = phase_numbers q in
        record {
          number = omega (arith, i.number, b.calls);
          accesses = omega (arith, i.accesses, b.accesses);
          one_load = omega (arith, n.0, b.calls, b.loads);
          half_accesses = omega (arith, n.1, b.calls, b.accesses);
          half_rebuilds = omega (arith, n.2, b.calls, b.rebuilds);
          all_kinds = omega (arith, n.3, b.calls, b.loads, b.accesses, b.rebuilds);
        }

-- ---- the levels

pub occupation : LevelsOccupiedByBits
occupation h = by (phase_of h).0 (phase_of h).1
  where
    L : ℕ
    L = h.top

    vs : List Level
    vs = (world_of h).client.levels

    counted : (n : ℕ) (bs : List Bool) → flags vs ≡ bs → length bs ≡ n → length vs ≡ n
    counted n bs e l = sym (length-map vs (λ v. v.occupied)) ∙ ap length e ∙ l

    at : (bs : List Bool) (i : ℕ) (b : Bool) → flags vs ≡ bs → get_or bs i false ≡ b → (get_or vs i vacant).occupied ≡ b
    at bs i b e g = sym (flag_at vs i) ∙ ap (λ xs. get_or xs i false) e ∙ g

    loaded : (r : ℕ) → 0 < calls_so_far h → r ≡ rebuilds_so_far h → flags vs ≡ flags_after L r → Occupation h
    loaded r l e f = record {
      level_count = counted (suc L) (flags_after L r) f (flags_count L r);
      unloaded = λ n. absurd (omega arith);
      below_top = λ n i b. at (flags_after L r) i _ f (flag_below L r i b) ∙ ap (bit i) e;
      at_top = λ n. at (flags_after L r) L true f (flag_top L r);
    }

    by : (q : Phase) → Stands h q → Occupation h
    by unloaded (i, b) =
        let none : calls_so_far h ≡ 0 = omega (arith, b.calls) in
        record {
          level_count = counted (suc L) (replicate (suc L) false) i.occupied (length-replicate (suc L) false);
          unloaded = λ n j. at (replicate (suc L) false) j false i.occupied (flag_before (suc L) j);
          below_top = λ n. absurd (omega arith);
          at_top = λ n. absurd (omega arith);
        }
    by (resting r) (i, b) = loaded r (omega (arith, b.calls)) (omega (arith, b.rebuilds)) i.occupied
    by (due r) (i, b) = loaded r (omega (arith, b.calls)) (omega (arith, b.rebuilds)) i.occupied
