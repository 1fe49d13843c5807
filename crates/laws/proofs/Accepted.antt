-- What is known of a call that is accepted, and of a client that was refused at opening.
use Rattle.std.proofs.Common.{◌≡◌, ℕ, ◌+◌, ◌*◌, ◌<◌, ◌≤◌, Bool, true, false, cond, ◌&&◌, eqb, ltb, leb, ◌⊎◌, List, [], ◌∷◌, length, get_or, replicate, Some, None, Option, refl, ap, ◌∙◌, inl, inr, arith}
use Rattle.std.proofs.lemmas.List.{get_or-replicate, get_or_past, length-replicate}
use Rattle.std.proofs.lemmas.Bool.{cases_lt, and_parts, cond-false, eqb-true, leb-true, ltb-true}
use Rattle.shape.specs.Numbers.{blocks, levels_fit, width_fits, places_needed}
use Rattle.shape.specs.declared.refusal.Refusal.{Refusal}
use Rattle.shape.specs.declared.refusal.Refusal.TheVariants.{NotOpened, WrongTurn, UnknownOperation, UnknownAddress, WrongByteLength, BuildsUsedUp, OutOfRange, StoreUnfit, IndexOrSupplyUnfit}
use Rattle.store.specs.declared.entry.Entry.{Entry}
use Rattle.rules.specs.World.{Client, World, vacant}
use Rattle.rules.specs.Calls.{Call, load, access, rebuild, Answer, accepted, declined, Outcome, decline}
use Rattle.rules.specs.Checks.{unrefused, verdict}
use Rattle.rules.specs.Opening.{Parts, opening_answer, all_empty}
use Rattle.rules.specs.Runs.{accept, performed, after}

some_not_none : (r : Refusal) → ◌≡◌ {A = Option Refusal} (Some r) None → ⊥
some_not_none r e = let z : ◌≡◌ {A = ℕ} 0 1 = cc in omega arith

pub declined_not_accepted : (r : Refusal) (bytes : List ℕ) (es : List Entry) → ◌≡◌ {A = Answer} (declined r) (accepted bytes es) → ⊥
declined_not_accepted r bytes es e = let z : ◌≡◌ {A = ℕ} 0 1 = cc in omega arith

pub same_bytes : (bytes bytes' : List ℕ) (es es' : List Entry) → ◌≡◌ {A = Answer} (accepted bytes es) (accepted bytes' es') → bytes ≡ bytes'
same_bytes bytes bytes' es es' e = cc

-- ---- checks that were passed

passed : (b : Bool) (r : Refusal) (o : Option Refusal) → cond b o (Some r) ≡ None → (b ≡ true) × (o ≡ None)
passed true r o e = (refl, e)
passed false r o e = absurd (some_not_none r e)

pub load_turn : (K : ℕ) (k : Client) (bytes : List ℕ) (room : ℕ) → verdict K k (load bytes room) ≡ None → 0 ≡ k.number
load_turn K k bytes room e = eqb-true 0 k.number (passed _ WrongTurn _ (passed (unrefused k) NotOpened _ e).1).0

pub record AccessPassed (K : ℕ) (k : Client) (j op a : ℕ) : Type 0 where
  pub turn : 2 * j + 1 ≡ k.number
  pub operation : op ≤ 1
  pub address : a < blocks k.top
  pub builds : k.accesses + 1 < K

pub access_passed : (K : ℕ) (k : Client) (j op a : ℕ) (bytes : List ℕ) (room : ℕ) → verdict K k (access j op a bytes room) ≡ None → AccessPassed K k j op a
access_passed K k j op a bytes room e =
    let p₁ = passed (unrefused k) NotOpened _ e in
    let p₂ = passed (eqb (2 * j + 1) k.number) WrongTurn _ p₁.1 in
    let p₃ = passed (leb op 1) UnknownOperation _ p₂.1 in
    let p₄ = passed (ltb a (blocks k.top)) UnknownAddress _ p₃.1 in
    let p₅ = passed (eqb (length bytes) k.width) WrongByteLength _ p₄.1 in
    let p₆ = passed (ltb (k.accesses + 1) K) BuildsUsedUp _ p₅.1 in
    record {
      turn = eqb-true (2 * j + 1) k.number p₂.0;
      operation = leb-true op 1 p₃.0;
      address = ltb-true a (blocks k.top) p₄.0;
      builds = ltb-true (k.accesses + 1) K p₆.0;
    }

pub rebuild_turn : (K : ℕ) (k : Client) (j room : ℕ) → verdict K k (rebuild j room) ≡ None → 2 * j + 2 ≡ k.number
rebuild_turn K k j room e = eqb-true (2 * j + 2) k.number (passed (eqb (2 * j + 2) k.number) WrongTurn _ (passed (unrefused k) NotOpened _ e).1).0

-- ---- a call by its verdict

abbrev pub outcome_of : List (List ℕ) → World → Call → Option Refusal → Outcome
outcome_of ts w c o = elim o [ Some r ↦ decline w r | None ↦ accept ts w c ]

-- an accepted call had no refusal
pub accepted_passed : (ts : List (List ℕ)) (w : World) (c : Call) (bytes : List ℕ) (es : List Entry) → (performed ts w c).answer ≡ accepted bytes es → verdict (length ts) w.client c ≡ None
accepted_passed ts w c bytes es e = by (verdict (length ts) w.client c) e
  where
    by : (o : Option Refusal) → (outcome_of ts w c o).answer ≡ accepted bytes es → o ≡ None
    by (Some r) q = absurd (declined_not_accepted r bytes es q)
    by None q = refl

pub performed_accepted : (ts : List (List ℕ)) (w : World) (c : Call) → verdict (length ts) w.client c ≡ None → performed ts w c ≡ accept ts w c
performed_accepted ts w c e = ap (outcome_of ts w c) e

-- ---- a client that was refused at opening

refused_verdict : (K : ℕ) (k : Client) (r : Refusal) (c : Call) → k.refusal ≡ Some r → verdict K k c ≡ Some NotOpened
refused_verdict K k r c e = by c (ap (λ (o : Option Refusal). elim o [ Some x ↦ false | None ↦ true ]) e)
  where
    by : (c : Call) → unrefused k ≡ false → verdict K k c ≡ Some NotOpened
    by (load bytes room) f = cond-false (unrefused k) _ (Some NotOpened) f
    by (access j op a bytes room) f = cond-false (unrefused k) _ (Some NotOpened) f
    by (rebuild j room) f = cond-false (unrefused k) _ (Some NotOpened) f

-- every call is declined, and nothing changes
pub refused_declines : (ts : List (List ℕ)) (w : World) (r : Refusal) (c : Call) → w.client.refusal ≡ Some r → performed ts w c ≡ decline w NotOpened
refused_declines ts w r c e = ap (outcome_of ts w c) (refused_verdict (length ts) w.client r c e)

pub refused_stays : (ts : List (List ℕ)) (w : World) (r : Refusal) (cs : List Call) → w.client.refusal ≡ Some r → after ts w cs ≡ w
refused_stays ts w r [] e = refl
refused_stays ts w r (c ∷ cs) e = ap (λ (o : Outcome). after ts o.world cs) (refused_declines ts w r c e) ∙ refused_stays ts w r cs e

-- ---- what the opening checked

pub vacant_anywhere : (n l : ℕ) → get_or (replicate n vacant) l vacant ≡ vacant
vacant_anywhere n l = by (cases_lt l n)
  where
    by : (l < n) ⊎ (n ≤ l) → get_or (replicate n vacant) l vacant ≡ vacant
    by (inl h) = get_or-replicate n l vacant vacant h
    by (inr h) = get_or_past (replicate n vacant) l vacant (omega (arith, length-replicate n vacant))

pub record Opened (L W : ℕ) (p : Parts) : Type 0 where
  pub room : places_needed L ≤ length p.store_slots
  pub supply : p.supply_top ≡ L

pub opened_parts : (L W : ℕ) (p : Parts) → opening_answer L W p ≡ None → Opened L W p
opened_parts L W p e =
    let p₁ = passed (levels_fit L && width_fits W) OutOfRange _ e in
    let p₂ = passed _ StoreUnfit _ p₁.1 in
    let p₃ = passed _ IndexOrSupplyUnfit _ p₂.1 in
    let q₂ = and_parts (eqb p.store_width W) (leb (places_needed L) (length p.store_slots)) p₂.0 in
    let q₃ = and_parts (eqb (length p.index_lists) L) (eqb p.supply_top L && all_empty p.index_lists) p₃.0 in
    let q₄ = and_parts (eqb p.supply_top L) (all_empty p.index_lists) q₃.1 in
    record { room = leb-true (places_needed L) (length p.store_slots) q₂.1; supply = eqb-true p.supply_top L q₄.0 }
