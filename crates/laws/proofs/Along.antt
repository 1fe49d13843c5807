-- The invariant holds along every list of calls, and the script of the list is sound.
use Rattle.std.proofs.Common.{◌≡◌, ℕ, suc, ◌+◌, ◌*◌, ◌<◌, Bool, true, false, cond, eqb, ltb, leb, List, [], ◌∷◌, ◌++◌, length, Some, None, Option, sym, refl, ap, ◌∙◌, subst, subst₂, arith}
use Rattle.std.proofs.lemmas.List.{append-nil, append_assoc}
use Rattle.std.proofs.lemmas.Bool.{eqb-true, ltb-true}
use Rattle.shape.specs.Numbers.{blocks, level_slots}
use Rattle.shape.specs.declared.refusal.Refusal.{Refusal}
use Rattle.shape.specs.declared.refusal.Refusal.TheVariants.{NotOpened, WrongTurn, UnknownOperation, UnknownAddress, WrongByteLength, BuildsUsedUp, TraceTooShort}
use Rattle.permutations.specs.Scripts.{Act, mark, Sound}
use Rattle.rules.specs.World.{Client, World}
use Rattle.rules.specs.Calls.{Call, load, access, rebuild, turn_of, Outcome, decline}
use Rattle.rules.specs.Opening.{opened}
use Rattle.rules.specs.Checks.{Check, first_failing, check, verdict, unrefused, occupied_count, rebuild_entries, rebuild_level}
use Rattle.rules.specs.Loading.{loaded_client, loading}
use Rattle.rules.specs.Accessing.{accessing}
use Rattle.rules.specs.Rebuilding.{rebuilding}
use Rattle.rules.specs.Runs.{accept, performed, after}
use Rattle.laws.specs.Runs.{build_sizes}
use Rattle.laws.proofs.Booleans.{none_not_some}
use Rattle.laws.proofs.Scripts.{Mark, loads, accepted_acts, accepted_client, acts, client_after, script}
use Rattle.laws.proofs.Invariant.{Ready}
use Rattle.laws.proofs.Loads.{load_ready}
use Rattle.laws.proofs.Accesses.{access_ready}
use Rattle.laws.proofs.Rebuilds.{rebuild_ready}

-- a client that was opened without a refusal, after a script: as it was opened, or loaded and with the invariant
pub data Standing (L W K : ℕ) (s : List (Act Mark)) (k : Client) : Type 0 where
  unloaded : k ≡ opened L W None → s ≡ [] → Standing L W K s k
  running : (r : ℕ) (h : Option ℕ) → Ready L K r h s k → k.width ≡ W → Standing L W K s k

-- ---- what an accepted call has passed

pub passed : (b : Bool) (x : Refusal) (o : Option Refusal) → cond b o (Some x) ≡ None → (b ≡ true) × (o ≡ None)
passed true x o e = (refl, e)
passed false x o e = absurd (none_not_some x (sym e))

passed_turn : (c : Check) (b : Bool) (x : Refusal) (cs : List Check) → first_failing (c ∷ check b x ∷ cs) ≡ None → (b ≡ true) × (first_failing cs ≡ None)
passed_turn c b x cs e = passed b x (first_failing cs) (passed c.holds c.otherwise (first_failing (check b x ∷ cs)) e).1

-- the call brings the turn that is due
pub turn_due : (K : ℕ) (k : Client) (c : Call) → verdict K k c ≡ None → turn_of c ≡ k.number
turn_due K k (load bytes room) e =
    eqb-true 0 k.number (passed_turn (check (unrefused k) NotOpened) (eqb 0 k.number) WrongTurn
    (check (eqb (length bytes) (blocks k.top * k.width)) WrongByteLength ∷ check (leb (level_slots k.top) room) TraceTooShort ∷ []) e).0
turn_due K k (access j op a bytes room) e =
    eqb-true (2 * j + 1) k.number (passed_turn (check (unrefused k) NotOpened) (eqb (2 * j + 1) k.number) WrongTurn
    (check (leb op 1) UnknownOperation ∷ check (ltb a (blocks k.top)) UnknownAddress ∷ check (eqb (length bytes) k.width) WrongByteLength
    ∷ check (ltb (k.accesses + 1) K) BuildsUsedUp ∷ check (leb (occupied_count k.levels) room) TraceTooShort ∷ []) e).0
turn_due K k (rebuild j room) e =
    eqb-true (2 * j + 2) k.number (passed_turn (check (unrefused k) NotOpened) (eqb (2 * j + 2) k.number) WrongTurn
    (check (leb (rebuild_entries k.top (rebuild_level k)) room) TraceTooShort ∷ []) e).0

-- an access is of an address, and a build is left
pub access_fits : (K : ℕ) (k : Client) (j op a : ℕ) (bytes : List ℕ) (room : ℕ) → verdict K k (access j op a bytes room) ≡ None →
    (a < blocks k.top) × (k.accesses + 1 < K)
access_fits K k j op a bytes room e =
    let last : List Check = check (leb (occupied_count k.levels) room) TraceTooShort ∷ [] in
    let five : List Check = check (ltb (k.accesses + 1) K) BuildsUsedUp ∷ last in
    let four : List Check = check (eqb (length bytes) k.width) WrongByteLength ∷ five in
    let three : List Check = check (ltb a (blocks k.top)) UnknownAddress ∷ four in
    let turn = passed_turn (check (unrefused k) NotOpened) (eqb (2 * j + 1) k.number) WrongTurn (check (leb op 1) UnknownOperation ∷ three) e in
    let operation = passed (leb op 1) UnknownOperation (first_failing three) turn.1 in
    let address = passed (ltb a (blocks k.top)) UnknownAddress (first_failing four) operation.1 in
    let width = passed (eqb (length bytes) k.width) WrongByteLength (first_failing five) address.1 in
    let left = passed (ltb (k.accesses + 1) K) BuildsUsedUp (first_failing last) width.1 in
    (ltb-true a (blocks k.top) address.0, ltb-true (k.accesses + 1) K left.0)

-- ---- one call

accepted_standing : (L W K : ℕ) (s : List (Act Mark)) (k : Client) (c : Call) → 0 < K → Standing L W K s k → verdict K k c ≡ None →
    Standing L W K (s ++ accepted_acts k c) (accepted_client k c)
accepted_standing L W K s k (load bytes room) some (unloaded e n) v =
    running 0 None
    (subst₂ (λ p q. Ready L K 0 None (p ++ (mark loads ∷ [])) (loaded_client q)) (sym n) (sym e) (load_ready L W K some)) (ap (λ q. q.width) e)
accepted_standing L W K s k (access j op a bytes room) some (unloaded e n) v =
    let zero_number : k.number ≡ 0 = ap (λ q. q.number) e in
    absurd (omega (arith, turn_due K k (access j op a bytes room) v))
accepted_standing L W K s k (rebuild j room) some (unloaded e n) v =
    let zero_number : k.number ≡ 0 = ap (λ q. q.number) e in
    absurd (omega (arith, turn_due K k (rebuild j room) v))
accepted_standing L W K s k (load bytes room) some (running r h ready w) v =
    absurd (omega (arith, ready.number, turn_due K k (load bytes room) v))
accepted_standing L W K s k (access j op a bytes room) some (running r None ready w) v =
    let fits = access_fits K k j op a bytes room v in
    running r (Some a)
    (access_ready L K r a s k ready (subst (λ n. a < blocks n) ready.top fits.0) (omega (arith, fits.1, ready.accesses))) w
accepted_standing L W K s k (access j op a bytes room) some (running r (Some x) ready w) v =
    absurd (omega (arith, ready.number, turn_due K k (access j op a bytes room) v))
accepted_standing L W K s k (rebuild j room) some (running r None ready w) v =
    absurd (omega (arith, ready.number, turn_due K k (rebuild j room) v))
accepted_standing L W K s k (rebuild j room) some (running r (Some x) ready w) v =
    running (suc r) None (rebuild_ready L K r x s k ready) w

pub call_standing : (L W K : ℕ) (s : List (Act Mark)) (k : Client) (c : Call) → 0 < K → Standing L W K s k →
    Standing L W K (s ++ acts K k c) (client_after K k c)
call_standing L W K s k c some st = by (verdict K k c) (accepted_standing L W K s k c some st)
  where
    by : (o : Option Refusal) → (o ≡ None → Standing L W K (s ++ accepted_acts k c) (accepted_client k c)) →
        Standing L W K (s ++ elim o [ Some r ↦ [] | None ↦ accepted_acts k c ]) (elim o [ Some r ↦ k | None ↦ accepted_client k c ])
    by (Some r) ok = subst (λ p. Standing L W K p k) (sym (append-nil s)) st
    by None ok = ok refl

-- ---- a list of calls

-- the client after a list of calls
abbrev pub clients_after : ℕ → Client → List Call → Client
clients_after K k [] = k
clients_after K k (c ∷ cs) = clients_after K (client_after K k c) cs

pub calls_standing : (L W K : ℕ) (s : List (Act Mark)) (k : Client) (cs : List Call) → 0 < K → Standing L W K s k →
    Standing L W K (s ++ script K k cs) (clients_after K k cs)
calls_standing L W K s k [] some st = subst (λ p. Standing L W K p k) (sym (append-nil s)) st
calls_standing L W K s k (c ∷ cs) some st =
    subst (λ p. Standing L W K p (clients_after K k (c ∷ cs))) (append_assoc s (acts K k c) (script K (client_after K k c) cs))
    (calls_standing L W K (s ++ acts K k c) (client_after K k c) cs some (call_standing L W K s k c some st))

-- after every list of calls from the opening on
pub always_standing : (L W K : ℕ) (cs : List Call) → 0 < K → Standing L W K (script K (opened L W None) cs) (clients_after K (opened L W None) cs)
always_standing L W K cs some = calls_standing L W K [] (opened L W None) cs some (unloaded refl refl)

standing_sound : (L W K : ℕ) (s : List (Act Mark)) (k : Client) → Standing L W K s k → Sound (build_sizes L K) s
standing_sound L W K s k (unloaded e n) = subst (Sound (build_sizes L K)) (sym n) tt
standing_sound L W K s k (running r h ready w) = ready.sound

-- the script of every list of calls is sound
pub always_sound : (L W K : ℕ) (cs : List Call) → 0 < K → Sound (build_sizes L K) (script K (opened L W None) cs)
always_sound L W K cs some = standing_sound L W K (script K (opened L W None) cs) (clients_after K (opened L W None) cs) (always_standing L W K cs some)

-- ---- the client in a world is the client alone

pub performed_client : (ts : List (List ℕ)) (w : World) (c : Call) → (performed ts w c).world.client ≡ client_after (length ts) w.client c
unfolding loading accessing rebuilding
performed_client ts w c = by (verdict (length ts) w.client c) (accepted_is c)
  where
    accepted_is : (c : Call) → (accept ts w c).world.client ≡ accepted_client w.client c
    accepted_is (load bytes room) = refl
    accepted_is (access j op a bytes room) = refl
    accepted_is (rebuild j room) = refl

    by : (o : Option Refusal) → (accept ts w c).world.client ≡ accepted_client w.client c →
        (elim o as (λ x. Outcome) [ Some r ↦ decline w r | None ↦ accept ts w c ]).world.client ≡ elim o [ Some r ↦ w.client | None ↦ accepted_client w.client c ]
    by (Some r) e = refl
    by None e = e

pub after_client : (ts : List (List ℕ)) (w : World) (cs : List Call) → (after ts w cs).client ≡ clients_after (length ts) w.client cs
after_client ts w [] = refl
after_client ts w (c ∷ cs) =
    after_client ts (performed ts w c).world cs ∙ ap (λ k. clients_after (length ts) k cs) (performed_client ts w c)
