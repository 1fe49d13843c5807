-- Lists of calls one after another, accepted calls and what they tell of the client, and how many accesses there were.
use Rattle.std.proofs.Common.{◌≡◌, ℕ, ◌+◌, true, false, ◌&&◌, eqb, leb, List, [], ◌∷◌, ◌++◌, length, Some, None, Option, sym, refl, ap, ◌∙◌, subst, zero-add, arith, length-append}
use Rattle.std.proofs.lemmas.List.{append_assoc}
use Rattle.std.proofs.lemmas.Bool.{and_parts, eqb-true, false≢true}
use Rattle.shape.specs.Numbers.{levels_fit, width_fits, places_needed}
use Rattle.shape.specs.declared.refusal.Refusal.{Refusal}
use Rattle.store.specs.declared.entry.Entry.{Entry}
use Rattle.permutations.specs.Scripts.{Act}
use Rattle.rules.specs.World.{Client, World}
use Rattle.rules.specs.Calls.{Call, load, access, rebuild, Answer, accepted, declined, Outcome, decline}
use Rattle.rules.specs.Checks.{verdict, unrefused}
use Rattle.rules.specs.Opening.{Parts, all_empty, opening_answer}
use Rattle.rules.specs.Loading.{loading}
use Rattle.rules.specs.Accessing.{accessing}
use Rattle.rules.specs.Rebuilding.{rebuilding}
use Rattle.rules.specs.Runs.{accept, performed, after}
use Rattle.laws.specs.Keeping.{accessed, addresses}
use Rattle.laws.proofs.Scripts.{Mark, accepted_client, accepted_acts, acts, client_after, script}
use Rattle.laws.proofs.Along.{passed, clients_after}

-- ---- lists of calls one after another

pub after_append : (ts : List (List ℕ)) (w : World) (cs ds : List Call) → after ts w (cs ++ ds) ≡ after ts (after ts w cs) ds
after_append ts w [] ds = refl
after_append ts w (c ∷ cs) ds = after_append ts (performed ts w c).world cs ds

pub script_append : (K : ℕ) (k : Client) (cs ds : List Call) → script K k (cs ++ ds) ≡ script K k cs ++ script K (clients_after K k cs) ds
script_append K k [] ds = refl
script_append K k (c ∷ cs) ds =
    ap (λ s. acts K k c ++ s) (script_append K (client_after K k c) cs ds)
    ∙ sym (append_assoc (acts K k c) (script K (client_after K k c) cs) (script K (clients_after K (client_after K k c) cs) ds))

-- ---- accepted calls

IsAccepted : Answer → Type 0
IsAccepted (accepted bytes es) = Unit {0}
IsAccepted (declined r) = ⊥

pub declined_not_accepted : (r : Refusal) (bytes : List ℕ) (es : List Entry) → declined r ≡ accepted bytes es → ⊥
unfolding IsAccepted
declined_not_accepted r bytes es e = subst IsAccepted (sym e) tt

pub accepted_call : (ts : List (List ℕ)) (w : World) (c : Call) (bytes : List ℕ) (es : List Entry) → (performed ts w c).answer ≡ accepted bytes es →
    (verdict (length ts) w.client c ≡ None) × ((accept ts w c).answer ≡ accepted bytes es)
accepted_call ts w c bytes es = by (verdict (length ts) w.client c)
  where
    by : (d : Option Refusal) → (elim d as (λ _. Outcome) [ Some r ↦ decline w r | None ↦ accept ts w c ]).answer ≡ accepted bytes es →
        (d ≡ None) × ((accept ts w c).answer ≡ accepted bytes es)
    by (Some r) e = absurd (declined_not_accepted r bytes es e)
    by None e = (refl, e)

pub accepted_script : (K : ℕ) (k : Client) (c : Call) → verdict K k c ≡ None → acts K k c ≡ accepted_acts k c
accepted_script K k c e = ap (λ d. elim d as (λ _. List (Act Mark)) [ Some r ↦ [] | None ↦ accepted_acts k c ]) e

-- ---- checks that hold

none_refused : (o : Option Refusal) → (elim o [ Some r ↦ false | None ↦ true ]) ≡ true → o ≡ None
none_refused (Some r) e = absurd (false≢true e)
none_refused None e = refl

-- a call is accepted only of a client that was opened without a refusal
pub accepted_unrefused : (K : ℕ) (k : Client) (c : Call) → verdict K k c ≡ None → k.refusal ≡ None
accepted_unrefused K k (load bytes room) e = none_refused k.refusal (passed (unrefused k) _ _ e).0
accepted_unrefused K k (access j op a run room) e = none_refused k.refusal (passed (unrefused k) _ _ e).0
accepted_unrefused K k (rebuild j room) e = none_refused k.refusal (passed (unrefused k) _ _ e).0

-- ---- what never changes

accepted_refusal : (k : Client) (c : Call) → (accepted_client k c).refusal ≡ k.refusal
accepted_refusal k (load bytes room) = refl
accepted_refusal k (access j op a run room) = refl
accepted_refusal k (rebuild j room) = refl

refusal_stays : (K : ℕ) (k : Client) (c : Call) → (client_after K k c).refusal ≡ k.refusal
refusal_stays K k c = by (verdict K k c)
  where
    by : (d : Option Refusal) → (elim d as (λ _. Client) [ Some r ↦ k | None ↦ accepted_client k c ]).refusal ≡ k.refusal
    by (Some r) = refl
    by None = accepted_refusal k c

pub refusal_same : (K : ℕ) (k : Client) (cs : List Call) → (clients_after K k cs).refusal ≡ k.refusal
refusal_same K k [] = refl
refusal_same K k (c ∷ cs) = refusal_same K (client_after K k c) cs ∙ refusal_stays K k c

-- ---- the accesses of a run are counted

accept_counts : (ts : List (List ℕ)) (w : World) (c : Call) → length (accessed c (accept ts w c).answer) + w.client.accesses ≡ (accept ts w c).world.client.accesses
unfolding loading accessing rebuilding
accept_counts ts w (load bytes room) = zero-add w.client.accesses
accept_counts ts w (access j op a run room) = omega arith
accept_counts ts w (rebuild j room) = zero-add w.client.accesses

performed_counts : (ts : List (List ℕ)) (w : World) (c : Call) →
    length (accessed c (performed ts w c).answer) + w.client.accesses ≡ (performed ts w c).world.client.accesses
performed_counts ts w c = by (verdict (length ts) w.client c)
  where
    by : (d : Option Refusal) →
        let o : Outcome = elim d [ Some r ↦ decline w r | None ↦ accept ts w c ] in
        length (accessed c o.answer) + w.client.accesses ≡ o.world.client.accesses
    by (Some r) = zero-add w.client.accesses
    by None = accept_counts ts w c

pub accesses_counted : (ts : List (List ℕ)) (w : World) (cs : List Call) →
    length (addresses ts w cs) + w.client.accesses ≡ (after ts w cs).client.accesses
accesses_counted ts w [] = zero-add w.client.accesses
accesses_counted ts w (c ∷ cs) =
    omega (
      arith,
      length-append (accessed c (performed ts w c).answer) (addresses ts (performed ts w c).world cs),
      performed_counts ts w c,
      accesses_counted ts (performed ts w c).world cs,
    )

-- ---- an opening with no refusal

pub opened_fits : (L W : ℕ) (p : Parts) → opening_answer L W p ≡ None → p.supply_top ≡ L
opened_fits L W p e =
    let first = passed (levels_fit L && width_fits W) _ _ e in
    let second = passed (eqb p.store_width W && leb (places_needed L) (length p.store_slots)) _ _ first.1 in
    let third = passed (eqb (length p.index_lists) L && (eqb p.supply_top L && all_empty p.index_lists)) _ _ second.1 in
    let both = and_parts (eqb (length p.index_lists) L) (eqb p.supply_top L && all_empty p.index_lists) third.0 in
    eqb-true p.supply_top L (and_parts (eqb p.supply_top L) (all_empty p.index_lists) both.1).0
