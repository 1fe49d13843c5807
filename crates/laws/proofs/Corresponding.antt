-- Traces correspond: the law, from scripts that correspond.
use Rattle.std.proofs.Common.{◌≡◌, ℕ, ◌≤◌, Bool, true, false, cond, ◌&&◌, eqb, leb, List, [], ◌∷◌, ◌++◌, length, Some, None, Option, sym, refl, ap, ◌∙◌, subst, ap₂}
use Rattle.std.proofs.lemmas.Bool.{and_parts, eqb-true, cond-false}
use Rattle.shape.specs.Numbers.{levels_fit, width_fits, places_needed}
use Rattle.shape.specs.declared.refusal.Refusal.{Refusal}
use Rattle.shape.specs.declared.refusal.Refusal.TheVariants.{NotOpened, OutOfRange, StoreUnfit, IndexOrSupplyUnfit}
use Rattle.permutations.specs.Choices.{OneToOne}
use Rattle.permutations.specs.Scripts.{partner}
use Rattle.permutations.proofs.Choosing.{scripts_correspond}
use Rattle.rules.specs.World.{Client, World}
use Rattle.rules.specs.Calls.{Call, load, access, rebuild, Outcome, decline, entries_of}
use Rattle.rules.specs.Opening.{Parts, all_empty, opening_answer, opened, opening}
use Rattle.rules.specs.Checks.{verdict, unrefused}
use Rattle.rules.specs.Loading.{loading}
use Rattle.rules.specs.Accessing.{accessing}
use Rattle.rules.specs.Rebuilding.{rebuilding}
use Rattle.rules.specs.Runs.{accept, performed, trace}
use Rattle.laws.specs.Runs.{build_sizes, Choices}
use Rattle.laws.specs.Correspondence.{Alike, refusal_of, refusals, SameForTheHost, TracesCorrespond}
use Rattle.laws.proofs.Scripts.{script, rendered}
use Rattle.laws.proofs.Along.{passed, performed_client, always_sound}
use Rattle.laws.proofs.Traces.{trace_of_view}
use Rattle.laws.proofs.Outlines.{AlikeClients, scripts_alike, verdicts, verdicts_alike}

-- ---- refusals are verdicts

pub refusal_is : (ts : List (List ℕ)) (w : World) (c : Call) → refusal_of (performed ts w c).answer ≡ verdict (length ts) w.client c
unfolding loading accessing rebuilding
refusal_is ts w c = by (verdict (length ts) w.client c) (none c)
  where
    none : (c : Call) → refusal_of (accept ts w c).answer ≡ None
    none (load bytes room) = refl
    none (access j op a bytes room) = refl
    none (rebuild j room) = refl

    by : (o : Option Refusal) → refusal_of (accept ts w c).answer ≡ None →
        refusal_of (elim o as (λ x. Outcome) [ Some r ↦ decline w r | None ↦ accept ts w c ]).answer ≡ o
    by (Some r) e = refl
    by None e = e

pub refusals_are : (ts : List (List ℕ)) (w : World) (cs : List Call) → refusals ts w cs ≡ verdicts (length ts) w.client cs
refusals_are ts w [] = refl
refusals_are ts w (c ∷ cs) =
    ap₂ (λ (o : Option Refusal) (os : List (Option Refusal)). o ∷ os) (refusal_is ts w c)
    (refusals_are ts (performed ts w c).world cs ∙ ap (λ k. verdicts (length ts) k cs) (performed_client ts w c))

-- openings with one answer look alike
openings_alike : (L W : ℕ) (x y : Option Refusal) → x ≡ y → AlikeClients L W (opened L W x) (opened L W y)
openings_alike L W x y e =
    record { refusal = e; top = refl; top' = refl; width = refl; width' = refl; number = refl; accesses = refl; levels = refl }

pub refusals_alike : (L W : ℕ) (p q : Parts) (cs ds : List Call) (ts us : List (List ℕ)) → opening_answer L W p ≡ opening_answer L W q → Alike L W cs ds →
    length ts ≡ length us → refusals ts (opening L W p) cs ≡ refusals us (opening L W q) ds
refusals_alike L W p q cs ds ts us e alike long =
    refusals_are ts (opening L W p) cs
    ∙ verdicts_alike L W (length ts) (opened L W (opening_answer L W p)) (opened L W (opening_answer L W q)) cs ds
    (openings_alike L W (opening_answer L W p) (opening_answer L W q) e) alike
    ∙ ap (λ n. verdicts n (opened L W (opening_answer L W q)) ds) long
    ∙ sym (refusals_are us (opening L W q) ds)

-- ---- a client that was refused at its opening

verdict_refused : (K : ℕ) (k : Client) (x : Refusal) (c : Call) → k.refusal ≡ Some x → verdict K k c ≡ Some NotOpened
verdict_refused K k x (load bytes room) e = cond-false (unrefused k) _ (Some NotOpened) (ap (λ o. elim o as (λ x. Bool) [ Some r ↦ false | None ↦ true ]) e)
verdict_refused K k x (access j op a bytes room) e = cond-false (unrefused k) _ (Some NotOpened) (ap (λ o. elim o as (λ x. Bool) [ Some r ↦ false | None ↦ true ]) e)
verdict_refused K k x (rebuild j room) e = cond-false (unrefused k) _ (Some NotOpened) (ap (λ o. elim o as (λ x. Bool) [ Some r ↦ false | None ↦ true ]) e)

refused_trace : (ts : List (List ℕ)) (w : World) (x : Refusal) (cs : List Call) → w.client.refusal ≡ Some x → trace ts w cs ≡ []
refused_trace ts w x [] e = refl
refused_trace ts w x (c ∷ cs) e =
    let nothing : performed ts w c ≡ decline w NotOpened =
    ap (λ o. elim o as (λ x. Outcome) [ Some r ↦ decline w r | None ↦ accept ts w c ]) (verdict_refused (length ts) w.client x c e) in
    ap (λ o. entries_of o.answer ++ trace ts o.world cs) nothing ∙ refused_trace ts w x cs e

-- ---- the law

-- an opening that is not refused has a supply of its L
supply_fits : (L W : ℕ) (p : Parts) → opening_answer L W p ≡ None → p.supply_top ≡ L
supply_fits L W p e =
    let supply = eqb p.supply_top L && all_empty p.index_lists in
    let third : Option Refusal = cond (eqb (length p.index_lists) L && supply) None (Some IndexOrSupplyUnfit) in
    let second : Option Refusal = cond (eqb p.store_width W && leb (places_needed L) (length p.store_slots)) third (Some StoreUnfit) in
    let numbers = passed (levels_fit L && width_fits W) OutOfRange second e in
    let store = passed (eqb p.store_width W && leb (places_needed L) (length p.store_slots)) StoreUnfit third numbers.1 in
    let index = passed (eqb (length p.index_lists) L && supply) IndexOrSupplyUnfit None store.1 in
    eqb-true p.supply_top L
    (and_parts (eqb p.supply_top L) (all_empty p.index_lists) (and_parts (eqb (length p.index_lists) L) supply index.0).1).0

-- what the law says, over a supply of n
abbrev Corresponding : ℕ → ℕ → ℕ → Parts → Parts → List Call → List Call → ℕ → Type 0
Corresponding L W K p q cs ds n =
    (f : List (List ℕ) → List (List ℕ)) × (g : List (List ℕ) → List (List ℕ)) ×
    OneToOne (Choices n K) (Choices n K) f g
    × ((ts : List (List ℕ)) → Choices n K ts → SameForTheHost ts (f ts) (opening L W p) (opening L W q) cs ds)

module _ (L W K : ℕ) (p q : Parts) (cs ds : List Call) (some : 1 ≤ K) (same : opening_answer L W p ≡ opening_answer L W q) (alike : Alike L W cs ds) where
  opened_corresponds : opening_answer L W p ≡ None → Corresponding L W K p q cs ds L
  opened_corresponds e =
      let ns = build_sizes L K in
      let k = opened L W None in
      let s = script K k cs in
      let t = script K k ds in
      let both = scripts_correspond ns s t (always_sound L W K cs some) (always_sound L W K ds some) (scripts_alike L W K k k cs ds (openings_alike L W None None refl) alike) in (
        partner ns s t,
        partner ns t s,
        both.0,
        λ ts choice.
            let choice' = both.0.there ts choice in
            record {
              traces =
                  sym (trace_of_view L W K ts (opening L W p) cs choice some (ap (opened L W) e))
                  ∙ ap (rendered L false 0) (both.1 ts)
                  ∙ trace_of_view L W K (partner ns s t ts) (opening L W q) ds choice' some (ap (opened L W) (sym same ∙ e));
              declined = refusals_alike L W p q cs ds ts (partner ns s t ts) same alike (choice.counted ∙ sym choice'.counted);
            },
      )

  refused_corresponds : (n : ℕ) (x : Refusal) → opening_answer L W p ≡ Some x → Corresponding L W K p q cs ds n
  refused_corresponds n x e = (
    λ ts. ts,
    λ ts. ts,
    record { there = λ ts h. h; back = λ ts h. h; there_and_back = λ ts h. refl; back_and_there = λ ts h. refl },
    λ ts choice. record {
      traces = refused_trace ts (opening L W p) x cs e ∙ sym (refused_trace ts (opening L W q) x ds (sym same ∙ e));
      declined = refusals_alike L W p q cs ds ts ts same alike refl;
    },
  )

  corresponds : Corresponding L W K p q cs ds p.supply_top
  corresponds = by (opening_answer L W p) refl
    where
      by : (o : Option Refusal) → opening_answer L W p ≡ o → Corresponding L W K p q cs ds p.supply_top
      by (Some x) e = refused_corresponds p.supply_top x e
      by None e = subst (Corresponding L W K p q cs ds) (sym (supply_fits L W p e)) (opened_corresponds e)

pub traces_correspond : TracesCorrespond
traces_correspond L W K p q cs ds some supplies same alike = corresponds L W K p q cs ds some same alike
