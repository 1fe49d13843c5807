-- The list of level L is all addresses, from the load on.
use Rattle.std.proofs.Common.{◌≡◌, ℕ, suc, ◌<◌, ◌≤◌, true, false, ltb, ◌⊎◌, List, [], ◌∷◌, length, get_or, set, Some, None, Option, sym, ap, ◌∙◌, subst, inl, inr, arith}
use Rattle.std.specs.List.{range_with_len}
use Rattle.std.proofs.lemmas.List.{get_or-set_same, set_past}
use Rattle.std.proofs.lemmas.Bool.{cases_eq, cases_lt, cond-false, le-ltb, ne_eqb, false≢true}
use Rattle.shape.specs.Numbers.{blocks}
use Rattle.shape.specs.declared.refusal.Refusal.{Refusal}
use Rattle.rules.specs.World.{Client, World, vacant}
use Rattle.rules.specs.Calls.{Call, load, access, rebuild, Outcome, decline}
use Rattle.rules.specs.Checks.{verdict, rebuild_level}
use Rattle.rules.specs.Opening.{opening}
use Rattle.rules.specs.Loading.{loaded_level, loading}
use Rattle.rules.specs.Accessing.{accessing}
use Rattle.rules.specs.Rebuilding.{rebuilding, rebuilt_client}
use Rattle.rules.specs.Runs.{accept, performed, after}
use Rattle.laws.specs.Keeping.{level_at, TopListIsAllAddresses}
use Rattle.laws.proofs.Accepted.{vacant_anywhere}
use Rattle.laws.proofs.LevelsAt.{rebuilt_here}
use Rattle.laws.proofs.Staying.{counted_stays, rebuilt_stays}
use Rattle.laws.proofs.Turns.{phase_of}

-- level L lists all addresses, if it is occupied
abbrev ListsAll : ℕ → Client → Type 0
ListsAll L k = (level_at k L).occupied ≡ true → (level_at k L).members ≡ range_with_len 0 (blocks L)

accept_lists : (ts : List (List ℕ)) (w : World) (c : Call) → ListsAll w.client.top w.client → ListsAll (accept ts w c).world.client.top (accept ts w c).world.client
unfolding loading accessing rebuilding
accept_lists ts w (load bytes room) all o = by (cases_lt k.top (length k.levels))
  where
    k : Client
    k = w.client

    by : (k.top < length k.levels) ⊎ (length k.levels ≤ k.top) →
        (get_or (set k.levels k.top (loaded_level k.top)) k.top vacant).members ≡ range_with_len 0 (blocks k.top)
    by (inl low) = ap (λ v. v.members) (get_or-set_same k.levels k.top (loaded_level k.top) vacant low)
    by (inr past) =
        let same = set_past k.levels k.top (loaded_level k.top) past in
        ap (λ vs. (get_or vs k.top vacant).members) same ∙ all (ap (λ vs. (get_or vs k.top vacant).occupied) (sym same) ∙ o)
accept_lists ts w (access j op a run room) all o =
    let stays = counted_stays false a w.client.levels w.client.top in
    stays.listing o ∙ all (stays.was o)
accept_lists ts w (rebuild j room) all o = by (cases_eq k.top (rebuild_level k))
  where
    k : Client
    k = w.client

    by : (k.top ≡ rebuild_level k) ⊎ (k.top ≡ rebuild_level k → ⊥) → (level_at (rebuilt_client k) k.top).members ≡ range_with_len 0 (blocks k.top)
    by (inl e) =
        ap (λ l. (level_at (rebuilt_client k) l).members) e ∙ ap (λ v. v.members) (rebuilt_here k)
        ∙ cond-false (ltb (rebuild_level k) k.top) _ _ (le-ltb (rebuild_level k) k.top (omega arith))
    by (inr other) =
        let stays = rebuilt_stays k.levels (rebuild_level k) _ k.top (ne_eqb k.top (rebuild_level k) other) in
        stays.listing o ∙ all (stays.was o)

after_lists : (ts : List (List ℕ)) (w : World) (cs : List Call) → ListsAll w.client.top w.client → ListsAll (after ts w cs).client.top (after ts w cs).client
after_lists ts w [] all = all
after_lists ts w (c ∷ cs) all = after_lists ts (performed ts w c).world cs (by (verdict (length ts) w.client c))
  where
    by : (d : Option Refusal) → let o : Outcome = elim d [ Some r ↦ decline w r | None ↦ accept ts w c ] in ListsAll o.world.client.top o.world.client
    by (Some r) = all
    by None = accept_lists ts w c all

pub top_list_is_all_addresses : TopListIsAllAddresses
top_list_is_all_addresses L W p ts cs =
    let start = opening L W p in
    let top_is = (phase_of (record { top = L; width = W; parts = p; tables = ts; calls = cs })).1.0.top in
    subst (λ n. ListsAll n (after ts start cs).client) top_is
    (after_lists ts start cs (λ o. absurd (false≢true (sym (ap (λ v. v.occupied) (vacant_anywhere (suc L) L)) ∙ o))))
