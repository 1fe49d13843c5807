-- The lists of levels are recent addresses after every list of calls.
use Rattle.std.proofs.Common.{◌≡◌, ℕ, suc, ◌+◌, ◌-◌, ◌^◌, ◌<◌, ◌≤◌, true, false, ◌⊎◌, List, [], ◌∷◌, ◌++◌, length, get_or, take, drop, replicate, Some, None, filter, Option, sym, refl, ap, ◌∙◌, subst, inl, inr, arith}
use Rattle.std.specs.List.{range_with_len}
use Rattle.std.proofs.lemmas.List.{append-nil, append_assoc, length_push, get_or_at, get_or-replicate, get_or-set_other, length-replicate}
use Rattle.std.proofs.lemmas.Bool.{cases_eq, ne_eqb, cond-false, false≢true}
use Rattle.shape.specs.Numbers.{blocks}
use Rattle.shape.specs.declared.refusal.Refusal.{Refusal}
use Rattle.shape.specs.declared.refusal.Refusal.TheVariants.{NotOpened}
use Rattle.index.specs.Lists.{has}
use Rattle.permutations.specs.Scripts.{Act}
use Rattle.rules.specs.World.{Level, Client, World, vacant}
use Rattle.rules.specs.Calls.{Call, load, access, rebuild, Outcome, decline}
use Rattle.rules.specs.Checks.{verdict, unrefused, rebuild_level}
use Rattle.rules.specs.Opening.{opening_answer, opened, opening}
use Rattle.rules.specs.Loading.{loading, loaded_level, loaded_client}
use Rattle.rules.specs.Accessing.{accessing}
use Rattle.rules.specs.Rebuilding.{rebuilding, rebuilt_level, rebuilt_members}
use Rattle.rules.specs.Runs.{accept, performed, after}
use Rattle.laws.specs.Keeping.{level_at, accessed, addresses, ListsAreRecentAddresses}
use Rattle.laws.proofs.Scripts.{Mark, accepted_client, acts, client_after}
use Rattle.laws.proofs.Loads.{none_not_some}
use Rattle.laws.proofs.Along.{Standing, unloaded, running, turn_due, clients_after, performed_client, after_client, call_standing}
use Rattle.laws.proofs.Accesses.{sizes_count}
use Rattle.laws.proofs.Staying.{Stays, counted_stays, rebuilt_stays}
use Rattle.laws.proofs.RecentLists.{ListsRecent, recent_stays, Recent, rebuilt_recent}

-- ---- accepted calls

held_inside : Option ℕ → ℕ
held_inside (Some a) = a
held_inside None = 0

same_held : (a b : ℕ) → ◌≡◌ {A = Option ℕ} (Some a) (Some b) → a ≡ b
unfolding held_inside
same_held a b e = ap held_inside e

still_recent : (L : ℕ) (xs ys : List ℕ) (l : ℕ) (u v : Level) → Stays u v → (u.occupied ≡ true → ListsRecent L xs l u) → v.occupied ≡ true → ListsRecent L (xs ++ ys) l v
still_recent L xs ys l u v stays h o = recent_stays L xs ys l u v (stays.same o) (stays.listing o) (h (stays.was o))

accept_recent : (L W K : ℕ) (ts : List (List ℕ)) (w : World) (s : List (Act Mark)) (c : Call) (xs : List ℕ) →
    Standing L W K s w.client → verdict K w.client c ≡ None → Recent L xs w.client →
    Recent L (xs ++ accessed c (accept ts w c).answer) (accept ts w c).world.client
unfolding loading accessing rebuilding
accept_recent L W K ts w s (load bytes room) xs (unloaded e n) v recent = record {
  counted = ap length (append-nil xs) ∙ recent.counted;
  held_last = λ a g. let last = recent.held_last a g in (last.0, append-nil xs ∙ last.1);
  lists = λ l low o.
      let k = w.client in
      let top_is : k.top ≡ L = ap (λ u. u.top) e in
      let same = get_or-set_other k.levels k.top l (loaded_level k.top) vacant (λ g. omega arith) in
      recent_stays L xs [] l (level_at k l) (level_at (loaded_client k) l) (ap (λ v. v.build) same) (ap (λ v. v.members) same) (recent.lists l low (ap (λ v. v.occupied) (sym same) ∙ o));
}
accept_recent L W K ts w s (load bytes room) xs (running r h ready g) v recent =
    absurd (omega (arith, ready.number, turn_due K w.client (load bytes room) v))
accept_recent L W K ts w s (access j op a run room) xs standing v recent = record {
  counted = length_push xs a ∙ ap (λ n. n + 1) recent.counted;
  held_last = λ b g. (xs, ap (λ x. xs ++ (x ∷ [])) (same_held a b g));
  lists = λ l low. still_recent L xs (a ∷ []) l (level_at w.client l) _ (counted_stays false a w.client.levels l) (recent.lists l low);
}
accept_recent L W K ts w s (rebuild j room) xs (unloaded e n) v recent =
    absurd (let none : w.client.number ≡ 0 = ap (λ u. u.number) e in omega (arith, turn_due K w.client (rebuild j room) v))
accept_recent L W K ts w s (rebuild j room) xs (running r None ready g) v recent =
    absurd (omega (arith, ready.number, turn_due K w.client (rebuild j room) v))
accept_recent L W K ts w s (rebuild j room) xs (running r (Some a) ready g) v recent = record {
  counted = ap length (append-nil xs) ∙ recent.counted;
  held_last = λ b h. absurd (none_not_some b h);
  lists = λ l low. by l low (cases_eq l (rebuild_level k));
}
  where
    k : Client
    k = w.client

    new : Level
    new = rebuilt_level (rebuilt_members k) k.accesses

    later : List Level
    later = replicate (rebuild_level k) vacant ++ (new ∷ drop (suc (rebuild_level k)) k.levels)

    by : (l : ℕ) → l < L → (l ≡ rebuild_level k) ⊎ (l ≡ rebuild_level k → ⊥) → (get_or later l vacant).occupied ≡ true → ListsRecent L (xs ++ []) l (get_or later l vacant)
    by l low (inl e) o =
        let here : get_or later l vacant ≡ new = get_or_at (replicate (rebuild_level k) vacant) new (drop (suc (rebuild_level k)) k.levels) vacant l (length-replicate (rebuild_level k) vacant ∙ sym e) in
        let fresh = subst (λ i. ListsRecent L xs i new) (sym e) (rebuilt_recent L K r a s k xs ready recent (omega arith)) in
        recent_stays L xs [] l new (get_or later l vacant) (ap (λ v. v.build) here) (ap (λ v. v.members) here) fresh
    by l low (inr other) o =
        still_recent L xs [] l (get_or k.levels l vacant) (get_or later l vacant)
        (rebuilt_stays k.levels (rebuild_level k) new l (ne_eqb l (rebuild_level k) other)) (recent.lists l low) o

performed_recent : (L W : ℕ) (ts : List (List ℕ)) (w : World) (s : List (Act Mark)) (c : Call) (xs : List ℕ) →
    Standing L W (length ts) s w.client → Recent L xs w.client →
    Recent L (xs ++ accessed c (performed ts w c).answer) (performed ts w c).world.client
performed_recent L W ts w s c xs standing recent =
    by (verdict (length ts) w.client c) (λ e. accept_recent L W (length ts) ts w s c xs standing e recent)
  where
    by : (d : Option Refusal) → (d ≡ None → Recent L (xs ++ accessed c (accept ts w c).answer) (accept ts w c).world.client) →
        let o : Outcome = elim d [ Some r ↦ decline w r | None ↦ accept ts w c ] in
        Recent L (xs ++ accessed c o.answer) o.world.client
    by (Some r) h = subst (λ ys. Recent L ys w.client) (sym (append-nil xs)) recent
    by None h = h refl

-- ---- a list of calls

recent_along : (L W : ℕ) (ts : List (List ℕ)) (w : World) (s : List (Act Mark)) (cs : List Call) (xs : List ℕ) → 0 < length ts →
    Standing L W (length ts) s w.client → Recent L xs w.client → Recent L (xs ++ addresses ts w cs) (after ts w cs).client
recent_along L W ts w s [] xs some standing recent = subst (λ ys. Recent L ys w.client) (sym (append-nil xs)) recent
recent_along L W ts w s (c ∷ cs) xs some standing recent =
    subst (λ ys. Recent L ys (after ts w (c ∷ cs)).client) (append_assoc xs (accessed c (performed ts w c).answer) (addresses ts (performed ts w c).world cs))
    (recent_along L W ts (performed ts w c).world (s ++ acts (length ts) w.client c) cs (xs ++ accessed c (performed ts w c).answer) some
    (subst (Standing L W (length ts) (s ++ acts (length ts) w.client c)) (sym (performed_client ts w c)) (call_standing L W (length ts) s w.client c some standing))
    (performed_recent L W ts w s c xs standing recent))

opened_vacant : (L W : ℕ) (o : Option Refusal) (l : ℕ) → l < L → (level_at (opened L W o) l).occupied ≡ true → ⊥
opened_vacant L W o l low e = false≢true (sym (ap (λ v. v.occupied) (get_or-replicate (suc L) l vacant vacant (omega arith))) ∙ e)

opened_recent : (L W : ℕ) → Recent L [] (opened L W None)
opened_recent L W = record {
  counted = refl;
  held_last = λ a e. absurd (none_not_some a e);
  lists = λ l low e. absurd (opened_vacant L W None l low e);
}

-- ---- a client that was refused never changes

refused_verdict : (K : ℕ) (k : Client) (c : Call) → unrefused k ≡ false → verdict K k c ≡ Some NotOpened
refused_verdict K k (load bytes room) e = cond-false (unrefused k) _ _ e
refused_verdict K k (access j op a run room) e = cond-false (unrefused k) _ _ e
refused_verdict K k (rebuild j room) e = cond-false (unrefused k) _ _ e

refused_stays : (K : ℕ) (k : Client) (cs : List Call) → unrefused k ≡ false → clients_after K k cs ≡ k
refused_stays K k [] e = refl
refused_stays K k (c ∷ cs) e =
    let same : client_after K k c ≡ k = ap (λ d. elim d as (λ _. Client) [ Some r ↦ k | None ↦ accepted_client k c ]) (refused_verdict K k c e) in
    ap (λ u. clients_after K u cs) same ∙ refused_stays K k cs e

pub lists_are_recent_addresses : ListsAreRecentAddresses
lists_are_recent_addresses L W K p ts some choice cs l low = by (opening_answer L W p) refl
  where
    start : World
    start = opening L W p

    many : length ts ≡ K
    many = choice.counted ∙ sizes_count p.supply_top K

    by : (o : Option Refusal) → opening_answer L W p ≡ o →
        let v = level_at (after ts start cs).client l in
        v.occupied ≡ true →
        (2 ^ l ≤ v.build) × (v.build ≤ length (addresses ts start cs))
        × (v.members ≡ filter (has (take (2 ^ l) (drop (v.build - 2 ^ l) (addresses ts start cs)))) (range_with_len 0 (blocks L)))
    by (Some x) e occupied =
        absurd (opened_vacant L W (opening_answer L W p) l low
        (ap (λ k. (level_at k l).occupied) (sym (after_client ts start cs ∙ refused_stays (length ts) start.client cs (ap (λ o. unrefused (opened L W o)) e))) ∙ occupied))
    by None e occupied =
        let is : start.client ≡ opened L W None = ap (opened L W) e in
        let recent = recent_along L W ts start [] cs [] (omega (arith, many)) (unloaded is refl) (subst (Recent L []) (sym is) (opened_recent L W)) in
        recent.lists l low occupied
