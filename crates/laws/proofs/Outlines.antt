-- What is public of a client decides, with what is public of the calls, the outline of the script and the refusals.
use Rattle.std.proofs.Common.{◌≡◌, ℕ, suc, ◌+◌, ◌*◌, ◌^◌, Bool, true, false, cond, not, ◌&&◌, eqb, ltb, leb, List, [], ◌∷◌, ◌++◌, map, length, take, drop, set, replicate, Some, None, Option, sym, refl, ap, ◌∙◌, subst, ap₂, arith}
use mathlib.Core.List.{map-map}
use Rattle.std.proofs.lemmas.List.{map-append, map-set, take-map, drop-map}
use Rattle.shape.specs.Numbers.{blocks, level_slots, level_of_build}
use Rattle.shape.specs.declared.refusal.Refusal.{Refusal}
use Rattle.shape.specs.declared.refusal.Refusal.TheVariants.{NotOpened, WrongTurn, UnknownOperation, UnknownAddress, WrongByteLength, BuildsUsedUp, TraceTooShort}
use Rattle.permutations.specs.Scripts.{Act, ask, close, mark, blanked, outline}
use Rattle.permutations.proofs.Asking.{outline_append}
use Rattle.rules.specs.World.{Level, Client, vacant}
use Rattle.rules.specs.Calls.{Call, load, access, rebuild, turn_of}
use Rattle.rules.specs.Checks.{Check, check, first_failing, verdict, occupied_count, rebuild_entries, rebuild_level}
use Rattle.rules.specs.Loading.{loaded_level}
use Rattle.rules.specs.Accessing.{finds, asked_index, asks_from, counted_from}
use Rattle.rules.specs.Rebuilding.{rebuilt_members, rebuilt_level}
use Rattle.laws.specs.Correspondence.{Kind, loads, accesses, rebuilds, kind_of, room_of, fault_of, AlikeCalls, Alike}
use Rattle.laws.proofs.Scripts.{Mark, begins, gathers, stores, fills, rebuild_acts, accepted_acts, accepted_client, acts, client_after, script}
use Rattle.laws.proofs.Accesses.{as_act, acts_from, found_after}

-- ---- what is public

-- of a level: whether it is occupied, and by which build
pub record Shown : Type 0 where
  pub occupied : Bool
  pub build : ℕ

abbrev pub shown : Level → Shown
shown v = record { occupied = v.occupied; build = v.build }

-- two clients that look alike
pub record AlikeClients (L W : ℕ) (k k' : Client) : Type 0 where
  pub refusal : k.refusal ≡ k'.refusal
  pub top : k.top ≡ L
  pub top' : k'.top ≡ L
  pub width : k.width ≡ W
  pub width' : k'.width ≡ W
  pub number : k.number ≡ k'.number
  pub accesses : k.accesses ≡ k'.accesses
  pub levels : map shown k.levels ≡ map shown k'.levels

-- ---- verdicts

abbrev or_else : Option Refusal → Option Refusal → Option Refusal
or_else (Some r) o = Some r
or_else None o = o

failing_append : (xs ys : List Check) → first_failing (xs ++ ys) ≡ or_else (first_failing xs) (first_failing ys)
failing_append [] ys = refl
failing_append (c ∷ xs) ys = ap (λ o. cond c.holds o (Some c.otherwise)) (failing_append xs ys) ∙ by c.holds
  where
    by : (b : Bool) → cond b (or_else (first_failing xs) (first_failing ys)) (Some c.otherwise) ≡ or_else (cond b (first_failing xs) (Some c.otherwise)) (first_failing ys)
    by true = refl
    by false = refl

count_shown : List Shown → ℕ
count_shown [] = 0
count_shown (p ∷ ps) = cond p.occupied (suc (count_shown ps)) (count_shown ps)

count_is : (vs : List Level) → occupied_count vs ≡ count_shown (map shown vs)
unfolding count_shown
count_is [] = refl
count_is (v ∷ vs) = ap (λ n. cond v.occupied (suc n) n) (count_is vs)

-- the checks before those of the arguments, and those after
abbrev before : Option Refusal → ℕ → ℕ → List Check
before refusal number turn =
    check (elim refusal as (λ x. Bool) [ Some r ↦ false | None ↦ true ]) NotOpened ∷ check (eqb turn number) WrongTurn ∷ []

abbrev behind : ℕ → ℕ → ℕ → ℕ → Call → List Check
behind K top made count (load bytes room) = check (leb (level_slots top) room) TraceTooShort ∷ []
behind K top made count (access j op a bytes room) = check (ltb (made + 1) K) BuildsUsedUp ∷ check (leb count room) TraceTooShort ∷ []
behind K top made count (rebuild j room) = check (leb (rebuild_entries top (level_of_build top made)) room) TraceTooShort ∷ []

abbrev verdict_of : ℕ → Option Refusal → ℕ → ℕ → ℕ → ℕ → ℕ → Call → Option Refusal
verdict_of K refusal top width number made count c =
    or_else (first_failing (before refusal number (turn_of c))) (or_else (fault_of top width c) (first_failing (behind K top made count c)))

verdict_is : (K : ℕ) (k : Client) (c : Call) → verdict K k c ≡ verdict_of K k.refusal k.top k.width k.number k.accesses (occupied_count k.levels) c
verdict_is K k (load bytes room) =
    let arguments : List Check = check (eqb (length bytes) (blocks k.top * k.width)) WrongByteLength ∷ [] in
    let last = behind K k.top k.accesses (occupied_count k.levels) (load bytes room) in
    failing_append (before k.refusal k.number 0) (arguments ++ last)
    ∙ ap (or_else (first_failing (before k.refusal k.number 0))) (failing_append arguments last)
verdict_is K k (access j op a bytes room) =
    let arguments : List Check =
    check (leb op 1) UnknownOperation ∷ check (ltb a (blocks k.top)) UnknownAddress ∷ check (eqb (length bytes) k.width) WrongByteLength ∷ [] in
    let last = behind K k.top k.accesses (occupied_count k.levels) (access j op a bytes room) in
    failing_append (before k.refusal k.number (2 * j + 1)) (arguments ++ last)
    ∙ ap (or_else (first_failing (before k.refusal k.number (2 * j + 1)))) (failing_append arguments last)
verdict_is K k (rebuild j room) =
    failing_append (before k.refusal k.number (2 * j + 2)) (behind K k.top k.accesses (occupied_count k.levels) (rebuild j room))

kind_number : Kind → ℕ
kind_number loads = 0
kind_number accesses = 1
kind_number rebuilds = 2

behind_same : (K top made count : ℕ) (c d : Call) → kind_of c ≡ kind_of d → room_of c ≡ room_of d → behind K top made count c ≡ behind K top made count d
unfolding kind_number
behind_same K top made count (load bytes room) (load bytes' room') e r = ap (λ n. check (leb (level_slots top) n) TraceTooShort ∷ []) r
behind_same K top made count (access j op a bytes room) (access j' op' a' bytes' room') e r =
    ap (λ n. check (ltb (made + 1) K) BuildsUsedUp ∷ check (leb count n) TraceTooShort ∷ []) r
behind_same K top made count (rebuild j room) (rebuild j' room') e r =
    ap (λ n. check (leb (rebuild_entries top (level_of_build top made)) n) TraceTooShort ∷ []) r
behind_same K top made count (load bytes room) (access j' op' a' bytes' room') e r = absurd (omega (arith, ap kind_number e))
behind_same K top made count (load bytes room) (rebuild j' room') e r = absurd (omega (arith, ap kind_number e))
behind_same K top made count (access j op a bytes room) (load bytes' room') e r = absurd (omega (arith, ap kind_number e))
behind_same K top made count (access j op a bytes room) (rebuild j' room') e r = absurd (omega (arith, ap kind_number e))
behind_same K top made count (rebuild j room) (load bytes' room') e r = absurd (omega (arith, ap kind_number e))
behind_same K top made count (rebuild j room) (access j' op' a' bytes' room') e r = absurd (omega (arith, ap kind_number e))

-- calls that are alike, to clients that look alike, are declined alike
pub verdicts_same : (L W K : ℕ) (k k' : Client) (c d : Call) → AlikeClients L W k k' → AlikeCalls L W c d → verdict K k c ≡ verdict K k' d
verdicts_same L W K k k' c d same alike =
    let count : occupied_count k.levels ≡ occupied_count k'.levels = count_is k.levels ∙ ap count_shown same.levels ∙ sym (count_is k'.levels) in
    let first : first_failing (before k.refusal k.number (turn_of c)) ≡ first_failing (before k'.refusal k'.number (turn_of d)) =
    ap (λ o. first_failing (before o k.number (turn_of c))) same.refusal
    ∙ ap₂ (λ (n t : ℕ). first_failing (before k'.refusal n t)) same.number alike.turns in
    let fault : fault_of k.top k.width c ≡ fault_of k'.top k'.width d =
    ap₂ (λ (l w : ℕ). fault_of l w c) same.top same.width ∙ alike.faults ∙ sym (ap₂ (λ (l w : ℕ). fault_of l w d) same.top' same.width') in
    let last : behind K k.top k.accesses (occupied_count k.levels) c ≡ behind K k'.top k'.accesses (occupied_count k'.levels) d =
    ap (λ l. behind K l k.accesses (occupied_count k.levels) c) (same.top ∙ sym same.top')
    ∙ ap₂ (λ (n m : ℕ). behind K k'.top n m c) same.accesses count
    ∙ behind_same K k'.top k'.accesses (occupied_count k'.levels) c d alike.kinds alike.rooms in
    verdict_is K k c
    ∙ ap (λ o. or_else o (or_else (fault_of k.top k.width c) (first_failing (behind K k.top k.accesses (occupied_count k.levels) c)))) first
    ∙ ap₂ (λ (o : Option Refusal) (cs : List Check). or_else (first_failing (before k'.refusal k'.number (turn_of d))) (or_else o (first_failing cs))) fault last
    ∙ sym (verdict_is K k' d)

-- ---- outlines

shown_asks : List Shown → List (Act Mark)
shown_asks [] = []
shown_asks (p ∷ ps) = cond p.occupied (ask p.build 0 ∷ shown_asks ps) (shown_asks ps)

asks_outline : (found : Bool) (a l : ℕ) (vs : List Level) → outline (acts_from found a l vs) ≡ shown_asks (map shown vs)
unfolding shown_asks
asks_outline found a l [] = refl
asks_outline found a l (v ∷ vs) = by v.occupied (asks_outline (found_after found a v) a (suc l) vs)
  where
    by : (b : Bool) → outline (acts_from (found_after found a v) a (suc l) vs) ≡ shown_asks (map shown vs) →
        outline (map as_act (cond b (record { level = l; build = v.build; index = asked_index found a v } ∷ asks_from (found_after found a v) a (suc l) vs) (asks_from (found_after found a v) a (suc l) vs)))
        ≡ cond b (ask v.build 0 ∷ shown_asks (map shown vs)) (shown_asks (map shown vs))
    by true e = ap (λ s. ask v.build 0 ∷ s) e
    by false e = e

-- the outline of a rebuild
shown_rebuild : ℕ → ℕ → List Shown → List (Act Mark)
shown_rebuild L l ps =
    mark gathers ∷ mark (stores 1) ∷ (map (λ p. close p.build) (take (cond (ltb l L) l (suc l)) ps)
    ++ (mark (stores (cond (ltb l L) (2 ^ l) 0)) ∷ mark (fills l) ∷ []))

rebuild_outline : (k : Client) → outline (rebuild_acts k) ≡ shown_rebuild k.top (level_of_build k.top k.accesses) (map shown k.levels)
unfolding shown_rebuild
rebuild_outline k =
    let l = rebuild_level k in
    let n = cond (ltb l k.top) l (suc l) in
    let last : List (Act Mark) = mark (stores (cond (ltb l k.top) (2 ^ l) 0)) ∷ mark (fills l) ∷ [] in
    let closings : outline (map (λ (v : Level). closing v.build) (take n k.levels)) ≡ map (λ (p : Shown). closing p.build) (take n (map shown k.levels)) =
    map-map blanked (λ (v : Level). closing v.build) (take n k.levels)
    ∙ sym (map-map (λ (p : Shown). closing p.build) shown (take n k.levels))
    ∙ ap (map (λ (p : Shown). closing p.build)) (sym (take-map shown n k.levels)) in
    ap (λ s. mark gathers ∷ mark (stores 1) ∷ s)
    (outline_append (map (λ (v : Level). closing v.build) (take n k.levels)) last ∙ ap (λ s. s ++ last) closings)
  where
    closing : ℕ → Act Mark
    closing b = close b

accepted_outline : (L W : ℕ) (k k' : Client) (c d : Call) → AlikeClients L W k k' → kind_of c ≡ kind_of d → outline (accepted_acts k c) ≡ outline (accepted_acts k' d)
unfolding kind_number
accepted_outline L W k k' (load bytes room) (load bytes' room') same e = refl
accepted_outline L W k k' (access j op a bytes room) (access j' op' a' bytes' room') same e =
    ap (λ s. mark begins ∷ s) (asks_outline false a 0 k.levels ∙ ap shown_asks same.levels ∙ sym (asks_outline false a' 0 k'.levels))
accepted_outline L W k k' (rebuild j room) (rebuild j' room') same e =
    rebuild_outline k
    ∙ ap₂ (λ (l t : ℕ). shown_rebuild l (level_of_build l t) (map shown k.levels)) (same.top ∙ sym same.top') same.accesses
    ∙ ap (shown_rebuild k'.top (level_of_build k'.top k'.accesses)) same.levels ∙ sym (rebuild_outline k')
accepted_outline L W k k' (load bytes room) (access j' op' a' bytes' room') same e = absurd (omega (arith, ap kind_number e))
accepted_outline L W k k' (load bytes room) (rebuild j' room') same e = absurd (omega (arith, ap kind_number e))
accepted_outline L W k k' (access j op a bytes room) (load bytes' room') same e = absurd (omega (arith, ap kind_number e))
accepted_outline L W k k' (access j op a bytes room) (rebuild j' room') same e = absurd (omega (arith, ap kind_number e))
accepted_outline L W k k' (rebuild j room) (load bytes' room') same e = absurd (omega (arith, ap kind_number e))
accepted_outline L W k k' (rebuild j room) (access j' op' a' bytes' room') same e = absurd (omega (arith, ap kind_number e))

-- ---- clients after a call

counted_shown : (found : Bool) (a : ℕ) (vs : List Level) → map shown (counted_from found a vs) ≡ map shown vs
counted_shown found a [] = refl
counted_shown found a (v ∷ vs) = ap₂ (λ (p : Shown) (ps : List Shown). p ∷ ps) (by (v.occupied && not (finds found a v))) (counted_shown (found_after found a v) a vs)
  where
    by : (b : Bool) → shown (cond b (record { occupied = v.occupied; members = v.members; counter = v.counter + 1; build = v.build }) v) ≡ shown v
    by true = refl
    by false = refl

rebuilt_shown : (j t : ℕ) (new : List ℕ) (vs : List Level) →
    map shown (replicate j vacant ++ (rebuilt_level new t ∷ drop (suc j) vs))
    ≡ map shown (replicate j vacant) ++ (record { occupied = true; build = t } ∷ drop (suc j) (map shown vs))
rebuilt_shown j t new vs =
    map-append shown (replicate j vacant) (rebuilt_level new t ∷ drop (suc j) vs)
    ∙ ap (λ ps. map shown (replicate j vacant) ++ (record { occupied = true; build = t } ∷ ps)) (sym (drop-map shown (suc j) vs))

accepted_alike : (L W : ℕ) (k k' : Client) (c d : Call) → AlikeClients L W k k' → kind_of c ≡ kind_of d → AlikeClients L W (accepted_client k c) (accepted_client k' d)
unfolding kind_number
accepted_alike L W k k' (load bytes room) (load bytes' room') same e = record {
  refusal = same.refusal;
  top = same.top;
  top' = same.top';
  width = same.width;
  width' = same.width';
  number = ap (λ n. n + 1) same.number;
  accesses = same.accesses;
  levels =
      map-set shown k.levels k.top (loaded_level k.top)
      ∙ ap₂ (λ (ps : List Shown) (i : ℕ). set ps i (record { occupied = true; build = 0 })) same.levels (same.top ∙ sym same.top')
      ∙ sym (map-set shown k'.levels k'.top (loaded_level k'.top));
}
accepted_alike L W k k' (access j op a bytes room) (access j' op' a' bytes' room') same e = record {
  refusal = same.refusal;
  top = same.top;
  top' = same.top';
  width = same.width;
  width' = same.width';
  number = ap (λ n. n + 1) same.number;
  accesses = ap (λ n. n + 1) same.accesses;
  levels = counted_shown false a k.levels ∙ same.levels ∙ sym (counted_shown false a' k'.levels);
}
accepted_alike L W k k' (rebuild j room) (rebuild j' room') same e = record {
  refusal = same.refusal;
  top = same.top;
  top' = same.top';
  width = same.width;
  width' = same.width';
  number = ap (λ n. n + 1) same.number;
  accesses = same.accesses;
  levels =
      rebuilt_shown (rebuild_level k) k.accesses (rebuilt_members k) k.levels
      ∙ ap₂ (λ (l t : ℕ). shown_after (level_of_build l t) t (map shown k.levels)) (same.top ∙ sym same.top') same.accesses
      ∙ ap (shown_after (rebuild_level k') k'.accesses) same.levels
      ∙ sym (rebuilt_shown (rebuild_level k') k'.accesses (rebuilt_members k') k'.levels);
}
  where
    shown_after : ℕ → ℕ → List Shown → List Shown
    shown_after l t ps = map shown (replicate l vacant) ++ (record { occupied = true; build = t } ∷ drop (suc l) ps)
accepted_alike L W k k' (load bytes room) (access j' op' a' bytes' room') same e = absurd (omega (arith, ap kind_number e))
accepted_alike L W k k' (load bytes room) (rebuild j' room') same e = absurd (omega (arith, ap kind_number e))
accepted_alike L W k k' (access j op a bytes room) (load bytes' room') same e = absurd (omega (arith, ap kind_number e))
accepted_alike L W k k' (access j op a bytes room) (rebuild j' room') same e = absurd (omega (arith, ap kind_number e))
accepted_alike L W k k' (rebuild j room) (load bytes' room') same e = absurd (omega (arith, ap kind_number e))
accepted_alike L W k k' (rebuild j room) (access j' op' a' bytes' room') same e = absurd (omega (arith, ap kind_number e))

-- ---- one call

module _ (L W K : ℕ) (k k' : Client) (c d : Call) (same : AlikeClients L W k k') (alike : AlikeCalls L W c d) where
  pub acts_alike : outline (acts K k c) ≡ outline (acts K k' d)
  acts_alike =
      by (verdict K k c)
      ∙ ap (λ o. outline (elim o as (λ x. List (Act Mark)) [ Some r ↦ [] | None ↦ accepted_acts k' d ])) (verdicts_same L W K k k' c d same alike)
    where
      by : (o : Option Refusal) → outline (elim o as (λ x. List (Act Mark)) [ Some r ↦ [] | None ↦ accepted_acts k c ])
          ≡ outline (elim o as (λ x. List (Act Mark)) [ Some r ↦ [] | None ↦ accepted_acts k' d ])
      by (Some r) = refl
      by None = accepted_outline L W k k' c d same alike.kinds

  pub clients_alike : AlikeClients L W (client_after K k c) (client_after K k' d)
  clients_alike =
      subst (λ o. AlikeClients L W (client_after K k c) (elim o as (λ x. Client) [ Some r ↦ k' | None ↦ accepted_client k' d ])) (verdicts_same L W K k k' c d same alike)
      (by (verdict K k c))
    where
      by : (o : Option Refusal) → AlikeClients L W (elim o as (λ x. Client) [ Some r ↦ k | None ↦ accepted_client k c ])
          (elim o as (λ x. Client) [ Some r ↦ k' | None ↦ accepted_client k' d ])
      by (Some r) = same
      by None = accepted_alike L W k k' c d same alike.kinds

-- ---- lists of calls

pub scripts_alike : (L W K : ℕ) (k k' : Client) (cs ds : List Call) → AlikeClients L W k k' → Alike L W cs ds → outline (script K k cs) ≡ outline (script K k' ds)
scripts_alike L W K k k' [] [] same alike = refl
scripts_alike L W K k k' [] (d ∷ ds) same alike = absurd alike
scripts_alike L W K k k' (c ∷ cs) [] same alike = absurd alike
scripts_alike L W K k k' (c ∷ cs) (d ∷ ds) same alike =
    outline_append (acts K k c) (script K (client_after K k c) cs)
    ∙ ap₂ (λ (xs ys : List (Act Mark)). xs ++ ys) (acts_alike L W K k k' c d same alike.0)
    (scripts_alike L W K (client_after K k c) (client_after K k' d) cs ds (clients_alike L W K k k' c d same alike.0) alike.1)
    ∙ sym (outline_append (acts K k' d) (script K (client_after K k' d) ds))

-- the verdicts of a list of calls
abbrev pub verdicts : ℕ → Client → List Call → List (Option Refusal)
verdicts K k [] = []
verdicts K k (c ∷ cs) = verdict K k c ∷ verdicts K (client_after K k c) cs

pub verdicts_alike : (L W K : ℕ) (k k' : Client) (cs ds : List Call) → AlikeClients L W k k' → Alike L W cs ds → verdicts K k cs ≡ verdicts K k' ds
verdicts_alike L W K k k' [] [] same alike = refl
verdicts_alike L W K k k' [] (d ∷ ds) same alike = absurd alike
verdicts_alike L W K k k' (c ∷ cs) [] same alike = absurd alike
verdicts_alike L W K k k' (c ∷ cs) (d ∷ ds) same alike =
    ap₂ (λ (o : Option Refusal) (os : List (Option Refusal)). o ∷ os) (verdicts_same L W K k k' c d same alike.0)
    (verdicts_alike L W K (client_after K k c) (client_after K k' d) cs ds (clients_alike L W K k k' c d same alike.0) alike.1)
