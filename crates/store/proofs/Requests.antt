-- Requests one after another: the store after all of them is the store after the later ones, begun where the earlier ones left it.
use Rattle.std.proofs.Common.{◌≡◌, ℕ, suc, ◌+◌, ◌%◌, ◌^◌, Bool, true, false, cond, List, [], ◌∷◌, ◌++◌, map, length, set, sym, refl, ap, ◌∙◌, arith, length-set}
use lib.ListN.{length-map}
use lib.Seq.{sets}
use Rattle.std.proofs.lemmas.List.FromFn.{map-range_with_len_more, length-map-range_with_len}
use Rattle.std.proofs.lemmas.List.{map-append}
use Rattle.std.specs.List.{range_with_len}
use Rattle.store.specs.declared.entry.Entry.{Entry}
use Rattle.store.specs.State.{Slot, State}
use Rattle.store.specs.Requests.{Request, mark, wrote, counted, trailed, entries, ran}

pub wrote_append : (slots : List Slot) (rs qs : List Request) → wrote slots (rs ++ qs) ≡ wrote (wrote slots rs) qs
wrote_append slots [] qs = refl
wrote_append slots (r ∷ rs) qs = wrote_append (cond r.entry.write (set slots r.entry.place r.slot) slots) rs qs

pub counted_append : (c : ℕ) (rs qs : List Request) → counted (length (rs ++ qs)) c ≡ counted (length qs) (counted (length rs) c)
counted_append c [] qs = refl
counted_append c (r ∷ rs) qs = counted_append ((c + 1) % 2 ^ 64) rs qs

pub trailed_append : (rule : ℕ → ℕ → ℕ) (t : ℕ) (rs qs : List Request) → trailed rule t (entries (rs ++ qs)) ≡ trailed rule (trailed rule t (entries rs)) (entries qs)
trailed_append rule t [] qs = refl
trailed_append rule t (r ∷ rs) qs = trailed_append rule (rule t (mark r.entry)) rs qs

pub ran_append : (s : State) (rs qs : List Request) → ran s (rs ++ qs) ≡ ran (ran s rs) qs
ran_append s rs qs =
    rw (wrote_append s.slots rs qs, counted_append s.served rs qs, trailed_append s.rule s.trail rs qs) refl

-- requests change slots, and not how many there are
pub wrote_length : (slots : List Slot) (rs : List Request) → length (wrote slots rs) ≡ length slots
wrote_length slots [] = refl
wrote_length slots (r ∷ rs) = wrote_length (cond r.entry.write (set slots r.entry.place r.slot) slots) rs ∙ one_length r.entry.write
  where
    one_length : (b : Bool) → length (cond b (set slots r.entry.place r.slot) slots) ≡ length slots
    one_length true = length-set slots r.entry.place r.slot
    one_length false = refl

-- ---- requests numbered from 0, one more

pub ran_more : (s : State) (f : ℕ → Request) (n : ℕ) → ran (ran s (map f (range_with_len 0 n))) (f n ∷ []) ≡ ran s (map f (range_with_len 0 (n + 1)))
ran_more s f n = sym (ran_append s (map f (range_with_len 0 n)) (f n ∷ [])) ∙ ap (ran s) (sym (map-range_with_len_more f 0 n n (omega arith)))

sets_push : (l vs : List Entry) (v : Entry) (i : ℕ) → sets l i (vs ++ (v ∷ [])) ≡ set (sets l i vs) (i + length vs) v
sets_push l [] v i = ap (λ k. set l k v) (omega arith)
sets_push l (a ∷ vs) v i = sets_push (set l i a) vs v (suc i) ∙ ap (λ k. set (sets (set l i a) (suc i) vs) k v) (omega arith)

-- entries written from the start of a trace, one more
pub sets_more : (l : List Entry) (f : ℕ → Request) (n : ℕ) → set (sets l 0 (entries (map f (range_with_len 0 n)))) n (f n).entry ≡ sets l 0 (entries (map f (range_with_len 0 (n + 1))))
sets_more l f n =
    let rs = map f (range_with_len 0 n) in
    let long : 0 + length (entries rs) ≡ n = ap (λ k. 0 + k) (length-map rs (λ r. r.entry) ∙ length-map-range_with_len f 0 n) ∙ omega arith in
    ap (λ k. set (sets l 0 (entries rs)) k (f n).entry) (sym long)
    ∙ sym (sets_push l (entries rs) (f n).entry 0)
    ∙ ap (sets l 0) (sym (map-append (λ r. r.entry) rs (f n ∷ [])))
    ∙ ap (λ qs. sets l 0 (entries qs)) (sym (map-range_with_len_more f 0 n n (omega arith)))
