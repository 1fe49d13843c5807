-- Lists that are alike; and two lists that differ for the host: the lengths of their traces differ, or the numbers by which calls are declined.
use Rattle.std.proofs.Common.{◌≡◌, ℕ, ◌*◌, ◌^◌, ◌<◌, ◌≤◌, eqb, leb, ltb, List, [], ◌∷◌, map, length, get_or, Some, None, Option, sym, refl, ap, ◌∙◌, arith}
use Rattle.std.proofs.lemmas.Bool.{cond-true, eq-eqb, le-leb, lt-ltb}
use Rattle.shape.specs.Numbers.{blocks}
use Rattle.shape.specs.declared.refusal.Refusal.{Refusal}
use Rattle.store.specs.declared.entry.Entry.{Entry}
use Rattle.rules.specs.Calls.{Call, load, access, turn_of}
use Rattle.rules.specs.Loading.{load_requests, loading}
use Rattle.rules.specs.Accessing.{accessing}
use Rattle.rules.specs.Runs.{trace}
use Rattle.laws.specs.Runs.{Choices}
use Rattle.laws.specs.Correspondence.{kind_of, room_of, fault_of, AlikeCalls, refusals}
use Rattle.laws.specs.Teeth.{start, reading, DifferingListsShow, ReadsAndWritesAreAlike, loading as load-two}

-- a list of two
two : (ts : List (List ℕ)) → length ts ≡ 2 → (x : List ℕ) × (y : List ℕ) × (ts ≡ x ∷ y ∷ [])
two [] h = absurd (omega (arith, h))
two (x ∷ []) h = absurd (omega (arith, h))
two (x ∷ y ∷ []) h = (x, y, refl)
two (x ∷ y ∷ z ∷ rest) h = absurd (omega (arith, h))

-- how many entries the two lists make, and how they are declined, for any two tables
longer : (x y : List ℕ) → length (trace (x ∷ y ∷ []) start (load-two ∷ reading 0 ∷ [])) ≡ 5
unfolding load_requests loading accessing
longer x y = refl

shorter : (x y : List ℕ) → length (trace (x ∷ y ∷ []) start (load-two ∷ [])) ≡ 4
unfolding load_requests loading
shorter x y = refl

numbered : List (Option Refusal) → List ℕ
numbered = map (λ r. elim r [ Some _ ↦ 1 | None ↦ 0 ])

taken : (x y : List ℕ) → numbered (refusals (x ∷ y ∷ []) start (load-two ∷ reading 0 ∷ [])) ≡ 0 ∷ 0 ∷ []
unfolding load_requests loading accessing numbered
taken x y = refl

turned_down : (x y : List ℕ) → numbered (refusals (x ∷ y ∷ []) start (load-two ∷ access 1 0 0 (0 ∷ []) 100 ∷ [])) ≡ 0 ∷ 1 ∷ []
unfolding load_requests loading accessing numbered
turned_down x y = refl

pub differing_lists_show : DifferingListsShow
differing_lists_show = record { a_read_shows = read_shows; a_refusal_shows = refusal_shows }
  where
    read_shows : (ts us : List (List ℕ)) → Choices 1 2 ts → Choices 1 2 us →
        trace ts start (load-two ∷ reading 0 ∷ []) ≡ trace us start (load-two ∷ []) → ⊥
    read_shows ts us h k e =
        let p = two ts h.counted in
        let q = two us k.counted in
        let long = ap (λ (zs : List (List ℕ)). length (trace zs start (load-two ∷ reading 0 ∷ []))) p.2 ∙ longer p.0 p.1 in
        let short = ap (λ (zs : List (List ℕ)). length (trace zs start (load-two ∷ []))) q.2 ∙ shorter q.0 q.1 in
        omega (arith, long, short, ap (λ (es : List Entry). length es) e)

    refusal_shows : (ts us : List (List ℕ)) → Choices 1 2 ts → Choices 1 2 us →
        refusals ts start (load-two ∷ reading 0 ∷ []) ≡ refusals us start (load-two ∷ access 1 0 0 (0 ∷ []) 100 ∷ []) → ⊥
    refusal_shows ts us h k e =
        let p = two ts h.counted in
        let q = two us k.counted in
        let kept = ap (λ (zs : List (List ℕ)). numbered (refusals zs start (load-two ∷ reading 0 ∷ []))) p.2 ∙ taken p.0 p.1 in
        let lost = ap (λ (zs : List (List ℕ)). numbered (refusals zs start (load-two ∷ access 1 0 0 (0 ∷ []) 100 ∷ []))) q.2 ∙ turned_down q.0 q.1 in
        omega (arith, ap (λ (ns : List ℕ). get_or ns 1 0) (sym kept ∙ ap numbered e ∙ lost))

-- ---- lists that are alike

valid_load : (L W : ℕ) (all : List ℕ) (r : ℕ) → length all ≡ 2 ^ L * W → fault_of L W (load all r) ≡ None
valid_load L W all r h = cond-true (eqb (length all) (blocks L * W)) _ _ (eq-eqb (length all) (blocks L * W) h)

valid_access : (L W j op a : ℕ) (run : List ℕ) (r : ℕ) → op ≤ 1 → a < 2 ^ L → length run ≡ W → fault_of L W (access j op a run r) ≡ None
valid_access L W j op a run r known low h =
    cond-true (leb op 1) _ _ (le-leb op 1 known)
    ∙ cond-true (ltb a (blocks L)) _ _ (lt-ltb a (blocks L) low)
    ∙ cond-true (eqb (length run) W) _ _ (eq-eqb (length run) W h)

alike_calls : (L W : ℕ) (c d : Call) → kind_of c ≡ kind_of d → turn_of c ≡ turn_of d → room_of c ≡ room_of d → fault_of L W c ≡ fault_of L W d → AlikeCalls L W c d
alike_calls L W c d k t r f = record { kinds = k; turns = t; rooms = r; faults = f }

pub reads_and_writes_are_alike : ReadsAndWritesAreAlike
reads_and_writes_are_alike = record {
  valid = λ L W a b j r s t all others run bytes many as_many low as_low wide as_wide.
      let loads = valid_load L W all r many ∙ sym (valid_load L W others r as_many) in
      let accesses = valid_access L W j 0 a run s (omega arith) low wide ∙ sym (valid_access L W j 1 b bytes s (omega arith) as_low as_wide) in
      (alike_calls L W _ _ refl refl refl loads, (alike_calls L W _ _ refl refl refl accesses, (alike_calls L W _ _ refl refl refl refl, tt)));
  invalid = (faulty _ _ refl refl refl refl, (faulty _ _ refl refl refl refl, (faulty _ _ refl refl refl refl, (faulty _ _ refl refl refl refl, tt))));
}
  where
    faulty : (c d : Call) → kind_of c ≡ kind_of d → turn_of c ≡ turn_of d → room_of c ≡ room_of d → fault_of 1 1 c ≡ fault_of 1 1 d → AlikeCalls 1 1 c d
    faulty = alike_calls 1 1
