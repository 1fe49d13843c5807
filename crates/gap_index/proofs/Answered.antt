-- The answers to the questions, from what is known of the level and of its list.
use Rattle.std.proofs.Common.{◌≡◌, ℕ, ◌^◌, ◌<◌, ◌≤◌, Bool, true, false, cond, ◌&&◌, ltb, leb, ◌⊎◌, List, length, get_or, Some, None, Ok, Err, Option, sym, ap, ◌∙◌, inl, inr, arith}
use Rattle.std.proofs.lemmas.Bool.{lt-ltb, le-ltb, ltb-true, and_parts, and_left, and_right, and_from, lt-leb, le-leb, cond-true, cond-false}
use Rattle.shape.specs.declared.refusal.Refusal.TheVariants.{WrongListChange}
use Rattle.index.specs.Lists.{list_at, above, has, smaller, takes, size_answer, member_answer, rank_answer, append_answer, clear_answer}
use Rattle.index.specs.RowLists.{rank_in}

-- ---- sizes, members and ranks

pub size_absent : (lists : List (List ℕ)) (L l : ℕ) → length lists ≡ L → L ≤ l → None ≡ size_answer lists l
size_absent lists L l n h = sym (cond-false (ltb l (length lists)) (Some (length (list_at lists l))) None (le-ltb l (length lists) (omega arith)))

pub size_present : (lists : List (List ℕ)) (L l x : ℕ) → length lists ≡ L → l < L → x ≡ length (list_at lists l) → Some x ≡ size_answer lists l
size_present lists L l x n h e = ap Some e ∙ sym (cond-true (ltb l (length lists)) (Some (length (list_at lists l))) None (lt-ltb l (length lists) (omega arith)))

pub member_absent : (lists : List (List ℕ)) (L l p : ℕ) → length lists ≡ L → (L ≤ l) ⊎ (length (list_at lists l) ≤ p) → None ≡ member_answer lists l p
member_absent lists L l p n o = sym (cond-false (ltb l (length lists) && ltb p (length (list_at lists l))) (Some (get_or (list_at lists l) p 0)) None (away o))
  where
    away : (L ≤ l) ⊎ (length (list_at lists l) ≤ p) → (ltb l (length lists) && ltb p (length (list_at lists l))) ≡ false
    away (inl h) = and_left (ltb l (length lists)) _ (le-ltb l (length lists) (omega arith))
    away (inr h) = and_right (ltb l (length lists)) _ (le-ltb p (length (list_at lists l)) h)

pub member_present : (lists : List (List ℕ)) (L l p x : ℕ) → length lists ≡ L → l < L → p < length (list_at lists l) → x ≡ get_or (list_at lists l) p 0 → Some x ≡ member_answer lists l p
member_present lists L l p x n h i e =
    ap Some e
    ∙ sym (cond-true (ltb l (length lists) && ltb p (length (list_at lists l))) (Some (get_or (list_at lists l) p 0)) None (and_from _ _ (lt-ltb l (length lists) (omega arith)) (lt-ltb p (length (list_at lists l)) i)))

pub rank_absent : (lists : List (List ℕ)) (L l a : ℕ) → length lists ≡ L → L ≤ l → None ≡ rank_answer lists l a
rank_absent lists L l a n h =
    sym (cond-false (ltb l (length lists) && has (list_at lists l) a) (Some (smaller (list_at lists l) a)) None (and_left (ltb l (length lists)) _ (le-ltb l (length lists) (omega arith))))

pub rank_present : (lists : List (List ℕ)) (L l a : ℕ) (r : Option ℕ) → length lists ≡ L → l < L → r ≡ rank_in (list_at lists l) a → r ≡ rank_answer lists l a
rank_present lists L l a r n h e =
    let there : ltb l (length lists) ≡ true = lt-ltb l (length lists) (omega arith) in
    e ∙ sym (ap (λ (b : Bool). cond (b && has (list_at lists l) a) (Some (smaller (list_at lists l) a)) None) there)

-- ---- appends and clears

pub takes_not : (lists : List (List ℕ)) (L l a : ℕ) → length lists ≡ L → (L ≤ l) ⊎ (2 ^ L ≤ a) → false ≡ takes lists l a
takes_not lists L l a n (inl h) = sym (and_left (ltb l (length lists)) _ (le-ltb l (length lists) (omega arith)))
takes_not lists L l a n (inr h) =
    sym (and_right (ltb l (length lists)) _ (and_left (ltb a (2 ^ length lists)) _ (le-ltb a (2 ^ length lists) (omega (arith, ap (λ (m : ℕ). 2 ^ m) n)))))

pub takes_is : (lists : List (List ℕ)) (L l a : ℕ) → length lists ≡ L → l < L → a < 2 ^ L → takes lists l a ≡ (above (list_at lists l) a && ltb (length (list_at lists l)) (2 ^ l))
takes_is lists L l a n h i =
    let rest = above (list_at lists l) a && ltb (length (list_at lists l)) (2 ^ l) in
    ap (λ (b : Bool). b && (ltb a (2 ^ length lists) && rest)) (lt-ltb l (length lists) (omega arith))
    ∙ ap (λ (b : Bool). b && rest) (lt-ltb a (2 ^ length lists) (omega (arith, ap (λ (m : ℕ). 2 ^ m) n)))

pub takes_over : (lists : List (List ℕ)) (L l a next : ℕ) → length lists ≡ L → l < L → a < 2 ^ L → above (list_at lists l) a ≡ leb next a → a < next → leb next a ≡ takes lists l a
takes_over lists L l a next n h i e low =
    let no : leb next a ≡ false = lt-leb next a low in
    no ∙ sym (takes_is lists L l a n h i ∙ and_left (above (list_at lists l) a) _ (e ∙ no))

pub takes_room : (lists : List (List ℕ)) (L l a next size most : ℕ) → length lists ≡ L → l < L → a < 2 ^ L → above (list_at lists l) a ≡ leb next a → size ≡ length (list_at lists l) → most ≡ 2 ^ l → next ≤ a → ltb size most ≡ takes lists l a
takes_room lists L l a next size most n h i e f m low =
    let over : above (list_at lists l) a ≡ true = e ∙ le-leb next a low in
    ap (λ (x : ℕ). ltb x most) f ∙ ap (λ (x : ℕ). ltb (length (list_at lists l)) x) m
    ∙ sym (takes_is lists L l a n h i ∙ ap (λ (b : Bool). b && ltb (length (list_at lists l)) (2 ^ l)) over)

-- what an accepted append may rely on
pub record Taken (lists : List (List ℕ)) (L l a : ℕ) : Type 0 where
  pub level : l < L
  pub address : a < 2 ^ L
  pub over : above (list_at lists l) a ≡ true
  pub room : length (list_at lists l) < 2 ^ l

pub taken : (lists : List (List ℕ)) (L l a : ℕ) → length lists ≡ L → takes lists l a ≡ true → Taken lists L l a
taken lists L l a n t =
    let p = and_parts (ltb l (length lists)) _ t in
    let q = and_parts (ltb a (2 ^ length lists)) _ p.1 in
    let r = and_parts (above (list_at lists l) a) _ q.1 in
    record {
      level = omega (arith, ltb-true _ _ p.0);
      address = omega (arith, ap (λ (m : ℕ). 2 ^ m) n, ltb-true _ _ q.0);
      over = r.0;
      room = ltb-true _ _ r.1;
    }

pub append_accepted : (lists : List (List ℕ)) (l a : ℕ) → takes lists l a ≡ true → Ok tt ≡ append_answer lists l a
append_accepted lists l a t = sym (cond-true (takes lists l a) (Ok tt) (Err WrongListChange) t)

pub clear_refused : (lists : List (List ℕ)) (L l : ℕ) → length lists ≡ L → L ≤ l → Err WrongListChange ≡ clear_answer lists l
clear_refused lists L l n h = sym (cond-false (ltb l (length lists)) (Ok tt) (Err WrongListChange) (le-ltb l (length lists) (omega arith)))

pub clear_accepted : (lists : List (List ℕ)) (L l : ℕ) → length lists ≡ L → l < L → Ok tt ≡ clear_answer lists l
clear_accepted lists L l n h = sym (cond-true (ltb l (length lists)) (Ok tt) (Err WrongListChange) (lt-ltb l (length lists) (omega arith)))
