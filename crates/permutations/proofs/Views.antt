-- A view depends on the outline and the asked slots alone, and it shows the outline.
use Rattle.std.proofs.Common.{◌≡◌, ℕ, true, cond, not, eqb, List, [], ◌∷◌, ◌++◌, map, length, take, drop, filter, sym, refl, ap, ◌∙◌, subst, ap₂, arith}
use mathlib.Core.List.{head-eq_of_cons-eq, tail-eq_of_cons-eq}
use lib.ListN.{length-map}
use Rattle.std.specs.List.{range_with_len}
use Rattle.std.proofs.lemmas.List.{map-append, take_at, drop_at}
use Rattle.std.proofs.lemmas.Bool.{eq-eqb}
use Rattle.permutations.specs.Lists.{among}
use Rattle.permutations.specs.Choices.{size_of, slot_of}
use Rattle.permutations.specs.Scripts.{Act, ask, close, mark, Seen, asked, closed, marked, asks_of, asked_of, unasked, shown, view_after, view, blanked, outline}
use Rattle.permutations.proofs.Asking.{asked_push, asks_length}

-- under two lists of tables the slots that two scripts ask of each build are the same
abbrev pub SameSlots : {M : Type 0} → List (List ℕ) → List (List ℕ) → List (Act M) → List (Act M) → Type 0
SameSlots ts us s t = (b : ℕ) → map (slot_of ts b) (asked_of b s) ≡ map (slot_of us b) (asked_of b t)

kind : {M : Type 0} → Act M → ℕ
kind (ask b i) = 0
kind (close b) = 1
kind (mark m) = 2

build_in : {M : Type 0} → Act M → ℕ
build_in (ask b i) = b
build_in (close b) = b
build_in (mark m) = 0

plain : {M : Type 0} → Act M → Seen M
plain (ask b i) = asked b 0
plain (close b) = closed b []
plain (mark m) = marked m

same_slot : (f g : ℕ → ℕ) (b c i j : ℕ) → b ≡ c → map f (cond (eqb b b) (i ∷ []) []) ≡ map g (cond (eqb c b) (j ∷ []) []) → f i ≡ g j
same_slot f g b c i j e h =
    let p : eqb b b ≡ true = eq-eqb b b refl in
    let q : eqb c b ≡ true = eq-eqb c b (sym e) in
    let k : f i ∷ [] ≡ g j ∷ [] = subst (λ t. f i ∷ [] ≡ map g (cond t (j ∷ []) [])) q (subst (λ t. map f (cond t (i ∷ []) []) ≡ map g (cond (eqb c b) (j ∷ []) [])) p h) in
    head-eq_of_cons-eq k

shown_same : {M : Type 0} (ns : List ℕ) (ts us : List (List ℕ)) (past past' : List (Act M)) → SameSlots ts us past past' →
    (a a' : Act M) → blanked a ≡ blanked a' → ((b : ℕ) → map (slot_of ts b) (asks_of b a) ≡ map (slot_of us b) (asks_of b a')) →
    shown ns ts past a ≡ shown ns us past' a'
unfolding kind build_in plain
shown_same ns ts us past past' h (ask b i) (ask c j) e k =
    let m : b ≡ c = ap build_in e in
    let s : slot_of ts b i ≡ slot_of us b j = same_slot (slot_of ts b) (slot_of us b) b c i j m (k b) in
    ap (asked b) s ∙ ap (λ d. asked d (slot_of us d j)) m
shown_same ns ts us past past' h (close b) (close c) e k =
    ap (λ l. closed b (filter (λ s. not (among l s)) (range_with_len 0 (size_of ns b)))) (h b) ∙ ap (λ d. closed d (unasked ns us past' d)) (ap build_in e)
shown_same ns ts us past past' h (mark m) (mark n) e k = ap plain e
shown_same ns ts us past past' h (ask b i) (close c) e k = absurd (omega (arith, ap kind e))
shown_same ns ts us past past' h (ask b i) (mark n) e k = absurd (omega (arith, ap kind e))
shown_same ns ts us past past' h (close b) (ask c j) e k = absurd (omega (arith, ap kind e))
shown_same ns ts us past past' h (close b) (mark n) e k = absurd (omega (arith, ap kind e))
shown_same ns ts us past past' h (mark m) (ask c j) e k = absurd (omega (arith, ap kind e))
shown_same ns ts us past past' h (mark m) (close c) e k = absurd (omega (arith, ap kind e))

append_parts : {X : Type 0} (xs ys us vs : List X) → length xs ≡ length us → xs ++ ys ≡ us ++ vs → (xs ≡ us) × (ys ≡ vs)
append_parts xs ys us vs l e = (
  sym (take_at xs ys (length xs) refl) ∙ ap (take (length xs)) e ∙ take_at us vs (length xs) (sym l),
  sym (drop_at xs ys (length xs) refl) ∙ ap (drop (length xs)) e ∙ drop_at us vs (length xs) (sym l),
)

-- the slots asked first, and those asked then
slots_parts : {M : Type 0} (ts us : List (List ℕ)) (a a' : Act M) (s t : List (Act M)) → blanked a ≡ blanked a' → SameSlots ts us (a ∷ s) (a' ∷ t) →
    (b : ℕ) → (map (slot_of ts b) (asks_of b a) ≡ map (slot_of us b) (asks_of b a')) × (map (slot_of ts b) (asked_of b s) ≡ map (slot_of us b) (asked_of b t))
slots_parts ts us a a' s t e h b =
    let f = slot_of ts b in
    let g = slot_of us b in
    let l : length (map f (asks_of b a)) ≡ length (map g (asks_of b a')) =
    length-map (asks_of b a) f ∙ sym (asks_length b a) ∙ ap (λ o. length (asks_of b o)) e ∙ asks_length b a' ∙ sym (length-map (asks_of b a') g) in
    append_parts (map f (asks_of b a)) (map f (asked_of b s)) (map g (asks_of b a')) (map g (asked_of b t)) l
    (sym (map-append f (asks_of b a) (asked_of b s)) ∙ h b ∙ map-append g (asks_of b a') (asked_of b t))

slots_push : {M : Type 0} (ts us : List (List ℕ)) (past past' : List (Act M)) (a a' : Act M) → SameSlots ts us past past' →
    ((b : ℕ) → map (slot_of ts b) (asks_of b a) ≡ map (slot_of us b) (asks_of b a')) → SameSlots ts us (past ++ (a ∷ [])) (past' ++ (a' ∷ []))
slots_push ts us past past' a a' h k b =
    ap (map (slot_of ts b)) (asked_push b past a) ∙ map-append (slot_of ts b) (asked_of b past) (asks_of b a)
    ∙ ap₂ (λ (x y : List ℕ). x ++ y) (h b) (k b)
    ∙ sym (map-append (slot_of us b) (asked_of b past') (asks_of b a')) ∙ ap (map (slot_of us b)) (sym (asked_push b past' a'))

pub views_after_same : {M : Type 0} (ns : List ℕ) (ts us : List (List ℕ)) (past past' s t : List (Act M)) → SameSlots ts us past past' →
    SameSlots ts us s t → outline s ≡ outline t → view_after ns ts past s ≡ view_after ns us past' t
views_after_same ns ts us past past' [] [] h k e = refl
views_after_same ns ts us past past' [] (a' ∷ t) h k e = absurd (omega (arith, ap length e))
views_after_same ns ts us past past' (a ∷ s) [] h k e = absurd (omega (arith, ap length e))
views_after_same ns ts us past past' (a ∷ s) (a' ∷ t) h k e =
    let o = head-eq_of_cons-eq e in
    let parts = slots_parts ts us a a' s t o k in
    ap₂ (λ x xs. x ∷ xs)
    (shown_same ns ts us past past' h a a' o (λ b. (parts b).0))
    (views_after_same ns ts us (past ++ (a ∷ [])) (past' ++ (a' ∷ [])) s t
    (slots_push ts us past past' a a' h (λ b. (parts b).0)) (λ b. (parts b).1) (tail-eq_of_cons-eq e))

pub views_same : {M : Type 0} (ns : List ℕ) (ts us : List (List ℕ)) (s t : List (Act M)) → SameSlots ts us s t → outline s ≡ outline t → view ns ts s ≡ view ns us t
views_same ns ts us s t = views_after_same ns ts us [] [] s t (λ b. refl)

-- ---- a view shows the outline

faded : {M : Type 0} → Seen M → Act M
faded (asked b x) = ask b 0
faded (closed b xs) = close b
faded (marked m) = mark m

faded_shown : {M : Type 0} (ns : List ℕ) (ts : List (List ℕ)) (past : List (Act M)) (a : Act M) → faded (shown ns ts past a) ≡ blanked a
unfolding faded
faded_shown ns ts past (ask b i) = refl
faded_shown ns ts past (close b) = refl
faded_shown ns ts past (mark m) = refl

faded_view : {M : Type 0} (ns : List ℕ) (ts : List (List ℕ)) (past s : List (Act M)) → map faded (view_after ns ts past s) ≡ outline s
faded_view ns ts past [] = refl
faded_view ns ts past (a ∷ s) = ap₂ (λ x xs. x ∷ xs) (faded_shown ns ts past a) (faded_view ns ts (past ++ (a ∷ [])) s)

pub outlines_show : {M : Type 0} (ns : List ℕ) (ts us : List (List ℕ)) (s t : List (Act M)) → view ns ts s ≡ view ns us t → outline s ≡ outline t
outlines_show ns ts us s t e = sym (faded_view ns ts [] s) ∙ ap (map faded) e ∙ faded_view ns us [] t
