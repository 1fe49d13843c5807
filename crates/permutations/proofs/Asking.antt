-- Scripts one after another, and what they ask of a build.
use Rattle.std.proofs.Common.{◌≡◌, ℕ, ◌<◌, Bool, true, false, cond, eqb, List, [], ◌∷◌, ◌++◌, length, sym, refl, ap, ◌∙◌, subst, ⊎_elim, arith, length-append}
use Rattle.std.specs.List.{flat_map}
use Rattle.std.proofs.ByRecursion.{All-push}
use Rattle.std.proofs.lemmas.List.{append-nil, append_assoc, map-append}
use Rattle.std.proofs.lemmas.Bool.{cases_Bool, eqb-true}
use Rattle.permutations.specs.Lists.{among, AreIndexes}
use Rattle.permutations.specs.Choices.{size_of}
use Rattle.permutations.specs.Scripts.{Act, ask, close, mark, asks_of, asked_of, shown, view_after, blanked, outline, Allowed, SoundAfter, Sound}
use Rattle.permutations.proofs.Members.{apart_push}

-- ---- one script after another

joined_append : {X A : Type 0} (f : X → List A) (xs ys : List X) → flat_map f (xs ++ ys) ≡ flat_map f xs ++ flat_map f ys
joined_append f [] ys = refl
joined_append f (x ∷ xs) ys = ap (λ r. f x ++ r) (joined_append f xs ys) ∙ sym (append_assoc (f x) (flat_map f xs) (flat_map f ys))

pub asked_append : {M : Type 0} (b : ℕ) (s t : List (Act M)) → asked_of b (s ++ t) ≡ asked_of b s ++ asked_of b t
asked_append b = joined_append (asks_of b)

pub asked_push : {M : Type 0} (b : ℕ) (s : List (Act M)) (a : Act M) → asked_of b (s ++ (a ∷ [])) ≡ asked_of b s ++ asks_of b a
asked_push b s a = asked_append b s (a ∷ []) ∙ ap (λ r. asked_of b s ++ r) (append-nil (asks_of b a))

pub outline_append : {M : Type 0} (s t : List (Act M)) → outline (s ++ t) ≡ outline s ++ outline t
outline_append s t = map-append blanked s t

pub view_append : {M : Type 0} (ns : List ℕ) (ts : List (List ℕ)) (past s t : List (Act M)) →
    view_after ns ts past (s ++ t) ≡ view_after ns ts past s ++ view_after ns ts (past ++ s) t
view_append ns ts past [] t = ap (λ p. view_after ns ts p t) (sym (append-nil past))
view_append ns ts past (a ∷ s) t =
    ap (λ r. shown ns ts past a ∷ r)
    (view_append ns ts (past ++ (a ∷ [])) s t
    ∙ ap (λ p. view_after ns ts (past ++ (a ∷ [])) s ++ view_after ns ts p t) (append_assoc past (a ∷ []) s))

pub sound_append : {M : Type 0} (ns : List ℕ) (past s t : List (Act M)) →
    SoundAfter ns past s → SoundAfter ns (past ++ s) t → SoundAfter ns past (s ++ t)
sound_append ns past [] t h k = subst (λ p. SoundAfter ns p t) (append-nil past) k
sound_append ns past (a ∷ s) t h k =
    (h.0, sound_append ns (past ++ (a ∷ [])) s t h.1 (subst (λ p. SoundAfter ns p t) (sym (append_assoc past (a ∷ []) s)) k))

-- ---- what a sound script asks of a build

indexes_push : (n : ℕ) (xs : List ℕ) (x : ℕ) → AreIndexes n xs → x < n → among xs x ≡ false → AreIndexes n (xs ++ (x ∷ []))
indexes_push n xs x h l new = record {
  below = All-push (λ y. y < n) xs x h.below l;
  apart = apart_push xs x h.apart new;
}

asks_indexes : {M : Type 0} (ns : List ℕ) (b : ℕ) (past : List (Act M)) (a : Act M) → AreIndexes (size_of ns b) (asked_of b past) → Allowed ns past a →
    AreIndexes (size_of ns b) (asked_of b past ++ asks_of b a)
asks_indexes ns b past (ask c i) h ok = ⊎_elim mine other (cases_Bool (eqb c b))
  where
    mine : eqb c b ≡ true → AreIndexes (size_of ns b) (asked_of b past ++ cond (eqb c b) (i ∷ []) [])
    mine e =
        let l : i < size_of ns b = subst (λ k. i < size_of ns k) (eqb-true c b e) ok.1 in
        let new : among (asked_of b past) i ≡ false = subst (λ k. among (asked_of k past) i ≡ false) (eqb-true c b e) ok.2 in
        subst (λ q. AreIndexes (size_of ns b) (asked_of b past ++ cond q (i ∷ []) [])) (sym e) (indexes_push (size_of ns b) (asked_of b past) i h l new)

    other : eqb c b ≡ false → AreIndexes (size_of ns b) (asked_of b past ++ cond (eqb c b) (i ∷ []) [])
    other e =
        subst (λ q. AreIndexes (size_of ns b) (asked_of b past ++ cond q (i ∷ []) [])) (sym e)
        (subst (AreIndexes (size_of ns b)) (sym (append-nil (asked_of b past))) h)
asks_indexes ns b past (close c) h ok = subst (AreIndexes (size_of ns b)) (sym (append-nil (asked_of b past))) h
asks_indexes ns b past (mark m) h ok = subst (AreIndexes (size_of ns b)) (sym (append-nil (asked_of b past))) h

pub indexes_after : {M : Type 0} (ns : List ℕ) (b : ℕ) (past s : List (Act M)) → AreIndexes (size_of ns b) (asked_of b past) → SoundAfter ns past s →
    AreIndexes (size_of ns b) (asked_of b (past ++ s))
indexes_after ns b past [] h ok = subst (λ p. AreIndexes (size_of ns b) (asked_of b p)) (sym (append-nil past)) h
indexes_after ns b past (a ∷ s) h ok =
    let here = subst (AreIndexes (size_of ns b)) (sym (asked_push b past a)) (asks_indexes ns b past a h ok.0) in
    subst (λ p. AreIndexes (size_of ns b) (asked_of b p)) (append_assoc past (a ∷ []) s) (indexes_after ns b (past ++ (a ∷ [])) s here ok.1)

pub asked_indexes : {M : Type 0} (ns : List ℕ) (s : List (Act M)) → Sound ns s → (b : ℕ) → AreIndexes (size_of ns b) (asked_of b s)
asked_indexes ns s ok b = indexes_after ns b [] s (record { below = tt; apart = tt }) ok

-- an outline says how much is asked
pub asks_length : {M : Type 0} (b : ℕ) (a : Act M) → length (asks_of b (blanked a)) ≡ length (asks_of b a)
asks_length b (ask c i) = by (eqb c b)
  where
    by : (q : Bool) → length {A = ℕ} (cond q (0 ∷ []) []) ≡ length (cond q (i ∷ []) [])
    by true = refl
    by false = refl
asks_length b (close c) = refl
asks_length b (mark m) = refl

asked_length : {M : Type 0} (b : ℕ) (s : List (Act M)) → length (asked_of b (outline s)) ≡ length (asked_of b s)
asked_length b [] = refl
asked_length b (a ∷ s) =
    omega (arith, length-append (asks_of b (blanked a)) (asked_of b (outline s)), length-append (asks_of b a) (asked_of b s), asks_length b a, asked_length b s)

pub asked_alike : {M : Type 0} (b : ℕ) (s t : List (Act M)) → outline s ≡ outline t → length (asked_of b s) ≡ length (asked_of b t)
asked_alike b s t e = sym (asked_length b s) ∙ ap (λ o. length (asked_of b o)) e ∙ asked_length b t
