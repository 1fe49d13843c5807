-- What a loop over the places of a round needs, step by step.
use Rattle.std.proofs.Common.{◌≡◌, ℕ, zero, suc, ◌+◌, ◌%◌, ◌^◌, ◌<◌, Bool, true, false, ltb, ◌&&◌, List, [], ◌∷◌, ◌++◌, length, get_or, take, drop, sym, refl, ap, ◌∙◌, arith}
use Rattle.std.specs.List.{list_all}
use Rattle.std.proofs.lemmas.List.{drop_more, take_more, map_more, flat_map_more}
use Rattle.std.proofs.lemmas.Bool.{ltb-true, and_parts}
use Rattle.store.specs.State.{Slot, State, slot_at}
use Rattle.store.specs.Requests.{entry_of, mark, entries, wrote, counted, trailed, ran}
use Rattle.store.specs.Rounds.{inside, marked, round, fetching, fetch_round, putting, put_round, keys_at, bytes_at}

-- ---- every place lies inside

pub inside_by_all : (n : ℕ) (ps : List ℕ) → inside n ps ≡ list_all (λ p. ltb p n) ps
inside_by_all n [] = refl
inside_by_all n (p ∷ ps) = ap (λ b. ltb p n && b) (inside_by_all n ps)

pub inside_at : (n : ℕ) (ps : List ℕ) (i : ℕ) → inside n ps ≡ true → i < length ps → get_or ps i 0 < n
inside_at n [] i h l = omega arith
inside_at n (p ∷ ps) zero h l = ltb-true p n (and_parts (ltb p n) (inside n ps) h).0
inside_at n (p ∷ ps) (suc i) h l = inside_at n ps i (and_parts (ltb p n) (inside n ps) h).1 (omega arith)

-- ---- what a fetch fills in, one place on

pub keys_at_more : (slots : List Slot) (ps : List ℕ) (i : ℕ) → i < length ps → keys_at slots (take (i + 1) ps) ≡ keys_at slots (take i ps) ++ ((slot_at slots (get_or ps i 0)).key ∷ [])
keys_at_more slots ps i h = map_more (λ p. (slot_at slots p).key) ps i 0 h

pub bytes_at_more : (slots : List Slot) (ps : List ℕ) (i : ℕ) → i < length ps → bytes_at slots (take (i + 1) ps) ≡ bytes_at slots (take i ps) ++ (slot_at slots (get_or ps i 0)).bytes
bytes_at_more slots ps i h =
    ap (bytes_at slots) (take_more ps i 0 h) ∙ sym (flat_map_more (λ p. (slot_at slots p).bytes) [] (take i ps) (get_or ps i 0))

-- ---- a round's requests have the round's entries, and a fetch writes nothing

pub fetching_entries : (b : Bool) (slots : List Slot) (ps : List ℕ) → entries (fetching b slots ps) ≡ marked b false ps
fetching_entries b slots [] = refl
fetching_entries b slots (p ∷ ps) = ap (λ es. entry_of b false p ∷ es) (fetching_entries false slots ps)

pub fetching_length : (b : Bool) (slots : List Slot) (ps : List ℕ) → length (fetching b slots ps) ≡ length ps
fetching_length b slots [] = refl
fetching_length b slots (p ∷ ps) = ap suc (fetching_length false slots ps)

pub fetching_wrote : (b : Bool) (slots given : List Slot) (ps : List ℕ) → wrote slots (fetching b given ps) ≡ slots
fetching_wrote b slots given [] = refl
fetching_wrote b slots given (p ∷ ps) = fetching_wrote false slots given ps

pub putting_entries : (b : Bool) (w : ℕ) (ps ks bs : List ℕ) → entries (putting b w ps ks bs) ≡ marked b true ps
putting_entries b w [] ks bs = refl
putting_entries b w (p ∷ ps) ks bs = ap (λ es. entry_of b true p ∷ es) (putting_entries false w ps (drop 1 ks) (drop w bs))

pub putting_length : (b : Bool) (w : ℕ) (ps ks bs : List ℕ) → length (putting b w ps ks bs) ≡ length ps
putting_length b w [] ks bs = refl
putting_length b w (p ∷ ps) ks bs = ap suc (putting_length false w ps (drop 1 ks) (drop w bs))

-- ---- count and trail, one place on

pub counted_more : (ps : List ℕ) (i c : ℕ) → i < length ps → counted (length (drop i ps)) c ≡ counted (length (drop (i + 1) ps)) ((c + 1) % 2 ^ 64)
counted_more ps i c h = rw (drop_more ps i 0 h) refl

pub trailed_more : (rule : ℕ → ℕ → ℕ) (b w : Bool) (ps : List ℕ) (i t : ℕ) → i < length ps → trailed rule t (marked b w (drop i ps)) ≡ trailed rule (rule t (mark (entry_of b w (get_or ps i 0)))) (marked false w (drop (i + 1) ps))
trailed_more rule b w ps i t h = rw (drop_more ps i 0 h) refl

-- ---- the store after a round, from its parts

abbrev pub with_parts : State → List Slot → ℕ → ℕ → State
with_parts s slots c t = record { width = s.width; slots = slots; served = c; trail = t; rule = s.rule }

same_parts : (s : State) {slots slots' : List Slot} {c c' t t' : ℕ} → slots ≡ slots' → c ≡ c' → t ≡ t' → with_parts s slots c t ≡ with_parts s slots' c' t'
same_parts s {slots} {slots'} {c} {c'} {t} {t'} e f g =
    ap (λ x. with_parts s x c t) e ∙ ap (λ x. with_parts s slots' x t) f ∙ ap (λ x. with_parts s slots' c' x) g

pub after_fetch : (s : State) (ps : List ℕ) (c t : ℕ) → c ≡ counted (length ps) s.served → t ≡ trailed s.rule s.trail (round false ps) → with_parts s s.slots c t ≡ ran s (fetch_round s ps)
after_fetch s ps c t e f =
    same_parts s (sym (fetching_wrote true s.slots s.slots ps))
    (e ∙ ap (λ n. counted n s.served) (sym (fetching_length true s.slots ps)))
    (f ∙ ap (trailed s.rule s.trail) (sym (fetching_entries true s.slots ps)))

pub after_put : (s : State) (ps ks bs : List ℕ) (slots : List Slot) (c t : ℕ) → slots ≡ wrote s.slots (put_round s ps ks bs) → c ≡ counted (length ps) s.served → t ≡ trailed s.rule s.trail (round true ps) → with_parts s slots c t ≡ ran s (put_round s ps ks bs)
after_put s ps ks bs slots c t d e f =
    same_parts s d
    (e ∙ ap (λ n. counted n s.served) (sym (putting_length true s.width ps ks bs)))
    (f ∙ ap (trailed s.rule s.trail) (sym (putting_entries true s.width ps ks bs)))
