-- A round of a joined store, as a round of each part.
use Rattle.std.proofs.Common.{◌≡◌, ℕ, ◌+◌, ◌-◌, ◌*◌, ◌<◌, ◌≤◌, Bool, true, false, ltb, List, [], ◌∷◌, ◌++◌, length, take, drop, set, Ok, sym, refl, ap, subst, ◌∙◌, arith, zero-mul, suc-mul, add-mul, mul-one, length-append}
use Rattle.std.specs.List.{flat_map}
use Rattle.std.proofs.lemmas.List.Concat.{flat_map_single}
use Rattle.std.proofs.lemmas.Grind.{common_steps}
use Rattle.std.proofs.lemmas.Bool.{and_parts, ltb-true, cond-true, cond-false, true_from_ne_false}
use Rattle.std.proofs.lemmas.Bool.Decides.{nat_tests}
use Rattle.std.proofs.lemmas.List.{take_at, drop_at, length-take-le, length-drop, length-set, nil_from_length, get_or_append_left, get_or-append_right, set-append_left, set-append_right}
use Rattle.store.specs.State.{Slot, State, Wide, slot_at}
use Rattle.store.specs.Requests.{Request, wrote, counted, trailed, entries, ran}
use Rattle.store.specs.Rounds.{inside, verdict, round, fetch_round, putting, put_round, keys_at, bytes_at}
use Rattle.store.specs.Rule.{multiplied}
use Rattle.store.proofs.Requests.{wrote_length}
use Rattle.store.proofs.Rounds.{fetching_wrote, with_parts, after_fetch, after_put}
use Rattle.store.proofs.Admitted.{admitted}
use Rattle.joined_store.specs.declared.part.Part.TheVariants.{First, Second}
use Rattle.joined_store.specs.Joined.{joins, joined_slots, joined_state, places_in, items_in, fetch_of, put_of}
use Rattle.joined_store.specs.Inner.{Shares, scattered}
use Rattle.joined_store.specs.Wide.{joins_widths, wide_joined}

inside_first : (n : ℕ) (ps : List ℕ) → inside n (places_in First n ps) ≡ true
inside_first n [] = refl
inside_first n (p ∷ ps) = grind (arith, nat_tests, inside_first n ps)

inside_second : (n m : ℕ) (ps : List ℕ) → inside (n + m) ps ≡ true → inside m (places_in Second n ps) ≡ true
inside_second n m [] h = refl
inside_second n m (p ∷ ps) h =
    let parts = and_parts (ltb p (n + m)) (inside (n + m) ps) h in
    grind (arith, nat_tests, inside_second n m ps parts.1)

-- ---- what a fetch of both parts fills in

-- the items of slots, w each
both_scattered : {X : Type 0} (item : Slot → List X) (w n : ℕ) (a b : List Slot) (ps : List ℕ) (xs : List X) → n ≡ length a → length xs ≡ length ps * w →
    inside (length (a ++ b)) ps ≡ true → ((p : ℕ) → p < length (a ++ b) → length (item (slot_at (a ++ b) p)) ≡ w) →
    scattered Second n w ps (flat_map (λ p. item (slot_at b p)) (places_in Second n ps)) (scattered First n w ps (flat_map (λ p. item (slot_at a p)) (places_in First n ps)) xs)
    ≡ flat_map (λ p. item (slot_at (a ++ b) p)) ps
both_scattered item w n a b [] xs e l i k = nil_from_length xs (l ∙ zero-mul w)
both_scattered item w n a b (p ∷ ps) xs e l i k =
    let parts = and_parts (ltb p (length (a ++ b))) (inside (length (a ++ b)) ps) i in
    let wide = k p (ltb-true p (length (a ++ b)) parts.0) in
    let many = suc-mul (length ps) w in
    let more = both_scattered item w n a b ps (drop w xs) e (length-drop w xs ∙ omega arith) parts.1 k in
    let first : p < n → slot_at (a ++ b) p ≡ slot_at a p = λ h. get_or_append_left a b _ p (omega arith) in
    let second : n ≤ p → slot_at (a ++ b) p ≡ slot_at b (p - n) = λ h. get_or-append_right a b n p _ (sym e) h in
    grind (arith, nat_tests, take_at, drop_at, length-take-le, more, first, second)

wrote_both : (e f g : Bool) (w n : ℕ) (a b : List Slot) (ps ks bs : List ℕ) → length a ≡ n → length ks ≡ length ps → length bs ≡ length ps * w →
    wrote (a ++ b) (putting e w ps ks bs)
    ≡ wrote a (putting f w (places_in First n ps) (items_in First n 1 ps ks) (items_in First n w ps bs))
    ++ wrote b (putting g w (places_in Second n ps) (items_in Second n 1 ps ks) (items_in Second n w ps bs))
wrote_both e f g w n a b [] ks bs la lk lb = refl
wrote_both e f g w n a b (p ∷ ps) [] bs la lk lb = absurd (omega arith)
wrote_both e f g w n a b (p ∷ ps) (k ∷ ks) bs la lk lb =
    let s : Slot = record { key = k; bytes = take w bs } in
    let many = suc-mul (length ps) w in
    let rest : length (drop w bs) ≡ length ps * w = length-drop w bs ∙ omega arith in
    let left : p < n → _ = λ h. wrote_both false false g w n (set a p s) b ps ks (drop w bs) (length-set a p s ∙ la) (omega arith) rest in
    let right : n ≤ p → _ = λ h. wrote_both false f false w n a (set b (p - n) s) ps ks (drop w bs) la (omega arith) rest in
    grind (arith, nat_tests, common_steps, left, right, set-append_left, set-append_right)

-- ---- both parts together

-- what an accepted round says of the parts
pub record Parted (w : ℕ) (a b : State) (ps : List ℕ) (k m : ℕ) : Type 0 where
  pub joins : joins w a b ≡ true
  pub slots : joined_slots w a b ≡ a.slots ++ b.slots
  pub widths : (a.width ≡ w) × (b.width ≡ w)
  pub places : inside (length (a.slots ++ b.slots)) ps ≡ true
  pub keys : k ≡ length ps
  pub bytes : m ≡ length ps * w
  pub first : Shares a First (length a.slots) ps k m
  pub second : Shares b Second (length a.slots) ps k m

pub parted : (w : ℕ) (a b : State) (ps : List ℕ) (k m : ℕ) → verdict w (length (joined_slots w a b)) ps k m ≡ Ok tt → Parted w a b ps k m
parted w a b ps k m e =
    let h = admitted w (length (joined_slots w a b)) ps k m e in
    let within : (slots : List Slot) → joined_slots w a b ≡ slots → inside (length slots) ps ≡ true = λ slots same. rw (← same) h.places in
    let j = true_from_ne_false (joins w a b) (λ no. none ps h.some (within [] (cond-false (joins w a b) (a.slots ++ b.slots) [] no))) in
    let slots = cond-true (joins w a b) (a.slots ++ b.slots) [] j in
    let widths = joins_widths w a b j in
    let places = within (a.slots ++ b.slots) slots in
    record {
      joins = j;
      slots = slots;
      widths = widths;
      places = places;
      keys = h.keys;
      bytes = h.bytes;
      first = record { some = h.some; few = h.few; within = inside_first (length a.slots) ps; keys = h.keys; bytes = rw widths.0 h.bytes };
      second = record { some = h.some; few = h.few; within = inside_second (length a.slots) (length b.slots) ps (rw length-append at places); keys = h.keys; bytes = rw widths.1 h.bytes };
    }
  where
    none : (ps : List ℕ) → 1 ≤ length ps → inside 0 ps ≡ true → ⊥
    none [] some h = omega arith
    none (p ∷ ps) some h = grind (arith, nat_tests)

pub keys_filled : {w m : ℕ} {a b : State} {ps : List ℕ} (ks : List ℕ) → Parted w a b ps (length ks) m →
    scattered Second (length a.slots) 1 ps (keys_at b.slots (places_in Second (length a.slots) ps)) (scattered First (length a.slots) 1 ps (keys_at a.slots (places_in First (length a.slots) ps)) ks)
    ≡ keys_at (joined_slots w a b) ps
keys_filled {w} {m} {a} {b} {ps} ks h =
    rw h.slots (simp (← flat_map_single) (both_scattered (λ s. s.key ∷ []) 1 (length a.slots) a.slots b.slots ps ks refl (h.keys ∙ sym (mul-one (length ps))) h.places (λ p h. refl)))

pub bytes_filled : {w k : ℕ} {a b : State} {ps : List ℕ} (bs : List ℕ) → Parted w a b ps k (length bs) → Wide a → Wide b →
    scattered Second (length a.slots) b.width ps (bytes_at b.slots (places_in Second (length a.slots) ps)) (scattered First (length a.slots) a.width ps (bytes_at a.slots (places_in First (length a.slots) ps)) bs)
    ≡ bytes_at (joined_slots w a b) ps
bytes_filled {w} {k} {a} {b} {ps} bs h wa wb =
    rw (h.slots, h.widths.0, h.widths.1) (both_scattered (λ s. s.bytes) w (length a.slots) a.slots b.slots ps bs refl h.bytes h.places
    (subst (λ (slots : List Slot). (p : ℕ) → p < length slots → length (slot_at slots p).bytes ≡ w) h.slots (wide_joined w a b 0 0 wa wb)))

-- ---- what both rounds leave

pub both_fetched : (w n : ℕ) (a b a' b' : State) (v t v' t' : ℕ) (ps : List ℕ) → a' ≡ ran a (fetch_of First n a ps) → b' ≡ ran b (fetch_of Second n b ps) →
    v' ≡ counted (length ps) v → t' ≡ trailed multiplied t (round false ps) →
    joined_state w a' b' v' t' ≡ ran (joined_state w a b v t) (fetch_round (joined_state w a b v t) ps)
both_fetched w n a b a' b' v t v' t' ps ea eb ev et =
    let same : joined_slots w a' b' ≡ joined_slots w a b =
    rw (ea, eb, fetching_wrote true a.slots a.slots (places_in First n ps), fetching_wrote true b.slots b.slots (places_in Second n ps)) refl in
    ap (λ slots. with_parts (joined_state w a b v t) slots v' t') same ∙ after_fetch (joined_state w a b v t) ps v' t' ev et

kept : (w : ℕ) (a b : State) (ra rb : List Request) → joins w a b ≡ true → joined_slots w (ran a ra) (ran b rb) ≡ wrote a.slots ra ++ wrote b.slots rb
kept w a b ra rb j = rw (wrote_length a.slots ra, wrote_length b.slots rb) (cond-true (joins w a b) (wrote a.slots ra ++ wrote b.slots rb) [] j)

-- a put of both parts, whether or not it would be accepted
pub both_parts_put : (w : ℕ) (a b a' b' : State) (v t v' t' : ℕ) (ps ks bs : List ℕ) → joins w a b ≡ true → length ks ≡ length ps → length bs ≡ length ps * w →
    a' ≡ ran a (put_of First (length a.slots) a ps ks bs) → b' ≡ ran b (put_of Second (length a.slots) b ps ks bs) →
    v' ≡ counted (length ps) v → t' ≡ trailed multiplied t (round true ps) →
    joined_state w a' b' v' t' ≡ ran (joined_state w a b v t) (put_round (joined_state w a b v t) ps ks bs)
both_parts_put w a b a' b' v t v' t' ps ks bs j lk lb ea eb ev et =
    let n = length a.slots in
    let widths = joins_widths w a b j in
    let slots = cond-true (joins w a b) (a.slots ++ b.slots) [] j in
    let whole = wrote_both true true true w n a.slots b.slots ps ks bs refl lk lb in
    let same : joined_slots w a' b' ≡ wrote (joined_slots w a b) (putting true w ps ks bs) =
    rw (ea, eb, slots, kept w a b (put_of First n a ps ks bs) (put_of Second n b ps ks bs) j, whole, widths.0, widths.1) refl in
    ap (λ slots. with_parts (joined_state w a b v t) slots v' t') same ∙ after_put (joined_state w a b v t) ps ks bs _ v' t' refl ev et

pub both_put : {w : ℕ} {a b : State} {ps : List ℕ} (a' b' : State) (v t v' t' : ℕ) (ks bs : List ℕ) → Parted w a b ps (length ks) (length bs) →
    a' ≡ ran a (put_of First (length a.slots) a ps ks bs) → b' ≡ ran b (put_of Second (length a.slots) b ps ks bs) →
    v' ≡ counted (length ps) v → t' ≡ trailed multiplied t (round true ps) →
    joined_state w a' b' v' t' ≡ ran (joined_state w a b v t) (put_round (joined_state w a b v t) ps ks bs)
both_put {w} {a} {b} {ps} a' b' v t v' t' ks bs h ea eb ev et = both_parts_put w a b a' b' v t v' t' ps ks bs h.joins h.keys h.bytes ea eb ev et

-- the joined store after any requests whose slots the parts have together
pub after_round : (w : ℕ) (a b a' b' : State) (v t v' t' : ℕ) (rs : List Request) →
    a'.width ≡ a.width → b'.width ≡ b.width → length a'.slots ≡ length a.slots → length b'.slots ≡ length b.slots →
    joins w a b ≡ true → a'.slots ++ b'.slots ≡ wrote (a.slots ++ b.slots) rs →
    v' ≡ counted (length rs) v → t' ≡ trailed multiplied t (entries rs) →
    joined_state w a' b' v' t' ≡ ran (joined_state w a b v t) rs
after_round w a b a' b' v t v' t' rs wa wb la lb j slots served trail = rw (wa, wb, la, lb, j, slots, served, trail) refl

-- each place lies in just one part
pub places_sum : (n : ℕ) (ps : List ℕ) → length (places_in First n ps) + length (places_in Second n ps) ≡ length ps
places_sum n [] = refl
places_sum n (p ∷ ps) = grind (arith, places_sum n ps)

pub span_both : (w n : ℕ) (ps : List ℕ) → length ps * w ≡ length (places_in First n ps) * w + length (places_in Second n ps) * w
span_both w n ps = ap (λ k. k * w) (sym (places_sum n ps)) ∙ add-mul (length (places_in First n ps)) (length (places_in Second n ps)) w
