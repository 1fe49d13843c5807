-- One level at an access: the index that is asked was not asked before, and exactly that one becomes touched.
use Rattle.std.proofs.Common.{◌≡◌, ℕ, suc, ◌+◌, ◌<◌, ◌≤◌, Bool, true, false, cond, ◌||◌, eqb, ltb, List, [], ◌∷◌, ◌++◌, length, get_or, Some, None, sym, refl, ap, ◌∙◌, ap₂, ⊎_elim, arith}
use Rattle.std.proofs.lemmas.List.{length_push}
use Rattle.std.proofs.lemmas.Bool.{cases_Bool, cases_lt, cases_eq, eqb-true, eq-eqb, ne_eqb, lt-ltb, le-ltb, cond-true, cond-false, or_right, or_from}
use Rattle.shape.specs.Numbers.{level_slots}
use Rattle.shape.proofs.TopLevel.{slots_double}
use Rattle.index.specs.Lists.{has, smaller}
use Rattle.permutations.specs.Lists.{among}
use Rattle.permutations.specs.Scripts.{Act, asked_of}
use Rattle.permutations.proofs.Members.{eqb_same}
use Rattle.rules.specs.World.{Level, size}
use Rattle.rules.specs.Rebuilding.{listed}
use Rattle.laws.proofs.Booleans.{or_false, or_comm}
use Rattle.laws.proofs.Scripts.{Mark}
use Rattle.laws.proofs.Invariant.{is_touched, Used}
use Rattle.laws.proofs.Ranks.{stands_has, rank_place, rising_apart}

pub among_push : (xs : List ℕ) (i j : ℕ) → among (xs ++ (i ∷ [])) j ≡ (among xs j || eqb i j)
among_push [] i j = or_false (eqb i j)
among_push (x ∷ xs) i j = ap (λ b. eqb x j || b) (among_push xs i j) ∙ by (eqb x j)
  where
    by : (b : Bool) → (b || (among xs j || eqb i j)) ≡ ((b || among xs j) || eqb i j)
    by true = refl
    by false = refl

-- below a number or equal to it
ltb_more : (j c : ℕ) → (ltb j c || eqb c j) ≡ ltb j (c + 1)
ltb_more j c = ⊎_elim low (λ h. ⊎_elim same (high h) (cases_eq c j)) (cases_lt j c)
  where
    low : j < c → (ltb j c || eqb c j) ≡ ltb j (c + 1)
    low h = ap (λ b. b || eqb c j) (lt-ltb j c h) ∙ sym (lt-ltb j (c + 1) (omega arith))

    same : c ≡ j → (ltb j c || eqb c j) ≡ ltb j (c + 1)
    same e = or_right (ltb j c) (eqb c j) (eq-eqb c j e) ∙ sym (lt-ltb j (c + 1) (omega arith))

    high : c ≤ j → (c ≡ j → ⊥) → (ltb j c || eqb c j) ≡ ltb j (c + 1)
    high h d = or_from (ltb j c) (eqb c j) (le-ltb j c h) (ne_eqb c j d) ∙ sym (le-ltb j (c + 1) (omega (arith, d)))

abbrev pub counted_level : Level → Level
counted_level v = record { occupied = v.occupied; members = v.members; counter = v.counter + 1; build = v.build }

module _ (L r l a : ℕ) (s : List (Act Mark)) (lower : List Level) (v : Level) (u : Used L r l None s lower v) where
  -- the level at which the block is found
  pub rank_new : listed lower a ≡ false → has v.members a ≡ true → (smaller v.members a < level_slots l) × (among (asked_of v.build s) (smaller v.members a) ≡ false)
  rank_new unlisted member =
      let i = smaller v.members a in
      let place = rank_place v.members a u.rising member in
      let below : i < level_slots l = omega (arith, slots_double l, place.0, u.few) in (
        below,
        u.asked_touched i below
            ∙ cond-true (ltb i (size v)) (listed lower (get_or v.members i 0)) (ltb i v.counter) (lt-ltb i (size v) place.0)
            ∙ ap (listed lower) place.1 ∙ unlisted,
      )

  -- any other level
  pub counter_new : v.counter < level_slots l → among (asked_of v.build s) v.counter ≡ false
  counter_new below =
      let c = v.counter in
      u.asked_touched c below
      ∙ cond-false (ltb c (size v)) (listed lower (get_or v.members c 0)) (ltb c c) (le-ltb c (size v) u.counter_low)
      ∙ le-ltb c c (omega arith)

  module _ (s' : List (Act Mark)) (lower' : List Level) (same : (x : ℕ) → listed lower' x ≡ listed lower x) where
    pub found_used : listed lower a ≡ false → has v.members a ≡ true →
        asked_of v.build s' ≡ asked_of v.build s ++ (smaller v.members a ∷ []) → Used L (suc r) l (Some a) s' lower' v
    found_used unlisted member asks = record {
      occupied = u.occupied;
      rising = u.rising;
      addresses = u.addresses;
      few = u.few;
      counter_low = u.counter_low;
      counter_high = omega (arith, u.counter_high);
      asked_count = omega (arith, ap length asks, length_push (asked_of v.build s) (smaller v.members a), u.asked_count);
      asked_touched = λ j m. ap (λ xs. among xs j) asks ∙ among_push (asked_of v.build s) i j ∙ ap (λ b. b || eqb i j) (u.asked_touched j m) ∙ now j;
    }
      where
        i : ℕ
        i = smaller v.members a

        now : (j : ℕ) → (is_touched None lower v j || eqb (smaller v.members a) j) ≡ is_touched (Some a) lower' v j
        now j = ⊎_elim low high (cases_lt j (size v))
          where
            low : j < size v → (is_touched None lower v j || eqb (smaller v.members a) j) ≡ is_touched (Some a) lower' v j
            low h =
                let place = rank_place v.members a u.rising member in
                let k = smaller v.members a in
                let y = get_or v.members j 0 in
                let meets : eqb k j ≡ eqb y a =
                eqb_same k j y a (λ e. ap (λ n. get_or v.members n 0) (sym e) ∙ place.1)
                (λ e. rising_apart v.members u.rising k j place.0 h (place.1 ∙ sym e)) in
                ap (λ b. cond b (listed lower y) (ltb j v.counter) || eqb k j) (lt-ltb j (size v) h)
                ∙ ap₂ (λ (b c : Bool). b || c) (sym (same y)) meets
                ∙ or_comm (listed lower' y) (eqb y a)
                ∙ sym (cond-true (ltb j (size v)) (eqb y a || listed lower' y) (ltb j v.counter) (lt-ltb j (size v) h))

            high : size v ≤ j → (is_touched None lower v j || eqb (smaller v.members a) j) ≡ is_touched (Some a) lower' v j
            high h =
                let place = rank_place v.members a u.rising member in
                let k = smaller v.members a in
                let y = get_or v.members j 0 in
                ap₂ (λ (b c : Bool). cond b (listed lower y) (ltb j v.counter) || c) (le-ltb j (size v) h) (ne_eqb k j (λ e. omega (arith, place.0)))
                ∙ or_false (ltb j v.counter)
                ∙ sym (cond-false (ltb j (size v)) (eqb y a || listed lower' y) (ltb j v.counter) (le-ltb j (size v) h))

    pub elsewhere_used : (has v.members a ≡ true → listed lower a ≡ true) →
        asked_of v.build s' ≡ asked_of v.build s ++ (v.counter ∷ []) → Used L (suc r) l (Some a) s' lower' (counted_level v)
    elsewhere_used lower-has asks = record {
      occupied = u.occupied;
      rising = u.rising;
      addresses = u.addresses;
      few = u.few;
      counter_low = omega (arith, u.counter_low);
      counter_high = omega (arith, u.counter_high);
      asked_count = omega (arith, ap length asks, length_push (asked_of v.build s) v.counter, u.asked_count);
      asked_touched = λ j m.
          ap (λ xs. among xs j) asks ∙ among_push (asked_of v.build s) v.counter j ∙ ap (λ b. b || eqb v.counter j) (u.asked_touched j m) ∙ now j;
    }
      where
        now : (j : ℕ) → (is_touched None lower v j || eqb v.counter j) ≡ is_touched (Some a) lower' (counted_level v) j
        now j = ⊎_elim low high (cases_lt j (size v))
          where
            already : (y : ℕ) → y ≡ get_or v.members j 0 → j < size v → listed lower y ≡ (eqb y a || listed lower' y)
            already y e h = ⊎_elim
                (λ t. let y≡a : y ≡ a = eqb-true y a t in
                let member : has v.members a ≡ true = ap (has v.members) (sym y≡a ∙ e) ∙ stands_has v.members j h in
                ap (listed lower) y≡a ∙ lower-has member ∙ sym (ap (λ b. b || listed lower' y) t))
                (λ f. sym (same y) ∙ sym (ap (λ b. b || listed lower' y) f))
                (cases_Bool (eqb y a))

            low : j < size v → (is_touched None lower v j || eqb v.counter j) ≡ is_touched (Some a) lower' (counted_level v) j
            low h =
                let y = get_or v.members j 0 in
                ap₂ (λ (b c : Bool). cond b (listed lower y) (ltb j v.counter) || c) (lt-ltb j (size v) h) (ne_eqb v.counter j (λ e. omega (arith, u.counter_low)))
                ∙ or_false (listed lower y)
                ∙ already y refl h
                ∙ sym (cond-true (ltb j (size v)) (eqb y a || listed lower' y) (ltb j (v.counter + 1)) (lt-ltb j (size v) h))

            high : size v ≤ j → (is_touched None lower v j || eqb v.counter j) ≡ is_touched (Some a) lower' (counted_level v) j
            high h =
                let y = get_or v.members j 0 in
                ap (λ b. cond b (listed lower y) (ltb j v.counter) || eqb v.counter j) (le-ltb j (size v) h)
                ∙ ltb_more j v.counter
                ∙ sym (cond-false (ltb j (size v)) (eqb y a || listed lower' y) (ltb j (v.counter + 1)) (le-ltb j (size v) h))
