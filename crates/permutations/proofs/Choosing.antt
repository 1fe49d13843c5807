-- Choices that correspond: each table moved, build by build.
use Rattle.std.proofs.Common.{◌≡◌, ℕ, ◌<◌, ◌≤◌, List, [], map, length, sym, ap, ◌∙◌, subst, ⊎_elim, arith}
use lib.ListN.{length-map}
use Rattle.std.specs.List.{range_with_len}
use Rattle.std.proofs.lemmas.List.FromFn.{get_or-map-range_with_len, length-map-range_with_len, length-range_with_len, get_or-range_with_len}
use Rattle.std.proofs.lemmas.List.{ext_get_or, get_or_past, get_or-map}
use Rattle.std.proofs.lemmas.Bool.{cases_lt}
use Rattle.permutations.specs.Tables.{IsPermutation}
use Rattle.permutations.specs.Choices.{IsChoice, OneToOne, size_of, table_of, slot_in, slot_of}
use Rattle.permutations.specs.Partners.{moved}
use Rattle.permutations.specs.Scripts.{Act, asked_of, view, outline, Sound, partner}
use Rattle.permutations.specs.Laws.{ChoicesExist}
use Rattle.permutations.proofs.Carrying.{slots_moved, moved_permutation, moved_undone}
use Rattle.permutations.proofs.Asking.{asked_indexes, asked_alike}
use Rattle.permutations.proofs.Views.{views_same}

module _ {M : Type 0} (ns : List ℕ) (s t : List (Act M)) where
  partner_length : (ts : List (List ℕ)) → length (partner ns s t ts) ≡ length ns
  partner_length ts = length-map-range_with_len (λ b. moved (size_of ns b) (asked_of b t) (asked_of b s) (table_of ts b)) 0 (length ns)

  -- beyond the sizes both sides are empty
  partner_table : (ts : List (List ℕ)) (b : ℕ) → table_of (partner ns s t ts) b ≡ moved (size_of ns b) (asked_of b t) (asked_of b s) (table_of ts b)
  partner_table ts b = ⊎_elim within beyond (cases_lt b (length ns))
    where
      within : b < length ns → table_of (partner ns s t ts) b ≡ moved (size_of ns b) (asked_of b t) (asked_of b s) (table_of ts b)
      within h = get_or-map-range_with_len (λ c. moved (size_of ns c) (asked_of c t) (asked_of c s) (table_of ts c)) 0 (length ns) b b [] h (omega arith)

      beyond : length ns ≤ b → table_of (partner ns s t ts) b ≡ moved (size_of ns b) (asked_of b t) (asked_of b s) (table_of ts b)
      beyond h =
          get_or_past (partner ns s t ts) b [] (omega (arith, partner_length ts))
          ∙ sym (ap (λ n. moved n (asked_of b t) (asked_of b s) (table_of ts b)) (get_or_past ns b 0 h))

module _ {M : Type 0} (ns : List ℕ) (s t : List (Act M)) (ok : Sound ns s) (ok' : Sound ns t) where
  pub partner_choice : (ts : List (List ℕ)) → IsChoice ns ts → IsChoice ns (partner ns s t ts)
  partner_choice ts h = record {
    counted = partner_length ns s t ts;
    tables = λ b l.
        subst (IsPermutation (size_of ns b)) (sym (partner_table ns s t ts b))
        (moved_permutation (size_of ns b) (asked_of b s) (asked_of b t) (asked_indexes ns s ok b) (asked_indexes ns t ok' b) (table_of ts b) (h.tables b l));
  }

  pub partner_undone : (ts : List (List ℕ)) → IsChoice ns ts → partner ns t s (partner ns s t ts) ≡ ts
  partner_undone ts h = ext_get_or [] (partner ns t s (partner ns s t ts)) ts (partner_length ns t s (partner ns s t ts) ∙ sym h.counted) same
    where
      same : (b : ℕ) → b < length (partner ns t s (partner ns s t ts)) → table_of (partner ns t s (partner ns s t ts)) b ≡ table_of ts b
      same b l =
          let m : b < length ns = omega (arith, partner_length ns t s (partner ns s t ts)) in
          partner_table ns t s (partner ns s t ts) b
          ∙ ap (moved (size_of ns b) (asked_of b s) (asked_of b t)) (partner_table ns s t ts b)
          ∙ moved_undone (size_of ns b) (asked_of b s) (asked_of b t) (asked_indexes ns s ok b) (asked_indexes ns t ok' b) (table_of ts b) (h.tables b m).sized

-- the theorem, for marks of any type
pub scripts_correspond : {M : Type 0} (ns : List ℕ) (s t : List (Act M)) → Sound ns s → Sound ns t → outline s ≡ outline t →
    OneToOne (IsChoice ns) (IsChoice ns) (partner ns s t) (partner ns t s)
    × ((ts : List (List ℕ)) → view ns ts s ≡ view ns (partner ns s t ts) t)
scripts_correspond ns s t ok ok' e = (
  record {
    there = partner_choice ns s t ok ok';
    back = partner_choice ns t s ok' ok;
    there_and_back = partner_undone ns s t ok ok';
    back_and_there = partner_undone ns t s ok' ok;
  },
  λ ts. views_same ns ts (partner ns s t ts) s t (slots ts) e,
)
  where
    slots : (ts : List (List ℕ)) (b : ℕ) → map (slot_of ts b) (asked_of b s) ≡ map (slot_of (partner ns s t ts) b) (asked_of b t)
    slots ts b =
        slots_moved (size_of ns b) (asked_of b s) (asked_of b t) (asked_indexes ns s ok b) (asked_indexes ns t ok' b) (asked_alike b s t e) (table_of ts b)
        ∙ ap (λ p. map (slot_in p) (asked_of b t)) (sym (partner_table ns s t ts b))

-- ---- the straight choice

straight_permutation : (n : ℕ) → IsPermutation n (range_with_len 0 n)
straight_permutation n = record {
  sized = length-range_with_len 0 n;
  below = λ i l. subst (λ x. x < n) (sym (at i l)) l;
  apart = λ i j l m e. sym (at i l) ∙ e ∙ at j m;
}
  where
    at : (i : ℕ) → i < n → slot_in (range_with_len 0 n) i ≡ i
    at i l = get_or-range_with_len 0 n i 0 l ∙ omega arith

pub straight_choice : ChoicesExist
straight_choice ns = record {
  counted = length-map ns (range_with_len 0);
  tables = λ b l. subst (IsPermutation (size_of ns b)) (sym (get_or-map (range_with_len 0) ns b 0 [] l)) (straight_permutation (size_of ns b));
}
