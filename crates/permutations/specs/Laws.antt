-- The laws: two scripts that look alike have choices that correspond, partners showing the host the same.
use Rattle.std.specs.Prelude.{◌≡◌, ℕ, ◌<◌, List, [], ◌∷◌, map, length}
use Rattle.std.specs.List.{range_with_len, AllByRecursion}
use Rattle.permutations.specs.Tables.{IsPermutation, position}
use Rattle.permutations.specs.Lists.{among, AreIndexes}
use Rattle.permutations.specs.Choices.{IsChoice, OneToOne, slot_in}
use Rattle.permutations.specs.Partners.{carried, moved}
use Rattle.permutations.specs.Scripts.{Act, ask, close, mark, asked, closed, marked, view, outline, Sound, partner}

-- a list of indexes is taken to any other of its length by a permutation, that way and back, which keeps what is below n there
abbrev pub ListsExtend : Type 0
ListsExtend =
    (n : ℕ) (is js : List ℕ) → AreIndexes n is → AreIndexes n js → length is ≡ length js →
    (map (carried is js) is ≡ js) × ((x : ℕ) → carried js is (carried is js x) ≡ x) × ((x : ℕ) → x < n → carried is js x < n)

-- tables correspond one to one, so that the slots of `is` in a table are those of `js` in its partner
abbrev pub TablesCorrespond : Type 0
TablesCorrespond =
    (n : ℕ) (is js : List ℕ) → AreIndexes n is → AreIndexes n js → length is ≡ length js →
    OneToOne (IsPermutation n) (IsPermutation n) (moved n js is) (moved n is js)
    × ((p : List ℕ) → map (slot_in p) is ≡ map (slot_in (moved n js is p)) js)

-- sound scripts of one outline: choices correspond one to one, and the host sees of s under a choice what it sees of t under its partner
abbrev pub ScriptsCorrespond : Type 0
ScriptsCorrespond =
    (ns : List ℕ) (s t : List (Act ℕ)) → Sound ns s → Sound ns t → outline s ≡ outline t →
    OneToOne (IsChoice ns) (IsChoice ns) (partner ns s t) (partner ns t s)
    × ((ts : List (List ℕ)) → view ns ts s ≡ view ns (partner ns s t ts) t)

-- there is something to correspond: under any sizes the straight tables, slot equal to index, are a choice
abbrev pub ChoicesExist : Type 0
ChoicesExist = (ns : List ℕ) → IsChoice ns (map (range_with_len 0) ns)

-- a slot is one of those asked for exactly when its index is one of those asked
abbrev pub SlotsAskedByIndex : Type 0
SlotsAskedByIndex =
    (n : ℕ) (p : List ℕ) → IsPermutation n p → (is : List ℕ) → AllByRecursion (λ i. i < n) is → (s : ℕ) →
    among (map (slot_in p) is) s ≡ among is (position p s)

-- ---- an example: two slots of a build of four asked for, and one of a build of two; then the others of the first build read

abbrev pub PartnersByExample : Type 0
PartnersByExample =
    let ns : List ℕ = 4 ∷ 2 ∷ [] in
    let ts : List (List ℕ) = (2 ∷ 0 ∷ 3 ∷ 1 ∷ []) ∷ (1 ∷ 0 ∷ []) ∷ [] in
    let s : List (Act ℕ) = ask 0 1 ∷ mark 7 ∷ ask 1 0 ∷ ask 0 2 ∷ close 0 ∷ [] in
    let t : List (Act ℕ) = ask 0 3 ∷ mark 7 ∷ ask 1 1 ∷ ask 0 1 ∷ close 0 ∷ [] in
    (view ns ts s ≡ asked 0 0 ∷ marked 7 ∷ asked 1 1 ∷ asked 0 3 ∷ closed 0 (1 ∷ 2 ∷ []) ∷ [])
    × (partner ns s t ts ≡ (2 ∷ 3 ∷ 1 ∷ 0 ∷ []) ∷ (0 ∷ 1 ∷ []) ∷ [])
    × (view ns (partner ns s t ts) t ≡ view ns ts s)

-- ---- the correspondence says something: where a script tells more, no choice hides it

-- views show outlines: scripts of different outlines look different, whatever the tables
abbrev pub OutlinesShow : Type 0
OutlinesShow =
    (ns : List ℕ) (ts us : List (List ℕ)) (s t : List (Act ℕ)) → view ns ts s ≡ view ns us t → outline s ≡ outline t

-- two indexes of one build, against one index of each of two builds
abbrev pub BuildsShow : Type 0
BuildsShow =
    (ns : List ℕ) (ts us : List (List ℕ)) →
    view {M = ℕ} ns ts (ask 0 0 ∷ ask 0 1 ∷ []) ≡ view ns us (ask 0 0 ∷ ask 1 0 ∷ []) → ⊥

-- one index asked twice, against two indexes: the outlines are equal, but the first script is not sound, and no choice shows both alike
abbrev pub RepeatsShow : Type 0
RepeatsShow =
    (outline {M = ℕ} (ask 0 0 ∷ ask 0 0 ∷ []) ≡ outline (ask 0 0 ∷ ask 0 1 ∷ []))
    × ((ns : List ℕ) → Sound {M = ℕ} ns (ask 0 0 ∷ ask 0 0 ∷ []) → ⊥)
    × ((ns : List ℕ) (ts us : List (List ℕ)) → IsChoice (2 ∷ ns) us →
    view {M = ℕ} (2 ∷ ns) ts (ask 0 0 ∷ ask 0 0 ∷ []) ≡ view (2 ∷ ns) us (ask 0 0 ∷ ask 0 1 ∷ []) → ⊥)
