-- Scripts: what a run does to the host, told by index and without the permutations; and views: what the host sees of it.
-- M is the type of whatever else the host sees.
use Rattle.std.specs.Prelude.{◌≡◌, ℕ, ◌<◌, false, cond, not, List, [], ◌∷◌, ◌++◌, map, length, filter, ◌==◌}
use Rattle.std.specs.List.{range_with_len, flat_map}
use Rattle.permutations.specs.Lists.{among}
use Rattle.permutations.specs.Choices.{size_of, slot_of, table_of}
use Rattle.permutations.specs.Partners.{moved}

-- the slot of an index of a build is asked for; the slots of a build that were not asked for are all read; something public happens
pub data Act (M : Type 0) : Type 0 where
  ask : ℕ → ℕ → Act M
  close : ℕ → Act M
  mark : M → Act M

-- what the host sees of an act: builds and slots, and never an index
pub data Seen (M : Type 0) : Type 0 where
  asked : ℕ → ℕ → Seen M
  closed : ℕ → List ℕ → Seen M
  marked : M → Seen M

-- the index that an act asks of build b, if it does
abbrev pub asks_of : {M : Type 0} → ℕ → Act M → List ℕ
asks_of b (ask c i) = cond (c == b) (i ∷ []) []
asks_of b (close c) = []
asks_of b (mark m) = []

-- the indexes that a script asks of build b, in their order
abbrev pub asked_of : {M : Type 0} → ℕ → List (Act M) → List ℕ
asked_of b = flat_map (asks_of b)

-- ---- what the host sees

-- the slots of build b that were not asked for in the past, rising
abbrev pub unasked : {M : Type 0} → List ℕ → List (List ℕ) → List (Act M) → ℕ → List ℕ
unasked ns ts past b = filter (λ s. not (among (map (slot_of ts b) (asked_of b past)) s)) (range_with_len 0 (size_of ns b))

-- what the host sees of one act, after this past
abbrev pub shown : {M : Type 0} → List ℕ → List (List ℕ) → List (Act M) → Act M → Seen M
shown ns ts past (ask b i) = asked b (slot_of ts b i)
shown ns ts past (close b) = closed b (unasked ns ts past b)
shown ns ts past (mark m) = marked m

abbrev pub view_after : {M : Type 0} → List ℕ → List (List ℕ) → List (Act M) → List (Act M) → List (Seen M)
view_after ns ts past [] = []
view_after ns ts past (a ∷ s) = shown ns ts past a ∷ view_after ns ts (past ++ (a ∷ [])) s

-- what the host sees of a script, under these sizes and tables
abbrev pub view : {M : Type 0} → List ℕ → List (List ℕ) → List (Act M) → List (Seen M)
view ns ts = view_after ns ts []

-- ---- what is public of a script

-- an act with its index blanked
abbrev pub blanked : {M : Type 0} → Act M → Act M
blanked (ask b i) = ask b 0
blanked (close b) = close b
blanked (mark m) = mark m

abbrev pub outline : {M : Type 0} → List (Act M) → List (Act M)
outline = map blanked

-- ---- scripts that ask for no index twice

-- an ask is of a build that there is, of an index within its size, and of one that the past has not asked of it
abbrev pub Allowed : {M : Type 0} → List ℕ → List (Act M) → Act M → Type 0
Allowed ns past (ask b i) = (b < length ns) × (i < size_of ns b) × (among (asked_of b past) i ≡ false)
Allowed ns past (close b) = Unit {0}
Allowed ns past (mark m) = Unit {0}

abbrev pub SoundAfter : {M : Type 0} → List ℕ → List (Act M) → List (Act M) → Type 0
SoundAfter ns past [] = Unit {0}
SoundAfter ns past (a ∷ s) = Allowed ns past a × SoundAfter ns (past ++ (a ∷ [])) s

-- every ask is allowed when its turn comes
abbrev pub Sound : {M : Type 0} → List ℕ → List (Act M) → Type 0
Sound ns = SoundAfter ns []

-- ---- partners

-- the choice that shows t as `ts` shows s: each table moved from the indexes that t asks to those that s asks
abbrev pub partner : {M : Type 0} → List ℕ → List (Act M) → List (Act M) → List (List ℕ) → List (List ℕ)
partner ns s t ts = map (λ b. moved (size_of ns b) (asked_of b t) (asked_of b s) (table_of ts b)) (range_with_len 0 (length ns))
