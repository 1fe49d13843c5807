-- What always holds of a client that was opened without a refusal and loaded, after a script of asks and closings.
-- r is the number of rebuilds done. h is the address held, if a rebuild is due.
use Rattle.std.proofs.Common.{◌≡◌, ℕ, zero, suc, ◌+◌, ◌*◌, ◌/◌, ◌%◌, ◌^◌, ◌<◌, ◌≤◌, Bool, true, cond, ◌||◌, eqb, ltb, List, [], ◌∷◌, ◌++◌, length, get_or, Some, None, Option}
use Rattle.std.specs.List.{range_with_len}
use Rattle.shape.specs.Numbers.{blocks, level_slots}
use Rattle.index.specs.Lists.{Rising}
use Rattle.permutations.specs.Lists.{among}
use Rattle.permutations.specs.Scripts.{Act, asked_of, Sound}
use Rattle.rules.specs.World.{Level, Client, size, vacant}
use Rattle.rules.specs.Rebuilding.{listed}
use Rattle.laws.specs.Runs.{build_sizes}
use Rattle.laws.proofs.Scripts.{Mark}

-- how many accesses were made: one more than rebuilds, where one is due
abbrev pub accesses_made : ℕ → Option ℕ → ℕ
accesses_made r (Some a) = suc r
accesses_made r None = r

-- an address is held or in a lower list
abbrev pub out : Option ℕ → List Level → ℕ → Bool
out (Some a) lower x = eqb x a || listed lower x
out None lower x = listed lower x

-- an index of a level is touched
abbrev pub is_touched : Option ℕ → List Level → Level → ℕ → Bool
is_touched h lower v j = cond (ltb j (size v)) (out h lower (get_or v.members j 0)) (ltb j v.counter)

-- what holds of an occupied level l that has these levels below it, where t accesses were made: its counter begins at its size and rises by
-- at most one with each access since its build; as many indexes of its build were asked as accesses were made since; and exactly the touched ones
pub record Used (L t l : ℕ) (h : Option ℕ) (s : List (Act Mark)) (lower : List Level) (v : Level) : Type 0 where
  pub occupied : v.occupied ≡ true
  pub rising : Rising v.members
  pub addresses : (j : ℕ) → j < size v → get_or v.members j 0 < blocks L
  pub few : size v ≤ 2 ^ l
  pub counter_low : size v ≤ v.counter
  pub counter_high : v.counter + v.build ≤ size v + t
  pub asked_count : length (asked_of v.build s) + v.build ≡ t
  pub asked_touched : (j : ℕ) → j < level_slots l → among (asked_of v.build s) j ≡ is_touched h lower v j

-- levels from l up, `more` of them below L, where q = r / 2^l: level l is occupied exactly if q is odd, and was then built by build q * 2^l;
-- L is always occupied, and lists all addresses
abbrev pub Fits : ℕ → ℕ → Option ℕ → List (Act Mark) → ℕ → ℕ → ℕ → List Level → List Level → Type 0
Fits L t h s zero l q lower [] = ⊥
Fits L t h s zero l q lower (v ∷ vs) =
    Used L t l h s lower v × (v.build ≡ q * 2 ^ l) × (v.members ≡ range_with_len 0 (blocks L)) × (vs ≡ [])
Fits L t h s (suc more) l q lower [] = ⊥
Fits L t h s (suc more) l q lower (v ∷ vs) =
    cond (eqb (q % 2) 1) (Used L t l h s lower v × (v.build ≡ q * 2 ^ l)) (v ≡ vacant)
    × Fits L t h s more (suc l) (q / 2) (lower ++ (v ∷ [])) vs

-- a client at rest (h is none) or with a rebuild due
pub record Ready (L K r : ℕ) (h : Option ℕ) (s : List (Act Mark)) (k : Client) : Type 0 where
  pub unrefused : k.refusal ≡ None
  pub top : k.top ≡ L
  pub number : k.number ≡ r + accesses_made r h + 1
  pub accesses : k.accesses ≡ accesses_made r h
  pub held : k.held ≡ h
  pub held_address : (a : ℕ) → h ≡ Some a → a < blocks L
  pub builds_left : accesses_made r h < K
  pub levels : Fits L (accesses_made r h) h s L 0 r [] k.levels
  pub sound : Sound (build_sizes L K) s
  pub later_unasked : (b : ℕ) → r < b → asked_of b s ≡ []
