-- Runs with straight permutations, and what is read off them.
use Rattle.std.specs.Prelude.{ℕ, List, [], ◌∷◌, map, length, replicate}
use Rattle.std.specs.List.{range_with_len}
use Rattle.shape.specs.Numbers.{level_slots, level_of_build, places_needed}
use Rattle.rules.specs.World.{World}
use Rattle.rules.specs.Calls.{Call, access, rebuild, Answer, accepted, declined}
use Rattle.rules.specs.Opening.{opening}
use Rattle.rules.specs.Slots.{block_slot}

-- tables in which slot equals index, for K builds
abbrev pub straight_tables : ℕ → ℕ → List (List ℕ)
straight_tables L K = map (λ b. range_with_len 0 (level_slots (level_of_build L b))) (range_with_len 0 K)

-- a fresh client over an empty store, index and supply that suit it
abbrev pub fresh : ℕ → ℕ → World
fresh L W = opening L W (record {
  store_width = W;
  store_slots = replicate (places_needed L) (block_slot 0 (replicate W 0));
  index_lists = replicate L [];
  supply_top = L;
})

-- how many entries an answer has, its places, and its bytes
abbrev pub entry_count : Answer → ℕ
entry_count (accepted bytes es) = length es
entry_count (declined r) = 0

abbrev pub places : Answer → List ℕ
places (accepted bytes es) = map (λ e. e.place) es
places (declined r) = []

abbrev pub bytes_of : Answer → List ℕ
bytes_of (accepted bytes es) = bytes
bytes_of (declined r) = []

-- the k-th access as a read or a write, and the k-th rebuild, with room for a hundred entries
abbrev pub read : ℕ → ℕ → Call
read k a = access k 0 a (0 ∷ []) 100

abbrev pub write : ℕ → ℕ → ℕ → Call
write k a byte = access k 1 a (byte ∷ []) 100

abbrev pub rebuild_now : ℕ → Call
rebuild_now k = rebuild k 100

-- every second answer, after the first: of a load, then access and rebuild in turn, the accesses
abbrev pub accesses : List Answer → List Answer
accesses [] = []
accesses (x ∷ []) = []
accesses (x ∷ (y ∷ ys)) = y ∷ accesses ys
