-- What a client knows, and the world that it works in. Nothing here depends on a permutation but the slots of the store.
use Rattle.std.specs.Prelude.{ℕ, Bool, false, List, [], length, Option}
use Rattle.shape.specs.declared.refusal.Refusal.{Refusal}
use Rattle.store.specs.State.{Slot}

-- a level: its list of addresses, rising; at level L of an occupied level that is all of them. Its size is the length of the list.
pub record Level : Type 0 where
  pub occupied : Bool
  pub members : List ℕ
  pub counter : ℕ
  pub build : ℕ

abbrev pub size : Level → ℕ
size v = length v.members

-- a level that holds nothing
abbrev pub vacant : Level
vacant = record { occupied = false; members = []; counter = 0; build = 0 }

-- the refusal at opening, L, W, the turn number, the accesses so far, the address that is held while a rebuild is due, and levels 0 to L
pub record Client : Type 0 where
  pub refusal : Option Refusal
  pub top : ℕ
  pub width : ℕ
  pub number : ℕ
  pub accesses : ℕ
  pub held : Option ℕ
  pub levels : List Level

-- a client, the bytes of the block that it holds (none where it holds none), and the slots of its store
pub record World : Type 0 where
  pub client : Client
  pub held_bytes : List ℕ
  pub slots : List Slot
