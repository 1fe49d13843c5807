-- What is asked of a store, one place at a time, and what becomes of the store. An entry is what the host sees of a request:
-- whether it begins a round, whether it writes, and the place. A request is an entry with the slot that is given or taken.
use Rattle.std.specs.Prelude.{ℕ, zero, suc, ◌+◌, ◌*◌, ◌%◌, ◌^◌, Bool, cond, List, [], ◌∷◌, ◌++◌, map, length, slice_set}
use Rattle.std.specs.Fmt.{decimal}
use Rattle.store.specs.declared.entry.Entry.{Entry}
use Rattle.store.specs.State.{Slot, State}

abbrev pub entry_of : Bool → Bool → ℕ → Entry
entry_of b w p = record { begins = b; write = w; place = p }

-- the number by which the trail learns of an entry
abbrev pub mark : Entry → ℕ
mark e = 4 * e.place + 2 * cond e.begins 1 0 + cond e.write 1 0

-- how an entry is printed
abbrev pub entry_text : Entry → List ℕ
entry_text e = decimal (cond e.begins 1 0) ++ (44 ∷ (decimal (cond e.write 1 0) ++ (44 ∷ decimal e.place)))

pub record Request : Type 0 where
  pub entry : Entry
  pub slot : Slot

-- the slots after these requests: a write leaves its slot at its place
abbrev pub wrote : List Slot → List Request → List Slot
wrote slots [] = slots
wrote slots (r ∷ rs) = wrote (cond r.entry.write (slice_set slots r.entry.place r.slot) slots) rs

-- the count after n more places
abbrev pub counted : ℕ → ℕ → ℕ
counted zero c = c
counted (suc n) c = counted n ((c + 1) % 2 ^ 64)

-- the trail after these entries
abbrev pub trailed : (ℕ → ℕ → ℕ) → ℕ → List Entry → ℕ
trailed rule r [] = r
trailed rule r (e ∷ es) = trailed rule (rule r (mark e)) es

-- the entries of requests
abbrev pub entries : List Request → List Entry
entries = map (λ r. r.entry)

-- the store after these requests: its slots, count and trail run through exactly them, by its own rule
abbrev pub ran : State → List Request → State
ran s rs = record {
  width = s.width;
  slots = wrote s.slots rs;
  served = counted (length rs) s.served;
  trail = trailed s.rule s.trail (entries rs);
  rule = s.rule;
}
