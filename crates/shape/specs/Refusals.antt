-- The refusals: the number of each, and what it means.
use Rattle.std.specs.Prelude.{ℕ, List, ◌++◌, codes}
use Rattle.std.specs.Fmt.{decimal}
use Rattle.shape.specs.declared.refusal.Refusal.{Refusal}
use Rattle.shape.specs.declared.refusal.Refusal.TheVariants.{OutOfRange, StoreUnfit, IndexOrSupplyUnfit, UnknownOperation, UnknownAddress, WrongByteLength, TraceTooShort, WrongTable, WrongRound, PlaceBeyondStore, WrongListChange, BeyondSupply, UnreadableLine, WrongTurn, BuildsUsedUp, NotOpened, UnfitLetter}

abbrev pub number_of : Refusal → ℕ
number_of OutOfRange = 1
number_of StoreUnfit = 2
number_of IndexOrSupplyUnfit = 3
number_of UnknownOperation = 4
number_of UnknownAddress = 5
number_of WrongByteLength = 6
number_of TraceTooShort = 7
number_of WrongTable = 8
number_of WrongRound = 9
number_of PlaceBeyondStore = 10
number_of WrongListChange = 11
number_of BeyondSupply = 12
number_of UnreadableLine = 13
number_of WrongTurn = 14
number_of BuildsUsedUp = 15
number_of NotOpened = 16
number_of UnfitLetter = 17

abbrev pub meaning_of : Refusal → List ℕ
meaning_of OutOfRange = codes "L or W outside its range"
meaning_of StoreUnfit = codes "store of another width, or with too few places"
meaning_of IndexOrSupplyUnfit = codes "index or supply made for another L, or index not empty"
meaning_of UnknownOperation = codes "operation neither 0 nor 1"
meaning_of UnknownAddress = codes "address not below the number of blocks"
meaning_of WrongByteLength = codes "byte run of the wrong length"
meaning_of TraceTooShort = codes "trace shorter than the entries of the call"
meaning_of WrongTable = codes "table of the wrong length, or no permutation, or builds out of range"
meaning_of WrongRound = codes "no place, more than 13, or lengths that do not match"
meaning_of PlaceBeyondStore = codes "place beyond the store"
meaning_of WrongListChange = codes "no such list, or an address that it cannot take"
meaning_of BeyondSupply = codes "build, index or slot beyond the supply"
meaning_of UnreadableLine = codes "line unreadable"
meaning_of WrongTurn = codes "turn of another number than the client's"
meaning_of BuildsUsedUp = codes "no build left in the supply"
meaning_of NotOpened = codes "client opened with a refusal"
meaning_of UnfitLetter = codes "letter does not fit the state of the session"

-- how a refusal is printed
abbrev pub refusal_text : Refusal → List ℕ
refusal_text r = codes "refused by number " ++ (decimal (number_of r) ++ (codes ": " ++ meaning_of r))
