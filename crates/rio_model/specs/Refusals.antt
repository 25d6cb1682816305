-- The number that each refusal is told by.
use Rattle.std.specs.Prelude.{ℕ, Result, Err}
use Rattle.rio_model.specs.declared.refusal.Refusal.{Refusal}
use Rattle.rio_model.specs.declared.refusal.Refusal.TheVariants.{BadRequest, NotFound, Exists, NotADirectory, IsADirectory, NotEmpty, IsARegion, NotARegion, IsRoot, TooLarge, NoSpace, NoInode, Busy, NoTransaction, NotCovered, UndoFull, HeapFull, NotBlock, OutOfRange, NotAligned, InsideItself, Doomed, NoMemory}

abbrev pub refusal_number : Refusal → ℕ
refusal_number BadRequest = 1
refusal_number NotFound = 2
refusal_number Exists = 3
refusal_number NotADirectory = 4
refusal_number IsADirectory = 5
refusal_number NotEmpty = 6
refusal_number IsARegion = 7
refusal_number NotARegion = 8
refusal_number IsRoot = 9
refusal_number TooLarge = 10
refusal_number NoSpace = 11
refusal_number NoInode = 12
refusal_number Busy = 13
refusal_number NoTransaction = 14
refusal_number NotCovered = 15
refusal_number UndoFull = 16
refusal_number HeapFull = 17
refusal_number NotBlock = 18
refusal_number OutOfRange = 19
refusal_number NotAligned = 20
refusal_number InsideItself = 21
refusal_number Doomed = 22
refusal_number NoMemory = 31

-- refused, told by its number
abbrev pub refusal : {T : Type 0} → Refusal → Result T ℕ
refusal r = Err (refusal_number r)
