-- How calls on a region and its transaction end.
use Rattle.std.specs.Prelude.{◌≡◌, ◌≤◌, ◌⊎◌, ◌%◌, ℕ, false, List, [], length, take, Option, Some, None, Result, Ok, Err}
use Rattle.rio_base.specs.Regions.{RegionContent}
use Rattle.rio_model.specs.Heap.{OfBlocks}
use Rattle.rio_model.specs.Undo.{IsRegion, live, undo_records}
use Rattle.rio_model.specs.Refusals.{refusal_number}
use Rattle.rio_model.specs.declared.refusal.Refusal.TheVariants.{NoTransaction, NotCovered, UndoFull, HeapFull, NotBlock, OutOfRange, NotAligned, Doomed}
use Rattle.rio_requests.specs.RegionAnswers.{Outcome, with_words}
use Rattle.rio_requests.specs.declared.region_answer.RegionAnswer.{RegionAnswer}
use Rattle.rio_requests.specs.declared.reply.Reply.{Reply}
use Rattle.rio_requests.specs.declared.reply.Reply.TheVariants.{Ok as Done, Number, Bytes}
use Rattle.vista_region.specs.Marks.{Marks, mark_of, txn_in}
use Rattle.vista_region.specs.Regions.{region_now}
use Rattle.vista_region.specs.declared.failures.TxnFail.{TxnFail}
use Rattle.vista_region.specs.declared.failures.TxnFail.TheVariants.{NoTransaction as TxnNoTransaction, Doomed as TxnDoomed, NotAligned as TxnNotAligned, OutOfRange as TxnOutOfRange, NotCovered as TxnNotCovered, NotBlock as TxnNotBlock, HeapFull as TxnHeapFull, UndoFull as TxnUndoFull, Fault, Stopped}
use Rattle.vista_region.specs.declared.failures.GetFail.{GetFail}
use Rattle.vista_region.specs.declared.failures.GetFail.TheVariants.{Doomed as GetDoomed, OutOfRange as GetOutOfRange, Fault as GetFault, Stopped as GetStopped, Memory as GetMemory}

-- ---- before a call, and after each that was not stopped

-- a region of n words fits the open transactions: without one it has no undo record, and with one that is not doomed its
-- heap map is of blocks alone
pub record Fits (marks : Marks) (i n : ℕ) (f : RegionContent) : Type 0 where
  pub region : IsRegion n f
  pub closed : mark_of marks i ≡ None → undo_records f ≡ []
  pub heap : mark_of marks i ≡ Some false → OfBlocks (live f) (f 2)

-- ---- refusals, by number

abbrev pub refusal_of : TxnFail → Option ℕ
refusal_of TxnNoTransaction = Some (refusal_number NoTransaction)
refusal_of TxnNotCovered = Some (refusal_number NotCovered)
refusal_of TxnUndoFull = Some (refusal_number UndoFull)
refusal_of TxnHeapFull = Some (refusal_number HeapFull)
refusal_of TxnNotBlock = Some (refusal_number NotBlock)
refusal_of TxnOutOfRange = Some (refusal_number OutOfRange)
refusal_of TxnNotAligned = Some (refusal_number NotAligned)
refusal_of TxnDoomed = Some (refusal_number Doomed)
refusal_of (Fault k) = None
refusal_of Stopped = None

abbrev pub get_refusal_of : GetFail → Option ℕ
get_refusal_of GetOutOfRange = Some (refusal_number OutOfRange)
get_refusal_of GetDoomed = Some (refusal_number Doomed)
get_refusal_of GetFault = None
get_refusal_of GetStopped = None
get_refusal_of GetMemory = None

-- a refusal is the one that is defined, and leaves the words and the table
abbrev pub RefusedAs : Outcome → Marks → Marks → RegionContent → RegionContent → Option ℕ → Type 0
RefusedAs defined old new f g None = Unit {0}
RefusedAs defined old new f g (Some number) = (defined ≡ Err number) × (g ≡ f) × (new ≡ old)

-- the region and its transaction are what is defined, and the reply is
abbrev pub DoneAs : Outcome → Marks → ℕ → RegionContent → Reply → Type 0
DoneAs defined new i g reply = defined ≡ Ok (record { region = region_now g; txn = txn_in new i g; reply = reply })

-- done, or refused: as it is defined
abbrev pub TxnEnds : {T : Type 0} → Outcome → (T → Reply) → Marks → Marks → ℕ → RegionContent → RegionContent → Result T TxnFail → Type 0
TxnEnds defined says old new i f g (Ok v) = DoneAs defined new i g (says v)
TxnEnds defined says old new i f g (Err e) = RefusedAs defined old new f g (refusal_of e)

-- what calls say
abbrev pub says_done : Unit {0} → Reply
says_done v = Done

abbrev pub says_number : ℕ → Reply
says_number n = Number n

abbrev pub says_bytes : List ℕ → Reply
says_bytes bytes = Bytes bytes

-- ---- faults and stops

abbrev pub IsFault : {T : Type 0} → Result T TxnFail → Type 0
IsFault (Err (Fault k)) = Unit {0}
IsFault _ = ⊥

abbrev pub OnFault : {T : Type 0} → Result T TxnFail → (ℕ → Type 0) → Type 0
OnFault (Err (Fault k)) P = P k
OnFault _ P = Unit {0}

-- a put that a fault cut off after k bytes: nothing, or the first k bytes of one that is not refused
abbrev pub PutPart : Outcome → Marks → ℕ → RegionContent → RegionContent → ℕ → List ℕ → ℕ → Type 0
PutPart defined marks i f g off bytes k =
    ((k ≡ 0) × (region_now g ≡ region_now f) × (txn_in marks i g ≡ txn_in marks i f)) ⊎
    ((a : RegionAnswer) × (defined ≡ Ok a) × (k % 8 ≡ 0) × (k ≤ length bytes) × (region_now g ≡ with_words (region_now f) off (take k bytes)) × (txn_in marks i g ≡ txn_in marks i f))
