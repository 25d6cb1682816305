-- What the steps of a call come to.
use Rattle.std.specs.Prelude.{◌≡◌, ℕ, ◌+◌, ◌*◌, ◌/◌, ◌<◌, ◌≤◌, ◌%◌, ◌==◌, ◌&&◌, if◌then◌else◌, Bool, true, false, Option, Some, None, Result, Ok, Err}
use Rattle.rio_model.specs.Undo.{map_pages}
use Rattle.rio_requests.specs.declared.reply.Reply.{Reply}
use Rattle.rio_requests.specs.declared.reply.Reply.TheVariants.{Number}
use Rattle.vista_region.specs.declared.data.Span.{Span}
use Rattle.vista_region.specs.declared.failures.TxnFail.{TxnFail}
use Rattle.vista_region.specs.declared.failures.TxnFail.TheVariants.{NoTransaction, Doomed, NotAligned, OutOfRange, Fault, Stopped}

-- a transaction of this mark serves calls
abbrev pub opened : Option Bool → Result (Unit {0}) TxnFail
opened None = Err NoTransaction
opened (Some true) = Err Doomed
opened (Some false) = Ok tt

-- a transaction of this mark may only be aborted
abbrev pub doomed_by : Option Bool → Bool
doomed_by None = false
doomed_by (Some doomed) = doomed

-- the places of the data words that so many bytes from an offset on are, in so many data pages
pub record IsSpan (pages off len : ℕ) (span : Span) : Type 0 where
  pub place : span.place ≡ 512 * map_pages pages + off / 8
  pub count : span.count ≡ len / 8
  pub within : span.place + span.count ≤ 512 * (map_pages pages + pages)
  pub inside : off + len ≤ 4096 * pages

-- the places are told, or just where the bytes end past the data they are out of range
abbrev pub SpanEnds : ℕ → ℕ → ℕ → Result Span TxnFail → Type 0
SpanEnds pages off len (Ok span) = IsSpan pages off len span
SpanEnds pages off len (Err e) = (e ≡ OutOfRange) × (4096 * pages < off + len)

-- bytes are whole words
abbrev pub whole : ℕ → ℕ → Result (Unit {0}) TxnFail
whole off len = if (off % 8 == 0) && (len % 8 == 0) then Ok tt else Err NotAligned

-- a call on a block says its first byte
abbrev pub says_unit : ℕ → Reply
says_unit t = Number (64 * t)

-- a call was neither cut off by a fault nor stopped
abbrev pub IsTold : {T : Type 0} → Result T TxnFail → Type 0
IsTold (Err (Fault k)) = ⊥
IsTold (Err Stopped) = ⊥
IsTold _ = Unit {0}
