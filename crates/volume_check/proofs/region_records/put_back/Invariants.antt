use Rattle.std.proofs.Common.{◌≡◌, ◌-◌, ◌<◌, ℕ, length, slice_index}
use Rattle.rio_model.specs.Undo.{before_by, records_from, undo_records}
use Rattle.volume_check.proofs.RecordWalks.{Chain}
use Rattle.volume_check.proofs.region_records.put_back.Given as goal

-- the words of before are those that the records left leave
abbrev pub invariant-loop-head : goal.invariant-loop-head
invariant-loop-head l = record {
  chain : Chain (slice_index l.front) (length l.front - 512) l.head;
  before : (q : ℕ) → q < length l.fn.map → before_by (records_from (slice_index l.front) l.head l.head) (slice_index l.map) q ≡ before_by (undo_records (slice_index l.front)) (slice_index l.fn.map) q;
}

abbrev pub decreases-loop-head : goal.decreases-loop-head
decreases-loop-head l = l.head
