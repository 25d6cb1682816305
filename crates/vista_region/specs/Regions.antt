-- The region and its transaction, as the region's words say. The words of before its undo records are the transaction's.
use Rattle.std.specs.Prelude.{ℕ, ◌+◌, ◌-◌, ◌*◌, ◌&&◌, ◌++◌, nat_lt, nat_le, max, if◌then◌else◌, Bool, List, [], ◌∷◌, length, map}
use Rattle.std.specs.List.{range_with_len}
use Rattle.rio_base.specs.Regions.{RegionContent}
use Rattle.rio_model.specs.declared.node.RegionNode.{RegionNode}
use Rattle.rio_model.specs.declared.txn.Txn.{Txn}
use Rattle.rio_model.specs.Heap.{heap_blocks, units_of}
use Rattle.rio_model.specs.Undo.{UndoRecord, data_from, live, taken, undo_records}
use Rattle.rio_model.specs.VolumeReads.{region_in}

-- the region as it is now
abbrev pub region_now : RegionContent → RegionNode
region_now f = record {
  words = map (λ q. live f (data_from f + q)) (range_with_len 0 (512 * f 2));
  undo = f 1;
  blocks = heap_blocks (live f) (units_of f);
}

-- the range of data words that a record saves. One of words of the heap map alone has none
abbrev pub range_of : ℕ → UndoRecord → List (ℕ × ℕ)
range_of from r = if nat_lt r.first from && nat_le (r.first + length r.old) from then [] else (r.first - from, r.first + length r.old - max r.first from) ∷ []

-- the ranges of all records, oldest first
abbrev pub ranges_of : ℕ → List UndoRecord → List (ℕ × ℕ)
ranges_of from [] = []
ranges_of from (r ∷ older) = ranges_of from older ++ range_of from r

-- the transaction that is open on the region of an inode
abbrev pub txn_now : ℕ → RegionContent → Bool → Txn
txn_now i f doomed = record {
  ino = record { 0 = i };
  before = (region_in f).words;
  before_blocks = (region_in f).blocks;
  ranges = ranges_of (data_from f) (undo_records f);
  used = taken (undo_records f);
  doomed = doomed;
}
