use Rattle.file_pages.proofs.Common.{◌≡◌, ◌-◌, ◌/◌, ◌%◌, ◌≤◌, ◌++◌, map, slice_index, range_with_len}
use Rattle.rio_model.specs.Held.{byte_of}
use Rattle.file_pages.proofs.reading.push_bytes.Given as goal

abbrev pub invariant-loop-at : goal.invariant-loop-at
invariant-loop-at l = record {
  low : l.from ≤ l.at;
  high : l.at ≤ l.to;
  out : l.out.items ≡ l.fn.out.items ++ map (λ y. byte_of (slice_index l.words (y / 8)) (y % 8)) (range_with_len l.from (l.at - l.from));
}

abbrev pub decreases-loop-at : goal.decreases-loop-at
decreases-loop-at l = l.to - l.at
