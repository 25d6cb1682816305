use Rattle.directories.proofs.Common.{◌≡◌, ◌+◌, ◌-◌, ◌++◌, map, slice_index, word_edit, run_edits}
use Rattle.std.specs.Vec.{vec_capacity, vec_len}
use Rattle.directories.proofs.storing.push_edits.Given as goal

-- the first t words are edits
abbrev pub invariant-loop-t : goal.invariant-loop-t
invariant-loop-t l = record {
  edits : map word_edit l.edits.items ≡ map word_edit l.fn.edits.items ++ run_edits l.entry.block.0 (λ w. slice_index l.entry.words (w - l.entry.first)) l.entry.first l.t;
  len : vec_len l.edits ≡ vec_len l.fn.edits + l.t;
  capacity : vec_capacity l.edits ≡ vec_capacity l.fn.edits;
}
