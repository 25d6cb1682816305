use Rattle.directories.proofs.Common.{◌≡◌, ◌≤◌, ◌+◌, ◌-◌, ◌*◌, ◌++◌, length, map, take, word_edit}
use Rattle.std.specs.Vec.{vec_capacity, vec_len}
use Rattle.directories.specs.Contents.{all_edits}
use Rattle.directories.proofs.storing.with_entries.Given as goal

-- the edits of the first k entries are there, and room for the others
abbrev pub invariant-loop-k : goal.invariant-loop-k
invariant-loop-k l = record {
  edits : map word_edit l.edits.items ≡ map word_edit l.fn.change.edits ++ all_edits (take l.k l.entries);
  room : vec_len l.edits + 8 * (length l.entries - l.k) ≤ vec_capacity l.edits;
}
