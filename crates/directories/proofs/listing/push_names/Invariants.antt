use Rattle.directories.proofs.Common.{◌≡◌, ◌++◌, map, slice_index, range_with_len}
use Rattle.directories.specs.Entries.{name_in}
use Rattle.directories.proofs.listing.push_names.Given as goal

-- the first k names are added
abbrev pub invariant-loop-k : goal.invariant-loop-k
invariant-loop-k l = l.names ≡ l.fn.names ++ map (name_in (slice_index l.words)) (range_with_len 0 l.k)
