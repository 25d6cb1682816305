use Rattle.std.proofs.Common.{◌≡◌, map, slice_index}
use Rattle.std.specs.List.{range_with_len}
use Rattle.volume_check.specs.Entries.{name_in, name_words}
use Rattle.volume_check.proofs.names.all_name_words.Given as goal

abbrev pub invariant-loop-j : goal.invariant-loop-j
invariant-loop-j l = l.names.items ≡ map (λ j. name_words (name_in (slice_index l.words) j)) (range_with_len 0 l.j)
