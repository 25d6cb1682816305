use Rattle.std.proofs.Common.{ℕ, ◌<◌, ◌≢◌, get_or}
use Rattle.std.specs.String.{string_bytes}
use Rattle.test_objects.specs.declared.mem_host.MemFile.{MemFile}
use Rattle.test_objects.proofs.mem_host.place_of.Given as goal

abbrev pub invariant-loop-i : goal.invariant-loop-i
invariant-loop-i l = (j : ℕ) (d : MemFile) → j < l.i → string_bytes (get_or l.files j d).name ≢ string_bytes l.name
