use Rattle.std.proofs.Common.{◌++◌}
use Rattle.pair_files.proofs.BytesIn.{Filled}
use Rattle.pair_files.proofs.saving.fill_bytes.Given as goal

abbrev pub invariant-loop-p : goal.invariant-loop-p
invariant-loop-p g l = Filled ((g.M.Machine.contents l.m).words ++ (g.M.Machine.run l.m).scratch) l.p l.bytes
