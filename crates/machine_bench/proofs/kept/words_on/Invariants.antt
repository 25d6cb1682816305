use Rattle.rio_base.specs.Disks.{blocks_of}
use Rattle.machine_bench.proofs.KeptBlocks.{FrontKept}
use Rattle.machine_bench.proofs.kept.words_on.Given as goal

abbrev pub invariant-loop-b : goal.invariant-loop-b
invariant-loop-b g l = FrontKept (blocks_of l.disk.words.items) l.b l.words.items
