use Rattle.std.proofs.Common.{ap, length}
use Rattle.rio_base.specs.Disks.{DiskContents, blocks_of}
use Rattle.part_tests.proofs.Settled.{settled}
use Rattle.part_tests.proofs.held_bench_tests.disk.Goals as goal

pub returns-in-Ok : goal.returns-in-Ok
returns-in-Ok c = let (words, are, e) = c.in-Ok.ensures.disk in settled (length (blocks_of words)) _ (ap (λ (d : DiskContents). d.pending) e)
