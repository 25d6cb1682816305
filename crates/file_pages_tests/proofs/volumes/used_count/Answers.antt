use Rattle.std.proofs.Common.{arith}
use Rattle.node_pages.proofs.LookingUpRules.{can_look_up, looked_low}
use Rattle.file_pages_tests.proofs.TestFiles.{files_looked}
use Rattle.file_pages_tests.proofs.volumes.used_count.Goals as goal

pub free_count-requires : goal.free_count-requires
free_count-requires g c = record { can = record { keeps = c.requires.sound; meets = c.requires.files.ready.order.has_shape } }

pub returns-clause-files : goal.returns-clause-files
returns-clause-files g c =
    let h = c.requires.files in
    files_looked c.args.shape.now _ _ _ _ _ _ _ _ h (looked_low c.args.shape.now _ _ 1 (can_look_up c.args.shape.now _ h.ready.order.has_shape h.ready.order.mapped h.ready.order.named) (omega arith) c.free_count.ensures.read.looks.looks c.free_count.ensures.caches) (g.met.V.Volume.passes_keeps _ _ c.free_count.ensures.read.passed)
