use Rattle.std.proofs.Common.{arith}
use Rattle.node_pages.proofs.LookingUpRules.{can_look_up, looked_low}
use Rattle.file_pages_tests.proofs.TestFiles.{files_looked, lowest_skipped}
use Rattle.file_pages_tests.proofs.plans.lowest.Goals as goal

pub take-requires : goal.take-requires
take-requires g c = record { can = record { keeps = c.requires.sound; meets = c.requires.files.ready.order.has_shape } }

pub returns-in_err-blocks-clause-files : goal.returns-in_err-blocks-clause-files
returns-in_err-blocks-clause-files g c =
    let h = c.requires.files in
    files_looked c.args.shape.now _ _ _ _ _ _ _ _ h (looked_low c.args.shape.now _ _ 1 (can_look_up c.args.shape.now _ h.ready.order.has_shape h.ready.order.mapped h.ready.order.named) (omega arith) c.take.ensures.read.looks.looks c.take.ensures.caches) (g.met.V.Volume.passes_keeps _ _ c.take.ensures.read.passed)

pub returns-clause-files : goal.returns-clause-files
returns-clause-files g c =
    let h = c.requires.files in
    files_looked c.args.shape.now _ _ _ _ _ _ _ _ h (looked_low c.args.shape.now _ _ 1 (can_look_up c.args.shape.now _ h.ready.order.has_shape h.ready.order.mapped h.ready.order.named) (omega arith) c.take.ensures.read.looks.looks c.take.ensures.caches) (g.met.V.Volume.passes_keeps _ _ c.take.ensures.read.passed)

pub returns-clause-skip : goal.returns-clause-skip
returns-clause-skip g c = lowest_skipped c.args.shape.now _ _ c.args.n c.in_ok-blocks.blocks c.requires.files.ready.order.mapped c.in_ok-blocks.ensures.value c.in_ok-blocks.ensures.room c.take.ensures.read.looks.looks.words
