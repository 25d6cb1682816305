use Rattle.std.proofs.Common.{arith}
use Rattle.node_pages.proofs.LookingUpRules.{can_look_up, looked_low}
use Rattle.directories_tests.proofs.PlansMade.{dirs_looked}
use Rattle.directories_tests.proofs.dirs.free_blocks.Goals as goal

pub returns-clause-dirs : goal.returns-clause-dirs
returns-clause-dirs g c =
    let h = c.requires.dirs in
    dirs_looked c.args.shape.now _ _ _ _ _ _ _ _ h (looked_low c.args.shape.now _ _ 1 (can_look_up c.args.shape.now _ h.ready.order.has_shape h.ready.order.mapped h.ready.order.named) (omega arith) c.free_count.ensures.read.looks.looks c.free_count.ensures.caches) (g.met.V.Volume.passes_keeps _ _ c.free_count.ensures.read.passed)

pub free_count-requires : goal.free_count-requires
free_count-requires g c = record { can = record { keeps = c.requires.sound; meets = c.requires.dirs.ready.order.has_shape } }
