use Rattle.std.proofs.Common.{sym, subst}
use Rattle.std.specs.Prelude.{None}
use Rattle.rio_base.specs.Blocks.{Caches}
use Rattle.directories_tests.specs.TestDirs.{CanTouch}
use Rattle.directories_tests.proofs.OpenPlans.{touch_still}
use Rattle.directories_tests.proofs.dirs.touch_plan.Goals as goal

pub touch_edits-requires-clause-can : goal.touch_edits-requires-clause-can
touch_edits-requires-clause-can g c =
    let x = g.V.Blocks.seen c.args.v.now in
    let y = g.V.Blocks.seen c.touch.new.self in
    let z = g.V.Blocks.seen c.touch-2.new.self in
    subst (λ es. CanTouch c.args.shape.now z es) (sym c.as_slice.ensures) (touch_still c.args.shape.now c.args.change.now.dir.0 c.args.change.now.edits x y z c.requires.can c.touch.ensures.caches (subst (λ b. Caches y z b None) c.inode_block.ensures c.touch-2.ensures.caches))
