use Rattle.rio_base.proofs.BlockRules.{shape_dropped}
use Rattle.directories_tests.proofs.OpenPlans.{can_passed, order_passed}
use Rattle.directories_tests.proofs.PlansMade.{dirs_idle, ready_dirs}
use Rattle.directories_tests.proofs.dirs.make.Goals as goal

pub make_open-requires-clause-dirs : goal.make_open-requires-clause-dirs
make_open-requires-clause-dirs g c =
    let shape = c.args.shape.now in
    let h = c.requires.dirs in
    let call = c.begin.ensures in
    order_passed shape _ _ _ _ (ready_dirs shape _ _ h) call.looks.words (shape_dropped shape _ _ h.ready.order.has_shape call.looks.count call.drops) call.drops call.firm

pub make_open-requires-clause-can : goal.make_open-requires-clause-can
make_open-requires-clause-can g c = can_passed c.args.shape.now _ _ _ _ c.args.change.now c.requires.can c.begin.ensures.looks.words c.begin.ensures.drops c.begin.ensures.firm

pub returns-clause-dirs : goal.returns-clause-dirs
returns-clause-dirs g c =
    let shape = c.args.shape.now in
    let h = c.in_ok-make_open.ensures.dirs in
    let call = c.commit.ensures in
    dirs_idle shape _ _ (order_passed shape _ _ _ _ h call.looks.words (shape_dropped shape _ _ h.order.has_shape call.looks.count call.drops) call.drops call.firm) c.in_ok-commit.ensures.ok.1
