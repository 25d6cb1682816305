use Rattle.directories.proofs.Common.{◌+◌, ◌≤◌, sym, subst, arith, BlockWords, held_of}
use Rattle.directories_tests.proofs.dirs.plan_row.Goals as goal

pub plan_new-requires-clause-room : goal.plan_new-requires-clause-room
plan_new-requires-clause-room c =
    let value = c.in_ok-size.ensures.value in
    let low = c.if-size-gt-ROOMY.false in
    subst (λ (f : BlockWords). (held_of c.args.shape.now f c.args.dir.0).size + 64 ≤ 4292608) (sym c.find_row.ensures.words) (omega (arith, value, low))
