use Rattle.request_ends.proofs.Common.{sym, subst, held_of, NoneDone}
use Rattle.directories.specs.Rows.{HasRow}
use Rattle.rio_requests.specs.Answers.{move_row as move_row_of}
use Rattle.request_ends.specs.Ends.{FileEnds, SaysDone}
use Rattle.node_moving.specs.WalkRules.{OutOfReach}
use Rattle.node_moving.proofs.moving.move_row.Goals as goal

pub rename_within-requires-clause-absent : goal.rename_within-requires-clause-absent
rename_within-requires-clause-absent g c = λ n row. c.requires.absent n (subst (λ d. HasRow (held_of c.args.shape.now (g.V.Blocks.seen c.args.v.now).words d) c.args.name.now n) c.if-from-dir.true row)

pub returns-then-from-dir-clause-leaves : goal.returns-then-from-dir-clause-leaves
returns-then-from-dir-clause-leaves g c =
    let x = g.V.Blocks.seen c.args.v.now in
    let k = g.V.Volume.kept c.args.v.now in
    let y = g.V.Blocks.seen c.rename_within.new.v in
    let j = g.V.Volume.kept c.rename_within.new.v in
    let from = c.args.from in
    λ s a reads is apart. subst (λ d. FileEnds SaysDone c.args.shape.now x k y j s (move_row_of s from.dir.0 a d c.args.name.now from.ino.0) (NoneDone s) c.rename_within.result) c.if-from-dir.true (c.rename_within.ensures.leaves s a reads is (subst (OutOfReach s from.ino.0) (sym c.if-from-dir.true) apart))

pub move_across-requires-clause-two : goal.move_across-requires-clause-two
move_across-requires-clause-two g c = c.if-from-dir.false
