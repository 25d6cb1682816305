use Rattle.request_ends.proofs.Common.{sym, subst, ◌∙◌, refl, State, ReadsAs, NoneDone}
use Rattle.rio_requests.specs.Answers.{move_row as move_row_of, moved}
use Rattle.request_ends.specs.Ends.{SaysDone}
use Rattle.file_tree.proofs.LookedAt.{no_row, row_read}
use Rattle.node_moving.proofs.MemoMoves.{move_next, two_free}
use Rattle.file_tree.proofs.MemoEnds.{none_same, step_failed, was_done}
use Rattle.node_moving.proofs.renaming.move_to.Goals as goal

pub move_row-done-requires-clause-from : goal.move_row-done-requires-clause-from
move_row-done-requires-clause-from g c = (c.args.old.now, c.requires.from)

pub returns-then-is_err-clause-leaves : goal.returns-then-is_err-clause-leaves
returns-then-is_err-clause-leaves g c = λ s reads. c.move_row-done.ensures.leaves s c.args.old.now reads c.requires.from (c.requires.out s reads)

pub returns-then-is_err-clause-in_step : goal.returns-then-is_err-clause-in_step
returns-then-is_err-clause-in_step g c = λ on.
    let shape = c.args.shape.now in
    let x = g.V.Blocks.seen c.args.v.now in
    let k = g.V.Volume.kept c.args.v.now in
    let y = g.V.Blocks.seen c.move_row-done.new.v in
    let j = g.V.Volume.kept c.move_row-done.new.v in
    let s = c.requires.can.state in
    let reads = c.requires.can.reads in
    let from = c.args.from in
    let old = c.args.old.now in
    let name = c.args.name.now in
    step_failed SaysDone shape x k y j s (move_row_of s from.dir.0 old c.args.dir.0 name from.ino.0) (NoneDone s) c.args.memo.now c.move_row-done.result (sym c.is_err.ensures.value ∙ c.if-is_err.true) c.requires.in_step reads (none_same s) (returns-then-is_err-clause-leaves g c s reads) on

pub returns-clause-leaves : goal.returns-clause-leaves
returns-clause-leaves g c = λ s reads. c.move_row-done.ensures.leaves s c.args.old.now reads c.requires.from (c.requires.out s reads)

pub returns-clause-in_step : goal.returns-clause-in_step
returns-clause-in_step g c = λ on.
    let shape = c.args.shape.now in
    let x = g.V.Blocks.seen c.args.v.now in
    let k = g.V.Volume.kept c.args.v.now in
    let y = g.V.Blocks.seen c.move_row-done.new.v in
    let j = g.V.Volume.kept c.move_row-done.new.v in
    let s = c.requires.can.state in
    let reads = c.requires.can.reads in
    let from = c.args.from in
    let old = c.args.old.now in
    let name = c.args.name.now in
    let d = c.args.dir.0 in
    let i = from.ino.0 in
    let done = was_done SaysDone shape x k y j s (move_row_of s from.dir.0 old c.args.dir.0 name from.ino.0) (NoneDone s) c.move_row-done.result (sym c.is_err.ensures.value ∙ c.if-is_err.false) (returns-clause-leaves g c s reads) in
    let row = row_read shape x.words s from.dir.0 from.slot old i reads c.requires.from.dir c.requires.from.entry in
    c.moved.ensures shape x.words y.words s (moved s from.dir.0 old d name i) c.requires.in_step reads
    (subst (λ (t : State). ReadsAs shape y.words t) (move_next s from.dir.0 old d name i done.reply done.told done.said) done.reads)
    (two_free s (from.dir.0, old) (d, name) i row (no_row shape x.words s d name reads c.requires.absent)) refl (λ n none. none)
