use Rattle.request_ends.proofs.Common.{sym, ◌∙◌, refl, answered, NoneDone}
use Rattle.rio_requests.specs.Answers.{without}
use Rattle.rio_requests.specs.declared.reply.Reply.TheVariants.{Ok as Done}
use Rattle.request_ends.specs.Ends.{SaysDone}
use Rattle.file_tree.proofs.MemoEnds.{none_same, step_failed, was_done}
use Rattle.node_moving.proofs.MemoMoves.{stay_without}
use Rattle.node_moving.proofs.removing.take_row.Goals as goal

pub remove_row-done-requires-clause-row : goal.remove_row-done-requires-clause-row
remove_row-done-requires-clause-row g c = (c.args.name.now, c.requires.row)

pub returns-then-is_err-clause-leaves : goal.returns-then-is_err-clause-leaves
returns-then-is_err-clause-leaves g c = λ s reads. c.remove_row-done.ensures.leaves s c.args.name.now reads c.requires.row

pub returns-then-is_err-clause-in_step : goal.returns-then-is_err-clause-in_step
returns-then-is_err-clause-in_step g c = λ on.
    let shape = c.args.shape.now in
    let x = g.V.Blocks.seen c.args.v.now in
    let k = g.V.Volume.kept c.args.v.now in
    let y = g.V.Blocks.seen c.remove_row-done.new.v in
    let j = g.V.Volume.kept c.remove_row-done.new.v in
    let s = c.requires.can.state in
    let reads = c.requires.can.reads in
    step_failed SaysDone shape x k y j s (answered (without s c.args.row.dir.0 c.args.name.now c.args.row.ino.0) Done) (NoneDone s) c.args.memo.now c.remove_row-done.result (sym c.is_err.ensures.value ∙ c.if-is_err.true) c.requires.in_step reads (none_same s) (returns-then-is_err-clause-leaves g c s reads) on

pub returns-clause-leaves : goal.returns-clause-leaves
returns-clause-leaves g c = λ s reads. c.remove_row-done.ensures.leaves s c.args.name.now reads c.requires.row

pub returns-clause-in_step : goal.returns-clause-in_step
returns-clause-in_step g c = λ on.
    let shape = c.args.shape.now in
    let x = g.V.Blocks.seen c.args.v.now in
    let k = g.V.Volume.kept c.args.v.now in
    let y = g.V.Blocks.seen c.remove_row-done.new.v in
    let j = g.V.Volume.kept c.remove_row-done.new.v in
    let s = c.requires.can.state in
    let reads = c.requires.can.reads in
    let d = c.args.row.dir.0 in
    let name = c.args.name.now in
    let i = c.args.row.ino.0 in
    let done = was_done SaysDone shape x k y j s (answered (without s d name i) Done) (NoneDone s) c.remove_row-done.result (sym c.is_err.ensures.value ∙ c.if-is_err.false) (returns-clause-leaves g c s reads) in
    c.gone.ensures shape x.words y.words s (without s d name i) c.requires.in_step reads done.reads refl (stay_without s d name i)
