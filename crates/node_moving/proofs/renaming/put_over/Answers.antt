use Rattle.request_ends.proofs.Common.{sym, subst, ◌∙◌, refl, State, ReadsAs, NoneDone}
use Rattle.rio_requests.specs.Answers.{replace_row as replace_row_of, replaced}
use Rattle.request_ends.specs.Ends.{SaysDone}
use Rattle.file_tree.specs.Walks.{ino_numbers}
use Rattle.file_tree.proofs.LookedAt.{row_read}
use Rattle.file_tree.proofs.MemoEnds.{none_same, step_failed, step_untold, use_same, was_done}
use Rattle.node_moving.proofs.MemoMoves.{replace_next, replace_same, two_nodes, stay_replaced}
use Rattle.node_moving.proofs.renaming.put_over.Goals as goal

pub replace_row-done-requires-clause-from : goal.replace_row-done-requires-clause-from
replace_row-done-requires-clause-from g c = (c.args.old.now, c.requires.from)

pub returns-then-from-to-clause-leaves : goal.returns-then-from-to-clause-leaves
returns-then-from-to-clause-leaves g c = λ s reads. c.replace_row-done.ensures.leaves s c.args.old.now reads c.requires.from

pub returns-then-from-to-clause-in_step : goal.returns-then-from-to-clause-in_step
returns-then-from-to-clause-in_step g c = λ on.
    let shape = c.args.shape.now in
    let x = g.V.Blocks.seen c.args.v.now in
    let k = g.V.Volume.kept c.args.v.now in
    let y = g.V.Blocks.seen c.replace_row-done.new.v in
    let j = g.V.Volume.kept c.replace_row-done.new.v in
    let s = c.requires.can.state in
    let reads = c.requires.can.reads in
    let from = c.args.from in
    let old = c.args.old.now in
    let name = c.args.name.now in
    let busy = ino_numbers c.args.busy.now in
    let same = replace_same s busy from.dir.0 old c.args.to.dir.0 name from.ino.0 c.args.to.ino.0 c.if-from-to.true in
    step_untold SaysDone shape x k y j s (replace_row_of s busy from.dir.0 old c.args.to.dir.0 name from.ino.0 c.args.to.ino.0) (NoneDone s) c.args.memo.now c.replace_row-done.result c.requires.in_step reads (none_same s) (use_same s _ same) (returns-then-from-to-clause-leaves g c s reads) on

pub returns-then-is_err-clause-leaves : goal.returns-then-is_err-clause-leaves
returns-then-is_err-clause-leaves g c = λ s reads. c.replace_row-done.ensures.leaves s c.args.old.now reads c.requires.from

pub returns-then-is_err-clause-in_step : goal.returns-then-is_err-clause-in_step
returns-then-is_err-clause-in_step g c = λ on.
    let shape = c.args.shape.now in
    let x = g.V.Blocks.seen c.args.v.now in
    let k = g.V.Volume.kept c.args.v.now in
    let y = g.V.Blocks.seen c.replace_row-done.new.v in
    let j = g.V.Volume.kept c.replace_row-done.new.v in
    let s = c.requires.can.state in
    let reads = c.requires.can.reads in
    let from = c.args.from in
    let old = c.args.old.now in
    let name = c.args.name.now in
    let busy = ino_numbers c.args.busy.now in
    step_failed SaysDone shape x k y j s (replace_row_of s busy from.dir.0 old c.args.to.dir.0 name from.ino.0 c.args.to.ino.0) (NoneDone s) c.args.memo.now c.replace_row-done.result (sym c.is_err.ensures.value ∙ c.if-is_err.true) c.requires.in_step reads (none_same s) (returns-then-is_err-clause-leaves g c s reads) on

pub returns-clause-leaves : goal.returns-clause-leaves
returns-clause-leaves g c = λ s reads. c.replace_row-done.ensures.leaves s c.args.old.now reads c.requires.from

pub returns-clause-in_step : goal.returns-clause-in_step
returns-clause-in_step g c = λ on.
    let shape = c.args.shape.now in
    let x = g.V.Blocks.seen c.args.v.now in
    let k = g.V.Volume.kept c.args.v.now in
    let y = g.V.Blocks.seen c.replace_row-done.new.v in
    let j = g.V.Volume.kept c.replace_row-done.new.v in
    let s = c.requires.can.state in
    let reads = c.requires.can.reads in
    let from = c.args.from in
    let old = c.args.old.now in
    let name = c.args.name.now in
    let busy = ino_numbers c.args.busy.now in
    let d = c.args.to.dir.0 in
    let i = from.ino.0 in
    let o = c.args.to.ino.0 in
    let done = was_done SaysDone shape x k y j s (replace_row_of s busy from.dir.0 old c.args.to.dir.0 name from.ino.0 c.args.to.ino.0) (NoneDone s) c.replace_row-done.result (sym c.is_err.ensures.value ∙ c.if-is_err.false) (returns-clause-leaves g c s reads) in
    let row = row_read shape x.words s from.dir.0 from.slot old i reads c.requires.from.dir c.requires.from.entry in
    let other = row_read shape x.words s d c.args.to.slot name o reads c.requires.to.dir c.requires.to.entry in
    c.replaced.ensures shape x.words y.words s (replaced s from.dir.0 old d name i o) c.requires.in_step reads
    (subst (λ (t : State). ReadsAs shape y.words t) (replace_next s busy from.dir.0 old d name i o done.reply c.if-from-to.false done.told done.said) done.reads)
    (two_nodes s (from.dir.0, old) (d, name) i o row other c.if-from-to.false) refl (stay_replaced s from.dir.0 old d name i o)
