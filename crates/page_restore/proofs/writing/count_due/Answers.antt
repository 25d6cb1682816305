use Rattle.std.proofs.Common.{◌∙◌, ◌+◌, ◌≡◌, ap, arith, sym}
use Rattle.page_restore.proofs.Due.{byte_small, due_more, due_none, due_small}
use Rattle.page_restore.specs.Phases.{due_before}
use Rattle.page_restore.proofs.writing.count_due.Goals as goal

pub loop-k-init : goal.loop-k-init
loop-k-init g c = sym (due_none c.args.kind c.args.marks.now _)

pub overflow_add-count : goal.overflow_add-count
overflow_add-count g c = omega (arith, due_small c.args.kind c.args.marks.now (g.M.Machine.contents c.args.m.now).words c.loop-k.k, c.loop-k.invariant, c.from-count.ensures, byte_small c.is_due-due.result, c.loop-k.auto.k-end, c.loop-k-test.true, c.frame_count-frames.ensures, c.requires.layout.sizes.most_frames)

pub loop-k-preserved : goal.loop-k-preserved
loop-k-preserved g c = ap (λ n. n + c.from-count.result) c.loop-k.invariant ∙ sym (due_more c.args.kind c.args.marks.now (g.M.Machine.contents c.args.m.now).words c.loop-k.k c.from-count.result c.is_due-due.result c.from-count.ensures c.is_due-due.ensures)

pub returns : goal.returns
returns g c =
    let all : c.loop-k.k ≡ c.frame_count-frames.result = omega (arith, c.loop-k.auto.k-end, c.loop-k-test.false) in
    c.loop-k.invariant ∙ ap (due_before c.args.kind c.args.marks.now (g.M.Machine.contents c.args.m.now).words) (all ∙ c.frame_count-frames.ensures)
