use Rattle.node_pages.proofs.Ends.{read_runs, ends_read, ends_read_ok}
use Rattle.file_pages.proofs.Common.{◌≡◌, ◌+◌, ◌-◌, ◌*◌, ◌/◌, ◌∙◌, ◌++◌, map, sym, subst, arith, le_trans, range_with_len, BlockWords, byte_in, word_in, placed_at, volume_layout, AllNamed, IsMapped, ends_by_after, err_from_is_err_and}
use Rattle.node_pages.proofs.LookingUpRules.{look_trans, named_on}
use Rattle.file_pages.proofs.PageRead.{bytes_next, page_at}
use Rattle.node_pages.proofs.EndsOn.{if_err}
use Rattle.file_pages.proofs.reading.push_pages.Goals as goal

pub push_page-requires-clause-named : goal.push_page-requires-clause-named
push_page-requires-clause-named g c =
    let shape = c.args.shape.now in
    let x = g.V.Blocks.seen c.args.v.now in
    let y = g.V.Blocks.seen c.loop-at.v in
    let inv = c.loop-at.invariant in
    subst (λ f. AllNamed (volume_layout shape f) y) (sym inv.looks.looks.words) (named_on shape x y c.requires.mapped c.requires.named inv.looks)

pub push_page-requires-clause-block : goal.push_page-requires-clause-block
push_page-requires-clause-block g c =
    let inv = c.loop-at.invariant in
    let low = inv.low in
    let few = c.loop-at-test.true in
    page_at (g.V.Blocks.seen c.args.v.now).words _ c.args.i.0 c.args.blocks.now (c.args.off / 4096) _ _ _ _ inv.looks.looks.words c.requires.blocks (omega (arith, low)) (omega (arith, c.requires.all, low, few))

pub returns-in_err-push_page-clause-looks : goal.returns-in_err-push_page-clause-looks
returns-in_err-push_page-clause-looks g c = look_trans c.args.shape.now (g.V.Blocks.seen c.args.v.now) (g.V.Blocks.seen c.loop-at.v) _ c.loop-at.invariant.looks c.push_page.ensures.looks

pub loop-at-preserved : goal.loop-at-preserved
loop-at-preserved g c =
    let shape = c.args.shape.now in
    let x = g.V.Blocks.seen c.args.v.now in
    let y = g.V.Blocks.seen c.loop-at.v in
    let inv = c.loop-at.invariant in
    let at = c.loop-at.at in
    let to = c.min-to.result in
    let p = at / 4096 in
    let F = λ (f : BlockWords). byte_in (word_in f (placed_at f c.args.i.0)) in
    let low = inv.low in
    let more = c.loop-at-test.true in
    let to_is = c.min-to.ensures in
    record {
      low = omega (arith, low, more, to_is);
      high = omega (arith, to_is);
      out = bytes_next (F x.words) c.args.off at to (4096 * p + (at - 4096 * p)) (to - 4096 * p - (at - 4096 * p)) c.args.out.now.items c.loop-at.out.items c.push_page.new.out.items low (omega (arith, more, to_is)) inv.out
          (subst (λ f. c.push_page.new.out.items ≡ c.loop-at.out.items ++ map (F f) (range_with_len (4096 * p + (at - 4096 * p)) (to - 4096 * p - (at - 4096 * p)))) inv.looks.looks.words c.in_ok-push_page.ensures.value) (omega arith) (omega (arith, more, to_is));
      looks = look_trans shape x y _ inv.looks c.push_page.ensures.looks;
      passes = g.met.V.Blocks.passes_trans _ _ _ inv.passes c.push_page.ensures.passes;
      later = le_trans inv.later c.push_page.ensures.ends.later;
      running = read_runs _ _ _ c.in_ok-push_page.ensures.ends ∙ inv.running;
      sound = c.push_page.ensures.sound;
    }

pub push_page-requires-clause-mapped : goal.push_page-requires-clause-mapped
push_page-requires-clause-mapped g c = subst (λ f. IsMapped c.args.shape.now f) (sym c.loop-at.invariant.looks.looks.words) c.requires.mapped

pub push_page-requires-clause-file : goal.push_page-requires-clause-file
push_page-requires-clause-file g c = subst (λ f. (placed_at f c.args.i.0).kind ≡ 2) (sym c.loop-at.invariant.looks.looks.words) c.requires.file

pub push_page-requires-clause-size : goal.push_page-requires-clause-size
push_page-requires-clause-size g c = subst (λ f. (placed_at f c.args.i.0).size ≡ c.args.size) (sym c.loop-at.invariant.looks.looks.words) c.requires.size

pub push_page-requires-clause-order : goal.push_page-requires-clause-order
push_page-requires-clause-order g c = omega (arith, c.min-to.ensures, c.loop-at-test.true)

pub push_page-requires-clause-page : goal.push_page-requires-clause-page
push_page-requires-clause-page g c = omega (arith, c.min-to.ensures)

pub push_page-requires-clause-within : goal.push_page-requires-clause-within
push_page-requires-clause-within g c = omega (arith, c.min-to.ensures, c.loop-at-test.true, c.requires.within)

pub returns-clause-ends : goal.returns-clause-ends
returns-clause-ends g c = ends_read_ok _ _ _ c.loop-at.invariant.later c.loop-at.invariant.running

pub returns-in_err-push_page-clause-ends : goal.returns-in_err-push_page-clause-ends
returns-in_err-push_page-clause-ends g c = let p = err_from_is_err_and c.from_residual.result c.from_residual.ensures.1 in ends_by_after _ _ _ _ _ c.loop-at.invariant.later c.loop-at.invariant.running (ends_read _ _ c.push_page.result c.from_residual.result _ p.0 c.in_err-push_page.was p.1 p.2 c.push_page.ensures.ends)

pub returns-in_err-push_page-clause-passes : goal.returns-in_err-push_page-clause-passes
returns-in_err-push_page-clause-passes g c = g.met.V.Blocks.passes_trans _ _ _ c.loop-at.invariant.passes c.push_page.ensures.passes

pub returns-in_err-push_page-clause-value : goal.returns-in_err-push_page-clause-value
returns-in_err-push_page-clause-value g c = if_err c.from_residual.result _ c.from_residual.ensures.0
