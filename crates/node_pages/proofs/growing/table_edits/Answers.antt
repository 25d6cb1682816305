use Rattle.node_pages.proofs.Common.{◌≡◌, ◌-◌, ◌∙◌, map, ap, arith, numbers, run_edits}
use Rattle.node_pages.specs.Changes.{new_word, word_edit}
use Rattle.node_pages.proofs.Runs.{run_next}
use Rattle.node_pages.proofs.growing.table_edits.Goals as goal

pub loop-w-preserved : goal.loop-w-preserved
loop-w-preserved c =
    let v = new_word c.args.last c.args.have c.args.want (numbers c.args.taken.now) in
    record {
      from = omega (arith, c.loop-w.invariant.from);
      to = omega (arith, c.loop-w-test.true);
      edits = run_next c.args.table.0 v c.args.first c.loop-w.w c.loop-w.edits.items c.push.new.self.items _ c.loop-w.invariant.from c.loop-w.invariant.edits c.in_ok-push.ensures.items (ap (λ x. record { block = c.args.table.0; word = c.loop-w.w; value = x }) c.new_word-value.ensures);
    }

pub returns : goal.returns
returns c =
    let v = new_word c.args.last c.args.have c.args.want (numbers c.args.taken.now) in
    let at : c.loop-w.w ≡ c.args.end = omega (arith, c.loop-w-test.false, c.loop-w.invariant.to) in
    ap (map word_edit) c.from.ensures ∙ c.loop-w.invariant.edits ∙ ap (λ w. run_edits c.args.table.0 v c.args.first (w - c.args.first)) at
