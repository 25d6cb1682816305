use Rattle.directories.proofs.Common.{◌≡◌, ◌+◌, ◌-◌, map, ap, arith, slice_index, word_edit}
use Rattle.directories.proofs.PushedEdits.{edit_next}
use Rattle.directories.proofs.storing.push_edits.Goals as goal

pub loop-t-preserved : goal.loop-t-preserved
loop-t-preserved c =
    let e = c.args.entry.now in
    let back : c.loop-t.t ≡ e.first + c.loop-t.t - e.first = omega arith in
    record {
      edits = edit_next (map word_edit c.args.edits.now.items) e.block.0 (λ w. slice_index e.words (w - e.first)) e.first c.loop-t.t c.loop-t.edits.items c.push_reserved.new.self.items _ c.loop-t.invariant.edits c.push_reserved.ensures.items (ap (λ t. record { block = e.block.0; word = e.first + c.loop-t.t; value = slice_index e.words t }) back);
      len = omega (arith, c.push_reserved.ensures.len, c.loop-t.invariant.len);
      capacity = omega (arith, c.push_reserved.ensures.capacity, c.loop-t.invariant.capacity);
    }
