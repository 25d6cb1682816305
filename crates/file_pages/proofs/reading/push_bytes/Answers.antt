use Rattle.file_pages.proofs.Common.{◌-◌, ◌*◌, ◌/◌, ◌%◌, ◌∙◌, ◌++◌, ap, arith, refl, slice_index}
use Rattle.rio_model.specs.Held.{byte_of}
use Rattle.file_pages.proofs.PageRead.{bytes_next, part_bytes}
use Rattle.file_pages.proofs.reading.push_bytes.Goals as goal

pub loop-at-preserved : goal.loop-at-preserved
loop-at-preserved c =
    let inv = c.loop-at.invariant in
    let at = c.loop-at.at in
    let first = at / 8 in
    let last = c.min-last.result in
    let end = c.min-end.result in
    let a = at - 8 * first in
    let words = c.args.words.now in
    let low = inv.low in
    let high = inv.high in
    let more = c.loop-at-test.true in
    let last_is = c.min-last.ensures in
    let end_is = c.min-end.ensures in
    let up = c.div_ceil.ensures in
    record {
      low = omega (arith, low, more, last_is, end_is, up);
      high = omega (arith, end_is);
      out = bytes_next (λ y. byte_of (slice_index words (y / 8)) (y % 8)) c.args.from at end at (end - 8 * first - a) c.args.out.now.items c.loop-at.out.items c.push_line.new.out.items low (omega (arith, more, last_is, end_is, up)) inv.out
          (c.in_ok-push_line.ensures ∙ ap (λ bs. c.loop-at.out.items ++ bs) (part_bytes words first (last - first) a (end - 8 * first - a) at (omega arith) (omega (arith, more, last_is, end_is, up)))) refl (omega (arith, more, last_is, end_is, up));
    }
