use Rattle.vista_region.proofs.Common.{◌∙◌, ◌++◌, ap, arith}
use Rattle.vista_region.proofs.Bytes.{line_run}
use Rattle.vista_region.proofs.runs.push_line.Goals as goal

pub returns : goal.returns
returns c = c.in_ok-extend_from_slice.ensures.items ∙ ap (λ bs. c.args.out.now.items ++ bs) (line_run c.args.words.now _ c.args.from c.args.to _ c.write_u64_into.ensures (omega arith) c.requires.order c.requires.within)
