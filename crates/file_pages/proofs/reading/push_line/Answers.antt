use Rattle.file_pages.proofs.Common.{◌∙◌, ◌++◌, ap, arith}
use Rattle.node_pages.proofs.ByteRuns.{line_run}
use Rattle.file_pages.proofs.reading.push_line.Goals as goal

pub returns : goal.returns
returns c = c.in_ok-extend_from_slice.ensures.items ∙ ap (λ bs. c.args.out.now.items ++ bs) (line_run c.args.words.now _ c.args.from c.args.to _ c.whole_bytes.ensures (omega arith) c.requires.order c.requires.within)
