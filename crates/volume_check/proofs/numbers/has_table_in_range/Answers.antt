use Rattle.volume_check.proofs.Common.{◌<◌, ◌∙◌, ap, arith, sym, pages}
use Rattle.volume_check.specs.Inodes.{said}
use Rattle.volume_check.specs.NodeBlocks.{InRange}
use Rattle.volume_check.proofs.NodeNumbers.{few_tables, free_tables, one_in_range}
use Rattle.volume_check.proofs.numbers.has_table_in_range.Goals as goal

pub returns-then-kind-eq0 : goal.returns-then-kind-eq0
returns-then-kind-eq0 c = λ s h. free_tables s c.args.inodes.now c.args.i.0 (InRange c.args.inodes.now.shape) h c.requires.ino (sym c.kind.ensures ∙ c.if-kind-eq0.true)

pub returns-then-page_count-le-DIRECT_PAGES : goal.returns-then-page_count-le-DIRECT_PAGES
returns-then-page_count-le-DIRECT_PAGES c = λ s h. few_tables s c.args.inodes.now c.args.i.0 c.page_count.result (InRange c.args.inodes.now.shape) h c.requires.ino (c.page_count.ensures.pages ∙ ap pages c.size.ensures) (omega arith)

pub returns : goal.returns
returns c = λ s h.
    let used : 0 < said c.args.inodes.now c.args.i.0 0 = omega (arith, c.kind.ensures) in
    let many : 24 < c.page_count.result = omega arith in
    one_in_range s c.args.inodes.now c.args.i.0 c.page_count.result (InRange c.args.inodes.now.shape) c.is_in_range.result c.indirect.result h c.requires.ino used (c.page_count.ensures.pages ∙ ap pages c.size.ensures) many c.indirect.ensures c.is_in_range.ensures
