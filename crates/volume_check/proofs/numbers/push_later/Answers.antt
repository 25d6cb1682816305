use Rattle.volume_check.proofs.Common.{ℕ, ◌≡◌, ◌++◌, ◌-◌, ◌∙◌, ap, arith}
use Rattle.volume_check.specs.NodeBlocks.{numbers, page_numbers}
use Rattle.volume_check.proofs.NodeNumbers.{block_next, table_pushed}
use Rattle.volume_check.proofs.numbers.push_later.Goals as goal

pub loop-page-preserved : goal.loop-page-preserved
loop-page-preserved c =
    let inv = c.loop-page.invariant in
    record {
      from = omega (arith, inv.from);
      to = omega (arith, c.loop-page-test.true);
      found = λ n is. block_next (numbers c.args.blocks.now.items) n 24 c.loop-page.page c.loop-page.blocks.items c.push.new.self.items _ inv.from (inv.found n is) c.in_ok-push.ensures.items (c.number_in.ensures ∙ is c.loop-page.page inv.from c.loop-page-test.true);
    }

pub returns : goal.returns
returns c = λ n is table.
    let inv = c.loop-page.invariant in
    let all : c.loop-page.page ≡ c.args.count = omega (arith, c.loop-page-test.false, inv.to) in
    table_pushed (numbers c.args.blocks.now.items) n c.args.count c.loop-page.blocks.items c.push-2.new.self.items c.args.table
    (inv.found n is ∙ ap (λ (k : ℕ). numbers c.args.blocks.now.items ++ page_numbers n 24 (k - 24)) all) c.in_ok-push-2.ensures.items table
