use Rattle.volume_check.proofs.Common.{ℕ, ◌≡◌, ◌++◌, ◌∙◌, ap, arith, sym}
use Rattle.std.proofs.lemmas.List.{append-nil}
use Rattle.volume_check.specs.Inodes.{layout_of}
use Rattle.volume_check.specs.NodeBlocks.{numbers, page_numbers}
use Rattle.volume_check.proofs.NodeNumbers.{block_more, direct_said}
use Rattle.volume_check.proofs.numbers.push_direct.Goals as goal

pub loop-page-init : goal.loop-page-init
loop-page-init c = record { to = omega arith; found = λ s h. sym (append-nil _) }

pub loop-page-preserved : goal.loop-page-preserved
loop-page-preserved c =
    let inv = c.loop-page.invariant in
    let less = c.loop-page-test.true in
    let end = c.requires.end in
    record {
      to = omega (arith, less);
      found = λ s h. block_more (numbers c.args.blocks.now.items) ((layout_of s c.args.inodes.now).node c.args.i.0) 0 c.loop-page.page c.loop-page.page c.loop-page.blocks.items c.push.new.self.items _ (omega arith) (inv.found s h) c.in_ok-push.ensures.items (c.direct.ensures ∙ direct_said s c.args.inodes.now c.args.i.0 c.loop-page.page h c.requires.ino (omega (arith, less, end)));
    }

pub direct-requires-clause-page : goal.direct-requires-clause-page
direct-requires-clause-page c = omega (arith, c.loop-page-test.true, c.requires.end)

pub returns : goal.returns
returns c = λ s h.
    let inv = c.loop-page.invariant in
    let all : c.loop-page.page ≡ c.args.end = omega (arith, c.loop-page-test.false, inv.to) in
    inv.found s h ∙ ap (λ (k : ℕ). numbers c.args.blocks.now.items ++ page_numbers ((layout_of s c.args.inodes.now).node c.args.i.0) 0 k) all
