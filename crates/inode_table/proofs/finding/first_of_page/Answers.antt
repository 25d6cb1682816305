use Rattle.std.proofs.Common.{◌≡◌, arith, subst}
use Rattle.inode_table.proofs.Used.{KindsPass, free_page, used_page}
use Rattle.inode_table.proofs.finding.first_of_page.Goals as goal

pub returns-then-words-k-eq0 : goal.returns-then-words-k-eq0
returns-then-words-k-eq0 c = λ f first from start run. free_page f c.args.words.now first c.loop-k.k from start run c.loop-k-test.true c.loop-k.invariant c.if-words-k-eq0.true

pub returns : goal.returns
returns c = λ f first from start run.
    let all : c.loop-k.k ≡ 32 = omega arith in
    used_page f c.args.words.now first 32 from start run (omega arith) (subst (KindsPass c.args.words.now) all c.loop-k.invariant)
