use Rattle.node_pages.proofs.Listed.{number_at}
use Rattle.node_pages.proofs.Common.{◌≤◌, ◌∙◌, arith, min, numbers, ◌-◌, length-set}
use Rattle.node_pages.proofs.Runs.{direct_done, direct_next}
use Rattle.node_pages.proofs.growing.grown_inode.Goals as goal

pub returns-clause-direct : goal.returns-clause-direct
returns-clause-direct c = λ q few.
    let past : min c.args.want 24 ≤ c.loop-p.p = omega (arith, c.loop-p-test.false, c.min-p-end.ensures) in
    c.loop-p.invariant.direct q few ∙ direct_done c.args.old.now.direct c.args.have c.loop-p.p c.args.want (numbers c.args.taken.now) q few c.loop-p.invariant.until past

pub loop-p-preserved : goal.loop-p-preserved
loop-p-preserved c =
    let inv = c.loop-p.invariant in
    let test = c.loop-p-test.true in
    let until = c.min-p-end.ensures in
    let whole = inv.whole in
    let low = c.loop-p.auto.p in
    let reach = c.requires.numbers in
    record {
      until = omega (arith, test, until);
      whole = length-set c.loop-p.direct c.loop-p.p _ ∙ whole;
      direct = λ q few. direct_next c.args.old.now.direct c.loop-p.direct c.args.have c.loop-p.p (numbers c.args.taken.now) _ q low (omega (arith, test, until, whole)) (number_at c.args.taken.now (c.loop-p.p - c.args.have) _ (omega (arith, test, until, low, reach))) (inv.direct q few);
    }
