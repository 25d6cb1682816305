use Rattle.node_pages.proofs.Common.{◌<◌, ◌∙◌, arith, length, length-set, subst}
use Rattle.node_pages.specs.Updating.{IsEditRun}
use Rattle.node_pages.proofs.Updated.{run_more}
use Rattle.node_pages.proofs.updating.gather_run.Goals as goal

pub loop-n-preserved : goal.loop-n-preserved
loop-n-preserved c =
    let inv = c.loop-n.invariant in
    let few : c.loop-n.n < length c.args.edits.now = omega (arith, c.loop-n-test.true, c.min-most.ensures) in
    let room : c.loop-n.n < length c.loop-n.values = omega (arith, c.loop-n-test.true, c.min-most.ensures, inv.long) in
    record {
      long = length-set c.loop-n.values c.loop-n.n _ ∙ inv.long;
      run = run_more c.args.edits.now c.loop-n.values c.loop-n.n _ _ inv.run few room (c.follows.ensures c.if-not-follows.false);
    }

pub returns-then-not-follows-clause-some : goal.returns-then-not-follows-clause-some
returns-then-not-follows-clause-some c = c.loop-n.auto.n

pub returns-then-not-follows-clause-most : goal.returns-then-not-follows-clause-most
returns-then-not-follows-clause-most c = omega (arith, c.loop-n-test.true, c.min-most.ensures)

pub returns-then-not-follows-clause-within : goal.returns-then-not-follows-clause-within
returns-then-not-follows-clause-within c = omega (arith, c.loop-n-test.true, c.min-most.ensures)

pub returns-clause-some : goal.returns-clause-some
returns-clause-some c = omega (arith, c.requires.some, c.min-most.ensures)

pub returns-clause-most : goal.returns-clause-most
returns-clause-most c = omega (arith, c.min-most.ensures)

pub returns-clause-within : goal.returns-clause-within
returns-clause-within c = omega (arith, c.min-most.ensures)

pub returns-clause-run : goal.returns-clause-run
returns-clause-run c = subst (λ m. IsEditRun c.args.edits.now c.loop-n.values m) (omega (arith, c.loop-n-test.false, c.loop-n.auto.n-end, c.requires.some, c.min-most.ensures)) c.loop-n.invariant.run
