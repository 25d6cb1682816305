use Rattle.cached_pages.proofs.Common.{◌∙◌, arith, sym}
use Rattle.cached_pages.proofs.WordRuns.{longer, whole}
use Rattle.cached_pages.proofs.early.are_same.Goals as goal

pub runs-preserved : goal.runs-preserved
runs-preserved c = record {
  within = omega (arith, c.runs-test.true);
  same = longer c.runs.at 16 c.args.a.now c.args.b.now c.runs.invariant.same (c.is_same_run.ensures c.if-not-is_same_run.false);
}

pub returns : goal.returns
returns c = λ told. whole c.runs.at c.args.a.now c.args.b.now c.runs.invariant.same (sym c.eq.ensures ∙ told)
