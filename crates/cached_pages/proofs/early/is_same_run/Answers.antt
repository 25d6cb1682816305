use Rattle.cached_pages.proofs.WordRuns.{same_run}
use Rattle.cached_pages.proofs.early.is_same_run.Goals as goal

pub returns : goal.returns
returns c = same_run c.args.at c.args.a.now c.args.b.now c.requires.first c.requires.second
