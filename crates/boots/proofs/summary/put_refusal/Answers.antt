use Rattle.boots.specs.Summaries.{is_refusal}
use Rattle.boots.proofs.Tallies.{passing_few}
use Rattle.boots.proofs.summary.put_refusal.Goals as goal

pub refusals-requires : goal.refusals-requires
refusals-requires g c = passing_few (is_refusal c.args.number) c.args.runs.now c.requires.few

pub returns : goal.returns
returns g c = rw c.refusals.ensures at c.put_count.ensures
