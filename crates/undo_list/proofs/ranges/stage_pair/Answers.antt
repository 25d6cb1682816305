use Rattle.undo_list.proofs.Frames.{staged_pair}
use Rattle.undo_list.proofs.Outcomes.{on_word}
use Rattle.undo_list.proofs.ranges.stage_pair.Goals as goal

pub returns-clause-ok : goal.returns-clause-ok
returns-clause-ok g c =
    on_word c.set_run.result c.uncounted.result _ _ c.uncounted.ensures (staged_pair (g.R.RegionWords.words c.args.r.now) (g.R.RegionWords.words c.set_run.new.self) c.args.at c.args.head c.args.place _ c.args.first c.args.second c.from.ensures) c.set_run.ensures.ok
