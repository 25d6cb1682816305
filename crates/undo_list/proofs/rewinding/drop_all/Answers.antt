use Rattle.rio_model.proofs.UndoRules.{dropped_by}
use Rattle.undo_list.proofs.Frames.{drop_ends, drop_region}
use Rattle.undo_list.proofs.rewinding.drop_all.Goals as goal

pub returns-in_err-set-clause-either : goal.returns-in_err-set-clause-either
returns-in_err-set-clause-either g c = drop_ends _ _ _ c.requires.region c.set.ensures.either

pub returns-clause-ok : goal.returns-clause-ok
returns-clause-ok g c = dropped_by _ _ _ c.requires.region c.in_ok-set.ensures.ok

pub returns-clause-either : goal.returns-clause-either
returns-clause-either g c = drop_ends _ _ _ c.requires.region c.set.ensures.either

pub returns-in_err-set-clause-region : goal.returns-in_err-set-clause-region
returns-in_err-set-clause-region g c = drop_region (g.R.RegionWords.count c.args.r.now) _ (g.R.RegionWords.words c.args.r.now) (g.R.RegionWords.words c.set.new.self) c.requires.region c.set.ensures.stays.count (drop_ends _ _ _ c.requires.region c.set.ensures.either)

pub returns-clause-region : goal.returns-clause-region
returns-clause-region g c = drop_region (g.R.RegionWords.count c.args.r.now) _ (g.R.RegionWords.words c.args.r.now) (g.R.RegionWords.words c.set.new.self) c.requires.region c.set.ensures.stays.count (drop_ends _ _ _ c.requires.region c.set.ensures.either)
