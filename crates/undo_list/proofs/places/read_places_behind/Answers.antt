use Rattle.std.proofs.Common.{ap, arith, ◌∙◌}
use Rattle.std.proofs.lemmas.Result.{IfOk-weaker}
use Rattle.undo_list.proofs.Frames.{region_at}
use Rattle.undo_list.proofs.places.read_places_behind.Goals as goal

pub read_run-requires-clause-place : goal.read_run-requires-clause-place
read_run-requires-clause-place g c = omega (arith, c.requires.region.size, c.requires.place, c.requires.undo)

pub returns-clause-region : goal.returns-clause-region
returns-clause-region g c = region_at _ _ _ _ c.requires.region c.read_run.ensures.stays.count c.read_run.ensures.words

pub returns-clause-value : goal.returns-clause-value
returns-clause-value g c =
    let f = g.R.RegionWords.words c.args.r.now in
    IfOk-weaker c.read_run.result _ _ (λ v is. record { each = λ i small. is.each i small ∙ ap f (omega (arith, c.requires.undo)) }) c.read_run.ensures.value
