use Rattle.volume_check.proofs.Common.{err_from_is_err_and}
use Rattle.volume_check.proofs.Looking.{can_name, looked_failed, looked_ok, refused_handed}
use Rattle.volume_check.proofs.reading.read_words.Goals as goal

pub read_run-requires-clause-name : goal.read_run-requires-clause-name
read_run-requires-clause-name g c = can_name g.V.Blocks.seen g.V.Blocks.sound g.V.Blocks.passes c.args.v.now c.args.b.0 (g.met.V.Blocks.passes_refl c.args.v.now) c.requires.can

pub returns-in_err-read_run-clause-unrefused : goal.returns-in_err-read_run-clause-unrefused
returns-in_err-read_run-clause-unrefused g c =
    let p = err_from_is_err_and c.from_residual.result c.from_residual.ensures.1 in
    refused_handed (λ _ _. ⊥) c.from_residual.result _ p.0 p.1 p.2

pub returns-in_err-read_run-clause-looked : goal.returns-in_err-read_run-clause-looked
returns-in_err-read_run-clause-looked g c =
    let p = err_from_is_err_and c.from_residual.result c.from_residual.ensures.1 in
    looked_failed g.V.Blocks.seen g.V.Blocks.health g.V.Blocks.sound g.V.Blocks.passes _ _ c.read_run.result c.from_residual.result _ p.0 c.in_err-read_run.was p.1 p.2 c.read_run.ensures.looks c.read_run.ensures.passes c.read_run.ensures.ends c.read_run.ensures.sound

pub returns-clause-looked : goal.returns-clause-looked
returns-clause-looked g c = looked_ok g.V.Blocks.seen g.V.Blocks.health g.V.Blocks.sound g.V.Blocks.passes _ _ _ _ c.in_ok-read_run.ensures.looks c.in_ok-read_run.ensures.passes c.in_ok-read_run.ensures.ends c.in_ok-read_run.ensures.sound tt
