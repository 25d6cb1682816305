use Rattle.std.proofs.Common.{◌∙◌}
use Rattle.std.proofs.lemmas.Result.{err_from_is_err_and}
use Rattle.recov_alloc.proofs.Outcomes.{ends_err}
use Rattle.recov_alloc.proofs.fitting.look_in_pages.Goals as goal

pub returns-in_err-read_places_behind-clause-ends : goal.returns-in_err-read_places_behind-clause-ends
returns-in_err-read_places_behind-clause-ends g c =
    let p = err_from_is_err_and c.from_residual.result c.from_residual.ensures.1 in
    ends_err _ _ c.read_places_behind.result c.from_residual.result _ _ c.in_err-read_places_behind.was p.1 p.2 c.read_places_behind.ensures.ends

pub returns-in_err-read_places_behind-clause-run : goal.returns-in_err-read_places_behind-clause-run
returns-in_err-read_places_behind-clause-run g c =
    let p = err_from_is_err_and c.from_residual.result c.from_residual.ensures.1 in
    rw (p.1) tt

pub returns-in_err-read_places_behind-clause-scan : goal.returns-in_err-read_places_behind-clause-scan
returns-in_err-read_places_behind-clause-scan g c =
    let p = err_from_is_err_and c.from_residual.result c.from_residual.ensures.1 in
    rw (p.1) tt

pub returns-clause-ends : goal.returns-clause-ends
returns-clause-ends g c = record { later = c.read_places_behind.ensures.ends.later; stays = λ stopped. c.in_ok-read_places_behind.ensures.ends.cause ∙ stopped; cause = c.in_ok-read_places_behind.ensures.ends.cause }
