use Rattle.vista_region.proofs.Common.{◌∙◌, ◌++◌, ap, live, err_from_is_err_and}
use Rattle.vista_region.proofs.Bytes.{bytes_read}
use Rattle.vista_region.proofs.Exits.{ends_get, read_ends, read_memory, unread_get, memory_get}
use Rattle.vista_region.proofs.runs.push_through.Goals as goal

pub returns-clause-bytes : goal.returns-clause-bytes
returns-clause-bytes g c = c.in_ok-push_line.ensures ∙ ap (λ bs. c.args.out.now.items ++ bs) (bytes_read (live (g.R.RegionWords.words c.args.r.now)) c.args.place _ _ c.args.from c.args.to c.in_ok-read_places.ensures.value c.requires.within)

pub returns-in_err-read_places-clause-told : goal.returns-in_err-read_places-clause-told
returns-in_err-read_places-clause-told g c =
    let p = err_from_is_err_and c.from_residual.result c.from_residual.ensures.1 in
    unread_get c.from_residual.result _ _ p.1 p.2

pub returns-in_err-read_places-clause-bytes : goal.returns-in_err-read_places-clause-bytes
returns-in_err-read_places-clause-bytes g c =
    let p = err_from_is_err_and c.from_residual.result c.from_residual.ensures.1 in
    rw (p.1) tt

pub returns-in_err-read_places-clause-ends : goal.returns-in_err-read_places-clause-ends
returns-in_err-read_places-clause-ends g c =
    let p = err_from_is_err_and c.from_residual.result c.from_residual.ensures.1 in
    ends_get _ _ c.read_places.result c.from_residual.result _ _ c.in_err-read_places.was p.1 p.2 c.read_places.ensures.ends

pub returns-in_err-push_line-clause-told : goal.returns-in_err-push_line-clause-told
returns-in_err-push_line-clause-told g c =
    let p = err_from_is_err_and c.from_residual-in_err-push_line.result c.from_residual-in_err-push_line.ensures.1 in
    memory_get c.from_residual-in_err-push_line.result _ p.1 p.2

pub returns-in_err-push_line-clause-bytes : goal.returns-in_err-push_line-clause-bytes
returns-in_err-push_line-clause-bytes g c =
    let p = err_from_is_err_and c.from_residual-in_err-push_line.result c.from_residual-in_err-push_line.ensures.1 in
    rw (p.1) tt

pub returns-in_err-push_line-clause-ends : goal.returns-in_err-push_line-clause-ends
returns-in_err-push_line-clause-ends g c =
    let p = err_from_is_err_and c.from_residual-in_err-push_line.result c.from_residual-in_err-push_line.ensures.1 in
    read_memory _ _ c.from_residual-in_err-push_line.result _ p.1 p.2 c.read_places.ensures.ends.later c.in_ok-read_places.ensures.ends.cause

pub returns-clause-ends : goal.returns-clause-ends
returns-clause-ends g c = read_ends _ _ _ c.read_places.ensures.ends.later c.in_ok-read_places.ensures.ends.cause
