use Rattle.file_pages.proofs.Common.{Err, ap, sym, ◌∙◌}
use Rattle.file_pages.specs.Extending.{told_after}
use Rattle.file_pages.proofs.extending.told_after.Goals as goal

pub returns-in-Ok : goal.returns-in-Ok
returns-in-Ok c = ap (told_after c.args.done) (sym c.in-Ok.is)

pub returns-in-Err : goal.returns-in-Err
returns-in-Err c = ap Err c.failed_after.ensures ∙ ap (told_after c.args.done) (sym c.in-Err.is)
