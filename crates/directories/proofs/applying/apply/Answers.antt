use Rattle.directories.proofs.Common.{sym, subst}
use Rattle.node_pages.specs.Updating.{IsTouched}
use Rattle.node_pages.proofs.Updated.{applied_as, can_update}
use Rattle.directories.proofs.applying.apply.Goals as goal

pub make_update-requires-clause-touched : goal.make_update-requires-clause-touched
make_update-requires-clause-touched g c = subst (λ es. IsTouched (g.V.Volume.kept c.args.v.now) c.args.change.now.dir.0 es) (sym c.as_slice.ensures) c.requires.touched

pub make_update-requires-clause-can : goal.make_update-requires-clause-can
make_update-requires-clause-can g c = can_update c.args.shape.now _ _ _ _ _ _ c.as_slice.ensures c.as_slice-2.ensures c.as_slice-3.ensures c.requires.can

pub returns-clause-ok : goal.returns-clause-ok
returns-clause-ok g c = applied_as c.args.shape.now c.args.change.now.dir.0 c.args.change.now.inode _ _ _ _ _ _ _ _ _ c.as_slice.ensures c.as_slice-2.ensures c.as_slice-3.ensures c.make_update.ensures.ok
