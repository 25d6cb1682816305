use Rattle.rio_model.specs.Cover.{stands}
use Rattle.rio_model.specs.Placed.{volume_layout}
use Rattle.registry.specs.Views.{ViewSound, Viewed}
use Rattle.warm_reboot.proofs.MisfitWalk.{LeastBefore}
use Rattle.warm_reboot.proofs.misfits.least_misfit.Given as goal

abbrev pub invariant-loop-k : goal.invariant-loop-k
invariant-loop-k g l = record {
  sound : ViewSound (g.M.Machine.contents l.view.machine) (g.M.Machine.run l.view.machine) l.view.entries.items l.view.block.items l.view.held;
  viewed : Viewed (g.M.Machine.contents l.fn.view.machine) (g.M.Machine.contents l.view.machine) (g.M.Machine.run l.fn.view.machine) (g.M.Machine.run l.view.machine);
  least : LeastBefore (volume_layout l.shape (stands (g.M.Machine.contents l.fn.view.machine))) (g.M.Machine.contents l.fn.view.machine).words l.k l.least;
}
