use Rattle.registry.specs.ViewLaws.{viewed_refl}
use Rattle.warm_reboot.proofs.Outcomes.{err_as, no_rule_so, runs_viewed, unbooted_so}
use Rattle.warm_reboot.proofs.booting.boot_looked.Goals as goal

pub returns-in-Ok-clause-no_rule : goal.returns-in-Ok-clause-no_rule
returns-in-Ok-clause-no_rule g c = err_as c.boot_examined.result _ _ (λ e h. no_rule_so (g.M.Machine.contents c.args.machine) (g.M.Machine.contents e.machine) (g.M.Machine.run c.args.machine) (g.M.Machine.run e.machine) e.fail h) c.boot_examined.ensures.cut

pub returns-in-Ok-clause-unbooted : goal.returns-in-Ok-clause-unbooted
returns-in-Ok-clause-unbooted g c = err_as c.boot_examined.result _ _ (λ e h. unbooted_so (g.M.Machine.contents c.args.machine) (g.M.Machine.contents e.machine) (g.M.Machine.run c.args.machine) (g.M.Machine.run e.machine) e.fail h) c.boot_examined.ensures.cut

pub returns-in-Err-clause-unbooted : goal.returns-in-Err-clause-unbooted
returns-in-Err-clause-unbooted g c = viewed_refl _ _

pub returns-in-Err-clause-runs : goal.returns-in-Err-clause-runs
returns-in-Err-clause-runs g c = runs_viewed (g.M.Machine.contents c.args.machine) (g.M.Machine.contents c.args.machine) (g.M.Machine.run c.args.machine) (g.M.Machine.run c.args.machine) (viewed_refl _ _)
