use Rattle.std.specs.Prelude.{MatchResult, length}
use Rattle.std.proofs.Common.{subst, sym}
use Rattle.std.proofs.lemmas.Result.{err_from_is_err_and}
use Rattle.rio_model.specs.Censuses.{IsCensus}
use Rattle.warm_reboot.proofs.Examines.{census_standing, stands_settled, tells_none}
use Rattle.warm_reboot.specs.Examining.{TellsNoRule, Unexamined}
use Rattle.warm_reboot.proofs.examining.examine.Goals as goal

pub returns-in_err-machine-clause-standing : goal.returns-in_err-machine-clause-standing
returns-in_err-machine-clause-standing g c = λ s standing.
    let p = err_from_is_err_and c.from_residual.result c.from_residual.ensures.1 in
    let old = g.M.Machine.contents c.args.machine in
    let told = subst (λ e. Unexamined old (g.M.Machine.contents e.machine) (g.M.Machine.run e.machine) e.fail) (sym p.2) c.in_err-machine.ensures.unexamined in
    subst (λ z. MatchResult z (λ found. IsCensus s found.1) (λ failed. TellsNoRule failed.fail)) (sym p.1)
    (tells_none old (g.M.Machine.contents p.0.machine) (g.M.Machine.run p.0.machine) (length (g.M.Machine.run c.args.machine).scratch) s p.0.fail (g.met.M.Machine.whole_blocks c.args.machine) standing told)

pub returns-clause-standing : goal.returns-clause-standing
returns-clause-standing g c = λ s standing. census_standing (g.M.Machine.contents c.args.machine) (length (g.M.Machine.run c.args.machine).scratch) c.in_ok-machine.examined.census s (g.met.M.Machine.whole_blocks c.args.machine) c.in_ok-machine.ensures.examined standing

pub returns-clause-settled : goal.returns-clause-settled
returns-clause-settled g c = λ header none. stands_settled (g.M.Machine.contents c.args.machine) (g.M.Machine.run c.args.machine).scratch c.in_ok-machine.examined.census header c.requires.layout c.in_ok-machine.ensures.examined none
