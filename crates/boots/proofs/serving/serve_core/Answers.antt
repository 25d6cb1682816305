use Rattle.page_cache.specs.Settled.{cache_settled}
use Rattle.rio_core.proofs.Machines.{holds_fits}
use Rattle.boots.proofs.ServedBoots.{guards_machine, served_boot}
use Rattle.boots.proofs.serving.serve_core.Goals as goal

pub answer_all-served-requires-clause-holds : goal.answer_all-served-requires-clause-holds
answer_all-served-requires-clause-holds g c = (c.requires.holds.0, c.requires.holds.1)

pub returns : goal.returns
returns g c = record {
  leads = λ s holds served. (
      let all = c.answer_all-served.ensures in
      let serves = rw c.in_ok-answered.was at all.serves in
      let fits = holds_fits _ _ _ _ _ _ s holds served.version in
      rw c.served_run.ensures (served_boot _ _ _ _ _ _ s _ _ _ _ _ _ _ (cache_settled _ _ _ all.sound) (g.met.M.Machine.protected_words c.into_machine-machine.result) c.into_machine-machine.ensures.tells fits (guards_machine s (g.M.Machine.contents c.args.core.view.v.machine) (g.M.Machine.run c.args.core.view.v.machine) fits) (serves s holds))
      );
}
