use Rattle.page_cache.specs.Settled.{cache_settled}
use Rattle.rio_core.proofs.Machines.{holds_fits}
use Rattle.pair_serving.proofs.MachineLasts.{serve_lasts}
use Rattle.pair_serving.proofs.Scenes.{lasts_told, served_stands}
use Rattle.pair_serving.proofs.serving.serve_core.Goals as goal

pub returns-clause-served : goal.returns-clause-served
returns-clause-served g c = λ s holds served.
    let end = c.serve_until_end-end.ensures in
    rw c.end_of.ensures
    (served_stands _ _ _ _ _ _ _ _ _ _ _ _ (cache_settled _ _ _ end.sound) (g.met.M.Machine.protected_words c.into_machine-machine.result) c.into_machine-machine.ensures.tells (holds_fits _ _ _ _ _ _ s holds served.version)
    (record { source_fault = end.source_fault; sink_fault = end.sink_fault; steady = end.steady; stopped = end.stopped })
    (end.run s holds) c.trapped-trapped.ensures)

pub returns-clause-lasts : goal.returns-clause-lasts
returns-clause-lasts g c = lasts_told _ _ _ _ _ _ _ _ c.into_machine-machine.ensures.tells (serve_lasts _ _ _ _ _ _ _ _ _ _ _ _ (c.serve_until_end-end.ensures.run c.requires.holds.0 c.requires.holds.1))
