use Rattle.pair_files.proofs.StageRules.{booted_served}
use Rattle.pair_serving.proofs.Scenes.{booted_holds, unserved}
use Rattle.pair_serving.proofs.pair_work.ServingPairWork.work.Goals as goal

pub serve_core-requires-clause-holds : goal.serve_core-requires-clause-holds
serve_core-requires-clause-holds g c =
    let s = c.requires.booted in
    rw (c.in-Ok.ensures.cache, c.in-Ok.ensures.shape, c.in-Ok.ensures.table) (s.0, booted_holds _ _ _ _ s.0 s.1, booted_served _ _ _ _ s.0 s.1)

pub serve_core-requires-clause-calm : goal.serve_core-requires-clause-calm
serve_core-requires-clause-calm g c = rw c.in-Ok.ensures.cache c.requires.asks

pub returns-in-Ok-clause-works : goal.returns-in-Ok-clause-works
returns-in-Ok-clause-works g c = λ s booted.
    rw c.in-Ok.ensures.cache at (c.serve_core.ensures.served s (rw (c.in-Ok.ensures.cache, c.in-Ok.ensures.shape, c.in-Ok.ensures.table) (booted_holds _ _ _ _ s booted)) (booted_served _ _ _ _ s booted))

pub returns-in-Err-clause-works : goal.returns-in-Err-clause-works
returns-in-Err-clause-works g c = λ s booted.
    let tells = rw (c.into_machine.ensures.machine, c.in-Err.ensures.back) at c.into_machine.ensures.tells in
    rw (c.into_machine.ensures.machine, c.in-Err.ensures.back) (unserved _ _ _ _ s _ booted c.requires.sound (g.met.M.Machine.protected_words c.args.cache.machine) tells)
