use Rattle.pair_files.proofs.StageRules.{booted_served}
use Rattle.boots.proofs.ServedBoots.{booted_holds}
use Rattle.boots.proofs.serving.serve_cache.Goals as goal

pub serve_core-requires-clause-holds : goal.serve_core-requires-clause-holds
serve_core-requires-clause-holds g c =
    let s = c.requires.booted in
    rw (c.in-Ok.ensures.cache, c.in-Ok.ensures.shape, c.in-Ok.ensures.table) (s.0, booted_holds _ _ _ _ s.0 s.1, booted_served _ _ _ _ s.0 s.1)

pub returns-in_ok-run-in-Ok : goal.returns-in_ok-run-in-Ok
returns-in_ok-run-in-Ok g c = record {
  leads = λ s booted.
      rw c.in-Ok.ensures.cache at (c.in_ok-run-in-Ok.ensures.leads s (rw (c.in-Ok.ensures.cache, c.in-Ok.ensures.shape, c.in-Ok.ensures.table) (booted_holds _ _ _ _ s booted)) (booted_served _ _ _ _ s booted));
}
