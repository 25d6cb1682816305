use Rattle.pair_serving.proofs.MachineLasts.{serve_lasts}
use Rattle.pair_serving.proofs.serving.serve.Goals as goal

pub returns-clause-lasts : goal.returns-clause-lasts
returns-clause-lasts g c = serve_lasts _ _ _ _ _ _ _ _ _ _ _ _ (c.serve_until_end.ensures.run c.requires.holds.0 c.requires.holds.1)
