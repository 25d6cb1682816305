use Rattle.held_runs.proofs.Guards.{halts_alike, makes_alike}
use Rattle.held_runs.proofs.unseen_stop.stop_is_unseen.Goals as goal

pub returns-clause-halts : goal.returns-clause-halts
returns-clause-halts c = halts_alike

pub returns-clause-makes : goal.returns-clause-makes
returns-clause-makes c = makes_alike
