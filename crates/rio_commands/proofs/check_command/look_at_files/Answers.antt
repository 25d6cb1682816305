use Rattle.rio_base.specs.Failures.{Rose}
use Rattle.pair_files.proofs.PairRules.{pair_loads}
use Rattle.rio_commands.proofs.Checking.{found_later, found_unloaded, sure_of_load}
use Rattle.rio_commands.proofs.check_command.look_at_files.Goals as goal

pub returns-in-Ok-clause-found : goal.returns-in-Ok-clause-found
returns-in-Ok-clause-found g c =
    found_later (g.H.Host.faults c.args.host) _ (g.H.Host.faults c.look_at_pair.result.1) _ _ _ _ c.in-Ok.ensures.later (c.look_at_pair.ensures.found _ _ _ c.in-Ok.ensures.image c.in-Ok.ensures.disk)

pub returns-in-Ok-clause-sure : goal.returns-in-Ok-clause-sure
returns-in-Ok-clause-sure g c = λ image disk s pair. c.look_at_pair.ensures.sure _ _ _ image disk s c.in-Ok.ensures.image c.in-Ok.ensures.disk pair

pub returns-in-Err-clause-found : goal.returns-in-Err-clause-found
returns-in-Err-clause-found g c = found_unloaded c.in-Err.fail _ _ _ _ _ c.unloaded.ensures c.in-Err.ensures.fails

pub returns-in-Err-clause-sure : goal.returns-in-Err-clause-sure
returns-in-Err-clause-sure g c = λ image disk s pair.
    sure_of_load c.in-Err.fail _ s c.unloaded.ensures (pair_loads _ _ _ image disk s (Rose (g.H.Host.faults c.args.host) (g.H.Host.faults c.in-Err.host)) c.in-Err.fail pair c.in-Err.ensures.fails)
