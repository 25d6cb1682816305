use Rattle.std.proofs.Common.{arith}
use Rattle.rio_server.proofs.Few.{few_answered, legal_drill}
use Rattle.rio_server.proofs.Runnable.{boots_of, sizes_of, volume_of}
use Rattle.rio_server.proofs.drill_command.drilled.Goals as goal

pub live-requires-clause-memory : goal.live-requires-clause-memory
live-requires-clause-memory c = sizes_of c.args.seed c.args.boots c.args.requests c.in_ok-plan.plan c.in_ok-plan.ensures

pub live-requires-clause-volume : goal.live-requires-clause-volume
live-requires-clause-volume c = volume_of c.args.seed c.args.boots c.args.requests c.in_ok-plan.plan c.in_ok-plan.ensures

pub live-requires-clause-boots : goal.live-requires-clause-boots
live-requires-clause-boots c = boots_of c.args.seed c.args.boots c.args.requests c.in_ok-plan.plan c.in_ok-plan.ensures

pub returns-clause-legal : goal.returns-clause-legal
returns-clause-legal c = legal_drill c.live.result c.in_ok-plan.ensures c.live.ensures.legal

pub returns-clause-few : goal.returns-clause-few
returns-clause-few c = few_answered c.args.seed c.args.boots c.args.requests c.live.result (omega arith) (omega arith) c.in_ok-plan.ensures c.live.ensures.legal
