use Rattle.std.proofs.Common.{ap, not, ◌∙◌}
use Rattle.rio_commands.proofs.ServeEndings.{serve_runs_as}
use Rattle.rio_commands.proofs.serve_command.serve_pair.Goals as goal

pub work_on_pair-end-requires-clause-asks : goal.work_on_pair-end-requires-clause-asks
work_on_pair-end-requires-clause-asks g c = λ causes set armed gathers. (set ∙ c.is_none.ensures ∙ ap not gathers, armed)

pub returns-clause-runs : goal.returns-clause-runs
returns-clause-runs g c =
    serve_runs_as _ _ _ _ _ _ _ _ _ c.work_on_pair-end.result.0 c.tell_end.ensures.status c.work_on_pair-end.ensures.ended c.tell_end.ensures.steady c.tell_end.ensures.later c.tell_end.ensures.line c.work_on_pair-end.ensures.began c.work_on_pair-end.ensures.parted
