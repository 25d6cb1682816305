use Rattle.rio_commands.proofs.serve_lines.tell_served.Goals as goal

pub returns-in-Ended-clause-line : goal.returns-in-Ended-clause-line
returns-in-Ended-clause-line g c = rw c.in-Ended.is c.tell_loop.ensures.line

pub returns-in-Trapped-clause-line : goal.returns-in-Trapped-clause-line
returns-in-Trapped-clause-line g c = rw c.in-Trapped.is c.tell_trap.ensures.line
