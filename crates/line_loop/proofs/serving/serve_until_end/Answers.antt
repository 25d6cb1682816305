use Rattle.std.proofs.Common.{refl, le_refl}
use Rattle.rio_base.specs.Rules.{limit_refl}
use Rattle.line_loop.proofs.Leaving.{memory_no_sink, memory_no_source, memory_no_stop, stop_no_sink, stop_no_source}
use Rattle.line_loop.proofs.Turns.{each_none, limit_kept}
use Rattle.line_loop.proofs.serving.serve_until_end.Goals as goal

pub returns-in_default-clause-run : goal.returns-in_default-clause-run
returns-in_default-clause-run g c =
    let server = g.C.LineServer in
    let old = c.args.core.now in
    each_none server.protocol (server.holds old) (server.stands old) (g.S.Source.left c.args.source.now) (g.K.Sink.written c.args.sink.now) (server.health old) (server.below old) g.met.C.LineServer.goes_none

pub returns-in_default-new-clause-run : goal.returns-in_default-new-clause-run
returns-in_default-new-clause-run g c =
    let server = g.C.LineServer in
    let old = c.args.core.now in
    each_none server.protocol (server.holds old) (server.stands old) (g.S.Source.left c.args.source.now) (g.K.Sink.written c.args.sink.now) (server.health old) (server.below old) g.met.C.LineServer.goes_none

pub returns-in-Ok-serve_lines-clause-limited : goal.returns-in-Ok-serve_lines-clause-limited
returns-in-Ok-serve_lines-clause-limited g c = limit_kept _ _ _ c.serve_lines.ensures.limit (g.met.C.LineServer.limited c.serve_lines.new.core)

pub returns-clause-limited : goal.returns-clause-limited
returns-clause-limited g c = limit_kept _ _ _ c.serve_lines.ensures.limit (g.met.C.LineServer.limited c.serve_lines.new.core)

pub returns-in_default-clause-limit : goal.returns-in_default-clause-limit
returns-in_default-clause-limit g c = limit_refl _

pub returns-in_default-clause-limited : goal.returns-in_default-clause-limited
returns-in_default-clause-limited g c = g.met.C.LineServer.limited c.args.core.now

pub returns-in_default-clause-source_fault : goal.returns-in_default-clause-source_fault
returns-in_default-clause-source_fault g c = memory_no_source

pub returns-in_default-clause-sink_fault : goal.returns-in_default-clause-sink_fault
returns-in_default-clause-sink_fault g c = memory_no_sink

pub returns-in_default-clause-stopped : goal.returns-in_default-clause-stopped
returns-in_default-clause-stopped g c = memory_no_stop

pub returns-in_default-clause-steady : goal.returns-in_default-clause-steady
returns-in_default-clause-steady g c = λ _. refl

pub returns-in_default-clause-later : goal.returns-in_default-clause-later
returns-in_default-clause-later g c = le_refl _

pub returns-in_default-clause-sink_later : goal.returns-in_default-clause-sink_later
returns-in_default-clause-sink_later g c = le_refl _

pub returns-in_default-new-clause-limit : goal.returns-in_default-new-clause-limit
returns-in_default-new-clause-limit g c = limit_refl _

pub returns-in_default-new-clause-limited : goal.returns-in_default-new-clause-limited
returns-in_default-new-clause-limited g c = g.met.C.LineServer.limited c.args.core.now

pub returns-in_default-new-clause-source_fault : goal.returns-in_default-new-clause-source_fault
returns-in_default-new-clause-source_fault g c = memory_no_source

pub returns-in_default-new-clause-sink_fault : goal.returns-in_default-new-clause-sink_fault
returns-in_default-new-clause-sink_fault g c = memory_no_sink

pub returns-in_default-new-clause-stopped : goal.returns-in_default-new-clause-stopped
returns-in_default-new-clause-stopped g c = memory_no_stop

pub returns-in_default-new-clause-steady : goal.returns-in_default-new-clause-steady
returns-in_default-new-clause-steady g c = λ _. refl

pub returns-in_default-new-clause-later : goal.returns-in_default-new-clause-later
returns-in_default-new-clause-later g c = le_refl _

pub returns-in_default-new-clause-sink_later : goal.returns-in_default-new-clause-sink_later
returns-in_default-new-clause-sink_later g c = le_refl _

pub returns-in-Ok-serve_lines-clause-stopped : goal.returns-in-Ok-serve_lines-clause-stopped
returns-in-Ok-serve_lines-clause-stopped g c = λ is. absurd (c.in-Ok-serve_lines.ensures.other is)

pub returns-clause-source_fault : goal.returns-clause-source_fault
returns-clause-source_fault g c = stop_no_source

pub returns-clause-sink_fault : goal.returns-clause-sink_fault
returns-clause-sink_fault g c = stop_no_sink

pub returns-clause-stopped : goal.returns-clause-stopped
returns-clause-stopped g c = λ _. c.in-Err.ensures.halted

pub returns-clause-steady : goal.returns-clause-steady
returns-clause-steady g c = λ _. c.in-Err.ensures.steady_stop
