use Rattle.std.proofs.Common.{◌≡◌, ◌≤◌, ◌^◌, ◌-◌, ◌+◌, true, length}
use Rattle.rio_base.specs.Streams.{IsSpent}
use Rattle.rio_base.specs.Volume.{LimitLasts}
use Rattle.line_loop.proofs.Turns.{TookEach}
use Rattle.line_loop.proofs.serving.serve_lines.Given as goal

-- the run so far, within the limit
abbrev pub invariant-loop-request : goal.invariant-loop-request
invariant-loop-request g l = record {
  took : TookEach g.C.LineServer.protocol g.C.LineServer.does (g.C.LineServer.holds l.fn.core) (g.C.LineServer.holds l.core) l.fn.reader (g.S.Source.left l.fn.source) l.reader (g.S.Source.left l.source) (g.K.Sink.written l.fn.sink) (g.K.Sink.written l.sink) l.waiting (g.C.LineServer.health l.fn.core) (g.C.LineServer.below l.fn.core) (g.C.LineServer.health l.core) (g.C.LineServer.below l.core);
  calm : l.gathering ≡ true → g.C.LineServer.calm (g.C.LineServer.below l.core);
  sound : g.C.LineServer.sound l.core;
  limit : LimitLasts (g.C.LineServer.below l.fn.core).limit (g.C.LineServer.below l.core).limit;
  within : l.reader.taken ≤ 2 ^ 40;
  later : g.S.Source.faults l.fn.source ≤ g.S.Source.faults l.source;
  steady : g.K.Sink.faults l.sink ≡ g.K.Sink.faults l.fn.sink;
  spent : l.reader.ended ≡ true → IsSpent (g.S.Source.left l.source);
}

-- what is still taken of the input at most, and what is held
abbrev pub decreases-loop-request : goal.decreases-loop-request
decreases-loop-request g l = (2 ^ 40 - l.reader.taken) + length l.reader.held
