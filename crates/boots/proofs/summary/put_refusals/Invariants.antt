use Rattle.std.proofs.Common.{flat_map, length, take, ◌≤◌}
use Rattle.std.specs.List.{range_with_len}
use Rattle.request_codec.specs.Sending.{Sent}
use Rattle.boots.specs.Summaries.{refusal_line}
use Rattle.boots.proofs.summary.put_refusals.Given as goal

abbrev pub invariant-numbers : goal.invariant-numbers
invariant-numbers g l =
    let written = g.K.Sink.written in
    let faults = g.K.Sink.faults in
    record {
      few : l.number ≤ l.numbers;
      fits : l.held ≤ length l.room;
      sent : Sent (written l.fn.sink) (faults l.fn.sink) (take l.fn.held l.fn.room) (flat_map (refusal_line l.runs) (range_with_len 0 l.number)) (written l.sink) (faults l.sink) (take l.held l.room);
    }
