use Rattle.std.proofs.Common.{length, ◌-◌, ◌≤◌, [], drop}
use Rattle.request_codec.specs.Sending.{Sent}
use Rattle.request_codec.proofs.text_room.send.Given as goal

abbrev pub invariant-calls : goal.invariant-calls
invariant-calls g l =
    let written = g.K.Sink.written in
    let faults = g.K.Sink.faults in
    record {
      few : l.done ≤ length l.text;
      sent : Sent (written l.fn.sink) (faults l.fn.sink) [] l.text (written l.sink) (faults l.sink) (drop l.done l.text);
    }

abbrev pub decreases-calls : goal.decreases-calls
decreases-calls g l = length l.text - l.done
