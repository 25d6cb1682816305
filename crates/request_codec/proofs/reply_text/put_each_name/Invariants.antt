use Rattle.std.proofs.Common.{flat_map, length, take, ◌≤◌}
use Rattle.request_codec.specs.Sending.{Sent}
use Rattle.request_codec.specs.Text.{listed_name}
use Rattle.request_codec.proofs.reply_text.put_each_name.Given as goal

abbrev pub invariant-names : goal.invariant-names
invariant-names g l =
    let written = g.K.Sink.written in
    let faults = g.K.Sink.faults in
    record {
      few : l.k ≤ length l.names;
      fits : l.held ≤ length l.room;
      sent : Sent (written l.fn.sink) (faults l.fn.sink) (take l.fn.held l.fn.room) (flat_map listed_name (take l.k l.names)) (written l.sink) (faults l.sink) (take l.held l.room);
    }
