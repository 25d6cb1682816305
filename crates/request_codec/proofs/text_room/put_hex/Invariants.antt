use Rattle.std.proofs.Common.{length, ◌-◌, ◌≤◌, take}
use Rattle.hex.specs.Hex.{encode_lower}
use Rattle.request_codec.specs.Sending.{Sent}
use Rattle.request_codec.proofs.text_room.put_hex.Given as goal

abbrev pub invariant-chunks : goal.invariant-chunks
invariant-chunks g l =
    let written = g.K.Sink.written in
    let faults = g.K.Sink.faults in
    record {
      few : l.done ≤ length l.bytes;
      fits : l.held ≤ length l.room;
      sent : Sent (written l.fn.sink) (faults l.fn.sink) (take l.fn.held l.fn.room) (encode_lower (take l.done l.bytes)) (written l.sink) (faults l.sink) (take l.held l.room);
    }

abbrev pub decreases-chunks : goal.decreases-chunks
decreases-chunks g l = length l.bytes - l.done
