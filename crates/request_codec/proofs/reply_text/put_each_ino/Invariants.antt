use Rattle.std.proofs.Common.{flat_map, length, take, ◌≤◌}
use Rattle.request_codec.specs.Sending.{Sent}
use Rattle.request_codec.specs.Text.{listed_ino}
use Rattle.request_codec.proofs.reply_text.put_each_ino.Given as goal

abbrev pub invariant-inodes : goal.invariant-inodes
invariant-inodes g l =
    let written = g.K.Sink.written in
    let faults = g.K.Sink.faults in
    record {
      few : l.ino-index ≤ length l.inos;
      fits : l.held ≤ length l.room;
      sent : Sent (written l.fn.sink) (faults l.fn.sink) (take l.fn.held l.fn.room) (flat_map listed_ino (take l.ino-index l.inos)) (written l.sink) (faults l.sink) (take l.held l.room);
    }
