use Rattle.std.proofs.Common.{flat_map, length, take, ◌≤◌, ◌≡◌}
use Rattle.std.specs.List.{range_with_len}
use Rattle.request_codec.specs.Sending.{Sent}
use Rattle.rio_model.specs.Registry.{frames_of}
use Rattle.rio_commands.specs.Registry.{entry_line}
use Rattle.rio_commands.proofs.registry_listing.put_entries.Given as goal

abbrev pub invariant-entries : goal.invariant-entries
invariant-entries g l =
    let written = g.K.Sink.written in
    let faults = g.K.Sink.faults in
    let words = (g.M.Machine.contents l.fn.m).words in
    record {
      few : l.k ≤ l.frames;
      count : l.frames ≡ frames_of words;
      fits : l.held ≤ length l.room;
      sent : Sent (written l.fn.sink) (faults l.fn.sink) (take l.fn.held l.fn.room) (flat_map (entry_line words) (range_with_len 0 l.k)) (written l.sink) (faults l.sink) (take l.held l.room);
    }
