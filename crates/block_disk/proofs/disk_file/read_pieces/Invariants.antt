use Rattle.std.proofs.Common.{◌≡◌, ◌≤◌, ◌-◌, length}
use Rattle.std.specs.String.{string_bytes}
use Rattle.rio_base.specs.Hosts.{AsksFor}
use Rattle.block_disk.proofs.FileReads.{HasFront}
use Rattle.block_disk.proofs.disk_file.read_pieces.Given as goal

abbrev pub invariant-pieces : goal.invariant-pieces
invariant-pieces g l =
    let files = g.H.Host.files in
    let asked = g.H.Host.asked in
    let faults = g.H.Host.faults in
    record {
      kept : files l.host ≡ files l.fn.host;
      asks : AsksFor (string_bytes l.fn.name) (asked l.fn.host) (asked l.host);
      front : HasFront (files l.fn.host) (string_bytes l.fn.name) l.words l.done;
      count : length l.words ≡ length l.fn.words;
      within : l.done ≤ length l.words;
      room : length l.room ≡ length l.fn.room;
      later : faults l.fn.host ≤ faults l.host;
    }

abbrev pub decreases-pieces : goal.decreases-pieces
decreases-pieces g l = length l.fn.words - l.done
