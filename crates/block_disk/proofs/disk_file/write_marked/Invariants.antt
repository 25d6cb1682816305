use Rattle.std.proofs.Common.{◌≡◌, ◌≤◌, length}
use Rattle.std.specs.String.{string_bytes}
use Rattle.block_disk.specs.HostDisks.{around_of}
use Rattle.block_disk.proofs.HostDiskRules.{WrittenFirst}
use Rattle.block_disk.proofs.disk_file.write_marked.Given as goal

abbrev pub invariant-loop-i : goal.invariant-loop-i
invariant-loop-i g l =
    let files = g.H.Host.files in
    let asked = g.H.Host.asked in
    let faults = g.H.Host.faults in
    record {
      room : length l.room ≡ 4096;
      first : WrittenFirst (files l.host) (string_bytes l.fn.name) l.fn.words l.fn.marked.marks.items l.numbers l.i;
      around : around_of (files l.host) (asked l.host) (string_bytes l.fn.name) ≡ around_of (files l.fn.host) (asked l.fn.host) (string_bytes l.fn.name);
      later : faults l.fn.host ≤ faults l.host;
    }
