use Rattle.std.proofs.Common.{length, ◌-◌, ◌≡◌, ◌≤◌}
use Rattle.std.specs.String.{string_bytes}
use Rattle.rio_base.specs.Hosts.{AsksFor}
use Rattle.rio_base.proofs.HostPieces.{HaveCome}
use Rattle.rio_base.proofs.host_reading.read_from.Given as goal

abbrev pub invariant-pieces : goal.invariant-pieces
invariant-pieces g l =
    let files = g.H.Host.files in
    let asked = g.H.Host.asked in
    let faults = g.H.Host.faults in
    record {
      kept : files l.host ≡ files l.fn.host;
      asks : AsksFor (string_bytes l.fn.name) (asked l.fn.host) (asked l.host);
      come : HaveCome (files l.fn.host) (string_bytes l.fn.name) l.fn.off l.done l.into;
      fits : l.done ≤ length l.into;
      room : length l.into ≡ length l.fn.into;
      later : faults l.fn.host ≤ faults l.host;
    }

abbrev pub decreases-pieces : goal.decreases-pieces
decreases-pieces g l = length l.initial.into - l.done
