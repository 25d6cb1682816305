use Rattle.std.proofs.Common.{arith}
use Rattle.request_codec.proofs.Sendings.{puts_cut}
use Rattle.rio_commands.specs.Registry.{entry_line}
use Rattle.request_codec.proofs.Entries.{entries_cut, entries_more}
use Rattle.rio_commands.proofs.registry_listing.put_entries.Goals as goal

pub returns-in_err-held : goal.returns-in_err-held
returns-in_err-held g c =
    puts_cut c.from_residual.ensures.0
    (entries_cut (entry_line (g.M.Machine.contents c.args.m.now).words) c.entries.k _ (omega (arith, c.entries-test.true, c.entries.invariant.count)) c.entries.invariant.sent c.in_err-held.ensures.err)

pub entries-preserved : goal.entries-preserved
entries-preserved g c = record {
  few = omega (arith, c.entries-test.true);
  count = c.entries.invariant.count;
  fits = c.in_ok-held.ensures.ok.fits;
  sent = entries_more (entry_line (g.M.Machine.contents c.args.m.now).words) c.entries.k c.entries.invariant.sent c.in_ok-held.ensures.ok.sent;
}
