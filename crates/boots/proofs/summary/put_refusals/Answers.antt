use Rattle.std.proofs.Common.{◌≡◌, arith}
use Rattle.request_codec.proofs.Sendings.{puts_cut}
use Rattle.boots.specs.Summaries.{refusal_line, refusal_lines}
use Rattle.request_codec.proofs.Entries.{entries_cut, entries_more}
use Rattle.boots.proofs.Listing.{lines_are}
use Rattle.boots.proofs.summary.put_refusals.Goals as goal

pub returns-in_err-held : goal.returns-in_err-held
unfolding refusal_lines
returns-in_err-held g c =
    puts_cut c.from_residual.ensures.0
    (entries_cut (refusal_line c.args.runs.now) c.numbers.number c.args.numbers (omega (arith, c.numbers-test.true)) c.numbers.invariant.sent c.in_err-held.ensures.err)

pub numbers-preserved : goal.numbers-preserved
numbers-preserved g c = record {
  few = omega (arith, c.numbers-test.true);
  fits = c.in_ok-held.ensures.ok.fits;
  sent = entries_more (refusal_line c.args.runs.now) c.numbers.number c.numbers.invariant.sent c.in_ok-held.ensures.ok.sent;
}

pub returns : goal.returns
unfolding refusal_lines
returns g c =
    let ended : c.numbers.number ≡ c.args.numbers = omega (arith, c.numbers-test.false, c.numbers.invariant.few) in
    record {
      ok = record {
        fits = c.numbers.invariant.fits;
        sent = lines_are (refusal_line c.args.runs.now) ended c.numbers.invariant.sent;
      };
      err = tt;
    }
