use Rattle.std.proofs.Common.{arith, refl}
use Rattle.request_codec.specs.Text.{listed_name}
use Rattle.request_codec.proofs.Sendings.{puts_cut}
use Rattle.request_codec.proofs.Texts.{each_cut, each_done, each_more, each_none}
use Rattle.request_codec.proofs.reply_text.put_each_name.Goals as goal

pub returns-in_err-held : goal.returns-in_err-held
returns-in_err-held g c = puts_cut c.from_residual.ensures.0 (each_cut listed_name _ _ _ (omega (arith, c.names-test.true, c.len-k-end.ensures)) refl c.names.invariant.sent c.in_err-held.ensures.err)

pub names-preserved : goal.names-preserved
names-preserved g c = record {
  few = omega (arith, c.names-test.true, c.len-k-end.ensures);
  fits = c.in_ok-held.ensures.ok.fits;
  sent = each_more listed_name _ _ _ (omega (arith, c.names-test.true, c.len-k-end.ensures)) refl c.names.invariant.sent c.in_ok-held.ensures.ok.sent;
}

pub names-init : goal.names-init
names-init g c = record { few = omega arith; fits = c.requires; sent = each_none listed_name c.args.names.now }

pub returns : goal.returns
returns g c = each_done listed_name c.args.names.now _ _ _ (omega (arith, c.names-test.false, c.len-k-end.ensures)) c.names.invariant.fits c.names.invariant.sent
