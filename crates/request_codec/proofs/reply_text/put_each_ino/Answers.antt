use Rattle.std.proofs.Common.{ℕ, ap, arith, decimal, ◌∷◌}
use Rattle.request_codec.specs.Text.{listed_ino}
use Rattle.request_codec.proofs.Sendings.{puts_cut}
use Rattle.request_codec.proofs.Texts.{each_cut, each_done, each_more, each_none}
use Rattle.request_codec.proofs.reply_text.put_each_ino.Goals as goal

pub returns-in_err-held : goal.returns-in_err-held
returns-in_err-held g c =
    let is = ap (λ (n : ℕ). 32 ∷ decimal n) c.from.ensures in
    puts_cut c.from_residual.ensures.0 (each_cut listed_ino _ _ _ c.inodes-test.true is c.inodes.invariant.sent c.in_err-held.ensures.err)

pub inodes-preserved : goal.inodes-preserved
inodes-preserved g c =
    let is = ap (λ (n : ℕ). 32 ∷ decimal n) c.from.ensures in
    record {
      few = omega arith;
      fits = c.in_ok-held.ensures.ok.fits;
      sent = each_more listed_ino _ _ _ c.inodes-test.true is c.inodes.invariant.sent c.in_ok-held.ensures.ok.sent;
    }

pub inodes-init : goal.inodes-init
inodes-init g c = record { few = omega arith; fits = c.requires; sent = each_none listed_ino c.args.inos.now }

pub returns : goal.returns
returns g c = each_done listed_ino c.args.inos.now _ _ _ (omega (arith, c.inodes-test.false)) c.inodes.invariant.fits c.inodes.invariant.sent
