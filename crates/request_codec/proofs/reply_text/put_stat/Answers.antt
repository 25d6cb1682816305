use Rattle.std.proofs.Common.{refl}
use Rattle.request_codec.proofs.Sendings.{cut_as, cut_more, puts_as, puts_cut, puts_then}
use Rattle.request_codec.proofs.Texts.{stat_text}
use Rattle.request_codec.proofs.reply_text.put_stat.Goals as goal

pub returns-in_err-held : goal.returns-in_err-held
returns-in_err-held g c =
    let whole = stat_text c.args.ino c.args.kind c.args.size _ _ c.from.ensures refl in
    puts_cut c.from_residual.ensures.0 (cut_as whole (cut_more _ c.in_err-held.ensures.err))

pub returns : goal.returns
returns g c =
    let whole = stat_text c.args.ino c.args.kind c.args.size _ _ c.from.ensures refl in
    puts_as whole (puts_then c.in_ok-held.ensures.ok.sent c.put_kind.ensures)
