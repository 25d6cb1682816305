use Rattle.std.proofs.Common.{ℕ, ◌++◌, ap, decimal, flat_map}
use Rattle.std.specs.Prelude.{codes}
use Rattle.request_codec.specs.Text.{listed_name}
use Rattle.request_codec.proofs.Sendings.{cut_as, cut_more, puts_as, puts_cut, puts_then}
use Rattle.request_codec.proofs.reply_text.put_names.Goals as goal

pub returns-in_err-held : goal.returns-in_err-held
returns-in_err-held g c =
    let whole = ap (λ (n : ℕ). codes "ok " ++ decimal n ++ flat_map listed_name c.args.names.now) c.len.ensures in
    puts_cut c.from_residual.ensures.0 (cut_as whole (cut_more _ c.in_err-held.ensures.err))

pub returns : goal.returns
returns g c =
    let whole = ap (λ (n : ℕ). codes "ok " ++ decimal n ++ flat_map listed_name c.args.names.now) c.len.ensures in
    puts_as whole (puts_then c.in_ok-held.ensures.ok.sent c.put_each_name.ensures)
