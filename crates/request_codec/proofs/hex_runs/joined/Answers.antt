use Rattle.std.proofs.Common.{◌≡◌, ◌*◌, ◌+◌, ◌%◌, get_or, subst, sym}
use Rattle.request_codec.proofs.HexRuns.{top_at, tops}
use Rattle.request_codec.proofs.hex_runs.joined.Goals as goal

pub returns-clause-bytes : goal.returns-clause-bytes
returns-clause-bytes c k below =
    let xs = c.args.values in
    subst (λ weight. get_or (tops weight xs) k 0 ≡ (get_or xs (2 * k) 0 * 16 + get_or xs (2 * k + 1) 0) % 256) (sym c.requires) (top_at xs k c.fits-values.0 c.fits-values.1 below)
