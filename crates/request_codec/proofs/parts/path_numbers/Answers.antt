use Rattle.request_codec.proofs.Cuts.{path_number_of, behind_path_number, path_number_then}
use Rattle.request_codec.proofs.parts.path_numbers.Goals as goal

pub returns-in_err-path : goal.returns-in_err-path
returns-in_err-path c = rw c.from_residual.ensures (λ path m n h. c.in_err-path.ensures path m h.rest_is.rest (path_number_of path m c.args.text.now h))

pub returns-in_err-second : goal.returns-in_err-second
returns-in_err-second c = rw c.from_residual-in_err-second.ensures (λ path m n h. c.in_err-second.ensures n (behind_path_number c.args.text.now _ _ _ path m c.in_ok-path.ensures h).2)

pub returns : goal.returns
returns c = path_number_then c.args.text.now _ _ _ c.in_ok-path.ensures c.in_ok-second.ensures
