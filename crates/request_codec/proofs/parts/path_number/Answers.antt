use Rattle.request_codec.proofs.Cuts.{path_of, behind_path, path_then}
use Rattle.request_codec.proofs.parts.path_number.Goals as goal

pub returns-in_err-path : goal.returns-in_err-path
returns-in_err-path c = rw c.from_residual.ensures (λ path n h. c.in_err-path.ensures path h.rest (path_of path c.args.text.now h))

pub returns-in_err-number : goal.returns-in_err-number
returns-in_err-number c = rw c.from_residual-in_err-number.ensures (λ path n h. c.in_err-number.ensures n (behind_path c.args.text.now _ _ path c.in_ok-path.ensures h).1)

pub returns : goal.returns
returns c = path_then c.args.text.now _ _ c.in_ok-path.ensures c.in_ok-number.ensures
