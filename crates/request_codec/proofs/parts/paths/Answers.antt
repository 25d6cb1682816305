use Rattle.std.proofs.Common.{refl, subst, sym}
use Rattle.rio_model.specs.Paths.{IsPath}
use Rattle.request_codec.proofs.Cuts.{path_of, behind_path, path_then}
use Rattle.request_codec.proofs.parts.paths.Goals as goal

pub returns-in_err-path : goal.returns-in_err-path
returns-in_err-path c = rw c.from_residual.ensures (λ path other h. c.in_err-path.ensures path h.rest (path_of path c.args.text.now h))

pub returns-then-is_path : goal.returns-then-is_path
returns-then-is_path c = path_then c.args.text.now _ _ c.in_ok-path.ensures (refl, c.if-is_path.ensures.0 refl)

pub returns-else-is_path : goal.returns-else-is_path
returns-else-is_path c = λ path other h.
    let behind = (behind_path c.args.text.now _ _ path c.in_ok-path.ensures h).1 in
    cc (c.if-is_path.ensures.1 (subst (λ xs. IsPath xs) (sym behind.0) behind.1))
