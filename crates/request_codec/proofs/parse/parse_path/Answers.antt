use Rattle.std.proofs.Common.{refl}
use Rattle.request_codec.proofs.Meanings.{no_path_form, path_given}
use Rattle.request_codec.proofs.parse.parse_path.Goals as goal

pub returns-then-not-is_path : goal.returns-then-not-is_path
returns-then-not-is_path c = no_path_form c.args.word c.args.path.now (λ is. cc (c.if-not-is_path.ensures.1 is))

pub returns : goal.returns
returns c = path_given c.args.word c.args.path.now _ c.request.result (c.if-not-is_path.ensures.0 refl) c.in_ok-path.ensures c.request.ensures
