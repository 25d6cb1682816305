use Rattle.std.proofs.Common.{refl, subst}
use Rattle.request_codec.specs.Words.{Takes}
use Rattle.request_codec.proofs.Meanings.{no_number_form, number_given}
use Rattle.request_codec.proofs.OneMeaning.{one_path_number}
use Rattle.request_codec.proofs.parse.parse_number.Goals as goal

pub returns-in_default : goal.returns-in_default
returns-in_default c = no_number_form c.args.word c.args.text.now (λ path n parts takes. c.in_default.ensures path n parts)

pub returns-then-not-takes : goal.returns-then-not-takes
returns-then-not-takes c = no_number_form c.args.word c.args.text.now (λ path n parts takes.
    let same = one_path_number c.args.text.now path n _ _ parts c.in-Some.ensures in
    cc (c.if-not-takes.ensures.1 (subst (λ m. Takes c.args.word m) same.1 takes)))

pub returns : goal.returns
returns c = number_given c.args.word c.args.text.now _ _ _ c.request.result c.in-Some.ensures (c.if-not-takes.ensures.0 refl) c.in_ok-path.ensures c.request.ensures
