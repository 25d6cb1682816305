use Rattle.std.proofs.Common.{refl, subst}
use Rattle.request_codec.specs.Words.{TakesBoth}
use Rattle.request_codec.proofs.Meanings.{no_numbers_form, numbers_given}
use Rattle.request_codec.proofs.OneMeaning.{one_path_numbers}
use Rattle.request_codec.proofs.parse.parse_numbers.Goals as goal

pub returns-in_default : goal.returns-in_default
returns-in_default c = no_numbers_form c.args.word c.args.text.now (λ path m n parts takes. c.in_default.ensures path m n parts)

pub returns-then-not-takes : goal.returns-then-not-takes
returns-then-not-takes c = no_numbers_form c.args.word c.args.text.now (λ path m n parts takes.
    let same = one_path_numbers c.args.text.now path m n _ _ _ parts c.in-Some.ensures in
    cc (c.if-not-takes.ensures.1 (subst (λ i. TakesBoth c.args.word i c.in-Some.second) same.1 (subst (λ j. TakesBoth c.args.word m j) same.2 takes))))

pub returns : goal.returns
returns c = numbers_given c.args.word c.args.text.now _ _ _ _ c.request.result c.in-Some.ensures (c.if-not-takes.ensures.0 refl) c.in_ok-path.ensures c.request.ensures
