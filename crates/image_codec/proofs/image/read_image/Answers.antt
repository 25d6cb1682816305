use Rattle.std.proofs.Common.{arith, length, ap, ◌∙◌}
use Rattle.std.proofs.lemmas.Result.{err_from_is_err_and}
use Rattle.std.proofs.lemmas.List.Elements.{recursion_from_All}
use Rattle.image_codec.proofs.Rules.{image_from, only_err}
use Rattle.rio_base.proofs.Bytes.{length-bytes_of, same_words}
use Rattle.image_codec.proofs.image.read_image.Goals as goal

pub returns-in_err-check_header-clause-only : goal.returns-in_err-check_header-clause-only
returns-in_err-check_header-clause-only c = λ words fits same image.
    let p = err_from_is_err_and c.from_residual.result c.from_residual.ensures.1 in
    rw (p.1, p.2) (only_err c.args.bytes.now words _ c.in_err-check_header.ensures.0 c.in_err-check_header.ensures.1 fits same image)

pub words_of-requires : goal.words_of-requires
words_of-requires c = omega (arith, c.in_ok-check_header.ensures.long.whole)

pub returns-clause-words : goal.returns-clause-words
returns-clause-words c =
    let bytes = c.in_ok-words_of.ensures.bytes in
    (bytes, image_from c.args.bytes.now _ (ap length bytes ∙ length-bytes_of _) c.in_ok-words_of.ensures.words c.in_ok-check_header.ensures)

pub returns-clause-only : goal.returns-clause-only
returns-clause-only c = λ words fits same image.
    same_words words _ c.args.bytes.now (recursion_from_All _ words fits) same c.in_ok-words_of.ensures.bytes c.in_ok-words_of.ensures.words
