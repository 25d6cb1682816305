use Rattle.file_pages.proofs.Common.{◌/◌, ◌∙◌, arith}
use Rattle.file_pages.proofs.Tails.{many_words, one_word, other_word}
use Rattle.file_pages.proofs.clearing.cleared_words.Goals as goal

pub returns-clause-first : goal.returns-clause-first
returns-clause-first c = one_word 512 (c.args.at / 8) _ (omega (arith, c.requires)) ∙ c.low_bytes.ensures

pub returns-clause-rest : goal.returns-clause-rest
returns-clause-rest c t away = other_word 512 (c.args.at / 8) _ t away

pub returns-clause-len : goal.returns-clause-len
returns-clause-len c = many_words 512 (c.args.at / 8) _
