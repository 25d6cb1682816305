use Rattle.std.proofs.Common.{◌∙◌, arith}
use Rattle.std.proofs.lemmas.Result.{IfOk-from_err}
use Rattle.image_codec.proofs.Rules.{bytes_back, words_back}
use Rattle.image_codec.proofs.image.words_of.Goals as goal

pub returns-in_err-words-clause-bytes : goal.returns-in_err-words-clause-bytes
returns-in_err-words-clause-bytes c = IfOk-from_err c.from_residual.result _ c.from_residual.ensures.0

pub returns-in_err-words-clause-words : goal.returns-in_err-words-clause-words
returns-in_err-words-clause-words c = IfOk-from_err c.from_residual.result _ c.from_residual.ensures.0

pub fill_words-requires : goal.fill_words-requires
fill_words-requires c = omega (arith, c.deref_mut.ensures.len, c.in_ok-words.ensures.len, c.requires)

pub returns-clause-bytes : goal.returns-clause-bytes
returns-clause-bytes c = bytes_back c.args.bytes.now c.fill_words.new.into _ c.in_ok-words.words.len (c.fill_words.auto.into ∙ c.deref_mut.ensures.len) c.fill_words.ensures.bytes

pub returns-clause-words : goal.returns-clause-words
returns-clause-words c = words_back c.args.bytes.now c.fill_words.new.into _ c.in_ok-words.words.len (c.fill_words.auto.into ∙ c.deref_mut.ensures.len) c.fill_words.ensures.words
