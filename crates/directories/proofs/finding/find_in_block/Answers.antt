use Rattle.rio_base.proofs.Frames.{read_then, read_ok, read_value, read_on, read_word}
use Rattle.rio_base.proofs.Rules.{looks_trans}
use Rattle.rio_base.proofs.BlockRules.{caches_trans, can_name_on}
use Rattle.directories.specs.Reading.{FindsIn}
use Rattle.directories.proofs.Common.{BlockWords, IfOk, arith, subst, sym, ℕ, ◌<◌}
use Rattle.directories.proofs.Found.{finds_read}
use Rattle.directories.proofs.finding.find_in_block.Goals as goal

pub returns-in-Some-clause-value : goal.returns-in-Some-clause-value
returns-in-Some-clause-value g c = finds_read _ _ c.args.b.0 c.args.count c.in-Some.words.now c.args.name.now c.find_in.result c.word.ensures.looks.words c.requires.few c.requires.key.few c.in-Some.ensures.words c.find_in.ensures

pub word-requires-clause-place : goal.word-requires-clause-place
word-requires-clause-place g c = record { block = c.requires.block; word = omega arith }

pub page-requires-clause-block : goal.page-requires-clause-block
page-requires-clause-block g c = subst (λ (n : ℕ). c.args.b.0 < n) (sym c.word.ensures.looks.count) c.requires.block

pub find_in_copy-requires-clause-block : goal.find_in_copy-requires-clause-block
find_in_copy-requires-clause-block g c = subst (λ (n : ℕ). c.args.b.0 < n) (sym c.word.ensures.looks.count) c.requires.block

pub find_in_copy-requires-clause-can_name : goal.find_in_copy-requires-clause-can_name
find_in_copy-requires-clause-can_name g c = can_name_on _ _ _ _ c.requires.can_name c.word.ensures.caches

pub returns-clause-caches : goal.returns-clause-caches
returns-clause-caches g c = caches_trans _ _ _ _ _ c.word.ensures.caches c.find_in_copy.ensures.caches

pub returns-clause-value : goal.returns-clause-value
returns-clause-value g c = subst (λ (f : BlockWords). IfOk c.find_in_copy.result (FindsIn (f c.args.b.0) c.args.count c.args.name.now)) c.word.ensures.looks.words c.find_in_copy.ensures.value

pub returns-clause-read : goal.returns-clause-read
returns-clause-read g c = read_then g.met.V.Blocks.passes_trans looks_trans (read_ok c.word.result _ c.in_ok-word.was (read_word c.word.result c.word.ensures.looks c.word.ensures.passes c.word.ensures.ends c.word.ensures.sound)) c.find_in_copy.ensures.read

pub returns-in_err-word-clause-read : goal.returns-in_err-word-clause-read
returns-in_err-word-clause-read g c = read_on c.word.result c.from_residual.result c.in_err-word.was c.from_residual.ensures.1 (read_word c.word.result c.word.ensures.looks c.word.ensures.passes c.word.ensures.ends c.word.ensures.sound)

pub returns-in-Some-clause-read : goal.returns-in-Some-clause-read
returns-in-Some-clause-read g c = read_value _ (read_ok c.word.result _ c.in_ok-word.was (read_word c.word.result c.word.ensures.looks c.word.ensures.passes c.word.ensures.ends c.word.ensures.sound))
