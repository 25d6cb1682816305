use Rattle.rio_base.proofs.Frames.{read_then, read_ok, read_word, filled_value, filled_memory, filled_read}
use Rattle.std.specs.Prelude.{OnOk}
use Rattle.directories.specs.Entries.{name_in}
use Rattle.rio_base.proofs.Rules.{looks_trans}
use Rattle.rio_base.proofs.BlockRules.{caches_trans, can_name_on}
use Rattle.directories.proofs.Common.{arith, subst, sym, ℕ, ◌<◌, BlockWords, map, range_with_len, ◌%◌, ◌*◌, ◌++◌, ◌/◌, ◌^◌, ◌≡◌, ◌≤◌}
use Rattle.directories.proofs.Listed.{names_read, short_read}
use Rattle.directories.proofs.listing.push_block_names.Goals as goal

pub returns-in-Some-clause-value : goal.returns-in-Some-clause-value
returns-in-Some-clause-value g c = names_read _ _ c.args.b.0 c.args.count c.in-Some.words.now c.args.names.now c.push_names.new.names c.word.ensures.looks.words c.requires.few c.requires.short c.in-Some.ensures.words c.in_ok-push_names.ensures

pub word-requires-clause-place : goal.word-requires-clause-place
word-requires-clause-place g c = record { block = c.requires.block; word = omega arith }

pub page-requires-clause-block : goal.page-requires-clause-block
page-requires-clause-block g c = subst (λ (n : ℕ). c.args.b.0 < n) (sym c.word.ensures.looks.count) c.requires.block

pub push_copied_names-requires-clause-block : goal.push_copied_names-requires-clause-block
push_copied_names-requires-clause-block g c = subst (λ (n : ℕ). c.args.b.0 < n) (sym c.word.ensures.looks.count) c.requires.block

pub push_copied_names-requires-clause-can_name : goal.push_copied_names-requires-clause-can_name
push_copied_names-requires-clause-can_name g c = can_name_on _ _ _ _ c.requires.can_name c.word.ensures.caches

pub returns-clause-caches : goal.returns-clause-caches
returns-clause-caches g c = caches_trans _ _ _ _ _ c.word.ensures.caches c.push_copied_names.ensures.caches

pub push_copied_names-requires-clause-short : goal.push_copied_names-requires-clause-short
push_copied_names-requires-clause-short g c = subst (λ (f : BlockWords). (k : ℕ) → k < c.args.count → f c.args.b.0 (8 * k) / 2 ^ 32 % 2 ^ 8 ≤ 56) (sym c.word.ensures.looks.words) c.requires.short

pub returns-clause-value : goal.returns-clause-value
returns-clause-value g c = subst (λ (f : BlockWords). OnOk c.push_copied_names.result (c.push_copied_names.new.names ≡ c.args.names.now ++ map (name_in (f c.args.b.0)) (range_with_len 0 c.args.count))) c.word.ensures.looks.words c.push_copied_names.ensures.value

pub push_names-requires-clause-short : goal.push_names-requires-clause-short
push_names-requires-clause-short g c = short_read _ _ c.args.b.0 c.args.count c.in-Some.words.now c.word.ensures.looks.words c.requires.few c.requires.short c.in-Some.ensures.words

pub returns-clause-read : goal.returns-clause-read
returns-clause-read g c = read_then g.met.V.Blocks.passes_trans looks_trans (read_ok c.word.result _ c.in_ok-word.was (read_word c.word.result c.word.ensures.looks c.word.ensures.passes c.word.ensures.ends c.word.ensures.sound)) c.push_copied_names.ensures.read

pub returns-in_err-word-clause-read : goal.returns-in_err-word-clause-read
returns-in_err-word-clause-read g c = filled_read c.word.result c.from_residual.result c.in_err-word.was c.from_residual.ensures.1 (read_word c.word.result c.word.ensures.looks c.word.ensures.passes c.word.ensures.ends c.word.ensures.sound)

pub returns-in-Some-clause-read : goal.returns-in-Some-clause-read
returns-in-Some-clause-read g c = filled_value _ (read_ok c.word.result _ c.in_ok-word.was (read_word c.word.result c.word.ensures.looks c.word.ensures.passes c.word.ensures.ends c.word.ensures.sound))

pub returns-in_err-push_names-clause-read : goal.returns-in_err-push_names-clause-read
returns-in_err-push_names-clause-read g c = filled_memory c.from_residual-in_err-push_names.result c.from_residual-in_err-push_names.ensures.1 (read_ok c.word.result _ c.in_ok-word.was (read_word c.word.result c.word.ensures.looks c.word.ensures.passes c.word.ensures.ends c.word.ensures.sound))
