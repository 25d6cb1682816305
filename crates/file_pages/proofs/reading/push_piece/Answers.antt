use Rattle.rio_base.proofs.BlockRules.{caches_trans, can_name_on}
use Rattle.rio_base.proofs.Rules.{looks_trans}
use Rattle.file_pages.specs.PageBytes.{block_byte}
use Rattle.node_pages.proofs.Ends.{ends_vol_read, ends_read_memory, ends_read_ok}
use Rattle.node_pages.proofs.EndsOn.{if_err}
use Rattle.file_pages.proofs.Common.{◌∙◌, ◌-◌, ◌++◌, ap, arith, err_from_is_err_and, subst, sym, map, range_with_len, OnOk, ends_by_after, ℕ, ◌<◌, ◌≡◌}
use Rattle.file_pages.proofs.PageRead.{run_block}
use Rattle.file_pages.proofs.reading.push_piece.Goals as goal

pub returns-in-Some-clause-bytes : goal.returns-in-Some-clause-bytes
returns-in-Some-clause-bytes g c = c.in_ok-push_bytes.ensures ∙ ap (λ bs. c.args.out.now.items ++ bs) (run_block _ _ c.args.b.0 c.args.from (c.args.to - c.args.from) c.in-Some.words.now c.word.ensures.looks.words c.in-Some.ensures.words (omega (arith, c.requires.order, c.requires.within)))

pub returns-in_err-word-clause-bytes : goal.returns-in_err-word-clause-bytes
returns-in_err-word-clause-bytes g c = if_err c.from_residual.result _ c.from_residual.ensures.0

pub returns-in_err-word-clause-ends : goal.returns-in_err-word-clause-ends
returns-in_err-word-clause-ends g c = let p = err_from_is_err_and c.from_residual.result c.from_residual.ensures.1 in ends_vol_read _ _ c.word.result c.from_residual.result _ p.0 c.in_err-word.was p.1 p.2 c.word.ensures.ends

pub returns-in_err-push_bytes-clause-bytes : goal.returns-in_err-push_bytes-clause-bytes
returns-in_err-push_bytes-clause-bytes g c = if_err c.from_residual-in_err-push_bytes.result _ c.from_residual-in_err-push_bytes.ensures.0

pub returns-in_err-push_bytes-clause-ends : goal.returns-in_err-push_bytes-clause-ends
returns-in_err-push_bytes-clause-ends g c = let p = err_from_is_err_and c.from_residual-in_err-push_bytes.result c.from_residual-in_err-push_bytes.ensures.1 in ends_read_memory _ _ c.from_residual-in_err-push_bytes.result p.0 p.1 p.2 c.word.ensures.ends.later c.in_ok-word.ensures.ends.cause

pub returns-in-Some-clause-ends : goal.returns-in-Some-clause-ends
returns-in-Some-clause-ends g c = ends_read_ok _ _ _ c.word.ensures.ends.later c.in_ok-word.ensures.ends.cause

pub returns-clause-bytes : goal.returns-clause-bytes
returns-clause-bytes g c = subst (λ f. OnOk c.push_copy.result (c.push_copy.new.out.items ≡ c.args.out.now.items ++ map (block_byte f c.args.b.0) (range_with_len c.args.from (c.args.to - c.args.from)))) c.word.ensures.looks.words c.push_copy.ensures.bytes

pub returns-clause-looks : goal.returns-clause-looks
returns-clause-looks g c = looks_trans _ _ _ c.word.ensures.looks c.push_copy.ensures.looks

pub returns-clause-caches : goal.returns-clause-caches
returns-clause-caches g c = caches_trans _ _ _ _ _ c.word.ensures.caches c.push_copy.ensures.caches

pub returns-clause-passes : goal.returns-clause-passes
returns-clause-passes g c = g.met.V.Blocks.passes_trans _ _ _ c.word.ensures.passes c.push_copy.ensures.passes

pub returns-clause-ends : goal.returns-clause-ends
returns-clause-ends g c = ends_by_after _ _ _ _ _ c.word.ensures.ends.later c.in_ok-word.ensures.ends.cause c.push_copy.ensures.ends

pub push_copy-requires-clause-name : goal.push_copy-requires-clause-name
push_copy-requires-clause-name g c = can_name_on _ _ _ _ c.requires.name c.word.ensures.caches

pub push_copy-requires-clause-block : goal.push_copy-requires-clause-block
push_copy-requires-clause-block g c = subst (λ (n : ℕ). c.args.b.0 < n) (sym c.word.ensures.looks.count) c.requires.block

pub page-requires-clause-block : goal.page-requires-clause-block
page-requires-clause-block g c = subst (λ (n : ℕ). c.args.b.0 < n) (sym c.word.ensures.looks.count) c.requires.block
