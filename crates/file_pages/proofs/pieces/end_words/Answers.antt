use Rattle.file_pages.proofs.Common.{◌+◌, ◌-◌, ◌/◌, ◌<◌, ◌∙◌, BlockWords, ap, arith, err_from_is_err_and, le_trans, subst, sym}
use Rattle.rio_base.proofs.BlockRules.{caches_trans, can_name_on, ends_later}
use Rattle.rio_base.proofs.Rules.{looks_trans}
use Rattle.node_pages.proofs.EndsOn.{ends_vol, ends_vol_ok, if_err}
use Rattle.file_pages.proofs.Filled.{some_left}
use Rattle.file_pages.proofs.pieces.end_words.Goals as goal

pub own_word-requires-clause-place : goal.own_word-requires-clause-place
own_word-requires-clause-place g c = record { block = c.requires.block; word = omega (arith, c.requires.some, c.requires.within) }

pub own_word-requires-2-clause-name : goal.own_word-requires-2-clause-name
own_word-requires-2-clause-name g c = can_name_on _ _ _ _ c.requires.name c.own_word.ensures.caches

pub own_word-requires-2-clause-place : goal.own_word-requires-2-clause-place
own_word-requires-2-clause-place g c = record { block = subst (λ n. c.args.b.0 < n) (sym c.own_word.ensures.looks.count) c.requires.block; word = omega (arith, c.requires.some, c.requires.within) }

pub returns-clause-first : goal.returns-clause-first
returns-clause-first g c = λ some. c.in_ok-first.ensures.value (c.keeps_first.ensures some)

pub returns-clause-last : goal.returns-clause-last
returns-clause-last g c = λ some. c.in_ok-last.ensures.value (some_left _ some) ∙ ap (λ (f : BlockWords). f c.args.b.0 ((c.args.at + c.args.len - 1) / 8)) c.own_word.ensures.looks.words

pub returns-clause-looks : goal.returns-clause-looks
returns-clause-looks g c = looks_trans _ _ _ c.own_word.ensures.looks c.own_word-2.ensures.looks

pub returns-clause-caches : goal.returns-clause-caches
returns-clause-caches g c = caches_trans _ _ _ _ _ c.own_word.ensures.caches c.own_word-2.ensures.caches

pub returns-clause-passes : goal.returns-clause-passes
returns-clause-passes g c = g.met.V.Blocks.passes_trans _ _ _ c.own_word.ensures.passes c.own_word-2.ensures.passes

pub returns-clause-ends : goal.returns-clause-ends
returns-clause-ends g c = ends_vol_ok _ _ _ (le_trans c.own_word.ensures.ends.later c.own_word-2.ensures.ends.later) (c.in_ok-last.ensures.ends.cause ∙ c.in_ok-first.ensures.ends.cause)

pub returns-in_err-first-clause-first : goal.returns-in_err-first-clause-first
returns-in_err-first-clause-first g c = if_err c.from_residual.result _ c.from_residual.ensures.0

pub returns-in_err-first-clause-last : goal.returns-in_err-first-clause-last
returns-in_err-first-clause-last g c = if_err c.from_residual.result _ c.from_residual.ensures.0

pub returns-in_err-first-clause-ends : goal.returns-in_err-first-clause-ends
returns-in_err-first-clause-ends g c = let p = err_from_is_err_and c.from_residual.result c.from_residual.ensures.1 in ends_vol _ _ c.own_word.result c.from_residual.result _ p.0 c.in_err-first.was p.1 p.2 c.own_word.ensures.ends

pub returns-in_err-last-clause-first : goal.returns-in_err-last-clause-first
returns-in_err-last-clause-first g c = if_err c.from_residual-in_err-last.result _ c.from_residual-in_err-last.ensures.0

pub returns-in_err-last-clause-last : goal.returns-in_err-last-clause-last
returns-in_err-last-clause-last g c = if_err c.from_residual-in_err-last.result _ c.from_residual-in_err-last.ensures.0

pub returns-in_err-last-clause-looks : goal.returns-in_err-last-clause-looks
returns-in_err-last-clause-looks g c = looks_trans _ _ _ c.own_word.ensures.looks c.own_word-2.ensures.looks

pub returns-in_err-last-clause-caches : goal.returns-in_err-last-clause-caches
returns-in_err-last-clause-caches g c = caches_trans _ _ _ _ _ c.own_word.ensures.caches c.own_word-2.ensures.caches

pub returns-in_err-last-clause-passes : goal.returns-in_err-last-clause-passes
returns-in_err-last-clause-passes g c = g.met.V.Blocks.passes_trans _ _ _ c.own_word.ensures.passes c.own_word-2.ensures.passes

pub returns-in_err-last-clause-ends : goal.returns-in_err-last-clause-ends
returns-in_err-last-clause-ends g c = let p = err_from_is_err_and c.from_residual-in_err-last.result c.from_residual-in_err-last.ensures.1 in ends_later _ _ _ _ c.own_word.ensures.ends.later c.in_ok-first.ensures.ends.cause (ends_vol _ _ c.own_word-2.result c.from_residual-in_err-last.result _ p.0 c.in_err-last.was p.1 p.2 c.own_word-2.ensures.ends)
