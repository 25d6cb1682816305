use Rattle.std.proofs.Common.{arith, subst, sym, ℕ, ◌∙◌}
use Rattle.std.proofs.lemmas.Result.{err_from_is_err_and}
use Rattle.rio_base.proofs.BlockRules.{ends_later}
use Rattle.rio_base.proofs.RegionRules.{stays_trans}
use Rattle.undo_list.proofs.Frames.{region_at}
use Rattle.undo_list.specs.Records.{IsHeader}
use Rattle.recov_alloc.proofs.Outcomes.{ends_err}
use Rattle.recov_alloc.proofs.fitting.first_fit.Goals as goal

pub returns-in_err-at-clause-ends : goal.returns-in_err-at-clause-ends
returns-in_err-at-clause-ends g c =
    let p = err_from_is_err_and c.from_residual.result c.from_residual.ensures.1 in
    ends_err _ _ c.look_in_pages.result c.from_residual.result _ _ c.in_err-at.was p.1 p.2 c.look_in_pages.ensures.ends

pub returns-in_err-at-clause-value : goal.returns-in_err-at-clause-value
returns-in_err-at-clause-value g c =
    let p = err_from_is_err_and c.from_residual.result c.from_residual.ensures.1 in
    rw (p.1) tt

pub returns-in-Found-clause-ends : goal.returns-in-Found-clause-ends
returns-in-Found-clause-ends g c = record { later = c.look_in_pages.ensures.ends.later; stays = λ stopped. c.in_ok-at.ensures.ends.cause ∙ stopped; cause = c.in_ok-at.ensures.ends.cause }

pub returns-then-count-pages-clause-ends : goal.returns-then-count-pages-clause-ends
returns-then-count-pages-clause-ends g c = record { later = c.look_in_pages.ensures.ends.later; stays = λ stopped. c.in_ok-at.ensures.ends.cause ∙ stopped; cause = c.in_ok-at.ensures.ends.cause }

pub fit_from-requires-clause-region : goal.fit_from-requires-clause-region
fit_from-requires-clause-region g c = region_at _ _ _ _ c.requires.region c.look_in_pages.ensures.stays.count c.look_in_pages.ensures.words

pub fit_from-requires-clause-header : goal.fit_from-requires-clause-header
fit_from-requires-clause-header g c = subst (λ (w : ℕ → ℕ). IsHeader w c.args.header) (sym c.look_in_pages.ensures.words) c.requires.header

pub returns-clause-words : goal.returns-clause-words
returns-clause-words g c = c.fit_from.ensures.words ∙ c.look_in_pages.ensures.words

pub returns-clause-stays : goal.returns-clause-stays
returns-clause-stays g c = stays_trans g.met.R.RegionWords.rest_trans c.look_in_pages.ensures.stays c.fit_from.ensures.stays

pub returns-clause-ends : goal.returns-clause-ends
returns-clause-ends g c = ends_later _ _ _ _ c.look_in_pages.ensures.ends.later c.in_ok-at.ensures.ends.cause c.fit_from.ensures.ends

pub look_in_pages-requires-clause-before : goal.look_in_pages-requires-clause-before
look_in_pages-requires-clause-before g c = omega (arith, c.requires.units)

pub look_in_pages-requires-clause-within : goal.look_in_pages-requires-clause-within
look_in_pages-requires-clause-within g c = omega arith

pub look_in_pages-requires-clause-page : goal.look_in_pages-requires-clause-page
look_in_pages-requires-clause-page g c = omega (arith, c.min-count.ensures, c.requires.header.data_pages)

pub fit_from-requires-clause-from : goal.fit_from-requires-clause-from
fit_from-requires-clause-from g c = omega (arith, c.min-count.ensures)
