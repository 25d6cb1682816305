use Rattle.std.proofs.Common.{ap, arith, le_refl, refl, subst, sym, ℕ, ◌+◌, ◌∙◌, ◌≤◌}
use Rattle.std.proofs.lemmas.Result.{err_from_is_err_and}
use Rattle.rio_base.proofs.BlockRules.{ends_later}
use Rattle.rio_base.proofs.RegionRules.{stays_trans}
use Rattle.rio_model.specs.Undo.{places}
use Rattle.undo_list.proofs.Covers.{told_at}
use Rattle.undo_list.proofs.Frames.{region_at}
use Rattle.undo_list.proofs.Outcomes.{ends_err, stays_none}
use Rattle.undo_list.proofs.covering.covered.Goals as goal

pub word-requires-clause-place : goal.word-requires-clause-place
word-requires-clause-place g c = omega (arith, g.met.R.RegionWords.small c.args.r.now c.requires.ready, c.requires.region.size)

pub returns-in_err-head-clause-region : goal.returns-in_err-head-clause-region
returns-in_err-head-clause-region g c = region_at _ _ _ _ c.requires.region c.word.ensures.stays.count c.word.ensures.words

pub returns-in_err-head-clause-ends : goal.returns-in_err-head-clause-ends
returns-in_err-head-clause-ends g c =
    let p = err_from_is_err_and c.from_residual.result c.from_residual.ensures.1 in
    ends_err _ _ c.word.result c.from_residual.result _ _ c.in_err-head.was p.1 p.2 c.word.ensures.ends

pub returns-in_err-head-clause-value : goal.returns-in_err-head-clause-value
returns-in_err-head-clause-value g c =
    let p = err_from_is_err_and c.from_residual.result c.from_residual.ensures.1 in
    rw (p.1) tt

pub returns-then-count-eq0-clause-stays : goal.returns-then-count-eq0-clause-stays
returns-then-count-eq0-clause-stays g c = stays_none c.args.r.now (g.met.R.RegionWords.rest_refl c.args.r.now) c.requires.ready

pub returns-then-count-eq0-clause-ends : goal.returns-then-count-eq0-clause-ends
returns-then-count-eq0-clause-ends g c = record { later = le_refl (g.R.RegionWords.health c.args.r.now).faults; stays = λ stopped. stopped; cause = refl }

pub returns-then-count-eq0-clause-value : goal.returns-then-count-eq0-clause-value
returns-then-count-eq0-clause-value g c = λ q low high. absurd (omega (arith, c.if-count-eq0.true))

pub covered_from_head-requires-clause-region : goal.covered_from_head-requires-clause-region
covered_from_head-requires-clause-region g c = region_at _ _ _ _ c.requires.region c.word.ensures.stays.count c.word.ensures.words

pub covered_from_head-requires-clause-head : goal.covered_from_head-requires-clause-head
covered_from_head-requires-clause-head g c = c.in_ok-head.ensures.value ∙ sym (ap (λ (w : ℕ → ℕ). w 3) c.word.ensures.words)

pub covered_from_head-requires-clause-place : goal.covered_from_head-requires-clause-place
covered_from_head-requires-clause-place g c = subst (λ (w : ℕ → ℕ). c.args.place + c.args.count ≤ places w) (sym c.word.ensures.words) c.requires.place

pub returns-clause-words : goal.returns-clause-words
returns-clause-words g c = c.covered_from_head.ensures.words ∙ c.word.ensures.words

pub returns-clause-stays : goal.returns-clause-stays
returns-clause-stays g c = stays_trans g.met.R.RegionWords.rest_trans c.word.ensures.stays c.covered_from_head.ensures.stays

pub returns-clause-ends : goal.returns-clause-ends
returns-clause-ends g c = ends_later _ _ _ _ c.word.ensures.ends.later c.in_ok-head.ensures.ends.cause c.covered_from_head.ensures.ends

pub returns-clause-value : goal.returns-clause-value
returns-clause-value g c = told_at (g.R.RegionWords.words c.args.r.now) (g.R.RegionWords.words c.word.new.self) c.args.place c.args.count c.covered_from_head.result c.word.ensures.words c.covered_from_head.ensures.value
