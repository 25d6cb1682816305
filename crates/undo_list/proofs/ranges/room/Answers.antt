use Rattle.std.proofs.Common.{ap, arith, le_trans, sym, ℕ, ◌∙◌, ◌≡◌}
use Rattle.std.proofs.lemmas.Result.{err_from_is_err_and}
use Rattle.rio_base.proofs.BlockRules.{ends_later}
use Rattle.rio_base.proofs.RegionRules.{stays_trans}
use Rattle.rio_model.specs.Undo.{taken, undo_records}
use Rattle.undo_list.proofs.Frames.{region_at}
use Rattle.undo_list.proofs.Outcomes.{ends_err}
use Rattle.undo_list.proofs.ranges.room.Goals as goal

pub taken-requires-clause-head : goal.taken-requires-clause-head
taken-requires-clause-head g c = c.in_ok-header.ensures.header.head ∙ sym (ap (λ (w : ℕ → ℕ). w 3) c.read_header.ensures.words)

pub returns-in_err-header-clause-value : goal.returns-in_err-header-clause-value
returns-in_err-header-clause-value g c =
    let p = err_from_is_err_and c.from_residual.result c.from_residual.ensures.1 in
    rw (p.1) tt

pub returns-in_err-header-clause-ends : goal.returns-in_err-header-clause-ends
returns-in_err-header-clause-ends g c =
    let p = err_from_is_err_and c.from_residual.result c.from_residual.ensures.1 in
    ends_err _ _ c.read_header.result c.from_residual.result _ _ c.in_err-header.was p.1 p.2 c.read_header.ensures.ends

pub returns-in_err-used-clause-value : goal.returns-in_err-used-clause-value
returns-in_err-used-clause-value g c =
    let p = err_from_is_err_and c.from_residual-in_err-used.result c.from_residual-in_err-used.ensures.1 in
    rw (p.1) tt

pub returns-in_err-used-clause-words : goal.returns-in_err-used-clause-words
returns-in_err-used-clause-words g c = c.taken.ensures.words ∙ c.read_header.ensures.words

pub returns-in_err-used-clause-region : goal.returns-in_err-used-clause-region
returns-in_err-used-clause-region g c = region_at _ _ _ _ c.read_header.ensures.region c.taken.ensures.stays.count c.taken.ensures.words

pub returns-in_err-used-clause-stays : goal.returns-in_err-used-clause-stays
returns-in_err-used-clause-stays g c = stays_trans g.met.R.RegionWords.rest_trans c.read_header.ensures.stays c.taken.ensures.stays

pub returns-in_err-used-clause-ends : goal.returns-in_err-used-clause-ends
returns-in_err-used-clause-ends g c =
    let p = err_from_is_err_and c.from_residual-in_err-used.result c.from_residual-in_err-used.ensures.1 in
    ends_later _ _ _ _ c.read_header.ensures.ends.later c.in_ok-header.ensures.ends.cause (ends_err _ _ c.taken.result c.from_residual-in_err-used.result _ _ c.in_err-used.was p.1 p.2 c.taken.ensures.ends)

pub overflow_mul-result : goal.overflow_mul-result
overflow_mul-result g c = omega (arith, g.met.R.RegionWords.small c.args.r.now c.requires.ready, c.requires.region.size, c.in_ok-header.ensures.header.undo)

pub overflow_sub-result : goal.overflow_sub-result
overflow_sub-result g c =
    let used : c.in_ok-used.used ≡ taken (undo_records (g.R.RegionWords.words c.args.r.now)) = c.in_ok-used.ensures.value ∙ ap (λ (w : ℕ → ℕ). taken (undo_records w)) c.read_header.ensures.words in
    omega (arith, used, c.requires.region.room, c.in_ok-header.ensures.header.undo)

pub returns-clause-value : goal.returns-clause-value
returns-clause-value g c =
    let used : c.in_ok-used.used ≡ taken (undo_records (g.R.RegionWords.words c.args.r.now)) = c.in_ok-used.ensures.value ∙ ap (λ (w : ℕ → ℕ). taken (undo_records w)) c.read_header.ensures.words in
    omega (arith, used, c.requires.region.room, c.in_ok-header.ensures.header.undo)

pub returns-clause-words : goal.returns-clause-words
returns-clause-words g c = c.taken.ensures.words ∙ c.read_header.ensures.words

pub returns-clause-region : goal.returns-clause-region
returns-clause-region g c = region_at _ _ _ _ c.read_header.ensures.region c.taken.ensures.stays.count c.taken.ensures.words

pub returns-clause-stays : goal.returns-clause-stays
returns-clause-stays g c = stays_trans g.met.R.RegionWords.rest_trans c.read_header.ensures.stays c.taken.ensures.stays

pub returns-clause-ends : goal.returns-clause-ends
returns-clause-ends g c =
    let running = c.in_ok-used.ensures.ends.cause ∙ c.in_ok-header.ensures.ends.cause in
    record { later = le_trans c.read_header.ensures.ends.later c.taken.ensures.ends.later; stays = λ stopped. running ∙ stopped; cause = running }
