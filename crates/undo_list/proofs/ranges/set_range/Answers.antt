use Rattle.std.specs.Prelude.{OnOk}
use Rattle.std.proofs.Common.{inl, subst, sym, ℕ, ◌+◌, ◌<◌, ◌∙◌, ◌≤◌}
use Rattle.std.proofs.lemmas.Result.{err_from_is_err_and}
use Rattle.rio_base.proofs.RegionRules.{stays_trans}
use Rattle.rio_base.proofs.Rules.{ends_by_after}
use Rattle.rio_model.proofs.UndoRules.{rests_undoes}
use Rattle.rio_model.specs.Undo.{places, taken, undo_records, undo_words}
use Rattle.undo_list.proofs.Frames.{either_from, gains_from, rests_from, rests_same, undoes_from}
use Rattle.undo_list.proofs.Outcomes.{ends_handed, never_full, on_ok}
use Rattle.undo_list.specs.Records.{IsHeader}
use Rattle.undo_list.proofs.ranges.set_range.Goals as goal

pub set_range_by_header-requires-clause-header : goal.set_range_by_header-requires-clause-header
set_range_by_header-requires-clause-header g c = subst (λ (w : ℕ → ℕ). IsHeader w c.in_ok-header.header) (sym c.read_header.ensures.words) c.in_ok-header.ensures.header

pub set_range_by_header-requires-clause-place : goal.set_range_by_header-requires-clause-place
set_range_by_header-requires-clause-place g c = subst (λ (w : ℕ → ℕ). c.args.place + c.args.count ≤ places w) (sym c.read_header.ensures.words) c.requires.place

pub returns-in_err-header-clause-ok : goal.returns-in_err-header-clause-ok
returns-in_err-header-clause-ok g c =
    let p = err_from_is_err_and c.from_residual.result c.from_residual.ensures.1 in
    rw (p.1) tt

pub returns-in_err-header-clause-room : goal.returns-in_err-header-clause-room
returns-in_err-header-clause-room g c =
    let p = err_from_is_err_and c.from_residual.result c.from_residual.ensures.1 in
    rw (p.1) tt

pub returns-in_err-header-clause-full : goal.returns-in_err-header-clause-full
returns-in_err-header-clause-full g c =
    let p = err_from_is_err_and c.from_residual.result c.from_residual.ensures.1 in
    λ full. absurd (never_full c.from_residual.result _ p.0 p.1 p.2 full)

pub returns-in_err-header-clause-refused : goal.returns-in_err-header-clause-refused
returns-in_err-header-clause-refused g c = λ full. c.read_header.ensures.words

pub returns-in_err-header-clause-fault : goal.returns-in_err-header-clause-fault
returns-in_err-header-clause-fault g c = λ fault. rests_same (g.R.RegionWords.count c.args.r.now) (g.R.RegionWords.words c.args.r.now) (g.R.RegionWords.words c.read_header.new.r) c.requires.region c.read_header.ensures.words

pub returns-in_err-header-clause-either : goal.returns-in_err-header-clause-either
returns-in_err-header-clause-either g c = inl (rests_same (g.R.RegionWords.count c.args.r.now) (g.R.RegionWords.words c.args.r.now) (g.R.RegionWords.words c.read_header.new.r) c.requires.region c.read_header.ensures.words)

pub returns-in_err-header-clause-before : goal.returns-in_err-header-clause-before
returns-in_err-header-clause-before g c =
    rests_undoes (g.R.RegionWords.count c.args.r.now) (g.R.RegionWords.words c.args.r.now) (g.R.RegionWords.words c.read_header.new.r) (rests_same (g.R.RegionWords.count c.args.r.now) (g.R.RegionWords.words c.args.r.now) (g.R.RegionWords.words c.read_header.new.r) c.requires.region c.read_header.ensures.words)

pub returns-in_err-header-clause-ends : goal.returns-in_err-header-clause-ends
returns-in_err-header-clause-ends g c =
    let p = err_from_is_err_and c.from_residual.result c.from_residual.ensures.1 in
    ends_handed _ _ c.read_header.result c.from_residual.result _ _ c.in_err-header.was p.1 p.2 c.read_header.ensures.ends

pub returns-clause-ok : goal.returns-clause-ok
returns-clause-ok g c =
    on_ok c.set_range_by_header.result _ _ (gains_from (g.R.RegionWords.count c.args.r.now) (g.R.RegionWords.count c.read_header.new.r) (g.R.RegionWords.words c.read_header.new.r) (g.R.RegionWords.words c.args.r.now) (g.R.RegionWords.words c.set_range_by_header.new.r) c.args.place c.args.count c.read_header.ensures.words c.read_header.ensures.stays.count) c.set_range_by_header.ensures.ok

pub returns-clause-room : goal.returns-clause-room
returns-clause-room g c = subst (λ (w : ℕ → ℕ). OnOk c.set_range_by_header.result (taken (undo_records w) + 3 + c.args.count ≤ undo_words w)) c.read_header.ensures.words c.set_range_by_header.ensures.room

pub returns-clause-full : goal.returns-clause-full
returns-clause-full g c = λ full. subst (λ (w : ℕ → ℕ). undo_words w < taken (undo_records w) + 3 + c.args.count) c.read_header.ensures.words (c.set_range_by_header.ensures.full full)

pub returns-clause-refused : goal.returns-clause-refused
returns-clause-refused g c = λ full. c.set_range_by_header.ensures.refused full ∙ c.read_header.ensures.words

pub returns-clause-fault : goal.returns-clause-fault
returns-clause-fault g c =
    λ fault. rests_from (g.R.RegionWords.count c.args.r.now) (g.R.RegionWords.count c.read_header.new.r) (g.R.RegionWords.words c.read_header.new.r) (g.R.RegionWords.words c.args.r.now) (g.R.RegionWords.words c.set_range_by_header.new.r) c.read_header.ensures.words c.read_header.ensures.stays.count (c.set_range_by_header.ensures.fault fault)

pub returns-clause-either : goal.returns-clause-either
returns-clause-either g c =
    either_from (g.R.RegionWords.count c.args.r.now) (g.R.RegionWords.count c.read_header.new.r) (g.R.RegionWords.words c.read_header.new.r) (g.R.RegionWords.words c.args.r.now) (g.R.RegionWords.words c.set_range_by_header.new.r) c.args.place c.args.count c.read_header.ensures.words c.read_header.ensures.stays.count c.set_range_by_header.ensures.either

pub returns-clause-before : goal.returns-clause-before
returns-clause-before g c =
    undoes_from (g.R.RegionWords.count c.args.r.now) (g.R.RegionWords.count c.read_header.new.r) (g.R.RegionWords.words c.read_header.new.r) (g.R.RegionWords.words c.args.r.now) (g.R.RegionWords.words c.set_range_by_header.new.r) c.read_header.ensures.words c.read_header.ensures.stays.count c.set_range_by_header.ensures.before

pub returns-clause-stays : goal.returns-clause-stays
returns-clause-stays g c = stays_trans g.met.R.RegionWords.rest_trans c.read_header.ensures.stays c.set_range_by_header.ensures.stays

pub returns-clause-ends : goal.returns-clause-ends
returns-clause-ends g c = ends_by_after _ _ _ _ _ c.read_header.ensures.ends.later c.in_ok-header.ensures.ends.cause c.set_range_by_header.ensures.ends
