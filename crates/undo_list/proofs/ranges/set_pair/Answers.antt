use Rattle.std.proofs.Common.{ap, sym, ◌∙◌, ◌+◌, ℕ, arith, inl, le_trans, subst, ◌≤◌}
use Rattle.std.proofs.lemmas.Result.{err_from_is_err_and}
use Rattle.rio_base.proofs.RegionRules.{stays_trans}
use Rattle.rio_base.proofs.Rules.{ends_by_after}
use Rattle.rio_model.proofs.UndoRules.{rests_undoes}
use Rattle.rio_model.specs.Undo.{live, places, taken, undo_records, undo_words}
use Rattle.undo_list.proofs.Frames.{undoes_from, either_undoes, either_from, either_region, gains_from, region_at, rests_from, rests_same}
use Rattle.undo_list.proofs.Outcomes.{ends_did, ends_full, ends_handed, is_fault, never_full, no_err}
use Rattle.undo_list.proofs.ranges.set_pair.Goals as goal

pub publish_pair-requires-clause-first : goal.publish_pair-requires-clause-first
publish_pair-requires-clause-first g c = c.requires.first ∙ sym (ap (λ (w : ℕ → ℕ). live w c.args.place) c.taken.ensures.words)

pub publish_pair-requires-clause-second : goal.publish_pair-requires-clause-second
publish_pair-requires-clause-second g c = c.requires.second ∙ sym (ap (λ (w : ℕ → ℕ). live w (c.args.place + 1)) c.taken.ensures.words)

pub returns-in_err-publish_pair-clause-before : goal.returns-in_err-publish_pair-clause-before
returns-in_err-publish_pair-clause-before g c =
    undoes_from (g.R.RegionWords.count c.args.r.now) (g.R.RegionWords.count c.taken.new.r) (g.R.RegionWords.words c.taken.new.r) (g.R.RegionWords.words c.args.r.now) (g.R.RegionWords.words c.publish_pair.new.r) c.taken.ensures.words c.taken.ensures.stays.count (either_undoes (g.R.RegionWords.count c.taken.new.r) (g.R.RegionWords.words c.taken.new.r) (g.R.RegionWords.words c.publish_pair.new.r) c.args.place 2 c.publish_pair.ensures.either)

pub returns-clause-before : goal.returns-clause-before
returns-clause-before g c =
    undoes_from (g.R.RegionWords.count c.args.r.now) (g.R.RegionWords.count c.taken.new.r) (g.R.RegionWords.words c.taken.new.r) (g.R.RegionWords.words c.args.r.now) (g.R.RegionWords.words c.publish_pair.new.r) c.taken.ensures.words c.taken.ensures.stays.count (either_undoes (g.R.RegionWords.count c.taken.new.r) (g.R.RegionWords.words c.taken.new.r) (g.R.RegionWords.words c.publish_pair.new.r) c.args.place 2 c.publish_pair.ensures.either)

pub publish_pair-requires-clause-region : goal.publish_pair-requires-clause-region
publish_pair-requires-clause-region g c = region_at _ _ _ _ c.requires.region c.taken.ensures.stays.count c.taken.ensures.words

pub publish_pair-requires-clause-at : goal.publish_pair-requires-clause-at
publish_pair-requires-clause-at g c = c.in_ok-at.ensures.value ∙ sym (ap (λ (w : ℕ → ℕ). taken (undo_records w)) c.taken.ensures.words)

pub publish_pair-requires-clause-head : goal.publish_pair-requires-clause-head
publish_pair-requires-clause-head g c = c.requires.header.head ∙ sym (ap (λ (w : ℕ → ℕ). w 3) c.taken.ensures.words)

pub publish_pair-requires-clause-place : goal.publish_pair-requires-clause-place
publish_pair-requires-clause-place g c = subst (λ (w : ℕ → ℕ). c.args.place + 2 ≤ places w) (sym c.taken.ensures.words) c.requires.place

pub publish_pair-requires-clause-room : goal.publish_pair-requires-clause-room
publish_pair-requires-clause-room g c = subst (λ (w : ℕ → ℕ). c.in_ok-at.at + 3 + 2 ≤ undo_words w) (sym c.taken.ensures.words) (omega (arith, c.requires.header.undo, c.if-header-at.false))

pub overflow_sub-header : goal.overflow_sub-header
overflow_sub-header g c = omega (arith, c.requires.header.undo, c.in_ok-at.ensures.value, c.requires.region.room)

pub returns-in_err-at-clause-ok : goal.returns-in_err-at-clause-ok
returns-in_err-at-clause-ok g c =
    let p = err_from_is_err_and c.from_residual.result c.from_residual.ensures.1 in
    rw (p.1) tt

pub returns-in_err-at-clause-room : goal.returns-in_err-at-clause-room
returns-in_err-at-clause-room g c =
    let p = err_from_is_err_and c.from_residual.result c.from_residual.ensures.1 in
    rw (p.1) tt

pub returns-in_err-at-clause-full : goal.returns-in_err-at-clause-full
returns-in_err-at-clause-full g c =
    let p = err_from_is_err_and c.from_residual.result c.from_residual.ensures.1 in
    λ full. absurd (never_full c.from_residual.result _ p.0 p.1 p.2 full)

pub returns-in_err-at-clause-refused : goal.returns-in_err-at-clause-refused
returns-in_err-at-clause-refused g c = λ full. c.taken.ensures.words

pub returns-in_err-at-clause-fault : goal.returns-in_err-at-clause-fault
returns-in_err-at-clause-fault g c = λ fault. rests_same (g.R.RegionWords.count c.args.r.now) (g.R.RegionWords.words c.args.r.now) (g.R.RegionWords.words c.taken.new.r) c.requires.region c.taken.ensures.words

pub returns-in_err-at-clause-either : goal.returns-in_err-at-clause-either
returns-in_err-at-clause-either g c = inl (rests_same (g.R.RegionWords.count c.args.r.now) (g.R.RegionWords.words c.args.r.now) (g.R.RegionWords.words c.taken.new.r) c.requires.region c.taken.ensures.words)

pub returns-in_err-at-clause-before : goal.returns-in_err-at-clause-before
returns-in_err-at-clause-before g c =
    rests_undoes (g.R.RegionWords.count c.args.r.now) (g.R.RegionWords.words c.args.r.now) (g.R.RegionWords.words c.taken.new.r) (rests_same (g.R.RegionWords.count c.args.r.now) (g.R.RegionWords.words c.args.r.now) (g.R.RegionWords.words c.taken.new.r) c.requires.region c.taken.ensures.words)

pub returns-in_err-at-clause-region : goal.returns-in_err-at-clause-region
returns-in_err-at-clause-region g c = region_at _ _ _ _ c.requires.region c.taken.ensures.stays.count c.taken.ensures.words

pub returns-in_err-at-clause-ends : goal.returns-in_err-at-clause-ends
returns-in_err-at-clause-ends g c =
    let p = err_from_is_err_and c.from_residual.result c.from_residual.ensures.1 in
    ends_handed _ _ c.taken.result c.from_residual.result _ _ c.in_err-at.was p.1 p.2 c.taken.ensures.ends

pub returns-then-header-at-clause-refused : goal.returns-then-header-at-clause-refused
returns-then-header-at-clause-refused g c = λ full. c.taken.ensures.words

pub returns-then-header-at-clause-fault : goal.returns-then-header-at-clause-fault
returns-then-header-at-clause-fault g c = λ fault. rests_same (g.R.RegionWords.count c.args.r.now) (g.R.RegionWords.words c.args.r.now) (g.R.RegionWords.words c.taken.new.r) c.requires.region c.taken.ensures.words

pub returns-then-header-at-clause-either : goal.returns-then-header-at-clause-either
returns-then-header-at-clause-either g c = inl (rests_same (g.R.RegionWords.count c.args.r.now) (g.R.RegionWords.words c.args.r.now) (g.R.RegionWords.words c.taken.new.r) c.requires.region c.taken.ensures.words)

pub returns-then-header-at-clause-before : goal.returns-then-header-at-clause-before
returns-then-header-at-clause-before g c =
    rests_undoes (g.R.RegionWords.count c.args.r.now) (g.R.RegionWords.words c.args.r.now) (g.R.RegionWords.words c.taken.new.r) (rests_same (g.R.RegionWords.count c.args.r.now) (g.R.RegionWords.words c.args.r.now) (g.R.RegionWords.words c.taken.new.r) c.requires.region c.taken.ensures.words)

pub returns-then-header-at-clause-region : goal.returns-then-header-at-clause-region
returns-then-header-at-clause-region g c = region_at _ _ _ _ c.requires.region c.taken.ensures.stays.count c.taken.ensures.words

pub returns-then-header-at-clause-full : goal.returns-then-header-at-clause-full
returns-then-header-at-clause-full g c = λ full. omega (arith, c.requires.header.undo, c.in_ok-at.ensures.value, c.if-header-at.true)

pub returns-then-header-at-clause-ends : goal.returns-then-header-at-clause-ends
returns-then-header-at-clause-ends g c = ends_full _ _ c.taken.ensures.ends.later c.in_ok-at.ensures.ends.cause

pub returns-in_err-publish_pair-clause-ok : goal.returns-in_err-publish_pair-clause-ok
returns-in_err-publish_pair-clause-ok g c =
    let p = err_from_is_err_and c.from_residual-in_err-publish_pair.result c.from_residual-in_err-publish_pair.ensures.1 in
    rw (p.1) tt

pub returns-in_err-publish_pair-clause-room : goal.returns-in_err-publish_pair-clause-room
returns-in_err-publish_pair-clause-room g c =
    let p = err_from_is_err_and c.from_residual-in_err-publish_pair.result c.from_residual-in_err-publish_pair.ensures.1 in
    rw (p.1) tt

pub returns-in_err-publish_pair-clause-full : goal.returns-in_err-publish_pair-clause-full
returns-in_err-publish_pair-clause-full g c =
    let p = err_from_is_err_and c.from_residual-in_err-publish_pair.result c.from_residual-in_err-publish_pair.ensures.1 in
    λ full. absurd (never_full c.from_residual-in_err-publish_pair.result _ p.0 p.1 p.2 full)

pub returns-in_err-publish_pair-clause-refused : goal.returns-in_err-publish_pair-clause-refused
returns-in_err-publish_pair-clause-refused g c =
    let p = err_from_is_err_and c.from_residual-in_err-publish_pair.result c.from_residual-in_err-publish_pair.ensures.1 in
    λ full. absurd (never_full c.from_residual-in_err-publish_pair.result _ p.0 p.1 p.2 full)

pub returns-in_err-publish_pair-clause-fault : goal.returns-in_err-publish_pair-clause-fault
returns-in_err-publish_pair-clause-fault g c =
    let p = err_from_is_err_and c.from_residual-in_err-publish_pair.result c.from_residual-in_err-publish_pair.ensures.1 in
    λ fault. rests_from (g.R.RegionWords.count c.args.r.now) (g.R.RegionWords.count c.taken.new.r) (g.R.RegionWords.words c.taken.new.r) (g.R.RegionWords.words c.args.r.now) (g.R.RegionWords.words c.publish_pair.new.r) c.taken.ensures.words c.taken.ensures.stays.count (c.publish_pair.ensures.fault (is_fault c.publish_pair.result c.from_residual-in_err-publish_pair.result _ p.0 c.in_err-publish_pair.was p.1 p.2 fault))

pub returns-in_err-publish_pair-clause-either : goal.returns-in_err-publish_pair-clause-either
returns-in_err-publish_pair-clause-either g c =
    either_from (g.R.RegionWords.count c.args.r.now) (g.R.RegionWords.count c.taken.new.r) (g.R.RegionWords.words c.taken.new.r) (g.R.RegionWords.words c.args.r.now) (g.R.RegionWords.words c.publish_pair.new.r) c.args.place 2 c.taken.ensures.words c.taken.ensures.stays.count c.publish_pair.ensures.either

pub returns-in_err-publish_pair-clause-region : goal.returns-in_err-publish_pair-clause-region
returns-in_err-publish_pair-clause-region g c =
    either_region (g.R.RegionWords.count c.taken.new.r) (g.R.RegionWords.count c.publish_pair.new.r) (g.R.RegionWords.words c.taken.new.r) (g.R.RegionWords.words c.publish_pair.new.r) c.args.place 2 c.publish_pair.ensures.stays.count c.publish_pair.ensures.either

pub returns-in_err-publish_pair-clause-stays : goal.returns-in_err-publish_pair-clause-stays
returns-in_err-publish_pair-clause-stays g c = stays_trans g.met.R.RegionWords.rest_trans c.taken.ensures.stays c.publish_pair.ensures.stays

pub returns-in_err-publish_pair-clause-ends : goal.returns-in_err-publish_pair-clause-ends
returns-in_err-publish_pair-clause-ends g c =
    let p = err_from_is_err_and c.from_residual-in_err-publish_pair.result c.from_residual-in_err-publish_pair.ensures.1 in
    ends_by_after _ _ _ _ _ c.taken.ensures.ends.later c.in_ok-at.ensures.ends.cause (ends_handed _ _ c.publish_pair.result c.from_residual-in_err-publish_pair.result _ _ c.in_err-publish_pair.was p.1 p.2 c.publish_pair.ensures.ends)

pub returns-clause-either : goal.returns-clause-either
returns-clause-either g c =
    either_from (g.R.RegionWords.count c.args.r.now) (g.R.RegionWords.count c.taken.new.r) (g.R.RegionWords.words c.taken.new.r) (g.R.RegionWords.words c.args.r.now) (g.R.RegionWords.words c.publish_pair.new.r) c.args.place 2 c.taken.ensures.words c.taken.ensures.stays.count c.publish_pair.ensures.either

pub returns-clause-region : goal.returns-clause-region
returns-clause-region g c =
    either_region (g.R.RegionWords.count c.taken.new.r) (g.R.RegionWords.count c.publish_pair.new.r) (g.R.RegionWords.words c.taken.new.r) (g.R.RegionWords.words c.publish_pair.new.r) c.args.place 2 c.publish_pair.ensures.stays.count c.publish_pair.ensures.either

pub returns-clause-stays : goal.returns-clause-stays
returns-clause-stays g c = stays_trans g.met.R.RegionWords.rest_trans c.taken.ensures.stays c.publish_pair.ensures.stays

pub returns-clause-ok : goal.returns-clause-ok
returns-clause-ok g c =
    gains_from (g.R.RegionWords.count c.args.r.now) (g.R.RegionWords.count c.taken.new.r) (g.R.RegionWords.words c.taken.new.r) (g.R.RegionWords.words c.args.r.now) (g.R.RegionWords.words c.publish_pair.new.r) c.args.place 2 c.taken.ensures.words c.taken.ensures.stays.count c.in_ok-publish_pair.ensures.ok

pub returns-clause-room : goal.returns-clause-room
returns-clause-room g c = omega (arith, c.requires.header.undo, c.in_ok-at.ensures.value, c.if-header-at.false)

pub returns-clause-full : goal.returns-clause-full
returns-clause-full g c = λ told. absurd (no_err tt _ told)

pub returns-clause-refused : goal.returns-clause-refused
returns-clause-refused g c = λ told. absurd (no_err tt _ told)

pub returns-clause-fault : goal.returns-clause-fault
returns-clause-fault g c = λ told. absurd (no_err tt _ told)

pub returns-clause-ends : goal.returns-clause-ends
returns-clause-ends g c = ends_did _ _ tt (le_trans c.taken.ensures.ends.later c.publish_pair.ensures.ends.later) (c.in_ok-publish_pair.ensures.ends.cause ∙ c.in_ok-at.ensures.ends.cause)
