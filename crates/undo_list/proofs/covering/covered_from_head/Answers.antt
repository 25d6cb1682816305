use Rattle.std.proofs.Common.{ap, arith, le_refl, le_trans, refl, subst, sym, ℕ, ◌+◌, ◌∙◌, ◌≤◌}
use Rattle.std.proofs.lemmas.Result.{err_from_is_err_and}
use Rattle.rio_base.proofs.BlockRules.{ends_later}
use Rattle.rio_base.proofs.RegionRules.{stays_trans}
use Rattle.rio_model.specs.Undo.{CoversAll, places, undo_records}
use Rattle.undo_list.proofs.Covers.{covers_front, covers_hole}
use Rattle.undo_list.proofs.Frames.{region_at}
use Rattle.undo_list.proofs.Outcomes.{ends_err, stays_none}
use Rattle.undo_list.proofs.covering.covered_from_head.Goals as goal

pub returns-then-not-branch-clause-stays : goal.returns-then-not-branch-clause-stays
returns-then-not-branch-clause-stays g c = stays_trans g.met.R.RegionWords.rest_trans c.loop-done.invariant.stays c.covers.ensures.stays

pub overflow_add-place : goal.overflow_add-place
overflow_add-place g c = omega (arith, g.met.R.RegionWords.small c.args.r.now c.requires.ready, c.requires.region.size, c.requires.place, c.loop-done.invariant.within)

pub covers-requires-clause-head : goal.covers-requires-clause-head
covers-requires-clause-head g c = c.requires.head ∙ sym (ap (λ (w : ℕ → ℕ). w 3) c.loop-done.invariant.words)

pub covers-requires-clause-place : goal.covers-requires-clause-place
covers-requires-clause-place g c =
    subst (λ (w : ℕ → ℕ). c.args.place + c.loop-done.done + c.min-next.result ≤ places w) (sym c.loop-done.invariant.words) (omega (arith, c.requires.place, c.min-next.ensures, c.loop-done.invariant.within))

pub covers-requires-clause-reach : goal.covers-requires-clause-reach
covers-requires-clause-reach g c = omega (arith, c.min-next.ensures)

pub loop-done-init : goal.loop-done-init
loop-done-init g c =
    record {
      within = omega arith;
      words = refl;
      region = c.requires.region;
      front = λ q low high. absurd (omega arith);
      stays = stays_none c.args.r.now (g.met.R.RegionWords.rest_refl c.args.r.now) c.requires.ready;
      later = le_refl (g.R.RegionWords.health c.args.r.now).faults;
      running = refl;
    }

pub loop-done-preserved : goal.loop-done-preserved
loop-done-preserved g c =
    let inv = c.loop-done.invariant in
    let e = c.covers.ensures in
    record {
      within = omega (arith, c.min-next.ensures, inv.within);
      words = e.words ∙ inv.words;
      region = region_at _ _ _ _ inv.region e.stays.count e.words;
      front = covers_front (g.R.RegionWords.words c.args.r.now) (g.R.RegionWords.words c.loop-done.r) c.args.place c.loop-done.done c.min-next.result c.in_ok-covers.field-0 inv.words c.if-not-branch.false inv.front c.in_ok-covers.ensures.value;
      stays = stays_trans g.met.R.RegionWords.rest_trans inv.stays e.stays;
      later = le_trans inv.later e.ends.later;
      running = c.in_ok-covers.ensures.ends.cause ∙ inv.running;
    }

pub returns-in_err-covers-clause-words : goal.returns-in_err-covers-clause-words
returns-in_err-covers-clause-words g c = c.covers.ensures.words ∙ c.loop-done.invariant.words

pub returns-in_err-covers-clause-region : goal.returns-in_err-covers-clause-region
returns-in_err-covers-clause-region g c = region_at _ _ _ _ c.loop-done.invariant.region c.covers.ensures.stays.count c.covers.ensures.words

pub returns-in_err-covers-clause-stays : goal.returns-in_err-covers-clause-stays
returns-in_err-covers-clause-stays g c = stays_trans g.met.R.RegionWords.rest_trans c.loop-done.invariant.stays c.covers.ensures.stays

pub returns-in_err-covers-clause-ends : goal.returns-in_err-covers-clause-ends
returns-in_err-covers-clause-ends g c =
    let p = err_from_is_err_and c.from_residual.result c.from_residual.ensures.1 in
    ends_later _ _ _ _ c.loop-done.invariant.later c.loop-done.invariant.running (ends_err _ _ c.covers.result c.from_residual.result _ _ c.in_err-covers.was p.1 p.2 c.covers.ensures.ends)

pub returns-in_err-covers-clause-value : goal.returns-in_err-covers-clause-value
returns-in_err-covers-clause-value g c =
    let p = err_from_is_err_and c.from_residual.result c.from_residual.ensures.1 in
    rw (p.1) tt

pub returns-then-not-branch-clause-words : goal.returns-then-not-branch-clause-words
returns-then-not-branch-clause-words g c = c.covers.ensures.words ∙ c.loop-done.invariant.words

pub returns-then-not-branch-clause-region : goal.returns-then-not-branch-clause-region
returns-then-not-branch-clause-region g c = region_at _ _ _ _ c.loop-done.invariant.region c.covers.ensures.stays.count c.covers.ensures.words

pub returns-then-not-branch-clause-ends : goal.returns-then-not-branch-clause-ends
returns-then-not-branch-clause-ends g c =
    let running = c.in_ok-covers.ensures.ends.cause ∙ c.loop-done.invariant.running in
    record { later = le_trans c.loop-done.invariant.later c.covers.ensures.ends.later; stays = λ stopped. running ∙ stopped; cause = running }

pub returns-then-not-branch-clause-value : goal.returns-then-not-branch-clause-value
returns-then-not-branch-clause-value g c =
    covers_hole (g.R.RegionWords.words c.args.r.now) (g.R.RegionWords.words c.loop-done.r) c.args.place c.args.count c.loop-done.done c.min-next.result c.in_ok-covers.field-0 c.loop-done.invariant.words c.if-not-branch.true (omega (arith, c.min-next.ensures, c.loop-done.invariant.within)) c.in_ok-covers.ensures.value

pub returns-clause-ends : goal.returns-clause-ends
returns-clause-ends g c = record { later = c.loop-done.invariant.later; stays = λ stopped. c.loop-done.invariant.running ∙ stopped; cause = c.loop-done.invariant.running }

pub returns-clause-value : goal.returns-clause-value
returns-clause-value g c = subst (CoversAll (undo_records (g.R.RegionWords.words c.args.r.now)) c.args.place) (omega (arith, c.loop-done.invariant.within)) c.loop-done.invariant.front
