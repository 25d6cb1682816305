use Rattle.std.proofs.Common.{◌-◌, ◌<◌, sym, subst, ◌∙◌, le_trans, arith}
use Rattle.std.proofs.lemmas.Result.{err_from_is_err_and}
use Rattle.rio_base.proofs.BlockRules.{ends_later}
use Rattle.rio_base.proofs.RegionRules.{stays_trans}
use Rattle.rio_model.specs.Undo.{CoversAll, IsRegion, undo_records}
use Rattle.undo_list.proofs.Chains.{newest_fits, no_chain}
use Rattle.undo_list.proofs.MarkedRecords.{Marking, marked_hole, marked_more, marking_next, passed_more}
use Rattle.undo_list.proofs.Outcomes.{ends_err}
use Rattle.undo_list.proofs.covering.covers_marking.Goals as goal

pub returns-then-done-count-clause-value : goal.returns-then-done-count-clause-value
returns-then-done-count-clause-value g c =
    let records = undo_records (g.R.RegionWords.words c.args.r.now) in
    let m = c.records.invariant.marking in
    let marked = marked_more records m.rest m.newest c.args.span c.records.marks c.mark_record.new.marks c.records.saved.first c.records.saved.count m.first m.count m.marked c.mark_record.ensures in
    subst (CoversAll records c.args.span.from) c.if-done-count.true (passed_more records m.rest c.args.span c.mark_record.new.marks c.records.done c.unmarked_from-done.result marked m.passed c.unmarked_from-done.ensures)

pub returns-then-saved-eq0-clause-value : goal.returns-then-saved-eq0-clause-value
returns-then-saved-eq0-clause-value g c =
    let f = g.R.RegionWords.words c.records.r in
    let records = undo_records (g.R.RegionWords.words c.args.r.now) in
    let m = c.records.invariant.marking in
    let marked = marked_more records m.rest m.newest c.args.span c.records.marks c.mark_record.new.marks c.records.saved.first c.records.saved.count m.first m.count m.marked c.mark_record.ensures in
    let left : c.unmarked_from-done.result < c.args.span.to - c.args.span.from = omega (arith, c.unmarked_from-done.ensures.high, c.if-done-count.false) in
    marked_hole records m.rest c.args.span c.mark_record.new.marks c.records.done c.unmarked_from-done.result (no_chain f c.records.saved.older m.rest c.if-saved-eq0.true m.chain) left marked c.unmarked_from-done.ensures

pub records-smaller : goal.records-smaller
records-smaller g c =
    let f = g.R.RegionWords.words c.records.r in
    let m = c.records.invariant.marking in
    let v = c.in_ok-saved.saved in
    let w = newest_fits f c.records.saved.older m.rest v (omega arith) m.chain (c.in_ok-saved.ensures.value m.rest m.chain) in
    w.smaller

pub records-preserved : goal.records-preserved
records-preserved g c =
    let f = g.R.RegionWords.words c.records.r in
    let records = undo_records (g.R.RegionWords.words c.args.r.now) in
    let inv = c.records.invariant in
    let m = inv.marking in
    let e = c.record_at.ensures in
    let v = c.in_ok-saved.saved in
    let done = c.unmarked_from-done.result in
    let marks = c.mark_record.new.marks in
    let w = newest_fits f c.records.saved.older m.rest v (omega arith) m.chain (c.in_ok-saved.ensures.value m.rest m.chain) in
    let marked = marked_more records m.rest m.newest c.args.span c.records.marks marks c.records.saved.first c.records.saved.count m.first m.count m.marked c.mark_record.ensures in
    let passed = passed_more records m.rest c.args.span marks c.records.done done marked m.passed c.unmarked_from-done.ensures in
    record {
      words = e.words ∙ inv.words;
      region = subst (λ n. IsRegion n (g.R.RegionWords.words c.record_at.new.r)) (sym e.stays.count) (subst (λ x. IsRegion (g.R.RegionWords.count c.records.r) x) (sym e.words) inv.region);
      marking = subst (λ x. Marking x records v c.args.span marks done) (sym e.words) (marking_next f records m.rest c.records.saved.older v c.args.span marks done w marked passed c.unmarked_from-done.ensures.high);
      stays = stays_trans g.met.R.RegionWords.rest_trans inv.stays e.stays;
      later = le_trans inv.later e.ends.later;
      running = c.in_ok-saved.ensures.ends.cause ∙ inv.running;
    }

pub mark_record-requires-clause-fits : goal.mark_record-requires-clause-fits
mark_record-requires-clause-fits g c = omega (arith, g.met.R.RegionWords.small c.records.r c.records.invariant.stays.ready, c.records.invariant.region.size, c.records.invariant.marking.within)

pub record_at-requires-clause-chain : goal.record_at-requires-clause-chain
record_at-requires-clause-chain g c = (c.records.invariant.marking.rest, c.records.invariant.marking.chain)

pub returns-in_err-saved-clause-words : goal.returns-in_err-saved-clause-words
returns-in_err-saved-clause-words g c = c.record_at.ensures.words ∙ c.records.invariant.words

pub returns-in_err-saved-clause-stays : goal.returns-in_err-saved-clause-stays
returns-in_err-saved-clause-stays g c = stays_trans g.met.R.RegionWords.rest_trans c.records.invariant.stays c.record_at.ensures.stays

pub returns-in_err-saved-clause-ends : goal.returns-in_err-saved-clause-ends
returns-in_err-saved-clause-ends g c =
    let p = err_from_is_err_and c.from_residual.result c.from_residual.ensures.1 in
    ends_later _ _ _ _ c.records.invariant.later c.records.invariant.running (ends_err _ _ c.record_at.result c.from_residual.result _ _ c.in_err-saved.was p.1 p.2 c.record_at.ensures.ends)

pub returns-in_err-saved-clause-value : goal.returns-in_err-saved-clause-value
returns-in_err-saved-clause-value g c =
    let p = err_from_is_err_and c.from_residual.result c.from_residual.ensures.1 in
    rw (p.1) tt

pub returns-then-done-count-clause-ends : goal.returns-then-done-count-clause-ends
returns-then-done-count-clause-ends g c = record { later = c.records.invariant.later; stays = λ stopped. c.records.invariant.running ∙ stopped; cause = c.records.invariant.running }

pub returns-then-saved-eq0-clause-ends : goal.returns-then-saved-eq0-clause-ends
returns-then-saved-eq0-clause-ends g c = record { later = c.records.invariant.later; stays = λ stopped. c.records.invariant.running ∙ stopped; cause = c.records.invariant.running }
