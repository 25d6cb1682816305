use Rattle.vista_region.proofs.Common.{◌≡◌, ◌≤◌, refl, ◌+◌, ◌-◌, ◌*◌, ◌/◌, ◌∙◌, ◌++◌, ap, sym, subst, arith, stays_trans, RegionContent, byte_in, bytes_in, IsRegion, live, err_from_is_err_and}
use Rattle.std.proofs.Common.{le_refl, le_trans}
use Rattle.vista_region.proofs.Bytes.{bytes_moved, bytes_next, bytes_none}
use Rattle.vista_region.proofs.Outcomes.{ok_apart}
use Rattle.vista_region.specs.declared.failures.GetFail.TheVariants.{Stopped}
use Rattle.rio_base.proofs.Rules.{ends_by_after}
use Rattle.vista_region.proofs.Exits.{ends_read, told_read, read_ends}
use Rattle.rio_model.specs.Undo.{places}
use Rattle.undo_list.proofs.Outcomes.{stays_none}
use Rattle.vista_region.proofs.runs.push_bytes.Goals as goal

pub loop-at-preserved : goal.loop-at-preserved
loop-at-preserved g c =
    let inv = c.loop-at.invariant in
    let f = g.R.RegionWords.words c.args.r.now in
    let call = c.in_ok-push_run.ensures in
    let at = c.loop-at.at in
    let first = at / 8 in
    let from = at - 8 * first in
    let next = c.min-next.result in
    let more = c.loop-at-test.true in
    let n = next - 8 * first - from in
    let read = subst (λ (w : RegionContent). c.push_run.new.out.items ≡ c.loop-at.out.items ++ bytes_in (λ y. live w (c.args.place + first + y)) from n) inv.words call.bytes in
    record {
      low = omega (arith, inv.low, more, c.min-next.ensures);
      high = omega (arith, c.min-next.ensures);
      bytes = bytes_next (byte_in (λ w. live f (c.args.place + w))) c.args.off at next n c.args.out.now.items c.loop-at.out.items c.push_run.new.out.items inv.low (omega (arith, more, c.min-next.ensures)) inv.bytes (read ∙ ap (λ bs. c.loop-at.out.items ++ bs) (bytes_moved (live f) c.args.place first from at n (omega arith))) (omega (arith, more, c.min-next.ensures));
      words = call.words ∙ inv.words;
      region = subst (λ k. IsRegion k (g.R.RegionWords.words c.push_run.new.r)) (sym call.stays.count) (subst (λ (w : RegionContent). IsRegion (g.R.RegionWords.count c.loop-at.r) w) (sym call.words) inv.region);
      stays = stays_trans g.met.R.RegionWords.rest_trans inv.stays call.stays;
      later = le_trans inv.later call.ends.later;
      running = call.ends.runs (ok_apart c.in_ok-push_run.field-0 Stopped) ∙ inv.running;
    }

pub returns-in_err-push_run-clause-told : goal.returns-in_err-push_run-clause-told
returns-in_err-push_run-clause-told g c =
    let p = err_from_is_err_and c.from_residual.result c.from_residual.ensures.1 in
    told_read c.push_run.result c.from_residual.result _ _ c.in_err-push_run.was p.1 p.2 c.push_run.ensures.told

pub returns-in_err-push_run-clause-bytes : goal.returns-in_err-push_run-clause-bytes
returns-in_err-push_run-clause-bytes g c =
    let p = err_from_is_err_and c.from_residual.result c.from_residual.ensures.1 in
    rw (p.1) tt

pub returns-in_err-push_run-clause-words : goal.returns-in_err-push_run-clause-words
returns-in_err-push_run-clause-words g c = c.push_run.ensures.words ∙ c.loop-at.invariant.words

pub returns-in_err-push_run-clause-stays : goal.returns-in_err-push_run-clause-stays
returns-in_err-push_run-clause-stays g c = stays_trans g.met.R.RegionWords.rest_trans c.loop-at.invariant.stays c.push_run.ensures.stays

pub returns-in_err-push_run-clause-ends : goal.returns-in_err-push_run-clause-ends
returns-in_err-push_run-clause-ends g c =
    let p = err_from_is_err_and c.from_residual.result c.from_residual.ensures.1 in
    ends_by_after _ _ _ _ _ c.loop-at.invariant.later c.loop-at.invariant.running (ends_read _ _ c.push_run.result c.from_residual.result _ _ c.in_err-push_run.was p.1 p.2 c.push_run.ensures.ends)

pub returns-clause-ends : goal.returns-clause-ends
returns-clause-ends g c = read_ends _ _ _ c.loop-at.invariant.later c.loop-at.invariant.running

pub loop-at-init : goal.loop-at-init
loop-at-init g c = record {
  low = omega arith;
  high = c.requires.order;
  bytes = bytes_none (byte_in (λ w. live (g.R.RegionWords.words c.args.r.now) (c.args.place + w))) c.args.off c.args.out.now.items;
  words = refl;
  region = c.requires.region;
  stays = stays_none c.args.r.now (g.met.R.RegionWords.rest_refl c.args.r.now) c.requires.ready;
  later = le_refl _;
  running = refl;
}

pub loop-at-smaller : goal.loop-at-smaller
loop-at-smaller g c = omega (arith, c.min-next.ensures, c.loop-at-test.true)

pub push_run-requires-clause-order : goal.push_run-requires-clause-order
push_run-requires-clause-order g c = omega (arith, c.min-next.ensures, c.loop-at-test.true)

pub push_run-requires-clause-few : goal.push_run-requires-clause-few
push_run-requires-clause-few g c = omega (arith, c.min-next.ensures)

pub push_run-requires-clause-place : goal.push_run-requires-clause-place
push_run-requires-clause-place g c = subst (λ (w : RegionContent). c.args.place + c.loop-at.at / 8 + (c.min-next.result - 8 * (c.loop-at.at / 8) + 7) / 8 ≤ places w) (sym c.loop-at.invariant.words) (omega (arith, c.requires.place, c.min-next.ensures, c.loop-at-test.true))

pub returns-clause-bytes : goal.returns-clause-bytes
returns-clause-bytes g c = subst (λ k. c.loop-at.out.items ≡ c.args.out.now.items ++ bytes_in (λ w. live (g.R.RegionWords.words c.args.r.now) (c.args.place + w)) c.args.off (k - c.args.off)) (omega (arith, c.loop-at.invariant.high, c.loop-at-test.false)) c.loop-at.invariant.bytes

pub overflow_cast-first : goal.overflow_cast-first
overflow_cast-first g c = omega (arith, g.met.R.RegionWords.small c.args.r.now c.requires.ready, c.requires.region.size, c.requires.place, c.loop-at-test.true)

pub overflow_add-place : goal.overflow_add-place
overflow_add-place g c = omega (arith, g.met.R.RegionWords.small c.args.r.now c.requires.ready, c.requires.region.size, c.requires.place, c.loop-at-test.true)
