use Rattle.vista_region.proofs.Common.{Err, ap, map_pages, refl, ◌∙◌, ◌≡◌, ◌≤◌, ◌+◌, ◌-◌, ◌*◌, ◌/◌, sym, subst, arith, length, length-drop, take, drop, FaultAt, RunFail, stays_trans, IsRegion, Puts, words_of}
use Rattle.std.proofs.Common.{le_refl, le_trans, length-take}
use Rattle.vista_region.proofs.Words.{puts_next}
use Rattle.rio_base.specs.Blocks.{Ends, as_word}
use Rattle.rio_model.specs.Undo.{Keeps, is_covered}
use Rattle.rio_model.proofs.UndoRules.{keeps_trans}
use Rattle.rio_base.proofs.BlockRules.{ends_later}
use Rattle.undo_list.proofs.Frames.{puts_none}
use Rattle.undo_list.proofs.Outcomes.{stays_none}
use Rattle.vista_region.proofs.runs.put_bytes.Goals as goal

pub returns-in-Err-Fault-clause-fault : goal.returns-in-Err-Fault-clause-fault
returns-in-Err-Fault-clause-fault g c =
    let inv = c.loop-done.invariant in
    let n = g.R.RegionWords.count c.args.r.now in
    let f = g.R.RegionWords.words c.args.r.now in
    let h = g.R.RegionWords.words c.loop-done.r in
    let last = g.R.RegionWords.words c.put_run.new.r in
    let bytes = c.args.bytes.now in
    let done = c.loop-done.done in
    let next = c.min-next.result in
    let next_is = c.min-next.ensures in
    let more = c.loop-done-test.true in
    let part = take (8 * next - 8 * done) (drop (8 * done) bytes) in
    let fault : (c.in-Err-Fault.n ≤ length part / 8) × Puts (g.R.RegionWords.count c.loop-done.r) h last (c.args.place + done) c.in-Err-Fault.n (words_of part) = subst (λ (e : RunFail). FaultAt {T = Unit {0}} (Err e) (λ k. (k ≤ length part / 8) × Puts (g.R.RegionWords.count c.loop-done.r) h last (c.args.place + done) k (words_of part))) c.in-Err-Fault.field-0-is c.in-Err-Fault.ensures.fault in
    let few = length-take (8 * next - 8 * done) (drop (8 * done) bytes) in
    let rest = length-drop (8 * done) bytes in
    let at = fault.0 in
    (omega (arith, at, few, rest, next_is, more), puts_next n (g.R.RegionWords.count c.loop-done.r) f h last c.args.place done c.in-Err-Fault.n next bytes inv.stays.count inv.puts fault.1 (omega (arith, at, few, rest, next_is, more)) (omega (arith, next_is)))

pub loop-done-preserved : goal.loop-done-preserved
loop-done-preserved g c =
    let inv = c.loop-done.invariant in
    let n = g.R.RegionWords.count c.args.r.now in
    let f = g.R.RegionWords.words c.args.r.now in
    let h = g.R.RegionWords.words c.loop-done.r in
    let last = g.R.RegionWords.words c.put_run.new.r in
    let bytes = c.args.bytes.now in
    let done = c.loop-done.done in
    let next = c.min-next.result in
    let next_is = c.min-next.ensures in
    let more = c.loop-done-test.true in
    let call = c.in-Ok.ensures in
    let part = take (8 * next - 8 * done) (drop (8 * done) bytes) in
    let few = length-take (8 * next - 8 * done) (drop (8 * done) bytes) in
    let rest = length-drop (8 * done) bytes in
    let all : done + length part / 8 ≡ next = omega (arith, few, rest, next_is, more) in
    record {
      within = omega (arith, next_is);
      region = subst (λ k. IsRegion k last) (sym call.stays.count) call.ok.keeps.undoes.region;
      puts = subst (λ k. Puts n f last c.args.place k (words_of bytes)) all (puts_next n (g.R.RegionWords.count c.loop-done.r) f h last c.args.place done (length part / 8) next bytes inv.stays.count inv.puts call.ok (omega (arith, all)) (omega (arith, next_is)));
      stays = stays_trans g.met.R.RegionWords.rest_trans inv.stays call.stays;
      later = le_trans inv.later call.ends.later;
      running = call.ends.cause ∙ inv.running;
    }

pub returns-in-Err-Fault-clause-keeps : goal.returns-in-Err-Fault-clause-keeps
returns-in-Err-Fault-clause-keeps g c = keeps_trans (g.R.RegionWords.count c.args.r.now) (g.R.RegionWords.words c.args.r.now) (g.R.RegionWords.words c.loop-done.r) (g.R.RegionWords.words c.put_run.new.r) c.loop-done.invariant.puts.keeps (subst (λ k. Keeps k (g.R.RegionWords.words c.loop-done.r) (g.R.RegionWords.words c.put_run.new.r)) c.loop-done.invariant.stays.count c.put_run.ensures.keeps)

pub returns-in-Err-Fault-clause-stays : goal.returns-in-Err-Fault-clause-stays
returns-in-Err-Fault-clause-stays g c = stays_trans g.met.R.RegionWords.rest_trans c.loop-done.invariant.stays c.put_run.ensures.stays

pub returns-in-Err-Fault-clause-ends : goal.returns-in-Err-Fault-clause-ends
returns-in-Err-Fault-clause-ends g c = ends_later _ _ _ _ c.loop-done.invariant.later c.loop-done.invariant.running (subst (λ (e : RunFail). Ends (g.R.RegionWords.health c.loop-done.r) (g.R.RegionWords.health c.put_run.new.r) (as_word {T = Unit {0}} (Err e))) c.in-Err-Fault.field-0-is c.in-Err-Fault.ensures.ends)

pub returns-in-Err-Stopped-clause-keeps : goal.returns-in-Err-Stopped-clause-keeps
returns-in-Err-Stopped-clause-keeps g c = keeps_trans (g.R.RegionWords.count c.args.r.now) (g.R.RegionWords.words c.args.r.now) (g.R.RegionWords.words c.loop-done.r) (g.R.RegionWords.words c.put_run.new.r) c.loop-done.invariant.puts.keeps (subst (λ k. Keeps k (g.R.RegionWords.words c.loop-done.r) (g.R.RegionWords.words c.put_run.new.r)) c.loop-done.invariant.stays.count c.put_run.ensures.keeps)

pub returns-in-Err-Stopped-clause-stays : goal.returns-in-Err-Stopped-clause-stays
returns-in-Err-Stopped-clause-stays g c = stays_trans g.met.R.RegionWords.rest_trans c.loop-done.invariant.stays c.put_run.ensures.stays

pub returns-in-Err-Stopped-clause-ends : goal.returns-in-Err-Stopped-clause-ends
returns-in-Err-Stopped-clause-ends g c = ends_later _ _ _ _ c.loop-done.invariant.later c.loop-done.invariant.running (subst (λ (e : RunFail). Ends (g.R.RegionWords.health c.loop-done.r) (g.R.RegionWords.health c.put_run.new.r) (as_word {T = Unit {0}} (Err e))) c.in-Err-Stopped.field-0-is c.in-Err-Stopped.ensures.ends)

pub returns-clause-ok : goal.returns-clause-ok
returns-clause-ok g c = subst (λ k. Puts (g.R.RegionWords.count c.args.r.now) (g.R.RegionWords.words c.args.r.now) (g.R.RegionWords.words c.loop-done.r) c.args.place k (words_of c.args.bytes.now)) (omega (arith, c.loop-done.invariant.within, c.loop-done-test.false)) c.loop-done.invariant.puts

pub returns-clause-ends : goal.returns-clause-ends
returns-clause-ends g c = record { later = c.loop-done.invariant.later; stays = λ stopped. c.loop-done.invariant.running ∙ stopped; cause = c.loop-done.invariant.running }

pub put_run-requires-clause-undo : goal.put_run-requires-clause-undo
put_run-requires-clause-undo g c = c.requires.undo ∙ sym c.loop-done.invariant.puts.keeps.undoes.sizes.undo

pub loop-done-init : goal.loop-done-init
loop-done-init g c = record {
  within = omega arith;
  region = c.requires.region;
  puts = puts_none (g.R.RegionWords.count c.args.r.now) (g.R.RegionWords.words c.args.r.now) (g.R.RegionWords.words c.args.r.now) c.args.place (words_of c.args.bytes.now) c.requires.region refl;
  stays = stays_none c.args.r.now (g.met.R.RegionWords.rest_refl c.args.r.now) c.requires.ready;
  later = le_refl _;
  running = refl;
}

pub loop-done-smaller : goal.loop-done-smaller
loop-done-smaller g c = omega (arith, c.min-next.ensures, c.loop-done-test.true)

pub put_run-requires-clause-whole : goal.put_run-requires-clause-whole
put_run-requires-clause-whole g c =
    let next = c.min-next.result in
    let few = length-take (8 * next - 8 * c.loop-done.done) (drop (8 * c.loop-done.done) c.args.bytes.now) in
    let rest = length-drop (8 * c.loop-done.done) c.args.bytes.now in
    omega (arith, few, rest, c.min-next.ensures, c.loop-done-test.true)

pub put_run-requires-clause-few : goal.put_run-requires-clause-few
put_run-requires-clause-few g c =
    let next = c.min-next.result in
    let few = length-take (8 * next - 8 * c.loop-done.done) (drop (8 * c.loop-done.done) c.args.bytes.now) in
    let rest = length-drop (8 * c.loop-done.done) c.args.bytes.now in
    omega (arith, few, c.min-next.ensures)

pub put_run-requires-clause-place : goal.put_run-requires-clause-place
put_run-requires-clause-place g c =
    let next = c.min-next.result in
    let few = length-take (8 * next - 8 * c.loop-done.done) (drop (8 * c.loop-done.done) c.args.bytes.now) in
    let rest = length-drop (8 * c.loop-done.done) c.args.bytes.now in
    subst (λ k. c.args.place + c.loop-done.done + length (take (8 * next - 8 * c.loop-done.done) (drop (8 * c.loop-done.done) c.args.bytes.now)) / 8 ≤ 512 * (map_pages k + k)) (sym c.loop-done.invariant.puts.keeps.undoes.sizes.data_pages) (omega (arith, c.requires.place, few, rest, c.min-next.ensures, c.loop-done-test.true))

pub put_run-requires-clause-covered : goal.put_run-requires-clause-covered
put_run-requires-clause-covered g c =
    let next = c.min-next.result in
    let few = length-take (8 * next - 8 * c.loop-done.done) (drop (8 * c.loop-done.done) c.args.bytes.now) in
    let rest = length-drop (8 * c.loop-done.done) c.args.bytes.now in
    λ q low high. ap (λ rs. is_covered rs q) c.loop-done.invariant.puts.keeps.records ∙ c.requires.covered q (omega (arith, low)) (omega (arith, high, few, rest, c.min-next.ensures, c.loop-done-test.true))

pub overflow_cast-done : goal.overflow_cast-done
overflow_cast-done g c = omega (arith, g.met.R.RegionWords.small c.args.r.now c.requires.ready, c.requires.region.size, c.requires.place, c.loop-done.invariant.within, c.loop-done-test.true)

pub overflow_add-place : goal.overflow_add-place
overflow_add-place g c = omega (arith, g.met.R.RegionWords.small c.args.r.now c.requires.ready, c.requires.region.size, c.requires.place, c.loop-done.invariant.within, c.loop-done-test.true)
