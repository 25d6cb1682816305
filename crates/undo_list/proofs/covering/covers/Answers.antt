use Rattle.std.proofs.Common.{◌<◌, arith, sym, subst, ◌∙◌, List, le_trans, le_refl, refl}
use Rattle.std.proofs.lemmas.Result.{err_from_is_err_and}
use Rattle.rio_base.proofs.BlockRules.{ends_later}
use Rattle.rio_base.proofs.RegionRules.{stays_trans}
use Rattle.rio_model.specs.Undo.{IsRegion, UndoRecord, undo_records}
use Rattle.undo_list.specs.declared.covering.Span.{Span}
use Rattle.undo_list.specs.Records.{IsChain}
use Rattle.undo_list.proofs.Chains.{chain_at, newest_fits, newest_small, no_chain}
use Rattle.undo_list.proofs.Covers.{leaves_all, leaves_await, leaves_by, leaves_end, leaves_none, leaves_told, Leaves}
use Rattle.undo_list.proofs.Frames.{region_at}
use Rattle.undo_list.proofs.Outcomes.{ends_err, stays_none}
use Rattle.undo_list.proofs.covering.covers.Goals as goal

pub overflow_add-left : goal.overflow_add-left
overflow_add-left g c = omega (arith, g.met.R.RegionWords.small c.args.r.now c.requires.ready, c.requires.region.size, c.requires.place)

pub loop-head-init : goal.loop-head-init
loop-head-init g c =
    let f = g.R.RegionWords.words c.args.r.now in
    record {
      words = refl;
      region = c.requires.region;
      chain = (undo_records f, chain_at (g.R.RegionWords.count c.args.r.now) f f c.args.newest c.requires.region refl c.requires.head, leaves_all (undo_records f) c.args.place c.args.count);
      stays = stays_none c.args.r.now (g.met.R.RegionWords.rest_refl c.args.r.now) c.requires.ready;
      later = le_refl (g.R.RegionWords.health c.args.r.now).faults;
      running = refl;
    }

pub record_at-requires-clause-chain : goal.record_at-requires-clause-chain
record_at-requires-clause-chain g c = (c.loop-head.invariant.chain.0, c.loop-head.invariant.chain.1)

pub lies_between-requires : goal.lies_between-requires
lies_between-requires g c =
    let inv = c.loop-head.invariant in
    record { fits = newest_small (g.R.RegionWords.count c.loop-head.r) (g.R.RegionWords.words c.loop-head.r) c.loop-head.head inv.chain.0 c.in_ok-saved.saved inv.region (g.met.R.RegionWords.small c.loop-head.r inv.stays.ready) (omega arith) inv.chain.1 (c.in_ok-saved.ensures.value inv.chain.0 inv.chain.1) }

pub past-requires : goal.past-requires
past-requires g c =
    let inv = c.loop-head.invariant in
    record { fits = newest_small (g.R.RegionWords.count c.loop-head.r) (g.R.RegionWords.words c.loop-head.r) c.loop-head.head inv.chain.0 c.in_ok-saved.saved inv.region (g.met.R.RegionWords.small c.loop-head.r inv.stays.ready) (omega arith) inv.chain.1 (c.in_ok-saved.ensures.value inv.chain.0 inv.chain.1) }

pub short_of-requires : goal.short_of-requires
short_of-requires g c =
    let inv = c.loop-head.invariant in
    record { fits = newest_small (g.R.RegionWords.count c.loop-head.r) (g.R.RegionWords.words c.loop-head.r) c.loop-head.head inv.chain.0 c.in_ok-saved.saved inv.region (g.met.R.RegionWords.small c.loop-head.r inv.stays.ready) (omega arith) inv.chain.1 (c.in_ok-saved.ensures.value inv.chain.0 inv.chain.1) }

pub covers_from-requires-clause-region : goal.covers_from-requires-clause-region
covers_from-requires-clause-region g c = region_at _ _ _ _ c.loop-head.invariant.region c.record_at.ensures.stays.count c.record_at.ensures.words

pub covers_from-requires-clause-newest : goal.covers_from-requires-clause-newest
covers_from-requires-clause-newest g c =
    let f = g.R.RegionWords.words in
    let inv = c.loop-head.invariant in
    let v = c.in_ok-saved.saved in
    leaves_await (f c.args.r.now) (f c.loop-head.r) (f c.record_at.new.r) c.loop-head.head c.args.place c.args.count inv.chain.0 v c.loop-head.left inv.words c.record_at.ensures.words (newest_fits (f c.loop-head.r) c.loop-head.head inv.chain.0 v (omega arith) inv.chain.1 (c.in_ok-saved.ensures.value inv.chain.0 inv.chain.1)) inv.chain.2

pub covers_from-requires-clause-some : goal.covers_from-requires-clause-some
covers_from-requires-clause-some g c = omega (arith, c.if-left.false)

pub covers_from-requires-clause-reach : goal.covers_from-requires-clause-reach
covers_from-requires-clause-reach g c = omega (arith, c.loop-head.invariant.chain.2.later, c.loop-head.invariant.chain.2.sooner, c.requires.reach)

pub returns-then-left-clause-value : goal.returns-then-left-clause-value
returns-then-left-clause-value g c =
    let inv = c.loop-head.invariant in
    leaves_none (undo_records (g.R.RegionWords.words c.args.r.now)) inv.chain.0 c.args.place c.args.count c.loop-head.left c.if-left.true inv.chain.2

pub returns-then-left-clause-ends : goal.returns-then-left-clause-ends
returns-then-left-clause-ends g c =
    let inv = c.loop-head.invariant in
    record { later = inv.later; stays = λ stopped. inv.running ∙ stopped; cause = inv.running }

pub returns-in_err-saved-clause-words : goal.returns-in_err-saved-clause-words
returns-in_err-saved-clause-words g c = c.record_at.ensures.words ∙ c.loop-head.invariant.words

pub returns-in_err-saved-clause-stays : goal.returns-in_err-saved-clause-stays
returns-in_err-saved-clause-stays g c = stays_trans g.met.R.RegionWords.rest_trans c.loop-head.invariant.stays c.record_at.ensures.stays

pub returns-in_err-saved-clause-ends : goal.returns-in_err-saved-clause-ends
returns-in_err-saved-clause-ends g c =
    let inv = c.loop-head.invariant in
    let p = err_from_is_err_and c.from_residual.result c.from_residual.ensures.1 in
    ends_later _ _ _ _ inv.later inv.running (ends_err _ _ c.record_at.result c.from_residual.result _ _ c.in_err-saved.was p.1 p.2 c.record_at.ensures.ends)

pub returns-in_err-saved-clause-value : goal.returns-in_err-saved-clause-value
returns-in_err-saved-clause-value g c =
    let p = err_from_is_err_and c.from_residual.result c.from_residual.ensures.1 in
    rw (p.1) tt

pub returns-then-lies_between-clause-value : goal.returns-then-lies_between-clause-value
returns-then-lies_between-clause-value g c =
    let f = g.R.RegionWords.words in
    let inv = c.loop-head.invariant in
    leaves_told (f c.args.r.now) (f c.record_at.new.r) inv.chain.0 c.args.place c.args.count c.loop-head.left c.covers_from.result (c.record_at.ensures.words ∙ inv.words) (omega (arith, c.if-left.false)) inv.chain.2 c.covers_from.ensures.value

pub returns-then-lies_between-clause-words : goal.returns-then-lies_between-clause-words
returns-then-lies_between-clause-words g c = c.covers_from.ensures.words ∙ c.record_at.ensures.words ∙ c.loop-head.invariant.words

pub returns-then-lies_between-clause-stays : goal.returns-then-lies_between-clause-stays
returns-then-lies_between-clause-stays g c =
    let trans = g.met.R.RegionWords.rest_trans in
    stays_trans trans c.loop-head.invariant.stays (stays_trans trans c.record_at.ensures.stays c.covers_from.ensures.stays)

pub returns-then-lies_between-clause-ends : goal.returns-then-lies_between-clause-ends
returns-then-lies_between-clause-ends g c =
    let inv = c.loop-head.invariant in
    ends_later _ _ _ _ inv.later inv.running (ends_later _ _ _ _ c.record_at.ensures.ends.later c.in_ok-saved.ensures.ends.cause c.covers_from.ensures.ends)

pub returns-clause-ends : goal.returns-clause-ends
returns-clause-ends g c =
    let inv = c.loop-head.invariant in
    record { later = inv.later; stays = λ stopped. inv.running ∙ stopped; cause = inv.running }

pub loop-head-smaller : goal.loop-head-smaller
loop-head-smaller g c =
    let f = g.R.RegionWords.words c.loop-head.r in
    let inv = c.loop-head.invariant in
    let v = c.in_ok-saved.saved in
    let w = newest_fits f c.loop-head.head inv.chain.0 v (omega arith) inv.chain.1 (c.in_ok-saved.ensures.value inv.chain.0 inv.chain.1) in
    w.smaller

pub loop-head-preserved : goal.loop-head-preserved
loop-head-preserved g c =
    let f = g.R.RegionWords.words c.loop-head.r in
    let inv = c.loop-head.invariant in
    let v = c.in_ok-saved.saved in
    let w = newest_fits f c.loop-head.head inv.chain.0 v (omega arith) inv.chain.1 (c.in_ok-saved.ensures.value inv.chain.0 inv.chain.1) in
    let e = c.record_at.ensures in
    let all = undo_records (g.R.RegionWords.words c.args.r.now) in
    let left = c.loop-head.left in
    let next : Span = record { from = c.past.result; to = c.short_of.result } in
    let some : left.from < left.to = omega (arith, c.if-left.false) in
    record {
      words = e.words ∙ inv.words;
      region = subst (λ n. IsRegion n (g.R.RegionWords.words c.record_at.new.r)) (sym e.stays.count) (subst (λ x. IsRegion (g.R.RegionWords.count c.loop-head.r) x) (sym e.words) inv.region);
      chain = (w.rest, subst (λ x. IsChain x v.older w.rest) (sym e.words) w.chain, leaves_by all w.rest w.newest c.args.place c.args.count left next v.first v.count w.first w.count some c.if-lies_between.ensures (subst (λ (xs : List UndoRecord). Leaves all xs c.args.place c.args.count left) w.is inv.chain.2) c.past.ensures.inside c.past.ensures.outside c.short_of.ensures.inside c.short_of.ensures.outside);
      stays = stays_trans g.met.R.RegionWords.rest_trans inv.stays e.stays;
      later = le_trans inv.later e.ends.later;
      running = c.in_ok-saved.ensures.ends.cause ∙ inv.running;
    }

pub returns-clause-value : goal.returns-clause-value
returns-clause-value g c =
    let inv = c.loop-head.invariant in
    leaves_end (undo_records (g.R.RegionWords.words c.args.r.now)) inv.chain.0 c.args.place c.args.count c.loop-head.left (no_chain (g.R.RegionWords.words c.loop-head.r) c.loop-head.head inv.chain.0 (omega arith) inv.chain.1) inv.chain.2
