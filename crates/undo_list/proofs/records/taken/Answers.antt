use Rattle.std.proofs.Common.{arith, ap, sym, refl, ◌∙◌, le_refl}
use Rattle.std.proofs.lemmas.Result.{err_from_is_err_and}
use Rattle.rio_model.proofs.UndoRules.{no_records}
use Rattle.rio_model.specs.Undo.{taken, undo_records}
use Rattle.undo_list.proofs.Chains.{newest_at, chain_at}
use Rattle.undo_list.proofs.Outcomes.{ends_err, stays_none}
use Rattle.undo_list.proofs.records.taken.Goals as goal

pub returns-then-head-eq0-clause-value : goal.returns-then-head-eq0-clause-value
returns-then-head-eq0-clause-value g c =
    let f = g.R.RegionWords.words c.args.r.now in
    let none = no_records (g.R.RegionWords.count c.args.r.now) f c.requires.region (sym c.requires.head ∙ omega arith) in
    sym (ap taken none)

pub overflow_add-result : goal.overflow_add-result
overflow_add-result g c =
    let f = g.R.RegionWords.words c.args.r.now in
    let fits = newest_at (g.R.RegionWords.count c.args.r.now) f f c.args.head c.in_ok-newest.newest c.requires.region refl c.requires.head (omega arith) c.in_ok-newest.ensures.value in
    omega (arith, g.met.R.RegionWords.small c.args.r.now c.requires.ready, fits.room, c.requires.region.size)

pub overflow_add-result-2 : goal.overflow_add-result-2
overflow_add-result-2 g c =
    let f = g.R.RegionWords.words c.args.r.now in
    let fits = newest_at (g.R.RegionWords.count c.args.r.now) f f c.args.head c.in_ok-newest.newest c.requires.region refl c.requires.head (omega arith) c.in_ok-newest.ensures.value in
    omega (arith, g.met.R.RegionWords.small c.args.r.now c.requires.ready, fits.room, c.requires.region.size)

pub returns-clause-value : goal.returns-clause-value
returns-clause-value g c =
    let f = g.R.RegionWords.words c.args.r.now in
    let fits = newest_at (g.R.RegionWords.count c.args.r.now) f f c.args.head c.in_ok-newest.newest c.requires.region refl c.requires.head (omega arith) c.in_ok-newest.ensures.value in
    sym fits.taken

pub returns-then-head-eq0-clause-stays : goal.returns-then-head-eq0-clause-stays
returns-then-head-eq0-clause-stays g c = stays_none c.args.r.now (g.met.R.RegionWords.rest_refl c.args.r.now) c.requires.ready

pub returns-then-head-eq0-clause-ends : goal.returns-then-head-eq0-clause-ends
returns-then-head-eq0-clause-ends g c = record { later = le_refl (g.R.RegionWords.health c.args.r.now).faults; stays = λ stopped. stopped; cause = refl }

pub record_at-requires-clause-chain : goal.record_at-requires-clause-chain
record_at-requires-clause-chain g c =
    (undo_records (g.R.RegionWords.words c.args.r.now), chain_at (g.R.RegionWords.count c.args.r.now) (g.R.RegionWords.words c.args.r.now) (g.R.RegionWords.words c.args.r.now) c.args.head c.requires.region refl c.requires.head)

pub returns-in_err-newest-clause-value : goal.returns-in_err-newest-clause-value
returns-in_err-newest-clause-value g c =
    let p = err_from_is_err_and c.from_residual.result c.from_residual.ensures.1 in
    rw (p.1) tt

pub returns-in_err-newest-clause-ends : goal.returns-in_err-newest-clause-ends
returns-in_err-newest-clause-ends g c =
    let p = err_from_is_err_and c.from_residual.result c.from_residual.ensures.1 in
    ends_err _ _ c.record_at.result c.from_residual.result _ _ c.in_err-newest.was p.1 p.2 c.record_at.ensures.ends
