use Rattle.std.proofs.Common.{arith, ap, ◌∙◌, ◌+◌, ◌-◌, ◌≡◌, refl, slice_index}
use Rattle.undo_list.proofs.Chains.{head_words, newest_is}
use Rattle.std.proofs.lemmas.Result.{err_from_is_err_and}
use Rattle.undo_list.proofs.Outcomes.{ends_err}
use Rattle.undo_list.proofs.records.record_at.Goals as goal

pub overflow_cast-at : goal.overflow_cast-at
overflow_cast-at g c =
    let w = head_words (g.R.RegionWords.count c.args.r.now) (g.R.RegionWords.words c.args.r.now) c.args.head c.requires.chain.0 c.requires.region c.requires.some c.requires.chain.1 in
    omega (arith, g.met.R.RegionWords.small c.args.r.now c.requires.ready, w.low, w.whole, w.room)

pub overflow_add-at : goal.overflow_add-at
overflow_add-at g c =
    let w = head_words (g.R.RegionWords.count c.args.r.now) (g.R.RegionWords.words c.args.r.now) c.args.head c.requires.chain.0 c.requires.region c.requires.some c.requires.chain.1 in
    omega (arith, g.met.R.RegionWords.small c.args.r.now c.requires.ready, w.low, w.whole, w.room)

pub read_run-requires-clause-place : goal.read_run-requires-clause-place
read_run-requires-clause-place g c =
    let w = head_words (g.R.RegionWords.count c.args.r.now) (g.R.RegionWords.words c.args.r.now) c.args.head c.requires.chain.0 c.requires.region c.requires.some c.requires.chain.1 in
    omega (arith, w.whole, w.room)

pub overflow_cast-result : goal.overflow_cast-result
overflow_cast-result g c =
    let f = g.R.RegionWords.words c.args.r.now in
    let w = head_words (g.R.RegionWords.count c.args.r.now) f c.args.head c.requires.chain.0 c.requires.region c.requires.some c.requires.chain.1 in
    let first : slice_index c.read_run.new.into 1 ≡ f (513 + (c.args.head - 1)) = c.in_ok-read_run.ensures.value.each 1 (omega arith) ∙ ap f (omega arith) in
    omega (arith, g.met.R.RegionWords.small c.args.r.now c.requires.ready, w.low, w.whole, w.within)

pub overflow_cast-result-2 : goal.overflow_cast-result-2
overflow_cast-result-2 g c =
    let f = g.R.RegionWords.words c.args.r.now in
    let w = head_words (g.R.RegionWords.count c.args.r.now) f c.args.head c.requires.chain.0 c.requires.region c.requires.some c.requires.chain.1 in
    let count : slice_index c.read_run.new.into 2 ≡ f (514 + (c.args.head - 1)) = c.in_ok-read_run.ensures.value.each 2 (omega arith) ∙ ap f (omega arith) in
    omega (arith, g.met.R.RegionWords.small c.args.r.now c.requires.ready, w.low, w.whole, w.within)

pub returns-clause-value : goal.returns-clause-value
returns-clause-value g c =
    let f = g.R.RegionWords.words c.args.r.now in
    let at = c.args.head - 1 in
    let older : slice_index c.read_run.new.into 0 ≡ f (512 + at) = c.in_ok-read_run.ensures.value.each 0 (omega arith) ∙ ap f (omega arith) in
    let first : slice_index c.read_run.new.into 1 ≡ f (513 + at) = c.in_ok-read_run.ensures.value.each 1 (omega arith) ∙ ap f (omega arith) in
    let count : slice_index c.read_run.new.into 2 ≡ f (514 + at) = c.in_ok-read_run.ensures.value.each 2 (omega arith) ∙ ap f (omega arith) in
    λ rs chain. newest_is f c.args.head at _ _ _ c.requires.some refl first count older rs chain

pub returns-in_err-read_run-clause-value : goal.returns-in_err-read_run-clause-value
returns-in_err-read_run-clause-value g c =
    let p = err_from_is_err_and c.from_residual.result c.from_residual.ensures.1 in
    rw (p.1) tt

pub returns-in_err-read_run-clause-ends : goal.returns-in_err-read_run-clause-ends
returns-in_err-read_run-clause-ends g c =
    let p = err_from_is_err_and c.from_residual.result c.from_residual.ensures.1 in
    ends_err _ _ c.read_run.result c.from_residual.result _ _ c.in_err-read_run.was p.1 p.2 c.read_run.ensures.ends

pub returns-clause-ends : goal.returns-clause-ends
returns-clause-ends g c = record { later = c.read_run.ensures.ends.later; stays = λ stopped. c.in_ok-read_run.ensures.ends.cause ∙ stopped; cause = c.in_ok-read_run.ensures.ends.cause }
