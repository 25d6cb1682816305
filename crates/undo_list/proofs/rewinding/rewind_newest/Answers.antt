use Rattle.std.proofs.Common.{ap, sym, refl, ℕ, ◌+◌, ◌*◌, ◌≡◌, arith, le_trans, subst, ◌∙◌}
use Rattle.std.proofs.lemmas.Result.{err_from_is_err_and}
use Rattle.rio_base.proofs.BlockRules.{ends_later}
use Rattle.rio_base.proofs.RegionRules.{stays_trans}
use Rattle.rio_model.proofs.UndoRules.{undoes_refl}
use Rattle.rio_model.specs.Undo.{map_from, Undoes, undo_records}
use Rattle.undo_list.proofs.Chains.{newest_at, older_at, chain_at}
use Rattle.undo_list.proofs.Frames.{front_back, newest_ends}
use Rattle.undo_list.proofs.Outcomes.{ends_err}
use Rattle.undo_list.proofs.rewinding.rewind_newest.Goals as goal

pub returns-in_err-copy_words-clause-before : goal.returns-in_err-copy_words-clause-before
returns-in_err-copy_words-clause-before g c =
    let f = g.R.RegionWords.words c.args.r.now in
    let f2 = g.R.RegionWords.words c.record_at.new.r in
    let n = g.R.RegionWords.count c.args.r.now in
    let v = c.in_ok-newest.newest in
    let dst = 512 * (1 + c.args.undo) + v.first in
    let w = newest_at n f f c.args.head v c.requires.region refl c.requires.head c.requires.some c.in_ok-newest.ensures.value in
    let older = older_at n f f c.args.head v c.requires.region refl c.requires.head c.in_ok-newest.ensures.value in
    let same : f2 ≡ f = c.record_at.ensures.words in
    let at : dst ≡ map_from f + v.first = ap (λ u. 512 * (1 + u) + v.first) c.requires.undo in
    front_back n f f2 (g.R.RegionWords.words c.copy_words.new.r) c.args.head dst v c.requires.region same w at c.copy_words.ensures.front

pub returns-in_err-set-clause-before : goal.returns-in_err-set-clause-before
returns-in_err-set-clause-before g c =
    let f = g.R.RegionWords.words c.args.r.now in
    let f2 = g.R.RegionWords.words c.record_at.new.r in
    let n = g.R.RegionWords.count c.args.r.now in
    let v = c.in_ok-newest.newest in
    let dst = 512 * (1 + c.args.undo) + v.first in
    let w = newest_at n f f c.args.head v c.requires.region refl c.requires.head c.requires.some c.in_ok-newest.ensures.value in
    let older = older_at n f f c.args.head v c.requires.region refl c.requires.head c.in_ok-newest.ensures.value in
    let same : f2 ≡ f = c.record_at.ensures.words in
    let at : dst ≡ map_from f + v.first = ap (λ u. 512 * (1 + u) + v.first) c.requires.undo in
    newest_ends n f f2 (g.R.RegionWords.words c.copy_words.new.r) (g.R.RegionWords.words c.set.new.self) c.args.head dst v c.requires.region same w older at c.in_ok-copy_words.ensures.ok c.set.ensures.either

pub returns-clause-head : goal.returns-clause-head
returns-clause-head g c =
    let f = g.R.RegionWords.words c.args.r.now in
    let f2 = g.R.RegionWords.words c.record_at.new.r in
    let n = g.R.RegionWords.count c.args.r.now in
    let v = c.in_ok-newest.newest in
    let dst = 512 * (1 + c.args.undo) + v.first in
    let w = newest_at n f f c.args.head v c.requires.region refl c.requires.head c.requires.some c.in_ok-newest.ensures.value in
    let older = older_at n f f c.args.head v c.requires.region refl c.requires.head c.in_ok-newest.ensures.value in
    let same : f2 ≡ f = c.record_at.ensures.words in
    let at : dst ≡ map_from f + v.first = ap (λ u. 512 * (1 + u) + v.first) c.requires.undo in
    (sym (ap (λ (x : ℕ → ℕ). x 3) c.in_ok-set.ensures.ok), w.smaller)

pub returns-clause-before : goal.returns-clause-before
returns-clause-before g c =
    let f = g.R.RegionWords.words c.args.r.now in
    let f2 = g.R.RegionWords.words c.record_at.new.r in
    let n = g.R.RegionWords.count c.args.r.now in
    let v = c.in_ok-newest.newest in
    let dst = 512 * (1 + c.args.undo) + v.first in
    let w = newest_at n f f c.args.head v c.requires.region refl c.requires.head c.requires.some c.in_ok-newest.ensures.value in
    let older = older_at n f f c.args.head v c.requires.region refl c.requires.head c.in_ok-newest.ensures.value in
    let same : f2 ≡ f = c.record_at.ensures.words in
    let at : dst ≡ map_from f + v.first = ap (λ u. 512 * (1 + u) + v.first) c.requires.undo in
    newest_ends n f f2 (g.R.RegionWords.words c.copy_words.new.r) (g.R.RegionWords.words c.set.new.self) c.args.head dst v c.requires.region same w older at c.in_ok-copy_words.ensures.ok c.set.ensures.either

pub returns-clause-stays : goal.returns-clause-stays
returns-clause-stays g c =
    let trans = g.met.R.RegionWords.rest_trans in
    stays_trans trans c.record_at.ensures.stays (stays_trans trans c.copy_words.ensures.stays c.set.ensures.stays)

pub record_at-requires-clause-chain : goal.record_at-requires-clause-chain
record_at-requires-clause-chain g c =
    (undo_records (g.R.RegionWords.words c.args.r.now), chain_at (g.R.RegionWords.count c.args.r.now) (g.R.RegionWords.words c.args.r.now) (g.R.RegionWords.words c.args.r.now) c.args.head c.requires.region refl c.requires.head)

pub set-requires-clause-place : goal.set-requires-clause-place
set-requires-clause-place g c = omega (arith, c.copy_words.ensures.stays.count, c.record_at.ensures.stays.count, c.requires.region.size)

pub returns-in_err-newest-clause-head : goal.returns-in_err-newest-clause-head
returns-in_err-newest-clause-head g c =
    let p = err_from_is_err_and c.from_residual.result c.from_residual.ensures.1 in
    rw (p.1) tt

pub returns-in_err-newest-clause-before : goal.returns-in_err-newest-clause-before
returns-in_err-newest-clause-before g c =
    subst (λ w. Undoes (g.R.RegionWords.count c.args.r.now) (g.R.RegionWords.words c.args.r.now) w) (sym c.record_at.ensures.words) (undoes_refl (g.R.RegionWords.count c.args.r.now) (g.R.RegionWords.words c.args.r.now) c.requires.region)

pub returns-in_err-newest-clause-ends : goal.returns-in_err-newest-clause-ends
returns-in_err-newest-clause-ends g c =
    let p = err_from_is_err_and c.from_residual.result c.from_residual.ensures.1 in
    ends_err _ _ c.record_at.result c.from_residual.result _ _ c.in_err-newest.was p.1 p.2 c.record_at.ensures.ends

pub returns-in_err-copy_words-clause-head : goal.returns-in_err-copy_words-clause-head
returns-in_err-copy_words-clause-head g c =
    let p = err_from_is_err_and c.from_residual-in_err-copy_words.result c.from_residual-in_err-copy_words.ensures.1 in
    rw (p.1) tt

pub returns-in_err-copy_words-clause-stays : goal.returns-in_err-copy_words-clause-stays
returns-in_err-copy_words-clause-stays g c = stays_trans g.met.R.RegionWords.rest_trans c.record_at.ensures.stays c.copy_words.ensures.stays

pub returns-in_err-copy_words-clause-ends : goal.returns-in_err-copy_words-clause-ends
returns-in_err-copy_words-clause-ends g c =
    let p = err_from_is_err_and c.from_residual-in_err-copy_words.result c.from_residual-in_err-copy_words.ensures.1 in
    ends_later _ _ _ _ c.record_at.ensures.ends.later c.in_ok-newest.ensures.ends.cause (ends_err _ _ c.copy_words.result c.from_residual-in_err-copy_words.result _ _ c.in_err-copy_words.was p.1 p.2 c.copy_words.ensures.ends)

pub returns-in_err-set-clause-head : goal.returns-in_err-set-clause-head
returns-in_err-set-clause-head g c =
    let p = err_from_is_err_and c.from_residual-in_err-set.result c.from_residual-in_err-set.ensures.1 in
    rw (p.1) tt

pub returns-in_err-set-clause-stays : goal.returns-in_err-set-clause-stays
returns-in_err-set-clause-stays g c = stays_trans g.met.R.RegionWords.rest_trans c.record_at.ensures.stays (stays_trans g.met.R.RegionWords.rest_trans c.copy_words.ensures.stays c.set.ensures.stays)

pub returns-in_err-set-clause-ends : goal.returns-in_err-set-clause-ends
returns-in_err-set-clause-ends g c =
    let p = err_from_is_err_and c.from_residual-in_err-set.result c.from_residual-in_err-set.ensures.1 in
    ends_later _ _ _ _ (le_trans c.record_at.ensures.ends.later c.copy_words.ensures.ends.later) (c.in_ok-copy_words.ensures.ends.cause ∙ c.in_ok-newest.ensures.ends.cause) (ends_err _ _ c.set.result c.from_residual-in_err-set.result _ _ c.in_err-set.was p.1 p.2 c.set.ensures.ends)

pub returns-clause-ends : goal.returns-clause-ends
returns-clause-ends g c =
    let running = c.in_ok-set.ensures.ends.cause ∙ (c.in_ok-copy_words.ensures.ends.cause ∙ c.in_ok-newest.ensures.ends.cause) in
    record { later = le_trans (le_trans c.record_at.ensures.ends.later c.copy_words.ensures.ends.later) c.set.ensures.ends.later; stays = λ stopped. running ∙ stopped; cause = running }
