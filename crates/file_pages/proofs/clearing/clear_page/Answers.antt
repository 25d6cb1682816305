use Rattle.rio_base.proofs.BlockRules.{can_name_on, ends_later}
use Rattle.node_pages.proofs.EndsOn.{ends_vol, if_err}
use Rattle.file_pages.proofs.Undone.{run_told}
use Rattle.file_pages.proofs.Common.{◌/◌, ◌∙◌, refl, sym, ap, subst, arith, ◌then◌, err_from_is_err_and, AtPage}
use Rattle.file_pages.proofs.Stored.{names_grown, page_can, page_low, stores_page, stores_run, stored_read}
use Rattle.file_pages.specs.Storing.{KeepsFront}
use Rattle.file_pages.proofs.Tails.{clears_run, run_front, run_whole, run_zeros}
use Rattle.file_pages.specs.PageBytes.{block_byte}
use Rattle.file_pages.proofs.clearing.clear_page.Goals as goal

pub returns-in_err-word-clause-stores : goal.returns-in_err-word-clause-stores
returns-in_err-word-clause-stores g c =
    let passed = g.met.V.Volume.passes_keeps _ _ c.word.ensures.passes in
    stores_page c.args.shape.now _ _ _ _ c.args.i.0 c.args.page c.args.b.0 _ c.requires.ready c.requires.owns c.requires.block c.requires.file
    (names_grown c.args.i.0 _ c.args.len c.args.page _ refl refl c.bytes_in_page-size.ensures.size c.requires.grows)
    c.word.ensures.looks.count (record { others = λ b w away. ap (λ f. f b w) c.word.ensures.looks.words }) passed.firm (stored_read _ _ _ _ c.word.ensures.caches) (passed.updating ∙ c.requires.ready.idle)

pub returns-in-Ok-clause-stores : goal.returns-in-Ok-clause-stores
returns-in-Ok-clause-stores g c =
    let run = c.store_run.ensures in
    stores_run c.args.shape.now _ _ _ _ _ _ _ _ _ _ c.args.i.0 c.args.page c.args.b.0 _ _ _ _ c.requires.ready c.requires.owns c.requires.block c.requires.file
    (names_grown c.args.i.0 _ c.args.len c.args.page _ refl refl c.bytes_in_page-size.ensures.size c.requires.grows)
    c.word.ensures.looks c.word.ensures.caches (g.met.V.Volume.passes_keeps _ _ c.word.ensures.passes) run.count run.front run.firm run.caches run.idle

pub returns-in-Ok-clause-goes : goal.returns-in-Ok-clause-goes
returns-in-Ok-clause-goes g c = (g.met.V.Volume.passes_keeps _ _ c.word.ensures.passes).goes then c.store_run.ensures.goes

pub returns-in-Ok-clause-front : goal.returns-in-Ok-clause-front
returns-in-Ok-clause-front g c =
    let front = c.store_run.ensures.front in
    subst (λ f. KeepsFront f (g.V.Blocks.seen c.store_run.new.self).words c.args.b.0 c.args.at) c.word.ensures.looks.words (run_front (g.V.Blocks.seen c.word.new.self).words (g.V.Blocks.seen c.store_run.new.self).words c.args.b.0 c.args.at front.0 _ (clears_run _ c.args.b.0 c.args.at _ _ _ (omega (arith, c.requires.place)) (c.in_ok-word.ensures.value ∙ sym (ap (λ f. f c.args.b.0 (c.args.at / 8)) c.word.ensures.looks.words)) c.cleared_words-run.ensures.first c.cleared_words-run.ensures.rest) front.2)

pub returns-in-Err-Fault-clause-stores : goal.returns-in-Err-Fault-clause-stores
returns-in-Err-Fault-clause-stores g c =
    let run = c.store_run.ensures in
    stores_run c.args.shape.now _ _ _ _ _ _ _ _ _ _ c.args.i.0 c.args.page c.args.b.0 _ _ _ _ c.requires.ready c.requires.owns c.requires.block c.requires.file
    (names_grown c.args.i.0 _ c.args.len c.args.page _ refl refl c.bytes_in_page-size.ensures.size c.requires.grows)
    c.word.ensures.looks c.word.ensures.caches (g.met.V.Volume.passes_keeps _ _ c.word.ensures.passes) run.count run.front run.firm run.caches run.idle

pub returns-in-Err-Fault-clause-goes : goal.returns-in-Err-Fault-clause-goes
returns-in-Err-Fault-clause-goes g c = (g.met.V.Volume.passes_keeps _ _ c.word.ensures.passes).goes then c.store_run.ensures.goes

pub returns-in-Err-Fault-clause-front : goal.returns-in-Err-Fault-clause-front
returns-in-Err-Fault-clause-front g c =
    let front = c.store_run.ensures.front in
    subst (λ f. KeepsFront f (g.V.Blocks.seen c.store_run.new.self).words c.args.b.0 c.args.at) c.word.ensures.looks.words (run_front (g.V.Blocks.seen c.word.new.self).words (g.V.Blocks.seen c.store_run.new.self).words c.args.b.0 c.args.at front.0 _ (clears_run _ c.args.b.0 c.args.at _ _ _ (omega (arith, c.requires.place)) (c.in_ok-word.ensures.value ∙ sym (ap (λ f. f c.args.b.0 (c.args.at / 8)) c.word.ensures.looks.words)) c.cleared_words-run.ensures.first c.cleared_words-run.ensures.rest) front.2)

pub returns-in-Err-Stopped-clause-stores : goal.returns-in-Err-Stopped-clause-stores
returns-in-Err-Stopped-clause-stores g c =
    let run = c.store_run.ensures in
    stores_run c.args.shape.now _ _ _ _ _ _ _ _ _ _ c.args.i.0 c.args.page c.args.b.0 _ _ _ _ c.requires.ready c.requires.owns c.requires.block c.requires.file
    (names_grown c.args.i.0 _ c.args.len c.args.page _ refl refl c.bytes_in_page-size.ensures.size c.requires.grows)
    c.word.ensures.looks c.word.ensures.caches (g.met.V.Volume.passes_keeps _ _ c.word.ensures.passes) run.count run.front run.firm run.caches run.idle

pub returns-in-Err-Stopped-clause-goes : goal.returns-in-Err-Stopped-clause-goes
returns-in-Err-Stopped-clause-goes g c = (g.met.V.Volume.passes_keeps _ _ c.word.ensures.passes).goes then c.store_run.ensures.goes

pub returns-in-Err-Stopped-clause-front : goal.returns-in-Err-Stopped-clause-front
returns-in-Err-Stopped-clause-front g c =
    let front = c.store_run.ensures.front in
    subst (λ f. KeepsFront f (g.V.Blocks.seen c.store_run.new.self).words c.args.b.0 c.args.at) c.word.ensures.looks.words (run_front (g.V.Blocks.seen c.word.new.self).words (g.V.Blocks.seen c.store_run.new.self).words c.args.b.0 c.args.at front.0 _ (clears_run _ c.args.b.0 c.args.at _ _ _ (omega (arith, c.requires.place)) (c.in_ok-word.ensures.value ∙ sym (ap (λ f. f c.args.b.0 (c.args.at / 8)) c.word.ensures.looks.words)) c.cleared_words-run.ensures.first c.cleared_words-run.ensures.rest) front.2)

pub returns-in-Ok-clause-cleared : goal.returns-in-Ok-clause-cleared
returns-in-Ok-clause-cleared g c = run_zeros (g.V.Blocks.seen c.word.new.self).words (g.V.Blocks.seen c.store_run.new.self).words c.args.b.0 c.args.at _ _ (clears_run _ c.args.b.0 c.args.at _ _ _ (omega (arith, c.requires.place)) (c.in_ok-word.ensures.value ∙ sym (ap (λ f. f c.args.b.0 (c.args.at / 8)) c.word.ensures.looks.words)) c.cleared_words-run.ensures.first c.cleared_words-run.ensures.rest) (run_whole (c.args.at / 8) c.cleared_words-run.result (omega (arith, c.requires.place)) c.cleared_words-run.ensures.len) c.in-Ok.ensures.ok

pub returns-in_err-word-clause-goes : goal.returns-in_err-word-clause-goes
returns-in_err-word-clause-goes g c = (g.met.V.Volume.passes_keeps _ _ c.word.ensures.passes).goes

pub returns-in_err-word-clause-front : goal.returns-in_err-word-clause-front
returns-in_err-word-clause-front g c = record { others = λ b w away. ap (λ f. f b w) c.word.ensures.looks.words; front = λ y less. ap (λ f. block_byte f c.args.b.0 y) c.word.ensures.looks.words }

pub store_run-requires-clause-idle : goal.store_run-requires-clause-idle
store_run-requires-clause-idle g c = (g.met.V.Volume.passes_keeps _ _ c.word.ensures.passes).updating ∙ c.requires.ready.idle

pub returns-in_err-word-clause-cleared : goal.returns-in_err-word-clause-cleared
returns-in_err-word-clause-cleared g c = if_err c.from_residual.result _ c.from_residual.ensures.0

pub returns-in_err-word-clause-named : goal.returns-in_err-word-clause-named
returns-in_err-word-clause-named g c = if_err c.from_residual.result _ c.from_residual.ensures.0

pub returns-in_err-word-clause-ends : goal.returns-in_err-word-clause-ends
returns-in_err-word-clause-ends g c = let p = err_from_is_err_and c.from_residual.result c.from_residual.ensures.1 in ends_vol _ _ c.word.result c.from_residual.result _ p.0 c.in_err-word.was p.1 p.2 c.word.ensures.ends

pub returns-in-Ok-clause-ends : goal.returns-in-Ok-clause-ends
returns-in-Ok-clause-ends g c = ends_later _ _ _ _ c.word.ensures.ends.later c.in_ok-word.ensures.ends.cause c.in-Ok.ensures.ends

pub returns-in-Err-Fault-clause-ends : goal.returns-in-Err-Fault-clause-ends
returns-in-Err-Fault-clause-ends g c = ends_later _ _ _ _ c.word.ensures.ends.later c.in_ok-word.ensures.ends.cause (run_told _ _ _ _ c.in-Err-Fault.field-0-is c.in-Err-Fault.ensures.ends)

pub returns-in-Err-Stopped-clause-ends : goal.returns-in-Err-Stopped-clause-ends
returns-in-Err-Stopped-clause-ends g c = ends_later _ _ _ _ c.word.ensures.ends.later c.in_ok-word.ensures.ends.cause (run_told _ _ _ _ c.in-Err-Stopped.field-0-is c.in-Err-Stopped.ensures.ends)

pub word-requires-clause-place : goal.word-requires-clause-place
word-requires-clause-place g c = let count = c.requires.ready.order.has_shape.count in let at = c.requires.block in let to = (c.requires.ready.order.mapped.laid.numbers.each c.args.i.0 c.requires.owns.ino (AtPage c.args.page) c.requires.owns.slot).1 in record { block = omega (arith, count, at, to); word = omega (arith, c.requires.place) }

pub word-requires-clause-name : goal.word-requires-clause-name
word-requires-clause-name g c = page_can c.args.shape.now _ _ c.args.i.0 c.args.page c.args.b.0 _ c.requires.ready c.requires.owns c.requires.block c.requires.file refl refl (omega (arith, c.bytes_in_page-size.ensures.size))

pub store_run-requires-clause-name : goal.store_run-requires-clause-name
store_run-requires-clause-name g c = can_name_on _ _ _ _ (page_can c.args.shape.now _ _ c.args.i.0 c.args.page c.args.b.0 _ c.requires.ready c.requires.owns c.requires.block c.requires.file refl refl (omega (arith, c.bytes_in_page-size.ensures.size))) c.word.ensures.caches

pub bytes_in_page-size-requires : goal.bytes_in_page-size-requires
bytes_in_page-size-requires g c = let low = page_low c.args.shape.now _ _ c.args.i.0 c.args.page c.requires.ready c.requires.owns in omega (arith, low)
