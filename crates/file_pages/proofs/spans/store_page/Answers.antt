use Rattle.file_pages.proofs.Common.{◌/◌, ◌-◌, refl, arith, err_from_is_err_and, numbers}
use Rattle.node_pages.proofs.Listed.{as_many, block_place}
use Rattle.file_pages.proofs.Spanned.{beside_stored, page_at, page_in, page_named, page_piece, page_whole, span_can}
use Rattle.node_pages.proofs.EndsOn.{if_err}
use Rattle.file_pages.proofs.Written.{bytes_ok, bytes_runs, bytes_well, ends_bytes}
use Rattle.file_pages.proofs.spans.store_page.Goals as goal

pub store_piece-requires-clause-block : goal.store_piece-requires-clause-block
store_piece-requires-clause-block g c =
    let blocks = c.args.blocks.now in
    let many = as_many blocks in
    let within = page_in blocks c.args.first c.args.off _ c.requires.from c.requires.some c.requires.to in
    block_place blocks (c.args.off / 4096 - c.args.first) _ _ _ (omega (arith, within, many)) (c.requires.places _ (omega (arith, within, many))) refl

pub store_piece-requires-clause-name : goal.store_piece-requires-clause-name
store_piece-requires-clause-name g c =
    let blocks = c.args.blocks.now in
    let many = as_many blocks in
    let size = c.bytes_in_page.ensures.size in
    span_can _ (numbers blocks) c.args.first c.args.i.0 c.args.len _ (c.args.off / 4096) _ c.requires.named c.requires.file c.requires.file_to (omega (arith, c.requires.few, many)) (omega (arith, c.requires.from))
    (page_in blocks c.args.first c.args.off _ c.requires.from c.requires.some c.requires.to) (page_at blocks c.args.first c.args.off _ _ c.requires.from c.requires.some c.requires.to) refl refl (omega (arith, size))

pub returns-clause-ok : goal.returns-clause-ok
returns-clause-ok g c = page_whole _ _ c.args.blocks.now c.args.first c.args.off c.args.bytes.now _ _ c.requires.apart c.requires.from c.requires.some c.requires.to c.min-count.ensures c.in_ok-store_piece.ensures.ok

pub returns-clause-front : goal.returns-clause-front
returns-clause-front g c =
    let front = c.store_piece.ensures.front in
    let stored = page_piece _ _ c.args.blocks.now c.args.first c.args.off c.args.bytes.now _ _ front.0 c.requires.apart c.requires.from c.requires.some c.requires.to c.min-count.ensures front.1 front.2 in
    (front.0, stored.0, stored.1)

pub returns-clause-beside : goal.returns-clause-beside
returns-clause-beside g c =
    let now = c.store_piece.ensures in
    let from = c.requires.from in
    beside_stored (numbers c.args.blocks.now) _ (c.args.off / 4096 - c.args.first) _ _ _ _ _ (page_in c.args.blocks.now c.args.first c.args.off _ from c.requires.some c.requires.to) (page_at c.args.blocks.now c.args.first c.args.off _ _ from c.requires.some c.requires.to) now.count (c.in_ok-store_piece.ensures.ok).others now.standing now.firm now.caches

pub returns-clause-named : goal.returns-clause-named
returns-clause-named g c = page_named _ _ c.args.blocks.now c.args.first c.args.i.0 c.args.len c.args.off _ _ _ c.requires.named c.requires.apart c.requires.from c.requires.some c.requires.to refl refl c.bytes_in_page.ensures.size c.store_piece.ensures.caches

pub returns-in_err-store_piece-clause-fault : goal.returns-in_err-store_piece-clause-fault
returns-in_err-store_piece-clause-fault g c =
    let p = err_from_is_err_and c.from_residual.result c.from_residual.ensures.1 in
    λ k is.
    let was = c.in_err-store_piece.was in
    let same = p.1 in
    let from = p.2 in
    let stored = c.store_piece.ensures.fault k (cc) in
    page_piece _ _ c.args.blocks.now c.args.first c.args.off c.args.bytes.now _ _ k c.requires.apart c.requires.from c.requires.some c.requires.to c.min-count.ensures stored.0 stored.1

pub returns-in_err-store_piece-clause-front : goal.returns-in_err-store_piece-clause-front
returns-in_err-store_piece-clause-front g c =
    let front = c.store_piece.ensures.front in
    let stored = page_piece _ _ c.args.blocks.now c.args.first c.args.off c.args.bytes.now _ _ front.0 c.requires.apart c.requires.from c.requires.some c.requires.to c.min-count.ensures front.1 front.2 in
    (front.0, stored.0, stored.1)

pub returns-in_err-store_piece-clause-beside : goal.returns-in_err-store_piece-clause-beside
returns-in_err-store_piece-clause-beside g c =
    let now = c.store_piece.ensures in
    let from = c.requires.from in
    beside_stored (numbers c.args.blocks.now) _ (c.args.off / 4096 - c.args.first) _ _ _ _ _ (page_in c.args.blocks.now c.args.first c.args.off _ from c.requires.some c.requires.to) (page_at c.args.blocks.now c.args.first c.args.off _ _ from c.requires.some c.requires.to) now.count (now.front.2).others now.standing now.firm now.caches

pub returns-in_err-store_piece-clause-named : goal.returns-in_err-store_piece-clause-named
returns-in_err-store_piece-clause-named g c = page_named _ _ c.args.blocks.now c.args.first c.args.i.0 c.args.len c.args.off _ _ _ c.requires.named c.requires.apart c.requires.from c.requires.some c.requires.to refl refl c.bytes_in_page.ensures.size c.store_piece.ensures.caches

pub returns-clause-ends : goal.returns-clause-ends
returns-clause-ends g c = bytes_ok _ _ _ c.store_piece.ensures.ends.later (bytes_runs _ _ _ c.in_ok-store_piece.ensures.ends)

pub returns-clause-fault : goal.returns-clause-fault
returns-clause-fault g c = λ k is. absurd (bytes_well _ k is)

pub returns-in_err-store_piece-clause-ends : goal.returns-in_err-store_piece-clause-ends
returns-in_err-store_piece-clause-ends g c = let p = err_from_is_err_and c.from_residual.result c.from_residual.ensures.1 in ends_bytes _ _ c.store_piece.result c.from_residual.result _ p.0 c.in_err-store_piece.was p.1 p.2 c.store_piece.ensures.ends

pub returns-in_err-store_piece-clause-ok : goal.returns-in_err-store_piece-clause-ok
returns-in_err-store_piece-clause-ok g c = if_err c.from_residual.result _ c.from_residual.ensures.0
