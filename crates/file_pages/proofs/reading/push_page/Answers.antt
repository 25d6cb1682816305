use Rattle.file_pages.proofs.Common.{refl, arith, placed_at}
use Rattle.file_pages.proofs.PageRead.{looked_page, page_bytes}
use Rattle.file_pages.proofs.Stored.{names_grown}
use Rattle.file_pages.proofs.reading.push_page.Goals as goal

pub returns-clause-looks : goal.returns-clause-looks
returns-clause-looks g c = looked_page c.args.shape.now _ _ c.args.i.0 c.args.p c.args.b.0 _ c.requires.shape c.requires.mapped c.requires.named c.requires.owns c.requires.block c.requires.file (names_grown c.args.i.0 _ c.args.size c.args.p _ refl refl c.bytes_in_page-size.ensures.size (omega (arith, c.requires.size))) c.push_piece.ensures.looks c.push_piece.ensures.caches

pub returns-clause-value : goal.returns-clause-value
returns-clause-value g c =
    let f = (g.V.Blocks.seen c.args.v.now).words in
    let n = placed_at f c.args.i.0 in
    page_bytes f n c.args.b.0 c.args.p c.args.from c.args.to c.args.out.now.items c.push_piece.new.out.items c.push_piece.result (omega (arith, c.requires.file)) c.requires.page (omega (arith, c.requires.within, c.requires.size)) c.requires.block c.push_piece.ensures.bytes
