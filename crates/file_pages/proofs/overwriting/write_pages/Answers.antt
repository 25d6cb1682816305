use Rattle.file_pages.specs.Spans.{SpanNamed}
use Rattle.file_pages.proofs.Common.{◌≡◌, length, numbers, refl, arith, volume_layout, err_from_is_err_and, subst, sym}
use Rattle.node_pages.proofs.LookingUpRules.{can_look_up, look_refl}
use Rattle.file_pages.proofs.Within.{IsPages, Overwrites, over_done, over_err, overwrites_of, pages_of, pages_apart, pages_named, pages_places}
use Rattle.file_pages.proofs.Written.{ends_write, bytes_unrefused, ends_write_done, write_unrefused}
use Rattle.file_pages.proofs.overwriting.write_pages.Goals as goal

pub returns-in_err-store_span-clause-leaves : goal.returns-in_err-store_span-clause-leaves
returns-in_err-store_span-clause-leaves g c =
    let shape = c.args.shape.now in
    let x = g.V.Blocks.seen c.args.v.now in
    let r = c.requires in
    let i = c.args.i.0 in
    let first = c.args.first in
    let blocks = numbers c.args.blocks.now in
    let its : IsPages (volume_layout shape x.words) i first blocks × (length blocks ≡ length c.args.blocks.now) = pages_of (volume_layout shape x.words) i first (length c.args.blocks.now) blocks r.ino (omega (arith, r.file)) (omega (arith, r.pages, r.size)) r.blocks in
    let k = g.V.Volume.kept c.args.v.now in
    let z = g.V.Blocks.seen c.store_span.new.v in
    let l = g.V.Volume.kept c.store_span.new.v in
    let off = c.args.off in
    let bytes = c.args.bytes.now in
    let span = c.store_span.ensures in
    let long = its.1 in
    let done : Overwrites shape x z l i first blocks off bytes = overwrites_of shape _ _ _ _ x k x k z l i first blocks off bytes c.args.size r.ready r.ino r.file (look_refl shape x (can_look_up shape x r.ready.order.has_shape r.ready.order.mapped r.ready.order.named)) (g.met.V.Volume.passes_keeps _ _ (g.met.V.Blocks.passes_refl c.args.v.now)) its.0 (omega (arith, r.page)) (omega (arith, r.to, long)) r.within r.size span.beside span.firm span.named span.idle (g.met.V.Volume.settled _ span.sound) in
    let e = err_from_is_err_and c.from_residual.result c.from_residual.ensures.1 in
    over_err shape x k z l i first blocks off bytes x.words c.store_span.result _ c.from_residual.result _ refl c.in_err-store_span.was e.1 e.2 done span.fault span.front

pub returns-clause-leaves : goal.returns-clause-leaves
returns-clause-leaves g c =
    let shape = c.args.shape.now in
    let x = g.V.Blocks.seen c.args.v.now in
    let r = c.requires in
    let i = c.args.i.0 in
    let first = c.args.first in
    let blocks = numbers c.args.blocks.now in
    let its : IsPages (volume_layout shape x.words) i first blocks × (length blocks ≡ length c.args.blocks.now) = pages_of (volume_layout shape x.words) i first (length c.args.blocks.now) blocks r.ino (omega (arith, r.file)) (omega (arith, r.pages, r.size)) r.blocks in
    let k = g.V.Volume.kept c.args.v.now in
    let z = g.V.Blocks.seen c.store_span.new.v in
    let l = g.V.Volume.kept c.store_span.new.v in
    let off = c.args.off in
    let bytes = c.args.bytes.now in
    let span = c.store_span.ensures in
    let long = its.1 in
    let done : Overwrites shape x z l i first blocks off bytes = overwrites_of shape _ _ _ _ x k x k z l i first blocks off bytes c.args.size r.ready r.ino r.file (look_refl shape x (can_look_up shape x r.ready.order.has_shape r.ready.order.mapped r.ready.order.named)) (g.met.V.Volume.passes_keeps _ _ (g.met.V.Blocks.passes_refl c.args.v.now)) its.0 (omega (arith, r.page)) (omega (arith, r.to, long)) r.within r.size span.beside span.firm span.named span.idle (g.met.V.Volume.settled _ span.sound) in
    over_done shape x z l i first blocks off bytes x.words refl done r.some c.in_ok-store_span.ensures.ok

pub returns-in_err-store_span-clause-ends : goal.returns-in_err-store_span-clause-ends
returns-in_err-store_span-clause-ends g c = let e = err_from_is_err_and c.from_residual.result c.from_residual.ensures.1 in ends_write _ _ c.store_span.result c.from_residual.result _ e.0 c.in_err-store_span.was e.1 e.2 c.store_span.ensures.ends

pub returns-clause-ends : goal.returns-clause-ends
returns-clause-ends g c = ends_write_done _ _ _ _ c.in_ok-store_span.ensures.ends

pub returns-in_err-store_span-clause-small : goal.returns-in_err-store_span-clause-small
returns-in_err-store_span-clause-small g c = let e = err_from_is_err_and c.from_residual.result c.from_residual.ensures.1 in (bytes_unrefused c.from_residual.result _ _ e.1 e.2).1

pub returns-in_err-store_span-clause-spacious : goal.returns-in_err-store_span-clause-spacious
returns-in_err-store_span-clause-spacious g c = let e = err_from_is_err_and c.from_residual.result c.from_residual.ensures.1 in (bytes_unrefused c.from_residual.result _ _ e.1 e.2).0

pub returns-clause-small : goal.returns-clause-small
returns-clause-small g c = (write_unrefused _).1

pub returns-clause-spacious : goal.returns-clause-spacious
returns-clause-spacious g c = (write_unrefused _).0

pub store_span-requires-clause-file_to : goal.store_span-requires-clause-file_to
store_span-requires-clause-file_to g c = let to = c.requires.ino.to in let most = c.requires.ready.order.has_shape.sizes.inodes_to in omega (arith, to, most)

pub store_span-requires-clause-apart : goal.store_span-requires-clause-apart
store_span-requires-clause-apart g c =
    let shape = c.args.shape.now in
    let x = g.V.Blocks.seen c.args.v.now in
    let r = c.requires in
    let i = c.args.i.0 in
    let first = c.args.first in
    let blocks = numbers c.args.blocks.now in
    let its : IsPages (volume_layout shape x.words) i first blocks × (length blocks ≡ length c.args.blocks.now) = pages_of (volume_layout shape x.words) i first (length c.args.blocks.now) blocks r.ino (omega (arith, r.file)) (omega (arith, r.pages, r.size)) r.blocks in
    pages_apart (volume_layout shape x.words) i first blocks r.ready.order.mapped.laid its.0

pub store_span-requires-clause-places : goal.store_span-requires-clause-places
store_span-requires-clause-places g c =
    λ t few.
    let shape = c.args.shape.now in
    let x = g.V.Blocks.seen c.args.v.now in
    let r = c.requires in
    let i = c.args.i.0 in
    let first = c.args.first in
    let blocks = numbers c.args.blocks.now in
    let its : IsPages (volume_layout shape x.words) i first blocks × (length blocks ≡ length c.args.blocks.now) = pages_of (volume_layout shape x.words) i first (length c.args.blocks.now) blocks r.ino (omega (arith, r.file)) (omega (arith, r.pages, r.size)) r.blocks in
    let long = its.1 in
    pages_places (volume_layout shape x.words) i first blocks x.count r.ready.order.mapped.laid its.0 r.ready.order.has_shape.count t (omega (arith, few, long))

pub store_span-requires-clause-named : goal.store_span-requires-clause-named
store_span-requires-clause-named g c =
    let shape = c.args.shape.now in
    let x = g.V.Blocks.seen c.args.v.now in
    let r = c.requires in
    let i = c.args.i.0 in
    let first = c.args.first in
    let blocks = numbers c.args.blocks.now in
    let its : IsPages (volume_layout shape x.words) i first blocks × (length blocks ≡ length c.args.blocks.now) = pages_of (volume_layout shape x.words) i first (length c.args.blocks.now) blocks r.ino (omega (arith, r.file)) (omega (arith, r.pages, r.size)) r.blocks in
    subst (λ m. SpanNamed blocks first i m x) (sym r.size) (pages_named (volume_layout shape x.words) x i first blocks (r.ready.order.named.each i r.ino) r.file its.0)

pub store_span-requires-clause-from : goal.store_span-requires-clause-from
store_span-requires-clause-from g c = omega (arith, c.requires.page)
