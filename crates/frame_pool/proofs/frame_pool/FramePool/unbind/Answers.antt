use Rattle.std.proofs.Common.{◌≡◌, ◌∙◌, ap, sym, subst, arith, slice_set, length}
use Rattle.std.proofs.lemmas.List.{with_items_is, length-set}
use Rattle.std.specs.Vec.{with_items}
use Rattle.frame_pool.specs.Frames.{block_at, order_at, pinned_at}
use Rattle.frame_pool.specs.Orders.{freed_first}
use Rattle.frame_pool.specs.Rings.{IsRingOf, KeepsLinks}
use Rattle.frame_pool.proofs.Counts.{count_same}
use Rattle.frame_pool.proofs.Holding.{Holds, Loses, bound_block, holds, holds_unbound, in_table, order_same, ring_same, once_same}
use Rattle.frame_pool.proofs.Lent.{back_block, same_block, same_pin}
use Rattle.frame_pool.proofs.frame_pool.FramePool.unbind.Goals as goal

pub index_mut-requires : goal.index_mut-requires
index_mut-requires c =
    let p = c.args.self.now in
    let bound = bound_block p c.args.k c.index.result.now c.in-Some.b c.requires.within c.index.ensures c.in-Some.is in
    omega (arith, p.table.ok.0, in_table p.count c.args.k c.in-Some.b.0 p.table.items p.frames.items (holds p) bound)

pub invariant_of-self : goal.invariant_of-self
invariant_of-self c =
    let p = c.args.self.now in
    let mid = c.set_block.new.frames in
    let new = c.move_first.new.frames in
    let read = c.as_mut_slice-frames.ensures.value in
    let links = subst (λ old. KeepsLinks old mid) read c.set_block.ensures.links in
    let same = c.move_first.ensures.same in
    let is : (with_items p.frames new).items ≡ new = with_items_is p.frames new (same.size ∙ links.size ∙ sym p.frames.ok.0) in
    let ring : IsRingOf new p.count (freed_first c.args.k (order_at p.frames.items p.count)) = subst (λ l. IsRingOf new p.count (freed_first c.args.k l)) (order_same p.frames.items mid p.count links) c.move_first.ensures.ring in
    let all : Loses c.args.k p.frames.items new = record {
      size = same.size ∙ links.size;
      block = same.blocks c.args.k ∙ c.set_block.ensures.block;
      others = λ j ne. same.blocks j ∙ c.set_block.ensures.others j ne ∙ ap (λ fs. block_at fs j) read;
      pins = λ j. same.pins j ∙ c.set_block.ensures.pins j ∙ ap (λ fs. pinned_at fs j) read;
    } in
    let h : Holds p.count (slice_set p.table.items c.in-Some.b.0 0) (with_items p.frames new).items = subst (Holds p.count (slice_set p.table.items c.in-Some.b.0 0)) (sym is) (holds_unbound p.count c.args.k c.in-Some.b.0 p.table.items p.frames.items new (holds p) (bound_block p c.args.k c.index.result.now c.in-Some.b c.requires.within c.index.ensures c.in-Some.is) c.requires.unpinned all ring) in
    record { small = p.small; size = h.size; ring = h.ring; once = h.once; free_first = h.free_first; free_unpinned = h.free_unpinned; tabled = h.tabled; found = h.found; placed = h.placed }

pub returns-clause-pins_in : goal.returns-clause-pins_in
returns-clause-pins_in c =
    let p = c.args.self.now in
    let mid = c.set_block.new.frames in
    let new = c.move_first.new.frames in
    let read = c.as_mut_slice-frames.ensures.value in
    let links = subst (λ old. KeepsLinks old mid) read c.set_block.ensures.links in
    let same = c.move_first.ensures.same in
    let is : (with_items p.frames new).items ≡ new = with_items_is p.frames new (same.size ∙ links.size ∙ sym p.frames.ok.0) in
    count_same _ _ p.count (λ j less. ap (λ fs. pinned_at fs j) is ∙ same.pins j ∙ c.set_block.ensures.pins j ∙ ap (λ fs. pinned_at fs j) read)

pub returns-clause-order : goal.returns-clause-order
returns-clause-order c =
    let p = c.args.self.now in
    let mid = c.set_block.new.frames in
    let new = c.move_first.new.frames in
    let read = c.as_mut_slice-frames.ensures.value in
    let links = subst (λ old. KeepsLinks old mid) read c.set_block.ensures.links in
    let same = c.move_first.ensures.same in
    let is : (with_items p.frames new).items ≡ new = with_items_is p.frames new (same.size ∙ links.size ∙ sym p.frames.ok.0) in
    ap (λ fs. order_at fs p.count) is ∙ c.move_first.ensures.ring.order ∙ ap (freed_first c.args.k) (order_same p.frames.items mid p.count links)

pub move_first-requires-clause-size : goal.move_first-requires-clause-size
move_first-requires-clause-size c = c.set_block.ensures.links.size ∙ ap length c.as_mut_slice-frames.ensures.value ∙ c.args.self.now.size

pub move_first-requires-clause-ring : goal.move_first-requires-clause-ring
move_first-requires-clause-ring c = ring_same c.args.self.now.frames.items c.set_block.new.frames c.args.self.now.count (subst (λ old. KeepsLinks old c.set_block.new.frames) c.as_mut_slice-frames.ensures.value c.set_block.ensures.links) c.args.self.now.ring

pub move_first-requires-clause-once : goal.move_first-requires-clause-once
move_first-requires-clause-once c = once_same c.args.self.now.frames.items c.set_block.new.frames c.args.self.now.count (subst (λ old. KeepsLinks old c.set_block.new.frames) c.as_mut_slice-frames.ensures.value c.set_block.ensures.links) c.args.self.now.once

pub returns-clause-unbound : goal.returns-clause-unbound
returns-clause-unbound c = back_block c.args.self.now.frames _ c.move_first.new.frames c.as_mut_slice-frames.ensures.value (c.move_first.ensures.same.size ∙ c.set_block.ensures.links.size) c.args.k _ (c.move_first.ensures.same.blocks c.args.k ∙ c.set_block.ensures.block)

pub returns-clause-others : goal.returns-clause-others
returns-clause-others c = λ j ne. same_block c.args.self.now.frames _ c.move_first.new.frames c.as_mut_slice-frames.ensures.value (c.move_first.ensures.same.size ∙ c.set_block.ensures.links.size) j (c.move_first.ensures.same.blocks j ∙ c.set_block.ensures.others j ne)

pub returns-clause-pins : goal.returns-clause-pins
returns-clause-pins c = λ j. same_pin c.args.self.now.frames _ c.move_first.new.frames c.as_mut_slice-frames.ensures.value (c.move_first.ensures.same.size ∙ c.set_block.ensures.links.size) j (c.move_first.ensures.same.pins j ∙ c.set_block.ensures.pins j)

pub returns-clause-blocks : goal.returns-clause-blocks
returns-clause-blocks c = length-set c.args.self.now.table.items c.in-Some.b.0 0
