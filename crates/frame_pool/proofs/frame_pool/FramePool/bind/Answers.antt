use Rattle.std.proofs.Common.{◌≡◌, ◌+◌, ◌∙◌, ap, sym, subst, slice_set, length}
use Rattle.std.proofs.lemmas.List.{with_items_is, length-set}
use Rattle.std.specs.Vec.{with_items}
use Rattle.frame_pool.specs.Frames.{block_at, order_at, pinned_at}
use Rattle.frame_pool.specs.Orders.{used_last}
use Rattle.frame_pool.specs.Rings.{IsRingOf, KeepsLinks}
use Rattle.frame_pool.proofs.Counts.{count_same}
use Rattle.frame_pool.proofs.Holding.{Gets, Holds, holds, holds_bound, order_same, ring_same, once_same}
use Rattle.frame_pool.proofs.Lent.{back_block, same_block, same_pin}
use Rattle.frame_pool.proofs.frame_pool.FramePool.bind.Goals as goal

pub invariant_of-self : goal.invariant_of-self
invariant_of-self c =
    let p = c.args.self.now in
    let mid = c.set_block.new.frames in
    let new = c.move_last.new.frames in
    let read = c.as_mut_slice-frames.ensures.value in
    let links = subst (λ old. KeepsLinks old mid) read c.set_block.ensures.links in
    let same = c.move_last.ensures.same in
    let is : (with_items p.frames new).items ≡ new = with_items_is p.frames new (same.size ∙ links.size ∙ sym p.frames.ok.0) in
    let ring : IsRingOf new p.count (used_last c.args.k (order_at p.frames.items p.count)) = subst (λ l. IsRingOf new p.count (used_last c.args.k l)) (order_same p.frames.items mid p.count links) c.move_last.ensures.ring in
    let all : Gets c.args.k c.args.b.0 p.frames.items new = record {
      size = same.size ∙ links.size;
      block = same.blocks c.args.k ∙ c.set_block.ensures.block;
      others = λ j ne. same.blocks j ∙ c.set_block.ensures.others j ne ∙ ap (λ fs. block_at fs j) read;
      pins = λ j. same.pins j ∙ c.set_block.ensures.pins j ∙ ap (λ fs. pinned_at fs j) read;
    } in
    let h : Holds p.count (slice_set p.table.items c.args.b.0 (c.args.k + 1)) (with_items p.frames new).items = subst (Holds p.count (slice_set p.table.items c.args.b.0 (c.args.k + 1))) (sym is) (holds_bound p.count c.args.k c.args.b.0 p.table.items p.frames.items new (holds p) c.requires.within c.requires.block c.requires.free c.requires.unbound all ring) in
    record { small = p.small; size = h.size; ring = h.ring; once = h.once; free_first = h.free_first; free_unpinned = h.free_unpinned; tabled = h.tabled; found = h.found; placed = h.placed }

pub returns-clause-pins_in : goal.returns-clause-pins_in
returns-clause-pins_in c =
    let p = c.args.self.now in
    let mid = c.set_block.new.frames in
    let new = c.move_last.new.frames in
    let read = c.as_mut_slice-frames.ensures.value in
    let links = subst (λ old. KeepsLinks old mid) read c.set_block.ensures.links in
    let same = c.move_last.ensures.same in
    let is : (with_items p.frames new).items ≡ new = with_items_is p.frames new (same.size ∙ links.size ∙ sym p.frames.ok.0) in
    count_same _ _ p.count (λ j less. ap (λ fs. pinned_at fs j) is ∙ same.pins j ∙ c.set_block.ensures.pins j ∙ ap (λ fs. pinned_at fs j) read)

pub returns-clause-order : goal.returns-clause-order
returns-clause-order c =
    let p = c.args.self.now in
    let mid = c.set_block.new.frames in
    let new = c.move_last.new.frames in
    let read = c.as_mut_slice-frames.ensures.value in
    let links = subst (λ old. KeepsLinks old mid) read c.set_block.ensures.links in
    let same = c.move_last.ensures.same in
    let is : (with_items p.frames new).items ≡ new = with_items_is p.frames new (same.size ∙ links.size ∙ sym p.frames.ok.0) in
    ap (λ fs. order_at fs p.count) is ∙ c.move_last.ensures.ring.order ∙ ap (used_last c.args.k) (order_same p.frames.items mid p.count links)

pub move_last-requires-clause-size : goal.move_last-requires-clause-size
move_last-requires-clause-size c = c.set_block.ensures.links.size ∙ ap length c.as_mut_slice-frames.ensures.value ∙ c.args.self.now.size

pub move_last-requires-clause-ring : goal.move_last-requires-clause-ring
move_last-requires-clause-ring c = ring_same c.args.self.now.frames.items c.set_block.new.frames c.args.self.now.count (subst (λ old. KeepsLinks old c.set_block.new.frames) c.as_mut_slice-frames.ensures.value c.set_block.ensures.links) c.args.self.now.ring

pub move_last-requires-clause-once : goal.move_last-requires-clause-once
move_last-requires-clause-once c = once_same c.args.self.now.frames.items c.set_block.new.frames c.args.self.now.count (subst (λ old. KeepsLinks old c.set_block.new.frames) c.as_mut_slice-frames.ensures.value c.set_block.ensures.links) c.args.self.now.once

pub returns-clause-bound : goal.returns-clause-bound
returns-clause-bound c = back_block c.args.self.now.frames _ c.move_last.new.frames c.as_mut_slice-frames.ensures.value (c.move_last.ensures.same.size ∙ c.set_block.ensures.links.size) c.args.k _ (c.move_last.ensures.same.blocks c.args.k ∙ c.set_block.ensures.block)

pub returns-clause-others : goal.returns-clause-others
returns-clause-others c = λ j ne. same_block c.args.self.now.frames _ c.move_last.new.frames c.as_mut_slice-frames.ensures.value (c.move_last.ensures.same.size ∙ c.set_block.ensures.links.size) j (c.move_last.ensures.same.blocks j ∙ c.set_block.ensures.others j ne)

pub returns-clause-pins : goal.returns-clause-pins
returns-clause-pins c = λ j. same_pin c.args.self.now.frames _ c.move_last.new.frames c.as_mut_slice-frames.ensures.value (c.move_last.ensures.same.size ∙ c.set_block.ensures.links.size) j (c.move_last.ensures.same.pins j ∙ c.set_block.ensures.pins j)

pub returns-clause-blocks : goal.returns-clause-blocks
returns-clause-blocks c = length-set c.args.self.now.table.items c.args.b.0 (c.args.k + 1)
