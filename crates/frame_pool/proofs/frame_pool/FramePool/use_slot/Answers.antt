use Rattle.std.proofs.Common.{◌≡◌, ◌∙◌, ap, sym, subst, length}
use Rattle.std.proofs.lemmas.List.{with_items_is}
use Rattle.std.specs.Vec.{with_items}
use Rattle.frame_pool.specs.Frames.{order_at, pinned_at}
use Rattle.frame_pool.specs.Orders.{used_last}
use Rattle.frame_pool.specs.Rings.{IsRingOf, KeepsFrames, HasEachOnce, IsRing}
use Rattle.frame_pool.proofs.Counts.{count_same}
use Rattle.frame_pool.proofs.Holding.{Holds, holds, holds_used}
use Rattle.frame_pool.proofs.Lent.{back_order, same_block, same_pin}
use Rattle.frame_pool.proofs.frame_pool.FramePool.use_slot.Goals as goal

pub invariant_of-self : goal.invariant_of-self
invariant_of-self c =
    let p = c.args.self.now in
    let new = c.move_last.new.frames in
    let read = c.deref_mut.ensures.value in
    let ring = subst (λ old. IsRingOf new p.count (used_last c.args.k (order_at old p.count))) read c.move_last.ensures.ring in
    let same = subst (λ old. KeepsFrames old new) read c.move_last.ensures.same in
    let is : (with_items p.frames new).items ≡ new = with_items_is p.frames new (same.size ∙ sym p.frames.ok.0) in
    let h : Holds p.count p.table.items (with_items p.frames new).items = subst (Holds p.count p.table.items) (sym is) (holds_used p.count c.args.k p.table.items p.frames.items new (holds p) c.requires.bound ring same) in
    record { small = p.small; size = h.size; ring = h.ring; once = h.once; free_first = h.free_first; free_unpinned = h.free_unpinned; tabled = h.tabled; found = h.found; placed = h.placed }

pub returns-clause-pins_in : goal.returns-clause-pins_in
returns-clause-pins_in c =
    let p = c.args.self.now in
    let new = c.move_last.new.frames in
    let same = subst (λ old. KeepsFrames old new) c.deref_mut.ensures.value c.move_last.ensures.same in
    let is : (with_items p.frames new).items ≡ new = with_items_is p.frames new (same.size ∙ sym p.frames.ok.0) in
    count_same _ _ p.count (λ j less. ap (λ fs. pinned_at fs j) is ∙ same.pins j)

pub move_last-requires-clause-size : goal.move_last-requires-clause-size
move_last-requires-clause-size c = ap length c.deref_mut.ensures.value ∙ c.args.self.now.size

pub move_last-requires-clause-ring : goal.move_last-requires-clause-ring
move_last-requires-clause-ring c = subst (λ fs. IsRing fs c.args.self.now.count) (sym c.deref_mut.ensures.value) c.args.self.now.ring

pub move_last-requires-clause-once : goal.move_last-requires-clause-once
move_last-requires-clause-once c = subst (λ fs. HasEachOnce (order_at fs c.args.self.now.count) c.args.self.now.count) (sym c.deref_mut.ensures.value) c.args.self.now.once

pub returns-clause-held : goal.returns-clause-held
returns-clause-held c = λ j. same_block c.args.self.now.frames _ c.move_last.new.frames c.deref_mut.ensures.value c.move_last.ensures.same.size j (c.move_last.ensures.same.blocks j)

pub returns-clause-pins : goal.returns-clause-pins
returns-clause-pins c = λ j. same_pin c.args.self.now.frames _ c.move_last.new.frames c.deref_mut.ensures.value c.move_last.ensures.same.size j (c.move_last.ensures.same.pins j)

pub returns-clause-order : goal.returns-clause-order
returns-clause-order c = back_order c.args.self.now.frames _ c.move_last.new.frames c.deref_mut.ensures.value c.move_last.ensures.same.size c.args.self.now.count _ (c.move_last.ensures.ring.order ∙ ap (λ fs. used_last c.args.k (order_at fs c.args.self.now.count)) c.deref_mut.ensures.value)
