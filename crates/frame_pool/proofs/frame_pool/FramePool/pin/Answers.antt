use Rattle.std.proofs.Common.{◌≡◌, ◌≢◌, ℕ, true, ◌∙◌, ap, sym, subst}
use Rattle.std.proofs.lemmas.List.{with_items_is}
use Rattle.std.specs.Vec.{with_items}
use Rattle.frame_pool.specs.Frames.{block_at, order_at, pinned_at}
use Rattle.frame_pool.specs.Rings.{KeepsLinks}
use Rattle.frame_pool.specs.Pools.{is_pinned}
use Rattle.frame_pool.proofs.Counts.{count_again, count_most, count_set}
use Rattle.frame_pool.proofs.Holding.{Holds, holds, holds_pin, order_same}
use Rattle.frame_pool.proofs.Lent.{back_pin, same_block, same_pin}
use Rattle.frame_pool.proofs.frame_pool.FramePool.pin.Goals as goal

pub invariant_of-self : goal.invariant_of-self
invariant_of-self c =
    let p = c.args.self.now in
    let new = c.set_pin.new.frames in
    let read = c.deref_mut.ensures.value in
    let links = subst (λ old. KeepsLinks old new) read c.set_pin.ensures.links in
    let is : (with_items p.frames new).items ≡ new = with_items_is p.frames new (links.size ∙ sym p.frames.ok.0) in
    let h : Holds p.count p.table.items (with_items p.frames new).items = subst (Holds p.count p.table.items) (sym is)
    (holds_pin p.count c.args.k p.table.items p.frames.items new (holds p) (λ j. c.set_pin.ensures.blocks j ∙ ap (λ fs. block_at fs j) read) (λ j ne. c.set_pin.ensures.others j ne ∙ ap (λ fs. pinned_at fs j) read) (λ free. absurd (c.requires.bound free)) links) in
    record { small = p.small; size = h.size; ring = h.ring; once = h.once; free_first = h.free_first; free_unpinned = h.free_unpinned; tabled = h.tabled; found = h.found; placed = h.placed }

pub returns-clause-order : goal.returns-clause-order
returns-clause-order c =
    let p = c.args.self.now in
    let new = c.set_pin.new.frames in
    let read = c.deref_mut.ensures.value in
    let links = subst (λ old. KeepsLinks old new) read c.set_pin.ensures.links in
    let is : (with_items p.frames new).items ≡ new = with_items_is p.frames new (links.size ∙ sym p.frames.ok.0) in
    ap (λ fs. order_at fs p.count) is ∙ order_same p.frames.items new p.count links

pub returns-clause-again : goal.returns-clause-again
returns-clause-again c = λ was.
    let p = c.args.self.now in
    let new = c.set_pin.new.frames in
    let read = c.deref_mut.ensures.value in
    let links = subst (λ old. KeepsLinks old new) read c.set_pin.ensures.links in
    let is : (with_items p.frames new).items ≡ new = with_items_is p.frames new (links.size ∙ sym p.frames.ok.0) in
    let now : pinned_at (with_items p.frames new).items c.args.k ≡ true = ap (λ fs. pinned_at fs c.args.k) is ∙ c.set_pin.ensures.pin in
    let others : (j : ℕ) → j ≢ c.args.k → pinned_at (with_items p.frames new).items j ≡ pinned_at p.frames.items j = λ j ne. ap (λ fs. pinned_at fs j) is ∙ c.set_pin.ensures.others j ne ∙ ap (λ fs. pinned_at fs j) read in
    count_again (is_pinned p) _ c.args.k p.count (now ∙ sym was) others

pub returns-clause-most : goal.returns-clause-most
returns-clause-most c =
    let p = c.args.self.now in
    let new = c.set_pin.new.frames in
    let read = c.deref_mut.ensures.value in
    let links = subst (λ old. KeepsLinks old new) read c.set_pin.ensures.links in
    let is : (with_items p.frames new).items ≡ new = with_items_is p.frames new (links.size ∙ sym p.frames.ok.0) in
    let now : pinned_at (with_items p.frames new).items c.args.k ≡ true = ap (λ fs. pinned_at fs c.args.k) is ∙ c.set_pin.ensures.pin in
    let others : (j : ℕ) → j ≢ c.args.k → pinned_at (with_items p.frames new).items j ≡ pinned_at p.frames.items j = λ j ne. ap (λ fs. pinned_at fs j) is ∙ c.set_pin.ensures.others j ne ∙ ap (λ fs. pinned_at fs j) read in
    count_most (is_pinned p) _ c.args.k p.count c.requires.within now others

pub returns-clause-one_more : goal.returns-clause-one_more
returns-clause-one_more c = λ was.
    let p = c.args.self.now in
    let new = c.set_pin.new.frames in
    let read = c.deref_mut.ensures.value in
    let links = subst (λ old. KeepsLinks old new) read c.set_pin.ensures.links in
    let is : (with_items p.frames new).items ≡ new = with_items_is p.frames new (links.size ∙ sym p.frames.ok.0) in
    let now : pinned_at (with_items p.frames new).items c.args.k ≡ true = ap (λ fs. pinned_at fs c.args.k) is ∙ c.set_pin.ensures.pin in
    let others : (j : ℕ) → j ≢ c.args.k → pinned_at (with_items p.frames new).items j ≡ pinned_at p.frames.items j = λ j ne. ap (λ fs. pinned_at fs j) is ∙ c.set_pin.ensures.others j ne ∙ ap (λ fs. pinned_at fs j) read in
    count_set (is_pinned p) _ c.args.k p.count c.requires.within was now others

pub returns-clause-pinned : goal.returns-clause-pinned
returns-clause-pinned c = back_pin c.args.self.now.frames _ c.set_pin.new.frames c.deref_mut.ensures.value c.set_pin.ensures.links.size c.args.k _ c.set_pin.ensures.pin

pub returns-clause-others : goal.returns-clause-others
returns-clause-others c = λ j ne. same_pin c.args.self.now.frames _ c.set_pin.new.frames c.deref_mut.ensures.value c.set_pin.ensures.links.size j (c.set_pin.ensures.others j ne)

pub returns-clause-held : goal.returns-clause-held
returns-clause-held c = λ j. same_block c.args.self.now.frames _ c.set_pin.new.frames c.deref_mut.ensures.value c.set_pin.ensures.links.size j (c.set_pin.ensures.blocks j)
