use Rattle.std.proofs.Common.{◌≡◌, ◌∙◌, ◌+◌, ap, sym, subst, length, replicate}
use Rattle.std.proofs.lemmas.List.{length-replicate, with_items_is}
use Rattle.std.specs.Vec.{with_items}
use Rattle.frame_pool.specs.Frames.{blank, block_at, pinned_at}
use Rattle.frame_pool.proofs.Counts.{count_none}
use Rattle.frame_pool.proofs.Fresh.{free_frames, holds_new}
use Rattle.frame_pool.proofs.Holding.{Holds}
use Rattle.frame_pool.proofs.Lent.{back_order}
use Rattle.std.proofs.lemmas.Result.{IfOk-from_err}
use Rattle.frame_pool.proofs.frame_pool.FramePool.new.Goals as goal

pub invariant_of-result : goal.invariant_of-result
invariant_of-result c =
    let all = c.in_ok-all.all in
    let new = c.link_all.new.frames in
    let same = c.link_all.ensures.same in
    let read = c.deref_mut.ensures.value ∙ c.in_ok-all.ensures.items_if_clones_equal (λ y e. e) in
    let size = same.size ∙ ap length read ∙ length-replicate (c.args.frames + 1) blank in
    let is : (with_items all new).items ≡ new = with_items_is all new (same.size ∙ c.deref_mut.ensures.len) in
    let table : replicate c.args.blocks 0 ≡ c.in_ok-table.table.items = sym (c.in_ok-table.ensures.items_if_clones_equal (λ y e. e)) in
    let h : Holds c.args.frames c.in_ok-table.table.items (with_items all new).items =
    subst (λ t. Holds c.args.frames t (with_items all new).items) table (subst (Holds c.args.frames (replicate c.args.blocks 0)) (sym is)
    (holds_new c.args.frames c.args.blocks new size c.link_all.ensures.ring (free_frames (c.args.frames + 1) c.deref_mut.result.now new read same))) in
    record { small = c.ranges.frames.fits; size = h.size; ring = h.ring; once = h.once; free_first = h.free_first; free_unpinned = h.free_unpinned; tabled = h.tabled; found = h.found; placed = h.placed }

pub returns-clause-free : goal.returns-clause-free
returns-clause-free c = λ k.
    let all = c.in_ok-all.all in
    let new = c.link_all.new.frames in
    let same = c.link_all.ensures.same in
    let read = c.deref_mut.ensures.value ∙ c.in_ok-all.ensures.items_if_clones_equal (λ y e. e) in
    let is : (with_items all new).items ≡ new = with_items_is all new (same.size ∙ c.deref_mut.ensures.len) in
    ap (λ fs. block_at fs k) is ∙ (free_frames (c.args.frames + 1) c.deref_mut.result.now new read same).blocks k

pub returns-clause-pins : goal.returns-clause-pins
returns-clause-pins c = λ k.
    let all = c.in_ok-all.all in
    let new = c.link_all.new.frames in
    let same = c.link_all.ensures.same in
    let read = c.deref_mut.ensures.value ∙ c.in_ok-all.ensures.items_if_clones_equal (λ y e. e) in
    let is : (with_items all new).items ≡ new = with_items_is all new (same.size ∙ c.deref_mut.ensures.len) in
    ap (λ fs. pinned_at fs k) is ∙ (free_frames (c.args.frames + 1) c.deref_mut.result.now new read same).pins k

pub returns-clause-pins_in : goal.returns-clause-pins_in
returns-clause-pins_in c =
    let all = c.in_ok-all.all in
    let new = c.link_all.new.frames in
    let same = c.link_all.ensures.same in
    let read = c.deref_mut.ensures.value ∙ c.in_ok-all.ensures.items_if_clones_equal (λ y e. e) in
    let is : (with_items all new).items ≡ new = with_items_is all new (same.size ∙ c.deref_mut.ensures.len) in
    count_none _ c.args.frames (λ k. ap (λ fs. pinned_at fs k) is ∙ (free_frames (c.args.frames + 1) c.deref_mut.result.now new read same).pins k)

pub returns-clause-blocks : goal.returns-clause-blocks
returns-clause-blocks c = sym c.in_ok-table.table.ok.0 ∙ c.in_ok-table.ensures.len

pub returns-clause-order : goal.returns-clause-order
returns-clause-order c = back_order c.in_ok-all.all _ c.link_all.new.frames c.deref_mut.ensures.value c.link_all.ensures.same.size c.args.frames _ c.link_all.ensures.ring.order

pub returns-in_err-table-clause-frames : goal.returns-in_err-table-clause-frames
returns-in_err-table-clause-frames c = IfOk-from_err c.from_residual.result _ c.from_residual.ensures.0

pub returns-in_err-all-clause-frames : goal.returns-in_err-all-clause-frames
returns-in_err-all-clause-frames c = IfOk-from_err c.from_residual-in_err-all.result _ c.from_residual-in_err-all.ensures.0

pub returns-in_err-table-clause-blocks : goal.returns-in_err-table-clause-blocks
returns-in_err-table-clause-blocks c = IfOk-from_err c.from_residual.result _ c.from_residual.ensures.0

pub returns-in_err-all-clause-blocks : goal.returns-in_err-all-clause-blocks
returns-in_err-all-clause-blocks c = IfOk-from_err c.from_residual-in_err-all.result _ c.from_residual-in_err-all.ensures.0

pub returns-in_err-table-clause-free : goal.returns-in_err-table-clause-free
returns-in_err-table-clause-free c = IfOk-from_err c.from_residual.result _ c.from_residual.ensures.0

pub returns-in_err-all-clause-free : goal.returns-in_err-all-clause-free
returns-in_err-all-clause-free c = IfOk-from_err c.from_residual-in_err-all.result _ c.from_residual-in_err-all.ensures.0

pub returns-in_err-table-clause-pins : goal.returns-in_err-table-clause-pins
returns-in_err-table-clause-pins c = IfOk-from_err c.from_residual.result _ c.from_residual.ensures.0

pub returns-in_err-all-clause-pins : goal.returns-in_err-all-clause-pins
returns-in_err-all-clause-pins c = IfOk-from_err c.from_residual-in_err-all.result _ c.from_residual-in_err-all.ensures.0

pub returns-in_err-table-clause-pins_in : goal.returns-in_err-table-clause-pins_in
returns-in_err-table-clause-pins_in c = IfOk-from_err c.from_residual.result _ c.from_residual.ensures.0

pub returns-in_err-all-clause-pins_in : goal.returns-in_err-all-clause-pins_in
returns-in_err-all-clause-pins_in c = IfOk-from_err c.from_residual-in_err-all.result _ c.from_residual-in_err-all.ensures.0

pub returns-in_err-table-clause-order : goal.returns-in_err-table-clause-order
returns-in_err-table-clause-order c = IfOk-from_err c.from_residual.result _ c.from_residual.ensures.0

pub returns-in_err-all-clause-order : goal.returns-in_err-all-clause-order
returns-in_err-all-clause-order c = IfOk-from_err c.from_residual-in_err-all.result _ c.from_residual-in_err-all.ensures.0
