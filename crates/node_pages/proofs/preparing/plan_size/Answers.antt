use Rattle.rio_base.specs.Rules.{goes_refl}
use Rattle.node_pages.proofs.EndsOn.{if_err, on_any}
use Rattle.node_pages.proofs.LookingUpRules.{can_look_up}
use Rattle.node_pages.proofs.Common.{◌≡◌, ◌<◌, ◌≤◌, ◌∙◌, ℕ, take, length, sym, ap, subst, arith, slice_index, err_from_is_err_and, ◌then◌, numbers, IsFree, volume_layout, largest_size, LeavesInUse}
use Rattle.node_pages.specs.Changes.{Grows, PlansFor, PlansSize, Shrinks, free_beside, wanted_blocks}
use Rattle.node_pages.proofs.OrderRules.{leaves_looked, leaves_trans, ready_left, leaves_refl}
use Rattle.node_pages.specs.declared.failures.SizeFail.TheVariants.{NoSpace, TooLarge}
use Rattle.node_pages.proofs.Ends.{err_handed, size_err, size_then, refused_still}
use Rattle.node_pages.proofs.Listed.{as_many}
use Rattle.node_pages.proofs.Planned.{taken_most, wanted_none}
use Rattle.node_pages.proofs.PlannedSize.{if_ok_map, plans_grown, plans_shrunk, spares_kept, spares_looked}
use Rattle.node_pages.proofs.Skipped.{left_apart, left_are_free, left_count}
use Rattle.node_pages.proofs.preparing.plan_size.Goals as goal

pub returns-then-len-inode-clause-ok : goal.returns-then-len-inode-clause-ok
returns-then-len-inode-clause-ok g c =
    let shape = c.args.shape.now in
    let x = g.V.Blocks.seen c.args.v.now in
    let k = g.V.Volume.kept c.args.v.now in
    let i = c.args.i.0 in
    let len = c.args.len in
    let given = c.args.inode.now in
    let skip = numbers c.args.skip.now in
    let away = λ (q : ℕ) (few : q < length skip). c.requires.skip q (subst (λ (m : ℕ). q < m) (as_many c.args.skip.now) few) in
    let y = g.V.Blocks.seen c.plan_shrink.new.v in
    let j = g.V.Volume.kept c.plan_shrink.new.v in
    let looked : LeavesInUse (volume_layout shape x.words) x k y j = leaves_looked shape _ _ _ _ x y k j c.requires.ready c.plan_shrink.ensures.read.looks (g.met.V.Volume.passes_keeps _ _ c.plan_shrink.ensures.read.passed) in
    if_ok_map (Shrinks shape x.words i given len) (PlansSize shape x.words y j i given len skip) c.plan_shrink.result (λ change h. plans_shrunk shape x k y j i given len skip change c.requires.ino c.requires.inode c.if-len-inode.true looked h) c.plan_shrink.ensures.ok

pub returns-then-len-inode-clause-space : goal.returns-then-len-inode-clause-space
returns-then-len-inode-clause-space g c =
    let shape = c.args.shape.now in
    let x = g.V.Blocks.seen c.args.v.now in
    let k = g.V.Volume.kept c.args.v.now in
    let i = c.args.i.0 in
    let len = c.args.len in
    let given = c.args.inode.now in
    let skip = numbers c.args.skip.now in
    let away = λ (q : ℕ) (few : q < length skip). c.requires.skip q (subst (λ (m : ℕ). q < m) (as_many c.args.skip.now) few) in
    on_any ((len ≤ largest_size) × (wanted_blocks given.size len ≤ length (free_beside shape x.words skip))) c.plan_shrink.result (omega (arith, c.if-len-gt-LARGEST_SIZE.false), (let none = wanted_none given.size len c.if-len-inode.true in omega (arith, none)))

pub returns-then-len-inode-clause-too_large : goal.returns-then-len-inode-clause-too_large
returns-then-len-inode-clause-too_large g c =
    λ is. absurd (c.plan_shrink.ensures.other.1 is)

pub returns-then-len-inode-clause-no_space : goal.returns-then-len-inode-clause-no_space
returns-then-len-inode-clause-no_space g c =
    λ is. absurd (c.plan_shrink.ensures.other.0 is)

pub returns-then-len-inode-clause-leaves : goal.returns-then-len-inode-clause-leaves
returns-then-len-inode-clause-leaves g c =
    let shape = c.args.shape.now in
    let x = g.V.Blocks.seen c.args.v.now in
    let k = g.V.Volume.kept c.args.v.now in
    let i = c.args.i.0 in
    let len = c.args.len in
    let given = c.args.inode.now in
    let skip = numbers c.args.skip.now in
    let away = λ (q : ℕ) (few : q < length skip). c.requires.skip q (subst (λ (m : ℕ). q < m) (as_many c.args.skip.now) few) in
    let y = g.V.Blocks.seen c.plan_shrink.new.v in
    let j = g.V.Volume.kept c.plan_shrink.new.v in
    let looked : LeavesInUse (volume_layout shape x.words) x k y j = leaves_looked shape _ _ _ _ x y k j c.requires.ready c.plan_shrink.ensures.read.looks (g.met.V.Volume.passes_keeps _ _ c.plan_shrink.ensures.read.passed) in
    looked

pub returns-then-len-inode-clause-spared : goal.returns-then-len-inode-clause-spared
returns-then-len-inode-clause-spared g c =
    let shape = c.args.shape.now in
    let x = g.V.Blocks.seen c.args.v.now in
    let k = g.V.Volume.kept c.args.v.now in
    let i = c.args.i.0 in
    let len = c.args.len in
    let given = c.args.inode.now in
    let skip = numbers c.args.skip.now in
    let away = λ (q : ℕ) (few : q < length skip). c.requires.skip q (subst (λ (m : ℕ). q < m) (as_many c.args.skip.now) few) in
    let y = g.V.Blocks.seen c.plan_shrink.new.v in
    let j = g.V.Volume.kept c.plan_shrink.new.v in
    let looked : LeavesInUse (volume_layout shape x.words) x k y j = leaves_looked shape _ _ _ _ x y k j c.requires.ready c.plan_shrink.ensures.read.looks (g.met.V.Volume.passes_keeps _ _ c.plan_shrink.ensures.read.passed) in
    spares_looked shape _ _ _ _ skip x k y j away c.plan_shrink.ensures.read.looks (g.met.V.Volume.passes_keeps _ _ c.plan_shrink.ensures.read.passed)

pub returns-then-len-inode-clause-goes : goal.returns-then-len-inode-clause-goes
returns-then-len-inode-clause-goes g c =
    (g.met.V.Volume.passes_keeps _ _ c.plan_shrink.ensures.read.passed).goes

pub returns-in_err-taken-clause-too_large : goal.returns-in_err-taken-clause-too_large
returns-in_err-taken-clause-too_large g c =
    let p = err_from_is_err_and c.from_residual.result c.from_residual.ensures.1 in
    λ is. absurd (c.take_beside.ensures.small (err_handed TooLarge c.take_beside.result c.from_residual.result _ p.0 c.in_err-taken.was p.1 p.2 is))

pub returns-in_err-taken-clause-no_space : goal.returns-in_err-taken-clause-no_space
returns-in_err-taken-clause-no_space g c =
    let shape = c.args.shape.now in
    let x = g.V.Blocks.seen c.args.v.now in
    let k = g.V.Volume.kept c.args.v.now in
    let i = c.args.i.0 in
    let len = c.args.len in
    let given = c.args.inode.now in
    let skip = numbers c.args.skip.now in
    let away = λ (q : ℕ) (few : q < length skip). c.requires.skip q (subst (λ (m : ℕ). q < m) (as_many c.args.skip.now) few) in
    let p = err_from_is_err_and c.from_residual.result c.from_residual.ensures.1 in
    λ is. (omega (arith, c.if-len-inode.false), omega (arith, c.if-len-gt-LARGEST_SIZE.false), subst (λ (n : ℕ). length (free_beside shape x.words skip) < n) c.wanted_count-wanted.ensures.wanted (c.take_beside.ensures.no_space (err_handed NoSpace c.take_beside.result c.from_residual.result _ p.0 c.in_err-taken.was p.1 p.2 is)))

pub returns-in_err-taken-clause-leaves : goal.returns-in_err-taken-clause-leaves
returns-in_err-taken-clause-leaves g c =
    let shape = c.args.shape.now in
    let x = g.V.Blocks.seen c.args.v.now in
    let k = g.V.Volume.kept c.args.v.now in
    let i = c.args.i.0 in
    let len = c.args.len in
    let given = c.args.inode.now in
    let skip = numbers c.args.skip.now in
    let away = λ (q : ℕ) (few : q < length skip). c.requires.skip q (subst (λ (m : ℕ). q < m) (as_many c.args.skip.now) few) in
    let y = g.V.Blocks.seen c.take_beside.new.v in
    let j = g.V.Volume.kept c.take_beside.new.v in
    let looked : LeavesInUse (volume_layout shape x.words) x k y j = leaves_looked shape _ _ _ _ x y k j c.requires.ready c.take_beside.ensures.looks (g.met.V.Volume.passes_keeps _ _ c.take_beside.ensures.passes) in
    looked

pub returns-in_err-taken-clause-spared : goal.returns-in_err-taken-clause-spared
returns-in_err-taken-clause-spared g c =
    let shape = c.args.shape.now in
    let x = g.V.Blocks.seen c.args.v.now in
    let k = g.V.Volume.kept c.args.v.now in
    let i = c.args.i.0 in
    let len = c.args.len in
    let given = c.args.inode.now in
    let skip = numbers c.args.skip.now in
    let away = λ (q : ℕ) (few : q < length skip). c.requires.skip q (subst (λ (m : ℕ). q < m) (as_many c.args.skip.now) few) in
    let y = g.V.Blocks.seen c.take_beside.new.v in
    let j = g.V.Volume.kept c.take_beside.new.v in
    let looked : LeavesInUse (volume_layout shape x.words) x k y j = leaves_looked shape _ _ _ _ x y k j c.requires.ready c.take_beside.ensures.looks (g.met.V.Volume.passes_keeps _ _ c.take_beside.ensures.passes) in
    spares_looked shape _ _ _ _ skip x k y j away c.take_beside.ensures.looks (g.met.V.Volume.passes_keeps _ _ c.take_beside.ensures.passes)

pub returns-in_err-taken-clause-goes : goal.returns-in_err-taken-clause-goes
returns-in_err-taken-clause-goes g c =
    (g.met.V.Volume.passes_keeps _ _ c.take_beside.ensures.passes).goes

pub returns-in_err-taken-clause-ends : goal.returns-in_err-taken-clause-ends
returns-in_err-taken-clause-ends g c =
    let p = err_from_is_err_and c.from_residual.result c.from_residual.ensures.1 in
    size_err _ _ _ c.from_residual.result _ p.0 c.in_err-taken.was p.1 p.2 c.take_beside.ensures.ends

pub plan_growth-requires-clause-ready : goal.plan_growth-requires-clause-ready
plan_growth-requires-clause-ready g c =
    let shape = c.args.shape.now in
    let x = g.V.Blocks.seen c.args.v.now in
    let k = g.V.Volume.kept c.args.v.now in
    let i = c.args.i.0 in
    let len = c.args.len in
    let given = c.args.inode.now in
    let skip = numbers c.args.skip.now in
    let away = λ (q : ℕ) (few : q < length skip). c.requires.skip q (subst (λ (m : ℕ). q < m) (as_many c.args.skip.now) few) in
    let y = g.V.Blocks.seen c.take_beside.new.v in
    let j = g.V.Volume.kept c.take_beside.new.v in
    let looked : LeavesInUse (volume_layout shape x.words) x k y j = leaves_looked shape _ _ _ _ x y k j c.requires.ready c.take_beside.ensures.looks (g.met.V.Volume.passes_keeps _ _ c.take_beside.ensures.passes) in
    ready_left shape x k y j c.requires.ready looked

pub plan_growth-requires-clause-inode : goal.plan_growth-requires-clause-inode
plan_growth-requires-clause-inode g c =
    subst (λ f. PlansFor f c.args.i.0 c.args.inode.now) (sym c.take_beside.ensures.looks.looks.words) c.requires.inode

pub plan_growth-requires-clause-count : goal.plan_growth-requires-clause-count
plan_growth-requires-clause-count g c =
    let shape = c.args.shape.now in
    let x = g.V.Blocks.seen c.args.v.now in
    let k = g.V.Volume.kept c.args.v.now in
    let i = c.args.i.0 in
    let len = c.args.len in
    let given = c.args.inode.now in
    let skip = numbers c.args.skip.now in
    let away = λ (q : ℕ) (few : q < length skip). c.requires.skip q (subst (λ (m : ℕ). q < m) (as_many c.args.skip.now) few) in
    let bs = c.in_ok-taken.taken in
    let value = c.in_ok-taken.ensures.value in
    let room = c.in_ok-taken.ensures.room in
    let wanted = c.wanted_count-wanted.ensures.wanted in
    let left = left_are_free shape x.words skip _ (numbers bs) c.requires.ready.order.mapped value room in
    let count : length (numbers bs) ≡ wanted_blocks given.size len = left_count shape x.words skip _ (numbers bs) value room ∙ wanted in
    sym (as_many bs) ∙ count

pub plan_growth-requires-clause-free : goal.plan_growth-requires-clause-free
plan_growth-requires-clause-free g c =
    let shape = c.args.shape.now in
    let x = g.V.Blocks.seen c.args.v.now in
    let k = g.V.Volume.kept c.args.v.now in
    let i = c.args.i.0 in
    let len = c.args.len in
    let given = c.args.inode.now in
    let skip = numbers c.args.skip.now in
    let away = λ (q : ℕ) (few : q < length skip). c.requires.skip q (subst (λ (m : ℕ). q < m) (as_many c.args.skip.now) few) in
    let bs = c.in_ok-taken.taken in
    let value = c.in_ok-taken.ensures.value in
    let room = c.in_ok-taken.ensures.room in
    let wanted = c.wanted_count-wanted.ensures.wanted in
    let left = left_are_free shape x.words skip _ (numbers bs) c.requires.ready.order.mapped value room in
    let count : length (numbers bs) ≡ wanted_blocks given.size len = left_count shape x.words skip _ (numbers bs) value room ∙ wanted in
    λ q few. subst (λ f. IsFree (volume_layout shape f) (slice_index (numbers bs) q)) (sym c.take_beside.ensures.looks.looks.words) (left q (subst (λ (n : ℕ). q < n) (sym (as_many bs) ∙ left_count shape x.words skip _ (numbers bs) value room) few)).0

pub plan_growth-requires-clause-apart : goal.plan_growth-requires-clause-apart
plan_growth-requires-clause-apart g c =
    let shape = c.args.shape.now in
    let x = g.V.Blocks.seen c.args.v.now in
    let k = g.V.Volume.kept c.args.v.now in
    let i = c.args.i.0 in
    let len = c.args.len in
    let given = c.args.inode.now in
    let skip = numbers c.args.skip.now in
    let away = λ (q : ℕ) (few : q < length skip). c.requires.skip q (subst (λ (m : ℕ). q < m) (as_many c.args.skip.now) few) in
    let bs = c.in_ok-taken.taken in
    let value = c.in_ok-taken.ensures.value in
    let room = c.in_ok-taken.ensures.room in
    let wanted = c.wanted_count-wanted.ensures.wanted in
    let left = left_are_free shape x.words skip _ (numbers bs) c.requires.ready.order.mapped value room in
    let count : length (numbers bs) ≡ wanted_blocks given.size len = left_count shape x.words skip _ (numbers bs) value room ∙ wanted in
    left_apart shape x.words skip _ (numbers bs) value room

pub returns-clause-ok : goal.returns-clause-ok
returns-clause-ok g c =
    let shape = c.args.shape.now in
    let x = g.V.Blocks.seen c.args.v.now in
    let k = g.V.Volume.kept c.args.v.now in
    let i = c.args.i.0 in
    let len = c.args.len in
    let given = c.args.inode.now in
    let skip = numbers c.args.skip.now in
    let away = λ (q : ℕ) (few : q < length skip). c.requires.skip q (subst (λ (m : ℕ). q < m) (as_many c.args.skip.now) few) in
    let y = g.V.Blocks.seen c.take_beside.new.v in
    let j = g.V.Volume.kept c.take_beside.new.v in
    let looked : LeavesInUse (volume_layout shape x.words) x k y j = leaves_looked shape _ _ _ _ x y k j c.requires.ready c.take_beside.ensures.looks (g.met.V.Volume.passes_keeps _ _ c.take_beside.ensures.passes) in
    let bs = c.in_ok-taken.taken in
    let value = c.in_ok-taken.ensures.value in
    let room = c.in_ok-taken.ensures.room in
    let wanted = c.wanted_count-wanted.ensures.wanted in
    let left = left_are_free shape x.words skip _ (numbers bs) c.requires.ready.order.mapped value room in
    let count : length (numbers bs) ≡ wanted_blocks given.size len = left_count shape x.words skip _ (numbers bs) value room ∙ wanted in
    let z = g.V.Blocks.seen c.plan_growth.new.v in
    let l = g.V.Volume.kept c.plan_growth.new.v in
    let leaves : LeavesInUse (volume_layout shape x.words) x k z l = leaves_trans shape x k y j z l c.requires.ready looked c.plan_growth.ensures.leaves in
    if_ok_map (Grows shape y.words z l i given len (numbers bs)) (PlansSize shape x.words z l i given len skip) c.plan_growth.result
    (λ change h. plans_grown shape x k z l i given len skip (numbers bs) change c.requires.ino c.requires.inode leaves (subst (λ f. Grows shape f z l i given len (numbers bs) change) c.take_beside.ensures.looks.looks.words h) (value ∙ ap (λ n. take n (free_beside shape x.words skip)) wanted) count) c.plan_growth.ensures.ok

pub returns-clause-space : goal.returns-clause-space
returns-clause-space g c =
    let shape = c.args.shape.now in
    let x = g.V.Blocks.seen c.args.v.now in
    let k = g.V.Volume.kept c.args.v.now in
    let i = c.args.i.0 in
    let len = c.args.len in
    let given = c.args.inode.now in
    let skip = numbers c.args.skip.now in
    let away = λ (q : ℕ) (few : q < length skip). c.requires.skip q (subst (λ (m : ℕ). q < m) (as_many c.args.skip.now) few) in
    let bs = c.in_ok-taken.taken in
    let value = c.in_ok-taken.ensures.value in
    let room = c.in_ok-taken.ensures.room in
    let wanted = c.wanted_count-wanted.ensures.wanted in
    let left = left_are_free shape x.words skip _ (numbers bs) c.requires.ready.order.mapped value room in
    let count : length (numbers bs) ≡ wanted_blocks given.size len = left_count shape x.words skip _ (numbers bs) value room ∙ wanted in
    on_any ((len ≤ largest_size) × (wanted_blocks given.size len ≤ length (free_beside shape x.words skip))) c.plan_growth.result (omega (arith, c.if-len-gt-LARGEST_SIZE.false), subst (λ (n : ℕ). n ≤ length (free_beside shape x.words skip)) wanted room)

pub returns-clause-too_large : goal.returns-clause-too_large
returns-clause-too_large g c =
    λ is. absurd (c.plan_growth.ensures.other.1 is)

pub returns-clause-no_space : goal.returns-clause-no_space
returns-clause-no_space g c =
    λ is. absurd (c.plan_growth.ensures.other.0 is)

pub returns-clause-leaves : goal.returns-clause-leaves
returns-clause-leaves g c =
    let shape = c.args.shape.now in
    let x = g.V.Blocks.seen c.args.v.now in
    let k = g.V.Volume.kept c.args.v.now in
    let i = c.args.i.0 in
    let len = c.args.len in
    let given = c.args.inode.now in
    let skip = numbers c.args.skip.now in
    let away = λ (q : ℕ) (few : q < length skip). c.requires.skip q (subst (λ (m : ℕ). q < m) (as_many c.args.skip.now) few) in
    let y = g.V.Blocks.seen c.take_beside.new.v in
    let j = g.V.Volume.kept c.take_beside.new.v in
    let looked : LeavesInUse (volume_layout shape x.words) x k y j = leaves_looked shape _ _ _ _ x y k j c.requires.ready c.take_beside.ensures.looks (g.met.V.Volume.passes_keeps _ _ c.take_beside.ensures.passes) in
    let z = g.V.Blocks.seen c.plan_growth.new.v in
    let l = g.V.Volume.kept c.plan_growth.new.v in
    let leaves : LeavesInUse (volume_layout shape x.words) x k z l = leaves_trans shape x k y j z l c.requires.ready looked c.plan_growth.ensures.leaves in
    leaves

pub returns-clause-spared : goal.returns-clause-spared
returns-clause-spared g c =
    let shape = c.args.shape.now in
    let x = g.V.Blocks.seen c.args.v.now in
    let k = g.V.Volume.kept c.args.v.now in
    let i = c.args.i.0 in
    let len = c.args.len in
    let given = c.args.inode.now in
    let skip = numbers c.args.skip.now in
    let away = λ (q : ℕ) (few : q < length skip). c.requires.skip q (subst (λ (m : ℕ). q < m) (as_many c.args.skip.now) few) in
    let y = g.V.Blocks.seen c.take_beside.new.v in
    let j = g.V.Volume.kept c.take_beside.new.v in
    let looked : LeavesInUse (volume_layout shape x.words) x k y j = leaves_looked shape _ _ _ _ x y k j c.requires.ready c.take_beside.ensures.looks (g.met.V.Volume.passes_keeps _ _ c.take_beside.ensures.passes) in
    let bs = c.in_ok-taken.taken in
    let value = c.in_ok-taken.ensures.value in
    let room = c.in_ok-taken.ensures.room in
    let wanted = c.wanted_count-wanted.ensures.wanted in
    let left = left_are_free shape x.words skip _ (numbers bs) c.requires.ready.order.mapped value room in
    let count : length (numbers bs) ≡ wanted_blocks given.size len = left_count shape x.words skip _ (numbers bs) value room ∙ wanted in
    let z = g.V.Blocks.seen c.plan_growth.new.v in
    let l = g.V.Volume.kept c.plan_growth.new.v in
    let leaves : LeavesInUse (volume_layout shape x.words) x k z l = leaves_trans shape x k y j z l c.requires.ready looked c.plan_growth.ensures.leaves in
    spares_kept shape _ _ _ _ skip (numbers bs) x k y j z l away (λ q few. (left q (subst (λ (n : ℕ). q < n) (left_count shape x.words skip _ (numbers bs) value room) few)).1) c.take_beside.ensures.looks (g.met.V.Volume.passes_keeps _ _ c.take_beside.ensures.passes) c.plan_growth.ensures.free

pub returns-clause-goes : goal.returns-clause-goes
returns-clause-goes g c =
    (g.met.V.Volume.passes_keeps _ _ c.take_beside.ensures.passes).goes then c.plan_growth.ensures.goes

pub returns-clause-ends : goal.returns-clause-ends
returns-clause-ends g c =
    size_then _ _ _ c.take_beside.result _ c.plan_growth.result c.in_ok-taken.was c.take_beside.ensures.ends c.plan_growth.ensures.ends

pub take_beside-requires-clause-few : goal.take_beside-requires-clause-few
take_beside-requires-clause-few g c = taken_most c.args.inode.now.size c.args.len _ c.wanted_count-wanted.ensures.wanted (omega (arith, c.if-len-inode.false)) (omega (arith, c.if-len-gt-LARGEST_SIZE.false))

pub returns-then-len-gt-LARGEST_SIZE-clause-too_large : goal.returns-then-len-gt-LARGEST_SIZE-clause-too_large
returns-then-len-gt-LARGEST_SIZE-clause-too_large g c = λ is. omega (arith, c.if-len-gt-LARGEST_SIZE.true)

pub returns-then-len-gt-LARGEST_SIZE-clause-no_space : goal.returns-then-len-gt-LARGEST_SIZE-clause-no_space
returns-then-len-gt-LARGEST_SIZE-clause-no_space g c = λ is. absurd cc

pub returns-then-len-gt-LARGEST_SIZE-clause-leaves : goal.returns-then-len-gt-LARGEST_SIZE-clause-leaves
returns-then-len-gt-LARGEST_SIZE-clause-leaves g c = leaves_refl c.args.shape.now _ _ c.requires.ready

pub returns-then-len-gt-LARGEST_SIZE-clause-goes : goal.returns-then-len-gt-LARGEST_SIZE-clause-goes
returns-then-len-gt-LARGEST_SIZE-clause-goes g c = goes_refl _ _

pub returns-then-len-gt-LARGEST_SIZE-clause-ends : goal.returns-then-len-gt-LARGEST_SIZE-clause-ends
returns-then-len-gt-LARGEST_SIZE-clause-ends g c = refused_still _

pub returns-in_err-taken-clause-ok : goal.returns-in_err-taken-clause-ok
returns-in_err-taken-clause-ok g c = if_err c.from_residual.result _ c.from_residual.ensures.0

pub returns-in_err-taken-clause-space : goal.returns-in_err-taken-clause-space
returns-in_err-taken-clause-space g c = if_err c.from_residual.result _ c.from_residual.ensures.0

pub wanted_count-wanted-requires-clause-grows : goal.wanted_count-wanted-requires-clause-grows
wanted_count-wanted-requires-clause-grows g c = omega (arith, c.if-len-inode.false)

pub wanted_count-wanted-requires-clause-most : goal.wanted_count-wanted-requires-clause-most
wanted_count-wanted-requires-clause-most g c = omega (arith, c.if-len-gt-LARGEST_SIZE.false)

pub plan_shrink-requires-clause-less : goal.plan_shrink-requires-clause-less
plan_shrink-requires-clause-less g c = c.if-len-inode.true

pub plan_shrink-requires-clause-fits : goal.plan_shrink-requires-clause-fits
plan_shrink-requires-clause-fits g c = c.requires.fits (omega (arith, c.if-len-gt-LARGEST_SIZE.false))

pub plan_growth-requires-clause-grows : goal.plan_growth-requires-clause-grows
plan_growth-requires-clause-grows g c = omega (arith, c.if-len-inode.false)

pub plan_growth-requires-clause-fits : goal.plan_growth-requires-clause-fits
plan_growth-requires-clause-fits g c = c.requires.fits (omega (arith, c.if-len-gt-LARGEST_SIZE.false))

pub plan_shrink-requires-clause-can : goal.plan_shrink-requires-clause-can
plan_shrink-requires-clause-can g c = record { keeps = c.requires.sound; meets = can_look_up c.args.shape.now _ c.requires.ready.order.has_shape c.requires.ready.order.mapped c.requires.ready.order.named }
