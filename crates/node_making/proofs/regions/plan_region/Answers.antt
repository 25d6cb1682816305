use Rattle.node_updates.specs.declared.changes.NodeChange.{NodeChange}
use Rattle.node_pages.specs.Changes.{free_beside}
use Rattle.node_pages.proofs.Ends.{ends_vol_size, unrefused_vol, size_err, size_then, err_handed, unrefused_ok, ends_well_ok}
use Rattle.request_ends.proofs.Failed.{never_ok, never_some}
use Rattle.request_ends.proofs.Common.{sym, subst, Contains, ◌then◌, numbers, AtPage, IsFree, volume_layout, err_from_is_err_and, ap, blocks_for, length, inr, arith}
use Rattle.node_making.proofs.RegionPlanned.{PutsHeader, TakesRegion, are_beside, are_free, first_page, header_at, header_named, header_place, less_wanted, all_wanted, plans_region, put_leaves, put_spares}
use Rattle.node_making.proofs.regions.plan_region.Goals as goal

pub put_header-requires-clause-place : goal.put_header-requires-clause-place
put_header-requires-clause-place g c =
    let shape = c.args.shape.now in
    let x = g.V.Blocks.seen c.args.v.now in
    let k = g.V.Volume.kept c.args.v.now in
    let z = g.V.Blocks.seen c.plan_size.new.v in
    let l = g.V.Volume.kept c.plan_size.new.v in
    let i = c.args.i in
    let r = c.args.sizes in
    let given = c.empty_inode-inode.result in
    let skip = numbers c.args.skip.now in
    let change = c.in_ok-change.change in
    let takes : TakesRegion shape x.words z l i.0 given r skip change = record { plan = c.in_ok-change.ensures.ok; fit = c.requires.sizes; mapped = c.requires.ready.order.mapped; free = c.requires.free; kind = c.empty_inode-inode.ensures.kind; size = c.empty_inode-inode.ensures.size; space = c.in_ok-change.ensures.space.1 } in
    let at = header_at shape x.words z l i.0 given r skip change takes c.as_slice.result.now (record { 0 = 0 }) c.as_slice.ensures in
    header_place shape x.words z l i.0 given r skip change _ takes at c.plan_size.ensures.leaves.has_shape

pub put_header-requires-clause-name : goal.put_header-requires-clause-name
put_header-requires-clause-name g c =
    let shape = c.args.shape.now in
    let x = g.V.Blocks.seen c.args.v.now in
    let k = g.V.Volume.kept c.args.v.now in
    let z = g.V.Blocks.seen c.plan_size.new.v in
    let l = g.V.Volume.kept c.plan_size.new.v in
    let i = c.args.i in
    let r = c.args.sizes in
    let given = c.empty_inode-inode.result in
    let skip = numbers c.args.skip.now in
    let change = c.in_ok-change.change in
    let takes : TakesRegion shape x.words z l i.0 given r skip change = record { plan = c.in_ok-change.ensures.ok; fit = c.requires.sizes; mapped = c.requires.ready.order.mapped; free = c.requires.free; kind = c.empty_inode-inode.ensures.kind; size = c.empty_inode-inode.ensures.size; space = c.in_ok-change.ensures.space.1 } in
    let at = header_at shape x.words z l i.0 given r skip change takes c.as_slice.result.now (record { 0 = 0 }) c.as_slice.ensures in
    header_named shape x.words z l i given r skip change _ c.requires.ino takes at

pub returns-in_err-put_header-clause-leaves : goal.returns-in_err-put_header-clause-leaves
returns-in_err-put_header-clause-leaves g c =
    let shape = c.args.shape.now in
    let x = g.V.Blocks.seen c.args.v.now in
    let k = g.V.Volume.kept c.args.v.now in
    let z = g.V.Blocks.seen c.plan_size.new.v in
    let l = g.V.Volume.kept c.plan_size.new.v in
    let i = c.args.i in
    let r = c.args.sizes in
    let given = c.empty_inode-inode.result in
    let skip = numbers c.args.skip.now in
    let change = c.in_ok-change.change in
    let takes : TakesRegion shape x.words z l i.0 given r skip change = record { plan = c.in_ok-change.ensures.ok; fit = c.requires.sizes; mapped = c.requires.ready.order.mapped; free = c.requires.free; kind = c.empty_inode-inode.ensures.kind; size = c.empty_inode-inode.ensures.size; space = c.in_ok-change.ensures.space.1 } in
    let at = header_at shape x.words z l i.0 given r skip change takes c.as_slice.result.now (record { 0 = 0 }) c.as_slice.ensures in
    let y = g.V.Blocks.seen c.put_header.new.v in
    let j = g.V.Volume.kept c.put_header.new.v in
    let page = first_page shape x.words z l i.0 given r skip change takes in
    let puts : PutsHeader z l y j _ i = record { others = c.put_header.ensures.others; standing = c.put_header.ensures.standing; firm = c.put_header.ensures.firm; count = c.put_header.ensures.count; caches = c.put_header.ensures.caches; idle = c.put_header.ensures.idle } in
    put_leaves shape x k z l y j _ i c.requires.ready c.plan_size.ensures.leaves (subst (IsFree (volume_layout shape x.words)) (sym at) (are_free shape x.words z l i.0 given r skip change takes (AtPage 0) page)) puts

pub returns-in_err-put_header-clause-spared : goal.returns-in_err-put_header-clause-spared
returns-in_err-put_header-clause-spared g c =
    let shape = c.args.shape.now in
    let x = g.V.Blocks.seen c.args.v.now in
    let k = g.V.Volume.kept c.args.v.now in
    let z = g.V.Blocks.seen c.plan_size.new.v in
    let l = g.V.Volume.kept c.plan_size.new.v in
    let i = c.args.i in
    let r = c.args.sizes in
    let given = c.empty_inode-inode.result in
    let skip = numbers c.args.skip.now in
    let change = c.in_ok-change.change in
    let takes : TakesRegion shape x.words z l i.0 given r skip change = record { plan = c.in_ok-change.ensures.ok; fit = c.requires.sizes; mapped = c.requires.ready.order.mapped; free = c.requires.free; kind = c.empty_inode-inode.ensures.kind; size = c.empty_inode-inode.ensures.size; space = c.in_ok-change.ensures.space.1 } in
    let at = header_at shape x.words z l i.0 given r skip change takes c.as_slice.result.now (record { 0 = 0 }) c.as_slice.ensures in
    let y = g.V.Blocks.seen c.put_header.new.v in
    let j = g.V.Volume.kept c.put_header.new.v in
    let page = first_page shape x.words z l i.0 given r skip change takes in
    let puts : PutsHeader z l y j _ i = record { others = c.put_header.ensures.others; standing = c.put_header.ensures.standing; firm = c.put_header.ensures.firm; count = c.put_header.ensures.count; caches = c.put_header.ensures.caches; idle = c.put_header.ensures.idle } in
    put_spares skip x k z l y j _ i (λ on. are_beside shape x.words z l i.0 given r skip change takes (AtPage 0) page (subst (Contains skip) at on)) c.plan_size.ensures.spared puts

pub returns-in_err-put_header-clause-goes : goal.returns-in_err-put_header-clause-goes
returns-in_err-put_header-clause-goes g c = c.plan_size.ensures.goes then c.put_header.ensures.goes

pub returns-clause-leaves : goal.returns-clause-leaves
returns-clause-leaves g c =
    let shape = c.args.shape.now in
    let x = g.V.Blocks.seen c.args.v.now in
    let k = g.V.Volume.kept c.args.v.now in
    let z = g.V.Blocks.seen c.plan_size.new.v in
    let l = g.V.Volume.kept c.plan_size.new.v in
    let i = c.args.i in
    let r = c.args.sizes in
    let given = c.empty_inode-inode.result in
    let skip = numbers c.args.skip.now in
    let change = c.in_ok-change.change in
    let takes : TakesRegion shape x.words z l i.0 given r skip change = record { plan = c.in_ok-change.ensures.ok; fit = c.requires.sizes; mapped = c.requires.ready.order.mapped; free = c.requires.free; kind = c.empty_inode-inode.ensures.kind; size = c.empty_inode-inode.ensures.size; space = c.in_ok-change.ensures.space.1 } in
    let at = header_at shape x.words z l i.0 given r skip change takes c.as_slice.result.now (record { 0 = 0 }) c.as_slice.ensures in
    let y = g.V.Blocks.seen c.put_header.new.v in
    let j = g.V.Volume.kept c.put_header.new.v in
    let page = first_page shape x.words z l i.0 given r skip change takes in
    let puts : PutsHeader z l y j _ i = record { others = c.put_header.ensures.others; standing = c.put_header.ensures.standing; firm = c.put_header.ensures.firm; count = c.put_header.ensures.count; caches = c.put_header.ensures.caches; idle = c.put_header.ensures.idle } in
    put_leaves shape x k z l y j _ i c.requires.ready c.plan_size.ensures.leaves (subst (IsFree (volume_layout shape x.words)) (sym at) (are_free shape x.words z l i.0 given r skip change takes (AtPage 0) page)) puts

pub returns-clause-spared : goal.returns-clause-spared
returns-clause-spared g c =
    let shape = c.args.shape.now in
    let x = g.V.Blocks.seen c.args.v.now in
    let k = g.V.Volume.kept c.args.v.now in
    let z = g.V.Blocks.seen c.plan_size.new.v in
    let l = g.V.Volume.kept c.plan_size.new.v in
    let i = c.args.i in
    let r = c.args.sizes in
    let given = c.empty_inode-inode.result in
    let skip = numbers c.args.skip.now in
    let change = c.in_ok-change.change in
    let takes : TakesRegion shape x.words z l i.0 given r skip change = record { plan = c.in_ok-change.ensures.ok; fit = c.requires.sizes; mapped = c.requires.ready.order.mapped; free = c.requires.free; kind = c.empty_inode-inode.ensures.kind; size = c.empty_inode-inode.ensures.size; space = c.in_ok-change.ensures.space.1 } in
    let at = header_at shape x.words z l i.0 given r skip change takes c.as_slice.result.now (record { 0 = 0 }) c.as_slice.ensures in
    let y = g.V.Blocks.seen c.put_header.new.v in
    let j = g.V.Volume.kept c.put_header.new.v in
    let page = first_page shape x.words z l i.0 given r skip change takes in
    let puts : PutsHeader z l y j _ i = record { others = c.put_header.ensures.others; standing = c.put_header.ensures.standing; firm = c.put_header.ensures.firm; count = c.put_header.ensures.count; caches = c.put_header.ensures.caches; idle = c.put_header.ensures.idle } in
    put_spares skip x k z l y j _ i (λ on. are_beside shape x.words z l i.0 given r skip change takes (AtPage 0) page (subst (Contains skip) at on)) c.plan_size.ensures.spared puts

pub returns-clause-goes : goal.returns-clause-goes
returns-clause-goes g c = c.plan_size.ensures.goes then c.put_header.ensures.goes

pub returns-clause-ok : goal.returns-clause-ok
returns-clause-ok g c =
    let shape = c.args.shape.now in
    let x = g.V.Blocks.seen c.args.v.now in
    let k = g.V.Volume.kept c.args.v.now in
    let z = g.V.Blocks.seen c.plan_size.new.v in
    let l = g.V.Volume.kept c.plan_size.new.v in
    let i = c.args.i in
    let r = c.args.sizes in
    let given = c.empty_inode-inode.result in
    let skip = numbers c.args.skip.now in
    let change = c.in_ok-change.change in
    let takes : TakesRegion shape x.words z l i.0 given r skip change = record { plan = c.in_ok-change.ensures.ok; fit = c.requires.sizes; mapped = c.requires.ready.order.mapped; free = c.requires.free; kind = c.empty_inode-inode.ensures.kind; size = c.empty_inode-inode.ensures.size; space = c.in_ok-change.ensures.space.1 } in
    let at = header_at shape x.words z l i.0 given r skip change takes c.as_slice.result.now (record { 0 = 0 }) c.as_slice.ensures in
    let y = g.V.Blocks.seen c.put_header.new.v in
    let j = g.V.Volume.kept c.put_header.new.v in
    let page = first_page shape x.words z l i.0 given r skip change takes in
    let puts : PutsHeader z l y j _ i = record { others = c.put_header.ensures.others; standing = c.put_header.ensures.standing; firm = c.put_header.ensures.firm; count = c.put_header.ensures.count; caches = c.put_header.ensures.caches; idle = c.put_header.ensures.idle } in
    plans_region shape x.words z l y j i given r skip change _ c.node_sized.result takes at puts c.in_ok-put_header.ensures.ok c.node_sized.ensures

pub returns-in_err-change-clause-ok : goal.returns-in_err-change-clause-ok
returns-in_err-change-clause-ok g c = let p = err_from_is_err_and c.from_residual.result c.from_residual.ensures.1 in never_some _ _ p.0 p.1

pub returns-in_err-change-clause-space : goal.returns-in_err-change-clause-space
returns-in_err-change-clause-space g c = let p = err_from_is_err_and c.from_residual.result c.from_residual.ensures.1 in never_ok _ _ p.0 p.1

pub returns-in_err-put_header-clause-ok : goal.returns-in_err-put_header-clause-ok
returns-in_err-put_header-clause-ok g c = let p = err_from_is_err_and c.from_residual-in_err-put_header.result c.from_residual-in_err-put_header.ensures.1 in never_some _ _ p.0 p.1

pub returns-in_err-put_header-clause-space : goal.returns-in_err-put_header-clause-space
returns-in_err-put_header-clause-space g c = let p = err_from_is_err_and c.from_residual-in_err-put_header.result c.from_residual-in_err-put_header.ensures.1 in never_ok _ _ p.0 p.1

pub returns-in_err-put_header-clause-ends : goal.returns-in_err-put_header-clause-ends
returns-in_err-put_header-clause-ends g c = let p = err_from_is_err_and c.from_residual-in_err-put_header.result c.from_residual-in_err-put_header.ensures.1 in size_then _ _ _ c.plan_size.result _ _ c.in_ok-change.was c.plan_size.ensures.ends (ends_vol_size _ _ c.put_header.result c.from_residual-in_err-put_header.result _ p.0 c.in_err-put_header.was p.1 p.2 c.put_header.ensures.ends)

pub returns-in_err-change-clause-no_space : goal.returns-in_err-change-clause-no_space
returns-in_err-change-clause-no_space g c = let p = err_from_is_err_and c.from_residual.result c.from_residual.ensures.1 in λ is. less_wanted (length (free_beside c.args.shape.now (g.V.Blocks.seen c.args.v.now).words (numbers c.args.skip.now))) (blocks_for c.args.sizes.bytes) (blocks_for c.empty_inode-inode.result.size) (c.plan_size.ensures.no_space (err_handed _ c.plan_size.result c.from_residual.result _ p.0 c.in_err-change.was p.1 p.2 is)).2

pub returns-in_err-change-clause-fits : goal.returns-in_err-change-clause-fits
returns-in_err-change-clause-fits g c = let p = err_from_is_err_and c.from_residual.result c.from_residual.ensures.1 in λ is. omega (arith, c.plan_size.ensures.too_large (err_handed _ c.plan_size.result c.from_residual.result _ p.0 c.in_err-change.was p.1 p.2 is), c.requires.sizes.most)

pub returns-in_err-change-clause-ends : goal.returns-in_err-change-clause-ends
returns-in_err-change-clause-ends g c = let p = err_from_is_err_and c.from_residual.result c.from_residual.ensures.1 in size_err _ _ c.plan_size.result c.from_residual.result _ p.0 c.in_err-change.was p.1 p.2 c.plan_size.ensures.ends

pub returns-in_err-put_header-clause-no_space : goal.returns-in_err-put_header-clause-no_space
returns-in_err-put_header-clause-no_space g c = let p = err_from_is_err_and c.from_residual-in_err-put_header.result c.from_residual-in_err-put_header.ensures.1 in λ is. absurd ((unrefused_vol c.from_residual-in_err-put_header.result _ p.0 p.1 p.2).0 is)

pub returns-in_err-put_header-clause-fits : goal.returns-in_err-put_header-clause-fits
returns-in_err-put_header-clause-fits g c = let p = err_from_is_err_and c.from_residual-in_err-put_header.result c.from_residual-in_err-put_header.ensures.1 in λ is. (unrefused_vol c.from_residual-in_err-put_header.result _ p.0 p.1 p.2).1 is

pub returns-clause-space : goal.returns-clause-space
returns-clause-space g c = all_wanted (length (free_beside c.args.shape.now (g.V.Blocks.seen c.args.v.now).words (numbers c.args.skip.now))) (blocks_for c.args.sizes.bytes) (blocks_for c.empty_inode-inode.result.size) (ap blocks_for c.empty_inode-inode.ensures.size) c.in_ok-change.ensures.space.1

pub returns-clause-no_space : goal.returns-clause-no_space
returns-clause-no_space g c = λ is. absurd ((unrefused_ok {T = NodeChange} c.node_sized.result).0 is)

pub returns-clause-fits : goal.returns-clause-fits
returns-clause-fits g c = λ is. (unrefused_ok {T = NodeChange} c.node_sized.result).1 is

pub returns-clause-ends : goal.returns-clause-ends
returns-clause-ends g c = size_then _ _ _ c.plan_size.result _ _ c.in_ok-change.was c.plan_size.ensures.ends (ends_well_ok _ _ _ c.put_header.ensures.ends.later c.in_ok-put_header.ensures.ends.cause)

pub plan_size-requires-clause-inode : goal.plan_size-requires-clause-inode
plan_size-requires-clause-inode g c = inr (c.requires.free, c.empty_inode-inode.ensures.size, omega (arith, c.empty_inode-inode.ensures.kind), omega (arith, c.empty_inode-inode.ensures.kind))
