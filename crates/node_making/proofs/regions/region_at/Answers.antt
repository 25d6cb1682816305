use Rattle.rio_base.proofs.Frames.{can_on, read_then}
use Rattle.rio_model.proofs.NamedReading.{named_trans}
use Rattle.request_ends.proofs.Reading.{file_value, file_refused, file_ok, file_on, reads_on}
use Rattle.request_ends.proofs.Failed.{never_some}
use Rattle.request_ends.proofs.Common.{◌≡◌, ◌<◌, ap, sym, subst, ◌∙◌, err_from_is_err_and, ◌then◌, held_of, names_of, walk, IsInode}
use Rattle.file_tree.specs.Walks.{ino_in}
use Rattle.region_view.proofs.UsedInodes.{used_ino}
use Rattle.file_tree.proofs.LookedAt.{inode_kind_held}
use Rattle.node_making.proofs.RegionFound.{found_inode, found_memory, found_other, found_region, found_walk, read_memory}
use Rattle.node_making.proofs.regions.region_at.Goals as goal

pub returns-in_err-i-clause-found : goal.returns-in_err-i-clause-found
returns-in_err-i-clause-found g c =
    let p = err_from_is_err_and c.from_residual.result c.from_residual.ensures.1 in
    λ s reads. found_walk s c.args.path.now c.walk.result (ino_in c.from_residual.result) _ p.0 c.in_err-i.was (ap ino_in p.1) p.2 (c.walk.ensures.value s reads)

pub returns-in_err-i-clause-memory : goal.returns-in_err-i-clause-memory
returns-in_err-i-clause-memory g c =
    let p = err_from_is_err_and c.from_residual.result c.from_residual.ensures.1 in
    let s = c.requires.can.meets.state in
    found_memory (walk s 1 (names_of c.args.path.now)) c.walk.result c.from_residual.result _ p.0 c.in_err-i.was p.1 p.2 (c.walk.ensures.value s c.requires.can.meets.reads)

pub node_inode-requires-clause-used : goal.node_inode-requires-clause-used
node_inode-requires-clause-used g c = subst (λ f. 0 < (held_of c.args.shape.now f c.in_ok-i.i.0).kind) (sym c.walk.ensures.read.looks.looks.words) c.in_ok-i.ensures.used

pub returns-in_err-inode-clause-found : goal.returns-in_err-inode-clause-found
returns-in_err-inode-clause-found g c =
    let p = err_from_is_err_and c.from_residual-in_err-inode.result c.from_residual-in_err-inode.ensures.1 in
    λ s reads. found_inode s c.args.path.now c.node_inode.result (ino_in c.from_residual-in_err-inode.result) _ p.0 c.in_err-inode.was (ap ino_in p.1) p.2 c.node_inode.ensures.other

pub returns-in_err-inode-clause-memory : goal.returns-in_err-inode-clause-memory
returns-in_err-inode-clause-memory g c =
    let p = err_from_is_err_and c.from_residual-in_err-inode.result c.from_residual-in_err-inode.ensures.1 in
    read_memory c.node_inode.result c.from_residual-in_err-inode.result _ p.0 c.in_err-inode.was p.1 p.2 c.node_inode.ensures.other

pub returns-then-inode-ne-REGION-clause-found : goal.returns-then-inode-ne-REGION-clause-found
returns-then-inode-ne-REGION-clause-found g c =
    let shape = c.args.shape.now in
    let f = (g.V.Blocks.seen c.args.v.now).words in
    let i = c.in_ok-i.i.0 in
    let n = c.in_ok-inode.inode in
    let kind : n.kind ≡ (held_of shape f i).kind = inode_kind_held shape f i n c.in_ok-i.ensures.used (subst (λ h. IsInode h i n) c.walk.ensures.read.looks.looks.words c.in_ok-inode.ensures.value) in
    λ s reads. found_other shape f s c.args.path.now i reads (c.in_ok-i.ensures.value s reads) c.in_ok-i.ensures.used (λ region. c.if-inode-ne-REGION.true (kind ∙ region))

pub returns-clause-region : goal.returns-clause-region
returns-clause-region g c =
    let shape = c.args.shape.now in
    let f = (g.V.Blocks.seen c.args.v.now).words in
    let i = c.in_ok-i.i.0 in
    let n = c.in_ok-inode.inode in
    sym (inode_kind_held shape f i n c.in_ok-i.ensures.used (subst (λ h. IsInode h i n) c.walk.ensures.read.looks.looks.words c.in_ok-inode.ensures.value)) ∙ c.if-inode-ne-REGION.false

pub returns-clause-ino : goal.returns-clause-ino
returns-clause-ino g c = used_ino c.args.shape.now (g.V.Blocks.seen c.args.v.now).words c.in_ok-i.i.0 c.in_ok-i.ensures.used

pub returns-clause-inode : goal.returns-clause-inode
returns-clause-inode g c = subst (λ h. IsInode h c.in_ok-i.i.0 c.in_ok-inode.inode) c.walk.ensures.read.looks.looks.words c.in_ok-inode.ensures.value

pub returns-clause-found : goal.returns-clause-found
returns-clause-found g c = λ s reads. found_region c.args.shape.now (g.V.Blocks.seen c.args.v.now).words s c.args.path.now c.in_ok-i.i reads (c.in_ok-i.ensures.value s reads) (returns-clause-region g c)

pub returns-in_err-i-clause-region : goal.returns-in_err-i-clause-region
returns-in_err-i-clause-region g c = let p = err_from_is_err_and c.from_residual.result c.from_residual.ensures.1 in never_some _ _ p.0 p.1

pub returns-in_err-i-clause-ino : goal.returns-in_err-i-clause-ino
returns-in_err-i-clause-ino g c = let p = err_from_is_err_and c.from_residual.result c.from_residual.ensures.1 in never_some _ _ p.0 p.1

pub returns-in_err-i-clause-inode : goal.returns-in_err-i-clause-inode
returns-in_err-i-clause-inode g c = let p = err_from_is_err_and c.from_residual.result c.from_residual.ensures.1 in never_some _ _ p.0 p.1

pub returns-in_err-inode-clause-region : goal.returns-in_err-inode-clause-region
returns-in_err-inode-clause-region g c = let p = err_from_is_err_and c.from_residual-in_err-inode.result c.from_residual-in_err-inode.ensures.1 in never_some _ _ p.0 p.1

pub returns-in_err-inode-clause-ino : goal.returns-in_err-inode-clause-ino
returns-in_err-inode-clause-ino g c = let p = err_from_is_err_and c.from_residual-in_err-inode.result c.from_residual-in_err-inode.ensures.1 in never_some _ _ p.0 p.1

pub returns-in_err-inode-clause-inode : goal.returns-in_err-inode-clause-inode
returns-in_err-inode-clause-inode g c = let p = err_from_is_err_and c.from_residual-in_err-inode.result c.from_residual-in_err-inode.ensures.1 in never_some _ _ p.0 p.1

pub returns-in_err-i-clause-read : goal.returns-in_err-i-clause-read
returns-in_err-i-clause-read g c = file_on c.walk.result c.from_residual.result c.in_err-i.was c.from_residual.ensures.1 c.walk.ensures.read

pub returns-in_err-inode-clause-read : goal.returns-in_err-inode-clause-read
returns-in_err-inode-clause-read g c = read_then g.met.V.Blocks.passes_trans (named_trans c.args.shape.now) (file_ok c.walk.result _ c.in_ok-i.was c.walk.ensures.read) (file_on c.node_inode.result c.from_residual-in_err-inode.result c.in_err-inode.was c.from_residual-in_err-inode.ensures.1 c.node_inode.ensures.read)

pub returns-then-inode-ne-REGION-clause-read : goal.returns-then-inode-ne-REGION-clause-read
returns-then-inode-ne-REGION-clause-read g c = file_refused 8 (read_then g.met.V.Blocks.passes_trans (named_trans c.args.shape.now) (file_ok c.walk.result _ c.in_ok-i.was c.walk.ensures.read) (file_ok c.node_inode.result _ c.in_ok-inode.was c.node_inode.ensures.read))

pub returns-clause-read : goal.returns-clause-read
returns-clause-read g c = file_value _ (read_then g.met.V.Blocks.passes_trans (named_trans c.args.shape.now) (file_ok c.walk.result _ c.in_ok-i.was c.walk.ensures.read) (file_ok c.node_inode.result _ c.in_ok-inode.was c.node_inode.ensures.read))

pub node_inode-requires-clause-can : goal.node_inode-requires-clause-can
node_inode-requires-clause-can g c = can_on c.walk.ensures.read (reads_on c.args.shape.now _ _ c.requires.can.meets)

pub walk-requires-clause-can : goal.walk-requires-clause-can
walk-requires-clause-can g c = c.requires.can
