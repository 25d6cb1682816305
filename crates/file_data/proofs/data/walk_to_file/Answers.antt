use Rattle.rio_base.proofs.Frames.{can_on, read_then}
use Rattle.rio_model.proofs.NamedReading.{named_trans}
use Rattle.request_ends.proofs.Reading.{file_value, file_refused, file_ok, file_on, reads_on}
use Rattle.request_ends.proofs.Common.{◌≡◌, arith, ◌<◌, sym, ap, subst, ◌∙◌, err_from_is_err_and, ◌then◌, held_of, names_of, walk, IsInode}
use Rattle.file_tree.proofs.LookedAt.{file_dir, file_inode, file_left, file_region, file_walk, inode_kind_held}
use Rattle.file_tree.specs.Walks.{ino_in}
use Rattle.file_data.proofs.data.walk_to_file.Goals as goal

pub returns-in_err-i-clause-value : goal.returns-in_err-i-clause-value
returns-in_err-i-clause-value g c =
    let p = err_from_is_err_and c.from_residual.result c.from_residual.ensures.1 in
    λ s reads. file_walk s (walk s 1 (names_of c.args.path.now)) c.walk.result (ino_in c.from_residual.result) _ p.0 c.in_err-i.was (ap ino_in p.1) p.2 (c.walk.ensures.value s reads)

pub inode_of-requires-clause-used : goal.inode_of-requires-clause-used
inode_of-requires-clause-used g c = subst (λ f. 0 < (held_of c.args.shape.now f c.in_ok-i.i.0).kind) (sym c.walk.ensures.read.looks.looks.words) c.in_ok-i.ensures.used

pub returns-in_err-inode-clause-value : goal.returns-in_err-inode-clause-value
returns-in_err-inode-clause-value g c =
    let p = err_from_is_err_and c.from_residual-in_err-inode.result c.from_residual-in_err-inode.ensures.1 in
    λ s reads. file_inode s (walk s 1 (names_of c.args.path.now)) c.inode_of.result (ino_in c.from_residual-in_err-inode.result) _ p.0 c.in_err-inode.was (ap ino_in p.1) p.2 c.inode_of.ensures.other

pub returns-in-1-clause-value : goal.returns-in-1-clause-value
returns-in-1-clause-value g c =
    let shape = c.args.shape.now in
    let f = (g.V.Blocks.seen c.args.v.now).words in
    let i = c.in_ok-i.i.0 in
    let n = c.in_ok-inode.inode in
    let kind : n.kind ≡ (held_of shape f i).kind = inode_kind_held shape f i n c.in_ok-i.ensures.used (subst (λ h. IsInode h i n) c.walk.ensures.read.looks.looks.words c.in_ok-inode.ensures.value) in
    λ s reads. file_dir shape f s (walk s 1 (names_of c.args.path.now)) i reads (c.in_ok-i.ensures.value s reads) (sym kind ∙ c.in-1.is)

pub returns-in-3-clause-value : goal.returns-in-3-clause-value
returns-in-3-clause-value g c =
    let shape = c.args.shape.now in
    let f = (g.V.Blocks.seen c.args.v.now).words in
    let i = c.in_ok-i.i.0 in
    let n = c.in_ok-inode.inode in
    let kind : n.kind ≡ (held_of shape f i).kind = inode_kind_held shape f i n c.in_ok-i.ensures.used (subst (λ h. IsInode h i n) c.walk.ensures.read.looks.looks.words c.in_ok-inode.ensures.value) in
    λ s reads. file_region shape f s (walk s 1 (names_of c.args.path.now)) i reads (c.in_ok-i.ensures.value s reads) (sym kind ∙ c.in-3.is)

pub returns-in_default-clause-file : goal.returns-in_default-clause-file
returns-in_default-clause-file g c =
    let shape = c.args.shape.now in
    let f = (g.V.Blocks.seen c.args.v.now).words in
    let i = c.in_ok-i.i.0 in
    let n = c.in_ok-inode.inode in
    let kind : n.kind ≡ (held_of shape f i).kind = inode_kind_held shape f i n c.in_ok-i.ensures.used (subst (λ h. IsInode h i n) c.walk.ensures.read.looks.looks.words c.in_ok-inode.ensures.value) in
    file_left shape f c.requires.can.meets.state i c.requires.can.meets.reads c.in_ok-i.ensures.used (λ dir. omega (arith, kind, dir)) (λ region. omega (arith, kind, region))

pub returns-in_default-clause-value : goal.returns-in_default-clause-value
returns-in_default-clause-value g c = λ s reads. c.in_ok-i.ensures.value s reads

pub returns-in_default-clause-inode : goal.returns-in_default-clause-inode
returns-in_default-clause-inode g c = subst (λ f. IsInode f c.in_ok-i.i.0 c.in_ok-inode.inode) c.walk.ensures.read.looks.looks.words c.in_ok-inode.ensures.value

pub returns-in_err-i-clause-read : goal.returns-in_err-i-clause-read
returns-in_err-i-clause-read g c = file_on c.walk.result c.from_residual.result c.in_err-i.was c.from_residual.ensures.1 c.walk.ensures.read

pub returns-in_err-inode-clause-read : goal.returns-in_err-inode-clause-read
returns-in_err-inode-clause-read g c = read_then g.met.V.Blocks.passes_trans (named_trans c.args.shape.now) (file_ok c.walk.result _ c.in_ok-i.was c.walk.ensures.read) (file_on c.inode_of.result c.from_residual-in_err-inode.result c.in_err-inode.was c.from_residual-in_err-inode.ensures.1 c.inode_of.ensures.read)

pub returns-in-1-clause-read : goal.returns-in-1-clause-read
returns-in-1-clause-read g c = file_refused 5 (read_then g.met.V.Blocks.passes_trans (named_trans c.args.shape.now) (file_ok c.walk.result _ c.in_ok-i.was c.walk.ensures.read) (file_ok c.inode_of.result _ c.in_ok-inode.was c.inode_of.ensures.read))

pub returns-in-3-clause-read : goal.returns-in-3-clause-read
returns-in-3-clause-read g c = file_refused 7 (read_then g.met.V.Blocks.passes_trans (named_trans c.args.shape.now) (file_ok c.walk.result _ c.in_ok-i.was c.walk.ensures.read) (file_ok c.inode_of.result _ c.in_ok-inode.was c.inode_of.ensures.read))

pub returns-in_default-clause-read : goal.returns-in_default-clause-read
returns-in_default-clause-read g c = file_value _ (read_then g.met.V.Blocks.passes_trans (named_trans c.args.shape.now) (file_ok c.walk.result _ c.in_ok-i.was c.walk.ensures.read) (file_ok c.inode_of.result _ c.in_ok-inode.was c.inode_of.ensures.read))

pub inode_of-requires-clause-can : goal.inode_of-requires-clause-can
inode_of-requires-clause-can g c = can_on c.walk.ensures.read (reads_on c.args.shape.now _ _ c.requires.can.meets)

pub walk-requires-clause-can : goal.walk-requires-clause-can
walk-requires-clause-can g c = c.requires.can
