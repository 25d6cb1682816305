use Rattle.request_ends.proofs.Reading.{can_read, file_served}
use Rattle.file_tree.proofs.Lookups.{can_looked}
use Rattle.request_ends.proofs.Common.{◌≡◌, ◌*◌, ◌<◌, refl, sym, subst, ◌∙◌, err_from_is_err_and, ◌then◌, held_of, names_of, walk, IsInode, NoneDone, get}
use Rattle.rio_requests.specs.declared.reply.Reply.TheVariants.{Stat}
use Rattle.rio_requests.specs.Answers.{stat as stat_of, stat_node}
use Rattle.request_ends.specs.Ends.{SaysStat}
use Rattle.request_ends.proofs.AnsweredAt.{ends_answered, ends_look, fails_unrefused}
use Rattle.file_tree.proofs.LookedAt.{fails_walk, inode_kind_held}
use Rattle.request_ends.proofs.CallEnds.{after_well, ends_ok, ends_on, well}
use Rattle.file_tree.proofs.MemoSteps.{same_step}
use Rattle.node_making.proofs.StatAnswered.{stat_answer}
use Rattle.request_ends.proofs.Unchanged.{leaves_then, leaves_read}
use Rattle.node_making.proofs.looking.stat.Goals as goal

pub returns-in_err-i-clause-leaves : goal.returns-in_err-i-clause-leaves
returns-in_err-i-clause-leaves g c =
    let path = c.args.path.now in
    let p = err_from_is_err_and c.from_residual.result c.from_residual.ensures.1 in
    λ s reads. ends_look SaysStat c.args.shape.now (g.V.Blocks.seen c.args.v.now) (g.V.Volume.kept c.args.v.now) (g.V.Blocks.seen c.walk.new.v) (g.V.Volume.kept c.walk.new.v) s (stat_of s path) (NoneDone s) c.from_residual.result _ p.0 p.1 p.2
    c.requires.can.ready (g.met.V.Volume.settled _ c.requires.sound) (file_served g.met.V.Volume.passes_keeps c.requires.can c.walk.ensures.read).leaves reads (refl, refl)
    (fails_walk s (walk s 1 (names_of path)) (λ i. stat_node s i (get s.nodes i)) c.walk.result _ c.in_err-i.was (c.walk.ensures.value s reads))

pub returns-in_err-i-clause-ends : goal.returns-in_err-i-clause-ends
returns-in_err-i-clause-ends g c =
    let p = err_from_is_err_and c.from_residual.result c.from_residual.ensures.1 in
    ends_on _ _ c.walk.result c.from_residual.result _ p.0 c.in_err-i.was p.1 p.2 c.walk.ensures.read.ends

pub node_inode-requires-clause-used : goal.node_inode-requires-clause-used
node_inode-requires-clause-used g c = subst (λ f. 0 < (held_of c.args.shape.now f c.in_ok-i.i.0).kind) (sym c.walk.ensures.read.looks.looks.words) c.in_ok-i.ensures.used

pub returns-in_err-inode-clause-leaves : goal.returns-in_err-inode-clause-leaves
returns-in_err-inode-clause-leaves g c =
    let x = g.V.Blocks.seen c.args.v.now in
    let k = g.V.Volume.kept c.args.v.now in
    let y = g.V.Blocks.seen c.node_inode.new.v in
    let j = g.V.Volume.kept c.node_inode.new.v in
    let p = err_from_is_err_and c.from_residual-in_err-inode.result c.from_residual-in_err-inode.ensures.1 in
    λ s reads. ends_look SaysStat c.args.shape.now x k y j s (stat_of s c.args.path.now) (NoneDone s) c.from_residual-in_err-inode.result _ p.0 p.1 p.2
    c.requires.can.ready (g.met.V.Volume.settled _ c.requires.sound)
    (leaves_then c.args.shape.now x k (g.V.Blocks.seen c.walk.new.v) (g.V.Volume.kept c.walk.new.v) y j (file_served g.met.V.Volume.passes_keeps c.requires.can c.walk.ensures.read).leaves c.walk.ensures.read.looks.looks.words (leaves_read c.args.shape.now _ _ _ _ _ _ _ _ (file_served g.met.V.Volume.passes_keeps c.requires.can c.walk.ensures.read).can.ready c.node_inode.ensures.read.looks.looks c.node_inode.ensures.read.looks.has_shape c.node_inode.ensures.read.looks.named (g.met.V.Volume.passes_keeps _ _ c.node_inode.ensures.read.passed))) reads (refl, refl)
    (fails_unrefused s (stat_of s c.args.path.now) c.node_inode.result _ c.in_err-inode.was c.node_inode.ensures.other)

pub returns-in_err-inode-clause-goes : goal.returns-in_err-inode-clause-goes
returns-in_err-inode-clause-goes g c = (g.met.V.Volume.passes_keeps _ _ c.walk.ensures.read.passed).goes then (g.met.V.Volume.passes_keeps _ _ c.node_inode.ensures.read.passed).goes

pub returns-in_err-inode-clause-ends : goal.returns-in_err-inode-clause-ends
returns-in_err-inode-clause-ends g c =
    let p = err_from_is_err_and c.from_residual-in_err-inode.result c.from_residual-in_err-inode.ensures.1 in
    after_well _ _ _ _ _ (well _ _ c.walk.result _ c.in_ok-i.was c.walk.ensures.read.ends) (ends_on _ _ c.node_inode.result c.from_residual-in_err-inode.result _ p.0 c.in_err-inode.was p.1 p.2 c.node_inode.ensures.read.ends)

pub region_bytes-requires-clause-region : goal.region_bytes-requires-clause-region
region_bytes-requires-clause-region g c =
    let shape = c.args.shape.now in
    let f = (g.V.Blocks.seen c.args.v.now).words in
    let i = c.in_ok-i.i.0 in
    let n = c.in_ok-inode.inode in
    let is = subst (λ f. IsInode f i n) c.walk.ensures.read.looks.looks.words c.in_ok-inode.ensures.value in
    let words = c.node_inode.ensures.read.looks.looks.words ∙ c.walk.ensures.read.looks.looks.words in
    subst (λ h. (held_of shape h i).kind ≡ 3) (sym words) (sym (inode_kind_held shape f i n c.in_ok-i.ensures.used is) ∙ c.if-inode-eq-REGION.true)

pub returns-in_err-size-clause-leaves : goal.returns-in_err-size-clause-leaves
returns-in_err-size-clause-leaves g c =
    let shape = c.args.shape.now in
    let x = g.V.Blocks.seen c.args.v.now in
    let k = g.V.Volume.kept c.args.v.now in
    let m = g.V.Blocks.seen c.node_inode.new.v in
    let l = g.V.Volume.kept c.node_inode.new.v in
    let known = leaves_then shape x k (g.V.Blocks.seen c.walk.new.v) (g.V.Volume.kept c.walk.new.v) m l (file_served g.met.V.Volume.passes_keeps c.requires.can c.walk.ensures.read).leaves c.walk.ensures.read.looks.looks.words (leaves_read c.args.shape.now _ _ _ _ _ _ _ _ (file_served g.met.V.Volume.passes_keeps c.requires.can c.walk.ensures.read).can.ready c.node_inode.ensures.read.looks.looks c.node_inode.ensures.read.looks.has_shape c.node_inode.ensures.read.looks.named (g.met.V.Volume.passes_keeps _ _ c.node_inode.ensures.read.passed)) in
    let y = g.V.Blocks.seen c.region_bytes.new.v in
    let j = g.V.Volume.kept c.region_bytes.new.v in
    let words = c.node_inode.ensures.read.looks.looks.words ∙ c.walk.ensures.read.looks.looks.words in
    let p = err_from_is_err_and c.from_residual-in_err-size.result c.from_residual-in_err-size.ensures.1 in
    λ s reads. ends_look SaysStat shape x k y j s (stat_of s c.args.path.now) (NoneDone s) c.from_residual-in_err-size.result _ p.0 p.1 p.2
    c.requires.can.ready (g.met.V.Volume.settled _ c.requires.sound) (leaves_then shape x k m l y j known words c.region_bytes.ensures.leaves) reads (refl, refl)
    (fails_unrefused s (stat_of s c.args.path.now) c.region_bytes.result _ c.in_err-size.was c.region_bytes.ensures.other)

pub returns-in_err-size-clause-goes : goal.returns-in_err-size-clause-goes
returns-in_err-size-clause-goes g c = (g.met.V.Volume.passes_keeps _ _ c.walk.ensures.read.passed).goes then (g.met.V.Volume.passes_keeps _ _ c.node_inode.ensures.read.passed).goes then c.region_bytes.ensures.goes

pub returns-in_err-size-clause-ends : goal.returns-in_err-size-clause-ends
returns-in_err-size-clause-ends g c =
    let p = err_from_is_err_and c.from_residual-in_err-size.result c.from_residual-in_err-size.ensures.1 in
    after_well _ _ _ _ _ (after_well _ _ _ _ _ (well _ _ c.walk.result _ c.in_ok-i.was c.walk.ensures.read.ends) (well _ _ c.node_inode.result _ c.in_ok-inode.was c.node_inode.ensures.read.ends)) (ends_on _ _ c.region_bytes.result c.from_residual-in_err-size.result _ p.0 c.in_err-size.was p.1 p.2 c.region_bytes.ensures.ends)

pub returns-in_ok-size-clause-leaves : goal.returns-in_ok-size-clause-leaves
returns-in_ok-size-clause-leaves g c =
    let shape = c.args.shape.now in
    let x = g.V.Blocks.seen c.args.v.now in
    let k = g.V.Volume.kept c.args.v.now in
    let m = g.V.Blocks.seen c.node_inode.new.v in
    let l = g.V.Volume.kept c.node_inode.new.v in
    let known = leaves_then shape x k (g.V.Blocks.seen c.walk.new.v) (g.V.Volume.kept c.walk.new.v) m l (file_served g.met.V.Volume.passes_keeps c.requires.can c.walk.ensures.read).leaves c.walk.ensures.read.looks.looks.words (leaves_read c.args.shape.now _ _ _ _ _ _ _ _ (file_served g.met.V.Volume.passes_keeps c.requires.can c.walk.ensures.read).can.ready c.node_inode.ensures.read.looks.looks c.node_inode.ensures.read.looks.has_shape c.node_inode.ensures.read.looks.named (g.met.V.Volume.passes_keeps _ _ c.node_inode.ensures.read.passed)) in
    let y = g.V.Blocks.seen c.region_bytes.new.v in
    let j = g.V.Volume.kept c.region_bytes.new.v in
    let words = c.node_inode.ensures.read.looks.looks.words ∙ c.walk.ensures.read.looks.looks.words in
    let i = c.in_ok-i.i.0 in
    let n = c.in_ok-inode.inode in
    let is = subst (λ f. IsInode f i n) c.walk.ensures.read.looks.looks.words c.in_ok-inode.ensures.value in
    let bytes = c.in_ok-size.size in
    let told = subst (λ f. bytes ≡ 4096 * (held_of shape f i).word 2) words c.in_ok-size.ensures.value in
    λ s reads. ends_answered SaysStat (c.in_ok-i.i, n.kind, bytes) shape x k y j s (stat_of s c.args.path.now) (Stat (record { 0 = i }) n.kind bytes) (NoneDone s) c.requires.can.ready (leaves_then shape x k m l y j known words c.region_bytes.ensures.leaves) reads
    (stat_answer shape x.words s c.args.path.now i n bytes reads (c.in_ok-i.ensures.value s reads) c.in_ok-i.ensures.used is (record { region = λ three. told; other = λ away. absurd (away c.if-inode-eq-REGION.true) })) refl

pub returns-in_ok-size-clause-goes : goal.returns-in_ok-size-clause-goes
returns-in_ok-size-clause-goes g c = (g.met.V.Volume.passes_keeps _ _ c.walk.ensures.read.passed).goes then (g.met.V.Volume.passes_keeps _ _ c.node_inode.ensures.read.passed).goes then c.region_bytes.ensures.goes

pub returns-in_ok-size-clause-ends : goal.returns-in_ok-size-clause-ends
returns-in_ok-size-clause-ends g c = ends_ok _ _ _ (after_well _ _ _ _ _ (after_well _ _ _ _ _ (well _ _ c.walk.result _ c.in_ok-i.was c.walk.ensures.read.ends) (well _ _ c.node_inode.result _ c.in_ok-inode.was c.node_inode.ensures.read.ends)) (well _ _ c.region_bytes.result _ c.in_ok-size.was c.region_bytes.ensures.ends))

pub returns-else-inode-eq-REGION-clause-leaves : goal.returns-else-inode-eq-REGION-clause-leaves
returns-else-inode-eq-REGION-clause-leaves g c =
    let shape = c.args.shape.now in
    let x = g.V.Blocks.seen c.args.v.now in
    let k = g.V.Volume.kept c.args.v.now in
    let m = g.V.Blocks.seen c.node_inode.new.v in
    let l = g.V.Volume.kept c.node_inode.new.v in
    let known = leaves_then shape x k (g.V.Blocks.seen c.walk.new.v) (g.V.Volume.kept c.walk.new.v) m l (file_served g.met.V.Volume.passes_keeps c.requires.can c.walk.ensures.read).leaves c.walk.ensures.read.looks.looks.words (leaves_read c.args.shape.now _ _ _ _ _ _ _ _ (file_served g.met.V.Volume.passes_keeps c.requires.can c.walk.ensures.read).can.ready c.node_inode.ensures.read.looks.looks c.node_inode.ensures.read.looks.has_shape c.node_inode.ensures.read.looks.named (g.met.V.Volume.passes_keeps _ _ c.node_inode.ensures.read.passed)) in
    let i = c.in_ok-i.i.0 in
    let n = c.in_ok-inode.inode in
    let is = subst (λ f. IsInode f i n) c.walk.ensures.read.looks.looks.words c.in_ok-inode.ensures.value in
    λ s reads. ends_answered SaysStat (c.in_ok-i.i, n.kind, n.size) shape x k m l s (stat_of s c.args.path.now) (Stat (record { 0 = i }) n.kind n.size) (NoneDone s) c.requires.can.ready known reads
    (stat_answer shape x.words s c.args.path.now i n n.size reads (c.in_ok-i.ensures.value s reads) c.in_ok-i.ensures.used is (record { region = λ three. absurd (c.if-inode-eq-REGION.false three); other = λ away. refl })) refl

pub returns-else-inode-eq-REGION-clause-goes : goal.returns-else-inode-eq-REGION-clause-goes
returns-else-inode-eq-REGION-clause-goes g c = (g.met.V.Volume.passes_keeps _ _ c.walk.ensures.read.passed).goes then (g.met.V.Volume.passes_keeps _ _ c.node_inode.ensures.read.passed).goes

pub returns-else-inode-eq-REGION-clause-ends : goal.returns-else-inode-eq-REGION-clause-ends
returns-else-inode-eq-REGION-clause-ends g c = ends_ok _ _ _ (after_well _ _ _ _ _ (well _ _ c.walk.result _ c.in_ok-i.was c.walk.ensures.read.ends) (well _ _ c.node_inode.result _ c.in_ok-inode.was c.node_inode.ensures.read.ends))

pub returns-in_err-i-clause-in_step : goal.returns-in_err-i-clause-in_step
returns-in_err-i-clause-in_step g c = λ on. same_step c.args.shape.now _ _ _ (c.walk.ensures.read.looks.looks.words) c.walk.ensures.in_step

pub returns-in_err-inode-clause-in_step : goal.returns-in_err-inode-clause-in_step
returns-in_err-inode-clause-in_step g c = λ on. same_step c.args.shape.now _ _ _ (c.node_inode.ensures.read.looks.looks.words ∙ c.walk.ensures.read.looks.looks.words) c.walk.ensures.in_step

pub returns-in_err-size-clause-in_step : goal.returns-in_err-size-clause-in_step
returns-in_err-size-clause-in_step g c = λ on. same_step c.args.shape.now _ _ _ (c.region_bytes.ensures.words ∙ c.node_inode.ensures.read.looks.looks.words ∙ c.walk.ensures.read.looks.looks.words) c.walk.ensures.in_step

pub returns-in_ok-size-clause-in_step : goal.returns-in_ok-size-clause-in_step
returns-in_ok-size-clause-in_step g c = λ on. same_step c.args.shape.now _ _ _ (c.region_bytes.ensures.words ∙ c.node_inode.ensures.read.looks.looks.words ∙ c.walk.ensures.read.looks.looks.words) c.walk.ensures.in_step

pub returns-else-inode-eq-REGION-clause-in_step : goal.returns-else-inode-eq-REGION-clause-in_step
returns-else-inode-eq-REGION-clause-in_step g c = λ on. same_step c.args.shape.now _ _ _ (c.node_inode.ensures.read.looks.looks.words ∙ c.walk.ensures.read.looks.looks.words) c.walk.ensures.in_step

pub region_bytes-requires-clause-can : goal.region_bytes-requires-clause-can
region_bytes-requires-clause-can g c = can_looked c.args.shape.now _ _ _ _ _ _ _ _ (file_served g.met.V.Volume.passes_keeps c.requires.can c.walk.ensures.read).can c.node_inode.ensures.read.looks.looks c.node_inode.ensures.read.looks.has_shape c.node_inode.ensures.read.looks.named (g.met.V.Volume.passes_keeps _ _ c.node_inode.ensures.read.passed)

pub node_inode-requires-clause-can : goal.node_inode-requires-clause-can
node_inode-requires-clause-can g c = can_read c.walk.ensures.read.keeps (file_served g.met.V.Volume.passes_keeps c.requires.can c.walk.ensures.read).can

pub walk-requires-clause-can : goal.walk-requires-clause-can
walk-requires-clause-can g c = can_read c.requires.sound c.requires.can

pub returns-in_err-i-clause-goes : goal.returns-in_err-i-clause-goes
returns-in_err-i-clause-goes g c = (g.met.V.Volume.passes_keeps _ _ c.walk.ensures.read.passed).goes
