use Rattle.request_ends.proofs.Reading.{can_read, file_served}
use Rattle.request_ends.proofs.Failed.{never_ok}
use Rattle.request_ends.proofs.Common.{◌≡◌, ◌<◌, ◌∙◌, le_refl, refl, sym, ap, subst, err_from_is_err_and, ◌then◌, ends_by_well, answered, last_of, held_of, names_of, volume_layout, ReadsAs, LeavesInUse, IsInode, leaves_refl, NoneDone, Forgets, goes_refl}
use Rattle.std.specs.Prelude.{OnOk}
use Rattle.rio_requests.specs.declared.reply.Reply.TheVariants.{Ok as Done}
use Rattle.rio_requests.specs.Answers.{rmdir as rmdir_of, rmdir_at, without}
use Rattle.request_ends.specs.Ends.{FileEnds, SaysDone}
use Rattle.file_tree.specs.Walks.{IsRow}
use Rattle.request_ends.specs.declared.failures.FileFail.TheVariants.{Refused}
use Rattle.request_ends.proofs.AnsweredAt.{ends_after, ends_look, fails_unrefused, ends_as}
use Rattle.node_moving.proofs.AnsweredRows.{dir_bare, dir_full, fails_rmdir, inode_size_held, rmdir_bare, rmdir_full, rmdir_leaf, rmdir_taken}
use Rattle.request_ends.proofs.CallEnds.{after_well, ends_on, ends_refused, well}
use Rattle.file_tree.proofs.LookedAt.{dir_read, inode_kind_held, leaf_read}
use Rattle.file_tree.proofs.MemoSteps.{same_step}
use Rattle.request_ends.proofs.Unchanged.{can_again, leaves_then, leaves_read}
use Rattle.node_moving.proofs.removing.rmdir.Goals as goal

pub returns-then-is_root-clause-leaves : goal.returns-then-is_root-clause-leaves
returns-then-is_root-clause-leaves g c =
    let shape = c.args.shape.now in
    let x = g.V.Blocks.seen c.args.v.now in
    let k = g.V.Volume.kept c.args.v.now in
    let names = names_of c.args.path.now in
    λ s reads. ends_look {T = Unit {0}} SaysDone shape x k x k s (rmdir_of s c.args.path.now) (NoneDone s) _ (Refused 9) (Refused 9) refl refl c.requires.can.ready (g.met.V.Volume.settled _ c.requires.sound) (leaves_refl shape x k c.requires.can.ready) reads (refl, refl) (ap (λ ns. rmdir_at s ns) (c.is_root.ensures.root c.if-is_root.true))

pub returns-then-is_root-clause-ends : goal.returns-then-is_root-clause-ends
returns-then-is_root-clause-ends g c = ends_refused _ _ 9 (ends_by_well _ _ _ _ (le_refl _) refl (λ a. a) (λ a. a))

pub walk_to_row-requires-clause-some : goal.walk_to_row-requires-clause-some
walk_to_row-requires-clause-some g c = c.is_root.ensures.not c.if-is_root.false

pub returns-in_err-row-clause-leaves : goal.returns-in_err-row-clause-leaves
returns-in_err-row-clause-leaves g c =
    let shape = c.args.shape.now in
    let x = g.V.Blocks.seen c.args.v.now in
    let k = g.V.Volume.kept c.args.v.now in
    let names = names_of c.args.path.now in
    let m = g.V.Blocks.seen c.walk_to_row.new.v in
    let l = g.V.Volume.kept c.walk_to_row.new.v in
    let p = err_from_is_err_and c.from_residual.result c.from_residual.ensures.1 in
    λ s reads. ends_look {T = Unit {0}} SaysDone shape x k m l s (rmdir_of s c.args.path.now) (NoneDone s) c.from_residual.result _ p.0 p.1 p.2 c.requires.can.ready (g.met.V.Volume.settled _ c.requires.sound) (file_served g.met.V.Volume.passes_keeps c.requires.can c.walk_to_row.ensures.read).leaves reads (refl, refl) (fails_rmdir s names c.walk_to_row.result _ (c.is_root.ensures.not c.if-is_root.false) c.in_err-row.was (c.walk_to_row.ensures.value s reads))

pub returns-in_err-row-clause-ends : goal.returns-in_err-row-clause-ends
returns-in_err-row-clause-ends g c =
    let p = err_from_is_err_and c.from_residual.result c.from_residual.ensures.1 in
    ends_on _ _ c.walk_to_row.result c.from_residual.result _ p.0 c.in_err-row.was p.1 p.2 c.walk_to_row.ensures.read.ends

pub node_inode-requires-clause-used : goal.node_inode-requires-clause-used
node_inode-requires-clause-used g c = subst (λ f. 0 < (held_of c.args.shape.now f c.in_ok-row.row.ino.0).kind) (sym c.walk_to_row.ensures.read.looks.looks.words) c.in_ok-row.ensures.used

pub returns-in_err-inode-clause-leaves : goal.returns-in_err-inode-clause-leaves
returns-in_err-inode-clause-leaves g c =
    let shape = c.args.shape.now in
    let x = g.V.Blocks.seen c.args.v.now in
    let k = g.V.Volume.kept c.args.v.now in
    let names = names_of c.args.path.now in
    let m = g.V.Blocks.seen c.walk_to_row.new.v in
    let l = g.V.Volume.kept c.walk_to_row.new.v in
    let n = g.V.Blocks.seen c.node_inode.new.v in
    let q = g.V.Volume.kept c.node_inode.new.v in
    let leaves : LeavesInUse (volume_layout shape x.words) x k n q = leaves_then shape x k m l n q (file_served g.met.V.Volume.passes_keeps c.requires.can c.walk_to_row.ensures.read).leaves c.walk_to_row.ensures.read.looks.looks.words (leaves_read c.args.shape.now _ _ _ _ _ _ _ _ (file_served g.met.V.Volume.passes_keeps c.requires.can c.walk_to_row.ensures.read).can.ready c.node_inode.ensures.read.looks.looks c.node_inode.ensures.read.looks.has_shape c.node_inode.ensures.read.looks.named (g.met.V.Volume.passes_keeps _ _ c.node_inode.ensures.read.passed)) in
    let p = err_from_is_err_and c.from_residual-in_err-inode.result c.from_residual-in_err-inode.ensures.1 in
    λ s reads. ends_look {T = Unit {0}} SaysDone shape x k n q s (rmdir_of s c.args.path.now) (NoneDone s) c.from_residual-in_err-inode.result _ p.0 p.1 p.2 c.requires.can.ready (g.met.V.Volume.settled _ c.requires.sound) leaves reads (refl, refl) (fails_unrefused s (rmdir_of s c.args.path.now) c.node_inode.result _ c.in_err-inode.was c.node_inode.ensures.other)

pub returns-in_err-inode-clause-goes : goal.returns-in_err-inode-clause-goes
returns-in_err-inode-clause-goes g c = (g.met.V.Volume.passes_keeps _ _ c.walk_to_row.ensures.read.passed).goes then (g.met.V.Volume.passes_keeps _ _ c.node_inode.ensures.read.passed).goes

pub returns-in_err-inode-clause-ends : goal.returns-in_err-inode-clause-ends
returns-in_err-inode-clause-ends g c =
    let p = err_from_is_err_and c.from_residual-in_err-inode.result c.from_residual-in_err-inode.ensures.1 in
    after_well _ _ _ _ _ (well _ _ c.walk_to_row.result _ c.in_ok-row.was c.walk_to_row.ensures.read.ends) (ends_on _ _ c.node_inode.result c.from_residual-in_err-inode.result _ p.0 c.in_err-inode.was p.1 p.2 c.node_inode.ensures.read.ends)

pub returns-then-inode-ne-DIRECTORY-clause-leaves : goal.returns-then-inode-ne-DIRECTORY-clause-leaves
returns-then-inode-ne-DIRECTORY-clause-leaves g c =
    let shape = c.args.shape.now in
    let x = g.V.Blocks.seen c.args.v.now in
    let k = g.V.Volume.kept c.args.v.now in
    let names = names_of c.args.path.now in
    let m = g.V.Blocks.seen c.walk_to_row.new.v in
    let l = g.V.Volume.kept c.walk_to_row.new.v in
    let n = g.V.Blocks.seen c.node_inode.new.v in
    let q = g.V.Volume.kept c.node_inode.new.v in
    let leaves : LeavesInUse (volume_layout shape x.words) x k n q = leaves_then shape x k m l n q (file_served g.met.V.Volume.passes_keeps c.requires.can c.walk_to_row.ensures.read).leaves c.walk_to_row.ensures.read.looks.looks.words (leaves_read c.args.shape.now _ _ _ _ _ _ _ _ (file_served g.met.V.Volume.passes_keeps c.requires.can c.walk_to_row.ensures.read).can.ready c.node_inode.ensures.read.looks.looks c.node_inode.ensures.read.looks.has_shape c.node_inode.ensures.read.looks.named (g.met.V.Volume.passes_keeps _ _ c.node_inode.ensures.read.passed)) in
    let row = c.in_ok-row.row in
    let i = row.ino.0 in
    let inode = c.in_ok-inode.inode in
    let used = c.in_ok-row.ensures.used in
    let is : IsInode x.words i inode = subst (λ f. IsInode f i inode) c.walk_to_row.ensures.read.looks.looks.words c.in_ok-inode.ensures.value in
    let kind : inode.kind ≡ (held_of shape x.words i).kind = inode_kind_held shape x.words i inode used is in
    let size : inode.size ≡ (held_of shape x.words i).size = inode_size_held shape x.words i inode used is in
    λ s reads. ends_look {T = Unit {0}} SaysDone shape x k n q s (rmdir_of s c.args.path.now) (NoneDone s) _ (Refused 4) (Refused 4) refl refl c.requires.can.ready (g.met.V.Volume.settled _ c.requires.sound) leaves reads (refl, refl) (rmdir_taken s names row (c.is_root.ensures.not c.if-is_root.false) (c.in_ok-row.ensures.value s reads) ∙ rmdir_leaf s row.dir.0 (last_of names) i (leaf_read shape x.words s i reads (λ dir. c.if-inode-ne-DIRECTORY.true (kind ∙ dir))))

pub returns-then-inode-ne-DIRECTORY-clause-goes : goal.returns-then-inode-ne-DIRECTORY-clause-goes
returns-then-inode-ne-DIRECTORY-clause-goes g c = (g.met.V.Volume.passes_keeps _ _ c.walk_to_row.ensures.read.passed).goes then (g.met.V.Volume.passes_keeps _ _ c.node_inode.ensures.read.passed).goes

pub returns-then-inode-ne-DIRECTORY-clause-ends : goal.returns-then-inode-ne-DIRECTORY-clause-ends
returns-then-inode-ne-DIRECTORY-clause-ends g c = ends_refused _ _ 4 (after_well _ _ _ _ _ (well _ _ c.walk_to_row.result _ c.in_ok-row.was c.walk_to_row.ensures.read.ends) (well _ _ c.node_inode.result _ c.in_ok-inode.was c.node_inode.ensures.read.ends))

pub returns-then-inode-ne0-clause-leaves : goal.returns-then-inode-ne0-clause-leaves
returns-then-inode-ne0-clause-leaves g c =
    let shape = c.args.shape.now in
    let x = g.V.Blocks.seen c.args.v.now in
    let k = g.V.Volume.kept c.args.v.now in
    let names = names_of c.args.path.now in
    let m = g.V.Blocks.seen c.walk_to_row.new.v in
    let l = g.V.Volume.kept c.walk_to_row.new.v in
    let n = g.V.Blocks.seen c.node_inode.new.v in
    let q = g.V.Volume.kept c.node_inode.new.v in
    let leaves : LeavesInUse (volume_layout shape x.words) x k n q = leaves_then shape x k m l n q (file_served g.met.V.Volume.passes_keeps c.requires.can c.walk_to_row.ensures.read).leaves c.walk_to_row.ensures.read.looks.looks.words (leaves_read c.args.shape.now _ _ _ _ _ _ _ _ (file_served g.met.V.Volume.passes_keeps c.requires.can c.walk_to_row.ensures.read).can.ready c.node_inode.ensures.read.looks.looks c.node_inode.ensures.read.looks.has_shape c.node_inode.ensures.read.looks.named (g.met.V.Volume.passes_keeps _ _ c.node_inode.ensures.read.passed)) in
    let row = c.in_ok-row.row in
    let i = row.ino.0 in
    let inode = c.in_ok-inode.inode in
    let used = c.in_ok-row.ensures.used in
    let is : IsInode x.words i inode = subst (λ f. IsInode f i inode) c.walk_to_row.ensures.read.looks.looks.words c.in_ok-inode.ensures.value in
    let kind : inode.kind ≡ (held_of shape x.words i).kind = inode_kind_held shape x.words i inode used is in
    let size : inode.size ≡ (held_of shape x.words i).size = inode_size_held shape x.words i inode used is in
    λ s reads. ends_look {T = Unit {0}} SaysDone shape x k n q s (rmdir_of s c.args.path.now) (NoneDone s) _ (Refused 6) (Refused 6) refl refl c.requires.can.ready (g.met.V.Volume.settled _ c.requires.sound) leaves reads (refl, refl) (rmdir_taken s names row (c.is_root.ensures.not c.if-is_root.false) (c.in_ok-row.ensures.value s reads) ∙ rmdir_full s row.dir.0 (last_of names) i (dir_read shape x.words s i reads (sym kind ∙ c.if-inode-ne-DIRECTORY.false)) (dir_full shape x.words s i reads (sym kind ∙ c.if-inode-ne-DIRECTORY.false) (λ none. c.if-inode-ne0.true (size ∙ none))))

pub returns-then-inode-ne0-clause-goes : goal.returns-then-inode-ne0-clause-goes
returns-then-inode-ne0-clause-goes g c = (g.met.V.Volume.passes_keeps _ _ c.walk_to_row.ensures.read.passed).goes then (g.met.V.Volume.passes_keeps _ _ c.node_inode.ensures.read.passed).goes

pub returns-then-inode-ne0-clause-ends : goal.returns-then-inode-ne0-clause-ends
returns-then-inode-ne0-clause-ends g c = ends_refused _ _ 6 (after_well _ _ _ _ _ (well _ _ c.walk_to_row.result _ c.in_ok-row.was c.walk_to_row.ensures.read.ends) (well _ _ c.node_inode.result _ c.in_ok-inode.was c.node_inode.ensures.read.ends))

pub take_row-requires-clause-can : goal.take_row-requires-clause-can
take_row-requires-clause-can g c =
    let shape = c.args.shape.now in
    let x = g.V.Blocks.seen c.args.v.now in
    let k = g.V.Volume.kept c.args.v.now in
    let names = names_of c.args.path.now in
    let m = g.V.Blocks.seen c.walk_to_row.new.v in
    let l = g.V.Volume.kept c.walk_to_row.new.v in
    let n = g.V.Blocks.seen c.node_inode.new.v in
    let q = g.V.Volume.kept c.node_inode.new.v in
    let leaves : LeavesInUse (volume_layout shape x.words) x k n q = leaves_then shape x k m l n q (file_served g.met.V.Volume.passes_keeps c.requires.can c.walk_to_row.ensures.read).leaves c.walk_to_row.ensures.read.looks.looks.words (leaves_read c.args.shape.now _ _ _ _ _ _ _ _ (file_served g.met.V.Volume.passes_keeps c.requires.can c.walk_to_row.ensures.read).can.ready c.node_inode.ensures.read.looks.looks c.node_inode.ensures.read.looks.has_shape c.node_inode.ensures.read.looks.named (g.met.V.Volume.passes_keeps _ _ c.node_inode.ensures.read.passed)) in
    can_again shape x k n q c.requires.can leaves (c.node_inode.ensures.read.looks.looks.words ∙ c.walk_to_row.ensures.read.looks.looks.words)

pub take_row-requires-clause-row : goal.take_row-requires-clause-row
take_row-requires-clause-row g c =
    let names = names_of c.args.path.now in
    let row = c.in_ok-row.row in
    subst (λ n. IsRow c.args.shape.now (g.V.Blocks.seen c.node_inode.new.v).words n row) c.cut_last.ensures.last
    (subst (λ f. IsRow c.args.shape.now f (last_of names) row) (sym (c.node_inode.ensures.read.looks.looks.words ∙ c.walk_to_row.ensures.read.looks.looks.words)) c.in_ok-row.ensures.row)

pub take_row-requires-clause-used : goal.take_row-requires-clause-used
take_row-requires-clause-used g c = subst (λ f. 0 < (held_of c.args.shape.now f c.in_ok-row.row.ino.0).kind) (sym (c.node_inode.ensures.read.looks.looks.words ∙ c.walk_to_row.ensures.read.looks.looks.words)) c.in_ok-row.ensures.used

pub take_row-requires-clause-bare : goal.take_row-requires-clause-bare
take_row-requires-clause-bare g c =
    let shape = c.args.shape.now in
    let x = g.V.Blocks.seen c.args.v.now in
    let k = g.V.Volume.kept c.args.v.now in
    let names = names_of c.args.path.now in
    let m = g.V.Blocks.seen c.walk_to_row.new.v in
    let l = g.V.Volume.kept c.walk_to_row.new.v in
    let row = c.in_ok-row.row in
    let i = row.ino.0 in
    let inode = c.in_ok-inode.inode in
    let used = c.in_ok-row.ensures.used in
    let is : IsInode x.words i inode = subst (λ f. IsInode f i inode) c.walk_to_row.ensures.read.looks.looks.words c.in_ok-inode.ensures.value in
    let kind : inode.kind ≡ (held_of shape x.words i).kind = inode_kind_held shape x.words i inode used is in
    let size : inode.size ≡ (held_of shape x.words i).size = inode_size_held shape x.words i inode used is in
    subst (λ f. (held_of shape f i).kind ≡ 1 → (held_of shape f i).size ≡ 0) (sym (c.node_inode.ensures.read.looks.looks.words ∙ c.walk_to_row.ensures.read.looks.looks.words)) (λ dir. sym size ∙ c.if-inode-ne0.false)

pub returns-clause-leaves : goal.returns-clause-leaves
returns-clause-leaves g c =
    let shape = c.args.shape.now in
    let x = g.V.Blocks.seen c.args.v.now in
    let k = g.V.Volume.kept c.args.v.now in
    let names = names_of c.args.path.now in
    let m = g.V.Blocks.seen c.walk_to_row.new.v in
    let l = g.V.Volume.kept c.walk_to_row.new.v in
    let n = g.V.Blocks.seen c.node_inode.new.v in
    let q = g.V.Volume.kept c.node_inode.new.v in
    let leaves : LeavesInUse (volume_layout shape x.words) x k n q = leaves_then shape x k m l n q (file_served g.met.V.Volume.passes_keeps c.requires.can c.walk_to_row.ensures.read).leaves c.walk_to_row.ensures.read.looks.looks.words (leaves_read c.args.shape.now _ _ _ _ _ _ _ _ (file_served g.met.V.Volume.passes_keeps c.requires.can c.walk_to_row.ensures.read).can.ready c.node_inode.ensures.read.looks.looks c.node_inode.ensures.read.looks.has_shape c.node_inode.ensures.read.looks.named (g.met.V.Volume.passes_keeps _ _ c.node_inode.ensures.read.passed)) in
    let row = c.in_ok-row.row in
    let i = row.ino.0 in
    let inode = c.in_ok-inode.inode in
    let used = c.in_ok-row.ensures.used in
    let is : IsInode x.words i inode = subst (λ f. IsInode f i inode) c.walk_to_row.ensures.read.looks.looks.words c.in_ok-inode.ensures.value in
    let kind : inode.kind ≡ (held_of shape x.words i).kind = inode_kind_held shape x.words i inode used is in
    let size : inode.size ≡ (held_of shape x.words i).size = inode_size_held shape x.words i inode used is in
    let y = g.V.Blocks.seen c.take_row.new.v in
    let j = g.V.Volume.kept c.take_row.new.v in
    λ s reads. ends_after SaysDone shape x k n q y j s (rmdir_of s c.args.path.now) (NoneDone s) c.take_row.result leaves (c.node_inode.ensures.read.looks.looks.words ∙ c.walk_to_row.ensures.read.looks.looks.words)
    (ends_as SaysDone shape n q y j s (rmdir_of s c.args.path.now) (answered (without s row.dir.0 (last_of names) i) Done) (NoneDone s) c.take_row.result (rmdir_taken s names row (c.is_root.ensures.not c.if-is_root.false) (c.in_ok-row.ensures.value s reads) ∙ rmdir_bare s row.dir.0 (last_of names) i (dir_read shape x.words s i reads (sym kind ∙ c.if-inode-ne-DIRECTORY.false)) (dir_bare shape x.words s i reads (sym kind ∙ c.if-inode-ne-DIRECTORY.false) (sym size ∙ c.if-inode-ne0.false)))
    (subst (λ a. FileEnds SaysDone shape n q y j s (answered (without s row.dir.0 a i) Done) (NoneDone s) c.take_row.result) (sym c.cut_last.ensures.last) (c.take_row.ensures.leaves s (subst (λ f. ReadsAs shape f s) (sym (c.node_inode.ensures.read.looks.looks.words ∙ c.walk_to_row.ensures.read.looks.looks.words)) reads))))

pub returns-clause-forgets : goal.returns-clause-forgets
returns-clause-forgets g c =
    let shape = c.args.shape.now in
    let z = g.V.Blocks.seen c.take_row.new.v in
    subst (λ f. OnOk c.take_row.result (Forgets (volume_layout shape f) (volume_layout shape z.words) z)) (c.node_inode.ensures.read.looks.looks.words ∙ c.walk_to_row.ensures.read.looks.looks.words) c.take_row.ensures.forgets

pub returns-clause-goes : goal.returns-clause-goes
returns-clause-goes g c = (g.met.V.Volume.passes_keeps _ _ c.walk_to_row.ensures.read.passed).goes then (g.met.V.Volume.passes_keeps _ _ c.node_inode.ensures.read.passed).goes then c.take_row.ensures.goes

pub returns-clause-ends : goal.returns-clause-ends
returns-clause-ends g c = after_well _ _ _ _ _ (after_well _ _ _ _ _ (well _ _ c.walk_to_row.result _ c.in_ok-row.was c.walk_to_row.ensures.read.ends) (well _ _ c.node_inode.result _ c.in_ok-inode.was c.node_inode.ensures.read.ends)) c.take_row.ensures.ends

pub returns-in_err-row-clause-in_step : goal.returns-in_err-row-clause-in_step
returns-in_err-row-clause-in_step g c = λ on. same_step c.args.shape.now _ _ _ (c.walk_to_row.ensures.read.looks.looks.words) c.walk_to_row.ensures.in_step

pub returns-in_err-inode-clause-in_step : goal.returns-in_err-inode-clause-in_step
returns-in_err-inode-clause-in_step g c = λ on. same_step c.args.shape.now _ _ _ (c.node_inode.ensures.read.looks.looks.words ∙ c.walk_to_row.ensures.read.looks.looks.words) c.walk_to_row.ensures.in_step

pub returns-then-inode-ne-DIRECTORY-clause-in_step : goal.returns-then-inode-ne-DIRECTORY-clause-in_step
returns-then-inode-ne-DIRECTORY-clause-in_step g c = λ on. same_step c.args.shape.now _ _ _ (c.node_inode.ensures.read.looks.looks.words ∙ c.walk_to_row.ensures.read.looks.looks.words) c.walk_to_row.ensures.in_step

pub returns-then-inode-ne0-clause-in_step : goal.returns-then-inode-ne0-clause-in_step
returns-then-inode-ne0-clause-in_step g c = λ on. same_step c.args.shape.now _ _ _ (c.node_inode.ensures.read.looks.looks.words ∙ c.walk_to_row.ensures.read.looks.looks.words) c.walk_to_row.ensures.in_step

pub cut_last-requires-clause-some : goal.cut_last-requires-clause-some
cut_last-requires-clause-some g c = c.is_root.ensures.not c.if-is_root.false

pub take_row-requires-clause-in_step : goal.take_row-requires-clause-in_step
take_row-requires-clause-in_step g c = same_step c.args.shape.now _ _ _ (c.node_inode.ensures.read.looks.looks.words ∙ c.walk_to_row.ensures.read.looks.looks.words) c.walk_to_row.ensures.in_step

pub returns-then-is_root-clause-in_step : goal.returns-then-is_root-clause-in_step
returns-then-is_root-clause-in_step g c = λ on. c.requires.in_step

pub returns-then-is_root-clause-goes : goal.returns-then-is_root-clause-goes
returns-then-is_root-clause-goes g c = goes_refl _ _

pub returns-in_err-row-clause-forgets : goal.returns-in_err-row-clause-forgets
returns-in_err-row-clause-forgets g c = let p = err_from_is_err_and c.from_residual.result c.from_residual.ensures.1 in never_ok _ _ p.0 p.1

pub returns-in_err-inode-clause-forgets : goal.returns-in_err-inode-clause-forgets
returns-in_err-inode-clause-forgets g c = let p = err_from_is_err_and c.from_residual-in_err-inode.result c.from_residual-in_err-inode.ensures.1 in never_ok _ _ p.0 p.1

pub node_inode-requires-clause-can : goal.node_inode-requires-clause-can
node_inode-requires-clause-can g c = can_read c.walk_to_row.ensures.read.keeps (file_served g.met.V.Volume.passes_keeps c.requires.can c.walk_to_row.ensures.read).can

pub walk_to_row-requires-clause-can : goal.walk_to_row-requires-clause-can
walk_to_row-requires-clause-can g c = can_read c.requires.sound c.requires.can

pub returns-in_err-row-clause-goes : goal.returns-in_err-row-clause-goes
returns-in_err-row-clause-goes g c = (g.met.V.Volume.passes_keeps _ _ c.walk_to_row.ensures.read.passed).goes
