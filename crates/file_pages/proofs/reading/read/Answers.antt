use Rattle.rio_base.proofs.Frames.{vol_ends}
use Rattle.file_pages.proofs.Common.{◌≡◌, drop, take, sym, subst, IfOk, ends_by_after, IsInode, held_of, volume_layout, AllNamed, IsMapped}
use Rattle.rio_base.proofs.Rules.{looks_trans}
use Rattle.file_pages.specs.Files.{file_bytes}
use Rattle.node_pages.proofs.LookingUpRules.{can_look_up, named_on}
use Rattle.file_pages.proofs.reading.read.Goals as goal

pub returns-in_err-inode-clause-named : goal.returns-in_err-inode-clause-named
returns-in_err-inode-clause-named g c = named_on c.args.shape.now (g.V.Blocks.seen c.args.v.now) _ c.requires.mapped c.requires.named c.look_inode.ensures.read.looks

pub read_at_inode-requires-clause-mapped : goal.read_at_inode-requires-clause-mapped
read_at_inode-requires-clause-mapped g c = subst (IsMapped c.args.shape.now) (sym c.look_inode.ensures.read.looks.looks.words) c.requires.mapped

pub read_at_inode-requires-clause-named : goal.read_at_inode-requires-clause-named
read_at_inode-requires-clause-named g c =
    let shape = c.args.shape.now in
    let y = g.V.Blocks.seen c.look_inode.new.v in
    let looks = c.look_inode.ensures.read.looks in
    subst (λ f. AllNamed (volume_layout shape f) y) (sym looks.looks.words) (named_on shape (g.V.Blocks.seen c.args.v.now) y c.requires.mapped c.requires.named looks)

pub read_at_inode-requires-clause-file : goal.read_at_inode-requires-clause-file
read_at_inode-requires-clause-file g c = subst (λ f. (held_of c.args.shape.now f c.args.i.0).kind ≡ 2) (sym c.look_inode.ensures.read.looks.looks.words) c.requires.file

pub read_at_inode-requires-clause-inode : goal.read_at_inode-requires-clause-inode
read_at_inode-requires-clause-inode g c = subst (λ f. IsInode f c.args.i.0 c.in_ok-inode.inode) (sym c.look_inode.ensures.read.looks.looks.words) c.in_ok-inode.ensures.value

pub returns-clause-value : goal.returns-clause-value
returns-clause-value g c = subst (λ f. IfOk c.read_at_inode.result (λ bytes. bytes ≡ take c.args.len (drop c.args.off (file_bytes c.args.shape.now f c.args.i.0)))) c.look_inode.ensures.read.looks.looks.words c.read_at_inode.ensures.value

pub returns-clause-looks : goal.returns-clause-looks
returns-clause-looks g c = looks_trans _ _ _ c.look_inode.ensures.read.looks.looks c.read_at_inode.ensures.looks

pub returns-clause-named : goal.returns-clause-named
returns-clause-named g c = subst (λ f. AllNamed (volume_layout c.args.shape.now f) (g.V.Blocks.seen c.read_at_inode.new.v)) c.look_inode.ensures.read.looks.looks.words c.read_at_inode.ensures.named

pub returns-clause-passes : goal.returns-clause-passes
returns-clause-passes g c = g.met.V.Blocks.passes_trans _ _ _ c.look_inode.ensures.read.passed c.read_at_inode.ensures.passes

pub returns-clause-ends : goal.returns-clause-ends
returns-clause-ends g c = ends_by_after _ _ _ _ _ (vol_ends _ _ _ c.look_inode.ensures.read.ends).later (vol_ends _ _ _ c.in_ok-inode.ensures.read.ends).cause c.read_at_inode.ensures.ends

pub look_inode-requires-clause-can : goal.look_inode-requires-clause-can
look_inode-requires-clause-can g c = record { keeps = c.requires.sound; meets = can_look_up c.args.shape.now _ c.requires.shape c.requires.mapped c.requires.named }
