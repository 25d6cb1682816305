use Rattle.rio_base.proofs.Frames.{read_then, read_ok, filled_ok, filled_value, filled_on, filled_read}
use Rattle.directories.proofs.Common.{◌∙◌, ◌/◌, map, sym, ap, arith, range_with_len, BlockWords, Held, entry_name, held_of, placed_at, look_trans, IsInode, subst}
use Rattle.directories.proofs.CanRead.{can_read, dir_held, sized, named_read}
use Rattle.directories.proofs.Listed.{lists_sorted}
use Rattle.directories.proofs.listing.names.Goals as goal

pub returns-clause-value : goal.returns-clause-value
returns-clause-value g c =
    let shape = c.args.shape.now in
    let x = g.V.Blocks.seen c.args.v.now in
    let d = c.args.dir.0 in
    let can = can_read shape x d c.requires.can.meets.has_shape c.requires.can.meets.mapped c.requires.can.meets.named c.requires.can.meets.entries c.requires.dir in
    let dir = can.dir in
    lists_sorted (held_of shape x.words d) c.in_ok-inode.inode.size c.in_ok-names.names c.sort.new.self
    (c.in_ok-inode.ensures.value.size ∙ sym (sized x.words (placed_at x.words d) (omega (arith, dir))) ∙ ap (λ (h : Held). h.size) (sym (dir_held shape x d can)))
    (c.in_ok-names.ensures.value ∙ ap (λ (f : BlockWords). map (entry_name (held_of shape f d)) (range_with_len 0 (c.in_ok-inode.inode.size / 64))) c.in_ok-inode.ensures.read.looks.looks.words)
    c.sort.ensures.all
    c.sort.ensures.order

pub slot_names-requires-clause-inode : goal.slot_names-requires-clause-inode
slot_names-requires-clause-inode g c = subst (λ (f : BlockWords). IsInode f c.args.dir.0 c.in_ok-inode.inode) (sym c.in_ok-inode.ensures.read.looks.looks.words) c.in_ok-inode.ensures.value

pub returns-in_err-names-clause-read : goal.returns-in_err-names-clause-read
returns-in_err-names-clause-read g c = named_read c.requires.can.meets.mapped c.requires.can.meets.named (read_then g.met.V.Blocks.passes_trans (look_trans c.args.shape.now) (read_ok c.dir_inode.result _ c.in_ok-inode.was c.dir_inode.ensures.read) (filled_on c.slot_names.result c.from_residual-in_err-names.result c.in_err-names.was c.from_residual-in_err-names.ensures.1 c.slot_names.ensures.read))

pub returns-clause-read : goal.returns-clause-read
returns-clause-read g c = filled_value _ (named_read c.requires.can.meets.mapped c.requires.can.meets.named (read_then g.met.V.Blocks.passes_trans (look_trans c.args.shape.now) (read_ok c.dir_inode.result _ c.in_ok-inode.was c.dir_inode.ensures.read) (filled_ok c.slot_names.result _ c.in_ok-names.was c.slot_names.ensures.read)))

pub returns-in_err-inode-clause-read : goal.returns-in_err-inode-clause-read
returns-in_err-inode-clause-read g c = named_read c.requires.can.meets.mapped c.requires.can.meets.named (filled_read c.dir_inode.result c.from_residual.result c.in_err-inode.was c.from_residual.ensures.1 c.dir_inode.ensures.read)

pub dir_inode-requires : goal.dir_inode-requires
dir_inode-requires g c = record { can = record { keeps = c.requires.can.keeps; meets = can_read _ _ _ c.requires.can.meets.has_shape c.requires.can.meets.mapped c.requires.can.meets.named c.requires.can.meets.entries c.requires.dir } }

pub slot_names-requires-clause-can : goal.slot_names-requires-clause-can
slot_names-requires-clause-can g c = record { keeps = c.dir_inode.ensures.read.keeps; meets = c.dir_inode.ensures.can }
