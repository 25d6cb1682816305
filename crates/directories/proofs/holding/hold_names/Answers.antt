use Rattle.rio_base.proofs.Frames.{read_none, read_then, read_ok, filled_value, filled_memory, filled_read}
use Rattle.rio_model.proofs.NamedReading.{named_refl, named_trans}
use Rattle.directories.proofs.Common.{◌≡◌, ◌/◌, ◌∙◌, arith, sym, ap, subst, map, range_with_len, BlockWords, Held, held_of, placed_at, IsInode}
use Rattle.std.specs.FinMap.{empty}
use Rattle.directories.specs.Rows.{HoldsRows}
use Rattle.node_pages.proofs.EndsOn.{if_err}
use Rattle.directories.proofs.CanRead.{can_read, dir_held, dir_size, named_read, sized}
use Rattle.directories.proofs.EntryRead.{IsSlot, slot_read}
use Rattle.directories.proofs.HeldRows.{put_rows, row_of, rows_held, rows_next}
use Rattle.directories.proofs.holding.hold_names.Goals as goal

pub loop-slot-init : goal.loop-slot-init
loop-slot-init g c =
    let shape = c.args.shape.now in
    let x = g.V.Blocks.seen c.args.v.now in
    let can = can_read shape x c.args.dir.0 c.requires.can.meets.has_shape c.requires.can.meets.mapped c.requires.can.meets.named c.requires.can.meets.entries c.requires.dir in
    record {
      rows = c.requires.blank;
      read = read_none (g.met.V.Blocks.passes_refl _) (named_refl c.args.shape.now _ c.requires.can.meets.has_shape c.requires.can.meets.named) c.requires.can.keeps;
      can = can;
      inode = c.requires.inode;
    }

pub read_entry-requires-clause-slot : goal.read_entry-requires-clause-slot
read_entry-requires-clause-slot g c = omega arith

pub put_entry-requires : goal.put_entry-requires
put_entry-requires g c =
    let inv = c.loop-slot.invariant in
    (slot_read c.args.shape.now _ c.args.dir.0 c.loop-slot.slot c.args.inode.now.size c.in_ok-entry.entry inv.can inv.inode.size (omega arith) c.in_ok-entry.ensures.words).few

pub loop-slot-preserved : goal.loop-slot-preserved
loop-slot-preserved g c =
    let inv = c.loop-slot.invariant in
    let shape = c.args.shape.now in
    let x = g.V.Blocks.seen c.args.v.now in
    let m = g.V.Blocks.seen c.loop-slot.v in
    let d = c.args.dir.0 in
    let call = c.in_ok-entry.ensures in
    record {
      rows = rows_next (held_of shape x.words d) c.loop-slot.slot c.loop-slot.names c.put_entry.new.names c.in_ok-entry.entry inv.rows c.in_ok-put_entry.ensures
          (subst (λ (f : BlockWords). IsSlot (held_of shape f d) c.loop-slot.slot c.in_ok-entry.entry) inv.read.looks.looks.words (slot_read shape m d c.loop-slot.slot c.args.inode.now.size c.in_ok-entry.entry inv.can inv.inode.size (omega arith) call.words));
      read = read_then g.met.V.Blocks.passes_trans (named_trans c.args.shape.now) c.loop-slot.invariant.read (named_read inv.can.mapped inv.can.named (read_ok c.read_entry.result _ c.in_ok-entry.was c.read_entry.ensures.read));
      can = call.can;
      inode = subst (λ (f : BlockWords). IsInode f d c.args.inode.now) (sym call.read.looks.looks.words) inv.inode;
    }

pub returns-clause-value : goal.returns-clause-value
returns-clause-value g c =
    let shape = c.args.shape.now in
    let x = g.V.Blocks.seen c.args.v.now in
    let d = c.args.dir.0 in
    let h = held_of shape x.words d in
    let n = placed_at x.words d in
    let can = can_read shape x d c.requires.can.meets.has_shape c.requires.can.meets.mapped c.requires.can.meets.named c.requires.can.meets.entries c.requires.dir in
    let dir = can.dir in
    let whole = dir_size shape x d can in
    let size : h.size ≡ n.size = ap (λ (k : Held). k.size) (dir_held shape x d can) ∙ sized x.words n (omega (arith, dir)) in
    let is = c.requires.inode.size in
    let all : c.loop-slot.slot ≡ h.size / 64 = omega (arith, size, is) in
    subst (λ names. HoldsRows h names) (ap (λ k. put_rows empty (map (row_of h) (range_with_len 0 k))) (sym all) ∙ sym c.loop-slot.invariant.rows) (rows_held h (omega (arith, size, whole)) c.requires.apart)

pub returns-in_err-entry-clause-value : goal.returns-in_err-entry-clause-value
returns-in_err-entry-clause-value g c = if_err c.from_residual.result _ c.from_residual.ensures.0

pub returns-in_err-put_entry-clause-value : goal.returns-in_err-put_entry-clause-value
returns-in_err-put_entry-clause-value g c = if_err c.from_residual-in_err-put_entry.result _ c.from_residual-in_err-put_entry.ensures.0

pub returns-in_err-entry-clause-read : goal.returns-in_err-entry-clause-read
returns-in_err-entry-clause-read g c = read_then g.met.V.Blocks.passes_trans (named_trans c.args.shape.now) c.loop-slot.invariant.read (named_read c.loop-slot.invariant.can.mapped c.loop-slot.invariant.can.named (filled_read c.read_entry.result c.from_residual.result c.in_err-entry.was c.from_residual.ensures.1 c.read_entry.ensures.read))

pub returns-in_err-put_entry-clause-read : goal.returns-in_err-put_entry-clause-read
returns-in_err-put_entry-clause-read g c = filled_memory c.from_residual-in_err-put_entry.result c.from_residual-in_err-put_entry.ensures.1 (read_then g.met.V.Blocks.passes_trans (named_trans c.args.shape.now) c.loop-slot.invariant.read (named_read c.loop-slot.invariant.can.mapped c.loop-slot.invariant.can.named (read_ok c.read_entry.result _ c.in_ok-entry.was c.read_entry.ensures.read)))

pub returns-clause-read : goal.returns-clause-read
returns-clause-read g c = filled_value _ c.loop-slot.invariant.read

pub read_entry-requires-clause-can : goal.read_entry-requires-clause-can
read_entry-requires-clause-can g c = record { keeps = c.loop-slot.invariant.read.keeps; meets = c.loop-slot.invariant.can }
