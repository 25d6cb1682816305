use Rattle.rio_base.proofs.Frames.{read_none, read_then, filled_ok, filled_value, filled_memory, filled_on}
use Rattle.directories.proofs.Common.{◌∙◌, ◌++◌, ◌-◌, ◌*◌, ◌/◌, ◌%◌, map, min, arith, sym, ap, subst, range_with_len, BlockWords, IsInode, entry_name, held_of, look_trans, ◌≡◌}
use Rattle.node_pages.proofs.LookingUpRules.{look_refl}
use Rattle.directories.proofs.CanRead.{can_look, dir_size}
use Rattle.directories.proofs.Listed.{pages_next, no_pages}
use Rattle.directories.proofs.listing.slot_names.Goals as goal

pub loop-p-preserved : goal.loop-p-preserved
loop-p-preserved g c =
    let inv = c.loop-p.invariant in
    let shape = c.args.shape.now in
    let x = g.V.Blocks.seen c.args.v.now in
    let call = c.in_ok-push_page_names.ensures in
    let size = c.requires.inode.size in
    record {
      names = pages_next (entry_name (held_of shape x.words c.args.dir.0)) c.loop-p.p _ c.args.inode.now.size c.loop-p.names c.push_page_names.new.names (ap (λ s. s % 64) size ∙ dir_size shape x c.args.dir.0 c.requires.can.meets) (omega (arith, c.loop-p-test.true, c.div_ceil-pages.ensures)) (λ q. min (c.args.inode.now.size / 64 - 64 * c.loop-p.p) 64) inv.names
          (call.value ∙ ap (λ (f : BlockWords). c.loop-p.names ++ map (entry_name (held_of shape f c.args.dir.0)) (range_with_len (64 * c.loop-p.p) (min (c.args.inode.now.size / 64 - 64 * c.loop-p.p) 64))) inv.read.looks.looks.words);
      read = read_then g.met.V.Blocks.passes_trans (look_trans c.args.shape.now) c.loop-p.invariant.read (filled_ok c.push_page_names.result _ c.in_ok-push_page_names.was c.push_page_names.ensures.read);
      can = call.can;
      inode = subst (λ (f : BlockWords). IsInode f c.args.dir.0 c.args.inode.now) (sym call.read.looks.looks.words) inv.inode;
    }

pub push_page_names-requires-clause-page : goal.push_page_names-requires-clause-page
push_page_names-requires-clause-page g c = omega (arith, c.loop-p-test.true, c.div_ceil-pages.ensures)

pub returns-clause-value : goal.returns-clause-value
returns-clause-value g c =
    let all : min (64 * c.loop-p.p) (c.args.inode.now.size / 64) ≡ c.args.inode.now.size / 64 = omega (arith, c.loop-p-test.false, c.div_ceil-pages.ensures) in
    c.loop-p.invariant.names ∙ ap (λ n. map (entry_name (held_of c.args.shape.now (g.V.Blocks.seen c.args.v.now).words c.args.dir.0)) (range_with_len 0 n)) all

pub loop-p-init : goal.loop-p-init
loop-p-init g c =
    let shape = c.args.shape.now in
    let x = g.V.Blocks.seen c.args.v.now in
    record {
      names = no_pages (entry_name (held_of shape x.words c.args.dir.0)) c.args.inode.now.size c.in_ok-names.names c.in_ok-names.ensures;
      read = read_none (g.met.V.Blocks.passes_refl _) (look_refl shape x (can_look shape x c.args.dir.0 c.requires.can.meets)) c.requires.can.keeps;
      can = c.requires.can.meets;
      inode = c.requires.inode;
    }

pub returns-in_err-names-clause-read : goal.returns-in_err-names-clause-read
returns-in_err-names-clause-read g c = filled_memory c.from_residual.result c.from_residual.ensures.1 (read_none (g.met.V.Blocks.passes_refl _) (look_refl c.args.shape.now _ (can_look c.args.shape.now _ c.args.dir.0 c.requires.can.meets)) c.requires.can.keeps)

pub returns-in_err-push_page_names-clause-read : goal.returns-in_err-push_page_names-clause-read
returns-in_err-push_page_names-clause-read g c = read_then g.met.V.Blocks.passes_trans (look_trans c.args.shape.now) c.loop-p.invariant.read (filled_on c.push_page_names.result c.from_residual-in_err-push_page_names.result c.in_err-push_page_names.was c.from_residual-in_err-push_page_names.ensures.1 c.push_page_names.ensures.read)

pub returns-clause-read : goal.returns-clause-read
returns-clause-read g c = filled_value _ c.loop-p.invariant.read

pub push_page_names-requires-clause-can : goal.push_page_names-requires-clause-can
push_page_names-requires-clause-can g c = record { keeps = c.loop-p.invariant.read.keeps; meets = c.loop-p.invariant.can }
