use Rattle.rio_base.proofs.Frames.{read_none, read_ok, read_value, read_on}
use Rattle.rio_model.proofs.NamedReading.{named_refl}
use Rattle.directories.proofs.Common.{arith, held_of}
use Rattle.std.proofs.Common.{rules}
use Rattle.node_pages.proofs.EndsOn.{if_err}
use Rattle.directories.proofs.CanRead.{can_read, named_read}
use Rattle.directories.proofs.EntryRead.{slot_named, slot_other, slot_read, entry_sized}
use Rattle.directories.proofs.finding.row_at.Goals as goal

pub returns-then-not-has_name-clause-none : goal.returns-then-not-has_name-clause-none
returns-then-not-has_name-clause-none g c =
    let shape = c.args.shape.now in
    let x = g.V.Blocks.seen c.args.v.now in
    let d = c.args.dir.0 in
    let can = can_read shape x d c.requires.can.meets.has_shape c.requires.can.meets.mapped c.requires.can.meets.named c.requires.can.meets.entries c.requires.dir in
    λ none. slot_other _ c.args.slot c.in_ok-entry.entry c.args.name.now (slot_read shape x d c.args.slot c.args.inode.now.size c.in_ok-entry.entry can c.requires.inode.size (omega arith) c.in_ok-entry.ensures.words) (c.has_name.ensures.not (search rules))

pub returns-clause-value : goal.returns-clause-value
returns-clause-value g c =
    let shape = c.args.shape.now in
    let x = g.V.Blocks.seen c.args.v.now in
    let d = c.args.dir.0 in
    let can = can_read shape x d c.requires.can.meets.has_shape c.requires.can.meets.mapped c.requires.can.meets.named c.requires.can.meets.entries c.requires.dir in
    slot_named _ c.args.slot c.in_ok-entry.entry c.args.name.now _ (slot_read shape x d c.args.slot c.args.inode.now.size c.in_ok-entry.entry can c.requires.inode.size (omega arith) c.in_ok-entry.ensures.words) (c.has_name.ensures.is (search rules)) c.entry_ino.ensures

pub returns-clause-none : goal.returns-clause-none
returns-clause-none g c = λ is. absurd cc

pub returns-then-name-gt-NAME_BYTES-clause-none : goal.returns-then-name-gt-NAME_BYTES-clause-none
returns-then-name-gt-NAME_BYTES-clause-none g c = λ none i row. let sized = entry_sized (held_of c.args.shape.now (g.V.Blocks.seen c.args.v.now).words) c.args.dir.0 c.args.slot i c.args.name.now c.requires.can.meets.entries c.requires.dir row in omega (arith, sized.1)

pub returns-in_err-entry-clause-value : goal.returns-in_err-entry-clause-value
returns-in_err-entry-clause-value g c = if_err c.from_residual.result _ c.from_residual.ensures.0

pub returns-in_err-entry-clause-none : goal.returns-in_err-entry-clause-none
returns-in_err-entry-clause-none g c = if_err c.from_residual.result _ c.from_residual.ensures.0

pub returns-in_err-entry-clause-read : goal.returns-in_err-entry-clause-read
returns-in_err-entry-clause-read g c = named_read c.requires.can.meets.mapped c.requires.can.meets.named (read_on c.read_entry.result c.from_residual.result c.in_err-entry.was c.from_residual.ensures.1 c.read_entry.ensures.read)

pub returns-then-not-has_name-clause-read : goal.returns-then-not-has_name-clause-read
returns-then-not-has_name-clause-read g c = read_value _ (named_read c.requires.can.meets.mapped c.requires.can.meets.named (read_ok c.read_entry.result _ c.in_ok-entry.was c.read_entry.ensures.read))

pub returns-clause-read : goal.returns-clause-read
returns-clause-read g c = read_value _ (named_read c.requires.can.meets.mapped c.requires.can.meets.named (read_ok c.read_entry.result _ c.in_ok-entry.was c.read_entry.ensures.read))

pub returns-then-is_empty-clause-read : goal.returns-then-is_empty-clause-read
returns-then-is_empty-clause-read g c = read_value _ (read_none (g.met.V.Blocks.passes_refl _) (named_refl c.args.shape.now _ c.requires.can.meets.has_shape c.requires.can.meets.named) c.requires.can.keeps)

pub returns-then-name-gt-NAME_BYTES-clause-read : goal.returns-then-name-gt-NAME_BYTES-clause-read
returns-then-name-gt-NAME_BYTES-clause-read g c = read_value _ (read_none (g.met.V.Blocks.passes_refl _) (named_refl c.args.shape.now _ c.requires.can.meets.has_shape c.requires.can.meets.named) c.requires.can.keeps)

pub returns-then-slot-inode-clause-read : goal.returns-then-slot-inode-clause-read
returns-then-slot-inode-clause-read g c = read_value _ (read_none (g.met.V.Blocks.passes_refl _) (named_refl c.args.shape.now _ c.requires.can.meets.has_shape c.requires.can.meets.named) c.requires.can.keeps)

pub read_entry-requires-clause-can : goal.read_entry-requires-clause-can
read_entry-requires-clause-can g c = record { keeps = c.requires.can.keeps; meets = can_read c.args.shape.now _ c.args.dir.0 c.requires.can.meets.has_shape c.requires.can.meets.mapped c.requires.can.meets.named c.requires.can.meets.entries c.requires.dir }
