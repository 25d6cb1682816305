use Rattle.rio_base.proofs.Frames.{read_none, read_value}
use Rattle.rio_model.proofs.NamedReading.{named_refl}
use Rattle.directories.proofs.EntryRead.{entry_sized}
use Rattle.directories.proofs.CanRead.{can_read, named_read}
use Rattle.directories.proofs.Common.{arith, held_of}
use Rattle.directories.proofs.finding.find_at_inode.Goals as goal

pub returns-then-name-gt-NAME_BYTES-clause-value : goal.returns-then-name-gt-NAME_BYTES-clause-value
returns-then-name-gt-NAME_BYTES-clause-value g c = λ i row. let sized = entry_sized (held_of c.args.shape.now (g.V.Blocks.seen c.args.v.now).words) c.args.dir.0 row.0 i c.args.name.now c.requires.can.meets.entries c.requires.dir row.1 in omega (arith, sized.1)

pub returns-clause-read : goal.returns-clause-read
returns-clause-read g c = named_read c.requires.can.meets.mapped c.requires.can.meets.named c.find_in_pages.ensures.read

pub returns-then-is_empty-clause-read : goal.returns-then-is_empty-clause-read
returns-then-is_empty-clause-read g c = read_value _ (read_none (g.met.V.Blocks.passes_refl _) (named_refl c.args.shape.now _ c.requires.can.meets.has_shape c.requires.can.meets.named) c.requires.can.keeps)

pub returns-then-name-gt-NAME_BYTES-clause-read : goal.returns-then-name-gt-NAME_BYTES-clause-read
returns-then-name-gt-NAME_BYTES-clause-read g c = read_value _ (read_none (g.met.V.Blocks.passes_refl _) (named_refl c.args.shape.now _ c.requires.can.meets.has_shape c.requires.can.meets.named) c.requires.can.keeps)

pub find_in_pages-requires-clause-can : goal.find_in_pages-requires-clause-can
find_in_pages-requires-clause-can g c = record { keeps = c.requires.can.keeps; meets = can_read _ _ _ c.requires.can.meets.has_shape c.requires.can.meets.mapped c.requires.can.meets.named c.requires.can.meets.entries c.requires.dir }
