use Rattle.directories.proofs.Common.{refl, slice_index}
use Rattle.directories.specs.Entries.{name_in}
use Rattle.directories.proofs.Listed.{name_next}
use Rattle.directories.proofs.listing.push_names.Goals as goal

pub loop-k-preserved : goal.loop-k-preserved
loop-k-preserved c = name_next (name_in (slice_index c.args.words.now)) c.loop-k.k c.args.names.now c.loop-k.names _ _ c.loop-k.invariant c.in_ok-push_name.ensures refl
