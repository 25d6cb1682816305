use Rattle.std.proofs.Common.{arith}
use Rattle.test_objects.proofs.Clears.{fill_zeroed}
use Rattle.test_objects.proofs.list_volume.clear_block.Goals as goal

pub returns : goal.returns
returns c = fill_zeroed _ _ _ _ _ c.place-from.ensures (omega arith) c.requires (c.fill.ensures.after (λ y e. e))
