use Rattle.std.specs.Prelude.{false}
use Rattle.frame_pool.proofs.Fresh.{each_same}
use Rattle.part_tests.proofs.frame_pool_drawn_tests.full_plain.Goals as goal

pub returns-clause-pins : goal.returns-clause-pins
returns-clause-pins c = λ j less. each_same 32 j false
