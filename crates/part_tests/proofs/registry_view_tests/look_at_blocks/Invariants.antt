use Rattle.registry.specs.Views.{ViewSound}
use Rattle.part_tests.proofs.registry_view_tests.look_at_blocks.Given as goal

abbrev pub invariant-loop-row : goal.invariant-loop-row
invariant-loop-row g l = record { sound : ViewSound (g.M.Machine.contents l.view.machine) (g.M.Machine.run l.view.machine) l.view.entries.items l.view.block.items l.view.held }
