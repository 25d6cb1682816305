use Rattle.rio_commands.proofs.Checking.{holds_board}
use Rattle.rio_commands.proofs.registry_command.find_board.Goals as goal

pub returns-in-Ok-board_of-clause-image : goal.returns-in-Ok-board_of-clause-image
returns-in-Ok-board_of-clause-image g c = holds_board _ _ _ _ _ _ c.in-Ok-board_of.ensures.words c.in-Ok.ensures.loaded
