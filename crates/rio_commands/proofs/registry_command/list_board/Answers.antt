use Rattle.std.proofs.Common.{refl, inr}
use Rattle.rio_commands.proofs.Listings.{cut_listing}
use Rattle.rio_commands.proofs.registry_command.list_board.Goals as goal

pub returns-in-Err-clause-writes : goal.returns-in-Err-clause-writes
returns-in-Err-clause-writes g c = inr (refl, cut_listing (g.M.Machine.contents c.args.m.now).words c.in-Err.ensures)
