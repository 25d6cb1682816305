use Rattle.map_laws.proofs.LookUps.{found-looked_up}
use Rattle.map_laws.proofs.looking.looking_up.Goals as goal

pub returns : goal.returns
returns c = found-looked_up
