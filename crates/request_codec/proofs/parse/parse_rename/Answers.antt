use Rattle.request_codec.proofs.Meanings.{no_rename}
use Rattle.request_codec.proofs.parse.parse_rename.Goals as goal

pub returns-in_default : goal.returns-in_default
returns-in_default c = no_rename c.args.text.now c.in_default.ensures
