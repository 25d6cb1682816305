use Rattle.request_codec.proofs.Sendings.{puts_as}
use Rattle.request_codec.proofs.Texts.{kind_text}
use Rattle.request_codec.proofs.reply_text.put_kind.Goals as goal

pub returns-in-1 : goal.returns-in-1
returns-in-1 g c = puts_as (kind_text c.args.kind c.args.size 1 c.in-1.is) c.put_number_here.ensures

pub returns-in-2 : goal.returns-in-2
returns-in-2 g c = puts_as (kind_text c.args.kind c.args.size 2 c.in-2.is) c.put_number_here-in-2.ensures
