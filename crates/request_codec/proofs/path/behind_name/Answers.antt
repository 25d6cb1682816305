use Rattle.request_codec.proofs.Names.{no_name}
use Rattle.request_codec.proofs.path.behind_name.Goals as goal

pub returns-else-may_be_name : goal.returns-else-may_be_name
returns-else-may_be_name c = no_name _ _ _ c.name_length-len.result c.in_ok-text.ensures c.name_length-len.ensures c.split_at.ensures.front (λ named. cc (c.if-may_be_name.ensures.1 named))
