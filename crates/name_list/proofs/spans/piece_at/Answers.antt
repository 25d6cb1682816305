use Rattle.name_list.proofs.SpanRules.{piece_is}
use Rattle.name_list.proofs.spans.piece_at.Goals as goal

pub returns : goal.returns
returns c = piece_is c.args.bytes.now c.split_at.result.1.now _ c.args.span c.min-start.result c.min-len.result c.min-start.ensures c.split_at.ensures.back c.min-len.ensures c.split_at-2.ensures.front
