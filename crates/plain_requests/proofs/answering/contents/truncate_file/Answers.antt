use Rattle.plain_requests.proofs.Common.{length, sym, ap, ◌∙◌, nat_lt, with_node, resized, free_count, File}
use Rattle.rio_requests.specs.Answer.{answered}
use Rattle.rio_requests.specs.declared.reply.Reply.TheVariants.{Ok as Done}
use Rattle.plain_requests.proofs.AnswerSteps.{ends_as}
use Rattle.plain_requests.proofs.FileAnswers.{len_large, len_small, room_lacking, room_there, too_large}
use Rattle.plain_requests.proofs.answering.contents.truncate_file.Goals as goal

pub returns-then-is_too_large : goal.returns-then-is_too_large
returns-then-is_too_large c = ends_as c.refused.result _ _ (too_large c.args.s.now (length c.args.old.now) c.args.len (answered (with_node c.args.s.now c.args.ino.0 (File (resized c.args.old.now c.args.len))) Done) (len_large _ _ c.is_too_large.ensures c.if-is_too_large.true)) c.refused.ensures

pub returns-then-lacks : goal.returns-then-lacks
returns-then-lacks c = ends_as c.refused-then-lacks.result _ _ (room_lacking c.args.s.now (length c.args.old.now) c.args.len (answered (with_node c.args.s.now c.args.ino.0 (File (resized c.args.old.now c.args.len))) Done) (len_small _ _ c.is_too_large.ensures c.if-is_too_large.false) (sym (c.in_ok-lacks.ensures ∙ ap (nat_lt (free_count c.args.s.now)) c.wanted.ensures) ∙ c.if-lacks.true)) c.refused-then-lacks.ensures

pub returns : goal.returns
returns c = ends_as c.with_file.result _ _ (ap (λ m. answered (with_node c.args.s.now c.args.ino.0 (File m)) Done) (c.from.ensures ∙ c.in_ok-made.ensures) ∙ room_there c.args.s.now (length c.args.old.now) c.args.len (answered (with_node c.args.s.now c.args.ino.0 (File (resized c.args.old.now c.args.len))) Done) (len_small _ _ c.is_too_large.ensures c.if-is_too_large.false) (sym (c.in_ok-lacks.ensures ∙ ap (nat_lt (free_count c.args.s.now)) c.wanted.ensures) ∙ c.if-lacks.false)) c.with_file.ensures
