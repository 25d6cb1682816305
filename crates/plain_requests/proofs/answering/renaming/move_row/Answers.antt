use Rattle.plain_requests.proofs.Common.{◌==◌, cond, ap, ◌∙◌, nat_lt, free_count}
use Rattle.rio_requests.specs.Answer.{answered}
use Rattle.rio_requests.specs.Answers.{moved, row_wanted}
use Rattle.rio_requests.specs.declared.reply.Reply.TheVariants.{Ok as Done}
use Rattle.plain_requests.proofs.AnswerSteps.{ends_as, room_is, room_lacks}
use Rattle.plain_requests.proofs.answering.renaming.move_row.Goals as goal

pub returns-then-lacks : goal.returns-then-lacks
returns-then-lacks c =
    let told = c.in_ok-lacks.ensures ∙ ap (nat_lt (free_count c.args.s.now)) c.in_ok-wants.ensures in
    ends_as c.refused.result _ _ (room_lacks c.args.s.now (cond (c.args.dir.0 == c.args.to_dir.0) 0 (row_wanted c.args.s.now c.args.to_dir.0)) (answered (moved c.args.s.now c.args.dir.0 c.args.name.now c.args.to_dir.0 c.args.to_name.now c.args.ino.0) Done) _ told c.if-lacks.true) c.refused.ensures

pub returns : goal.returns
returns c =
    let told = c.in_ok-lacks.ensures ∙ ap (nat_lt (free_count c.args.s.now)) c.in_ok-wants.ensures in
    ap (λ t. answered t Done) c.in_ok-next.ensures
    ∙ room_is c.args.s.now (cond (c.args.dir.0 == c.args.to_dir.0) 0 (row_wanted c.args.s.now c.args.to_dir.0)) (answered (moved c.args.s.now c.args.dir.0 c.args.name.now c.args.to_dir.0 c.args.to_name.now c.args.ino.0) Done) _ told c.if-lacks.false
