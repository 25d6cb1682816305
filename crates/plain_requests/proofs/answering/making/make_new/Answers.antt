use Rattle.plain_requests.proofs.Common.{◌+◌, ap, ◌∙◌, nat_lt, with_new, free_count}
use Rattle.rio_requests.specs.Answer.{answered}
use Rattle.rio_requests.specs.Answers.{new_blocks, row_wanted}
use Rattle.rio_requests.specs.declared.reply.Reply.TheVariants.{Number}
use Rattle.plain_requests.proofs.AnswerSteps.{ends_as, room_is, room_lacks}
use Rattle.plain_requests.proofs.answering.making.make_new.Goals as goal

pub returns-then-lacks : goal.returns-then-lacks
returns-then-lacks c =
    let told = c.in_ok-lacks.ensures ∙ ap (nat_lt (free_count c.args.s.now)) (λ j. c.new_blocks.ensures.is j + c.in_ok-row.ensures.is j) in
    ends_as c.refused.result _ _ (room_lacks c.args.s.now (new_blocks c.args.node.now + row_wanted c.args.s.now c.args.dir.0) (answered (with_new c.args.s.now c.args.dir.0 c.args.name.now c.args.ino.0 c.args.node.now) (Number c.args.ino.0)) _ told c.if-lacks.true) c.refused.ensures

pub returns : goal.returns
returns c =
    let told = c.in_ok-lacks.ensures ∙ ap (nat_lt (free_count c.args.s.now)) (λ j. c.new_blocks.ensures.is j + c.in_ok-row.ensures.is j) in
    ends_as c.with_new.result _ _ (room_is c.args.s.now (new_blocks c.args.node.now + row_wanted c.args.s.now c.args.dir.0) (answered (with_new c.args.s.now c.args.dir.0 c.args.name.now c.args.ino.0 c.args.node.now) (Number c.args.ino.0)) _ told c.if-lacks.false) c.with_new.ensures
