use Rattle.plain_requests.proofs.Common.{◌<◌, length, arith, ◌∙◌, nat_tests}
use Rattle.plain_requests.proofs.AnswerSteps.{ends_as}
use Rattle.plain_requests.proofs.FileAnswers.{end_large, end_small, none_written, write_lacks, write_large, write_there}
use Rattle.plain_requests.proofs.answering.contents.write_file.Goals as goal

pub returns-then-is_empty : goal.returns-then-is_empty
returns-then-is_empty c = ends_as c.unchanged.result _ _ (none_written c.args.s.now c.args.off c.args.bytes.now c.args.ino.0 c.args.old.now (grind (arith, nat_tests, c.is_empty.ensures, c.if-is_empty.true))) c.unchanged.ensures

pub returns-then-is_too_large : goal.returns-then-is_too_large
returns-then-is_too_large c =
    let some : 0 < length c.args.bytes.now = grind (arith, nat_tests, c.is_empty.ensures, c.if-is_empty.false) in
    ends_as c.refused.result _ _ (write_large c.args.s.now c.args.off c.args.bytes.now c.args.ino.0 c.args.old.now some (end_large _ _ _ c.saturating_add-end.ensures c.is_too_large.ensures c.if-is_too_large.true)) c.refused.ensures

pub returns-then-lacks : goal.returns-then-lacks
returns-then-lacks c =
    let some : 0 < length c.args.bytes.now = grind (arith, nat_tests, c.is_empty.ensures, c.if-is_empty.false) in
    ends_as c.refused-then-lacks.result _ _ (write_lacks c.args.s.now c.args.off c.args.bytes.now c.args.ino.0 c.args.old.now _ _ _ some (end_small _ _ _ c.saturating_add-end.ensures c.is_too_large.ensures c.if-is_too_large.false) c.wanted.ensures c.in_ok-lacks.ensures c.if-lacks.true) c.refused-then-lacks.ensures

pub returns : goal.returns
returns c =
    let some : 0 < length c.args.bytes.now = grind (arith, nat_tests, c.is_empty.ensures, c.if-is_empty.false) in
    ends_as c.with_file.result _ _ (write_there c.args.s.now c.args.off c.args.bytes.now c.args.ino.0 c.args.old.now _ _ _ some (end_small _ _ _ c.saturating_add-end.ensures c.is_too_large.ensures c.if-is_too_large.false) c.wanted.ensures c.in_ok-lacks.ensures c.if-lacks.false c.from.result (c.from.ensures ∙ c.in_ok-made.ensures)) c.with_file.ensures
