use Rattle.plain_requests.proofs.Common.{arith, nat_tests, open_inodes}
use Rattle.plain_requests.proofs.AnswerSteps.{ends_as, to_found, to_missing, to_root}
use Rattle.plain_requests.proofs.answering.renaming.rename_ino.Goals as goal

pub returns-then-is_empty : goal.returns-then-is_empty
returns-then-is_empty c = ends_as c.refused.result _ _ (to_root c.args.s.now (open_inodes c.args.s.now) c.args.from.now c.args.to.now c.args.ino.0 c.requires (grind (arith, nat_tests, c.is_empty.ensures, c.if-is_empty.true))) c.refused.ensures

pub returns-in-Ok : goal.returns-in-Ok
returns-in-Ok c = ends_as c.rename_to.result _ _ (to_found c.args.s.now (open_inodes c.args.s.now) c.args.from.now c.args.to.now c.args.ino.0 c.in-Ok.to_dir.0 c.requires (grind (arith, nat_tests, c.is_empty.ensures, c.if-is_empty.false)) c.in-Ok.ensures) c.rename_to.ensures

pub returns-in-Err : goal.returns-in-Err
returns-in-Err c = ends_as c.refused-in-Err.result _ _ (to_missing c.args.s.now (open_inodes c.args.s.now) c.args.from.now c.args.to.now c.args.ino.0 c.in-Err.number c.requires (grind (arith, nat_tests, c.is_empty.ensures, c.if-is_empty.false)) c.in-Err.ensures) c.refused-in-Err.ensures
