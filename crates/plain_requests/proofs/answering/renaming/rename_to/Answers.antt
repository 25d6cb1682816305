use Rattle.plain_requests.proofs.Common.{◌<◌, length, sym, ap, arith, ◌∙◌, get, last_of, nat_tests, open_inodes}
use Rattle.rio_requests.specs.Answers.{rename_row}
use Rattle.plain_requests.proofs.AnswerSteps.{ends_as, from_above, from_astray, from_found, from_root}
use Rattle.plain_requests.proofs.answering.renaming.rename_to.Goals as goal

pub returns-then-is_empty : goal.returns-then-is_empty
returns-then-is_empty c = ends_as c.refused.result _ _ (from_root c.args.s.now (open_inodes c.args.s.now) c.args.from.now c.args.to.now c.args.ino.0 c.args.to_dir.0 (grind (arith, nat_tests, c.is_empty.ensures, c.if-is_empty.true))) c.refused.ensures

pub returns-then-is_below : goal.returns-then-is_below
returns-then-is_below c =
    let some : 0 < length c.args.from.now = grind (arith, nat_tests, c.is_empty.ensures, c.if-is_empty.false) in
    ends_as c.refused-then-is_below.result _ _ (from_above c.args.s.now (open_inodes c.args.s.now) c.args.from.now c.args.to.now c.args.ino.0 c.args.to_dir.0 some (sym c.is_below.ensures ∙ c.if-is_below.true)) c.refused-then-is_below.ensures

pub returns-in-Ok : goal.returns-in-Ok
returns-in-Ok c =
    let some : 0 < length c.args.from.now = grind (arith, nat_tests, c.is_empty.ensures, c.if-is_empty.false) in
    let busy = open_inodes c.args.s.now in
    ends_as c.rename_row.result _ _ (
    ap (λ n. rename_row c.args.s.now busy c.in-Ok.dir.0 n c.args.to_dir.0 c.last_of-to_name.result.now c.args.ino.0 (get c.args.s.now.names (c.args.to_dir.0, c.last_of-to_name.result.now))) c.last_of-name.ensures
    ∙ ap (λ n. rename_row c.args.s.now busy c.in-Ok.dir.0 (last_of c.args.from.now) c.args.to_dir.0 n c.args.ino.0 (get c.args.s.now.names (c.args.to_dir.0, n))) c.last_of-to_name.ensures
    ∙ from_found c.args.s.now busy c.args.from.now c.args.to.now c.args.ino.0 c.args.to_dir.0 c.in-Ok.dir.0 some (sym c.is_below.ensures ∙ c.if-is_below.false) c.in-Ok.ensures
    ) c.rename_row.ensures

pub returns-in-Err : goal.returns-in-Err
returns-in-Err c =
    let some : 0 < length c.args.from.now = grind (arith, nat_tests, c.is_empty.ensures, c.if-is_empty.false) in
    ends_as c.refused-in-Err.result _ _ (from_astray c.args.s.now (open_inodes c.args.s.now) c.args.from.now c.args.to.now c.args.ino.0 c.args.to_dir.0 c.in-Err.number some (sym c.is_below.ensures ∙ c.if-is_below.false) c.in-Err.ensures) c.refused-in-Err.ensures
