use Rattle.std.proofs.Common.{◌≡◌, ◌-◌, arith, drop, length, subst, take}
use Rattle.memchr.specs.Find.{IsFirstByte, is_byte}
use Rattle.inode_table.proofs.PassedBlocks.{passed_all, passed_some}
use Rattle.inode_table.proofs.full_blocks.FullBlocks.next_open.Goals as goal

pub returns-in-Some-clause-full : goal.returns-in-Some-clause-full
returns-in-Some-clause-full c =
    let marks = c.args.self.now.marks in
    let all : length marks ≡ 1024 = omega arith in
    passed_some marks 1024 c.args.from c.in-Some.passed all (subst (λ r. IsFirstByte (is_byte 0) (take (1024 - c.args.from) (drop c.args.from marks)) r) c.in-Some.is c.memchr.ensures)

pub returns-in-None-clause-full : goal.returns-in-None-clause-full
returns-in-None-clause-full c =
    let marks = c.args.self.now.marks in
    let all : length marks ≡ 1024 = omega arith in
    passed_all marks 1024 c.args.from all (subst (λ r. IsFirstByte (is_byte 0) (take (1024 - c.args.from) (drop c.args.from marks)) r) c.in-None.is c.memchr.ensures)
