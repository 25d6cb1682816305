use Rattle.std.proofs.Common.{ℕ, List, refl, sym, subst, arith, rules, le_refl, ◌∙◌}
use Rattle.block_disk.specs.BlockLists.{Lists}
use Rattle.block_disk.proofs.Ends.{failed_on, none_owed}
use Rattle.block_disk.proofs.HostDiskRules.{kept_marked, written_all, written_next, written_none}
use Rattle.block_disk.proofs.Marks.{listed, listed_within}
use Rattle.block_disk.proofs.disk_file.write_marked.Goals as goal

-- What a turn leaves stands first: a body that goes on after a failed write is then refused by that.

pub loop-i-preserved : goal.loop-i-preserved
loop-i-preserved g c =
    let lists = subst (λ (ns : List ℕ). Lists ns c.args.marked.now.marks.items) (sym c.numbers-numbers.ensures) c.args.marked.now.lists in
    record {
      room = c.write_block.ensures.room;
      first = written_next _ _ _ _ _ _ _ _ c.loop-i.invariant.first lists c.loop-i-test.true refl c.write_block.ensures.fits (search rules) c.write_block.ensures.others;
      around = c.write_block.ensures.around ∙ c.loop-i.invariant.around;
      later = omega (arith, c.loop-i.invariant.later, c.write_block.ensures.cause.later);
    }

pub write_block-requires-clause-block : goal.write_block-requires-clause-block
write_block-requires-clause-block g c =
    let lists = subst (λ (ns : List ℕ). Lists ns c.args.marked.now.marks.items) (sym c.numbers-numbers.ensures) c.args.marked.now.lists in
    omega (arith, listed_within _ _ lists c.loop-i.i c.loop-i-test.true, c.requires.marks)

pub loop-i-init : goal.loop-i-init
loop-i-init g c = record { room = c.requires.room; first = written_none _ _ _ _ _ c.requires.file; around = refl; later = le_refl _ }

pub returns-in_err-write_block-clause-file : goal.returns-in_err-write_block-clause-file
returns-in_err-write_block-clause-file g c =
    let lists = subst (λ (ns : List ℕ). Lists ns c.args.marked.now.marks.items) (sym c.numbers-numbers.ensures) c.args.marked.now.lists in
    kept_marked _ _ _ _ _ _ c.loop-i.invariant.first.kept (listed _ _ lists c.loop-i.i c.loop-i-test.true) c.write_block.ensures.fits c.write_block.ensures.others

pub returns-in_err-write_block-clause-all : goal.returns-in_err-write_block-clause-all
returns-in_err-write_block-clause-all g c = none_owed c.from_residual.result _ c.from_residual.ensures.0

pub returns-in_err-write_block-clause-around : goal.returns-in_err-write_block-clause-around
returns-in_err-write_block-clause-around g c = c.write_block.ensures.around ∙ c.loop-i.invariant.around

pub returns-in_err-write_block-clause-cause : goal.returns-in_err-write_block-clause-cause
returns-in_err-write_block-clause-cause g c = failed_on _ _ _ _ c.from_residual.ensures.0 c.loop-i.invariant.later c.write_block.ensures.cause.later c.in_err-write_block.ensures.cause.cause

pub returns-clause-all : goal.returns-clause-all
returns-clause-all g c =
    let lists = subst (λ (ns : List ℕ). Lists ns c.args.marked.now.marks.items) (sym c.numbers-numbers.ensures) c.args.marked.now.lists in
    written_all _ _ _ _ _ _ c.loop-i.invariant.first lists (omega arith)

pub returns-clause-cause : goal.returns-clause-cause
returns-clause-cause g c = record { later = c.loop-i.invariant.later; cause = tt }
