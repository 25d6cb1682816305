use Rattle.directories.proofs.Common.{arith, map, word_edit}
use Rattle.node_pages.proofs.EndsOn.{if_err}
use Rattle.directories.proofs.PushedEdits.{entry_in, entry_pushed}
use Rattle.directories.proofs.storing.with_entries.Goals as goal

pub push_edits-requires : goal.push_edits-requires
push_edits-requires c = record {
  within = c.requires.within _ (entry_in c.args.entries.now c.loop-k.k _ c.loop-k-test.true);
  room = omega (arith, c.loop-k.invariant.room, c.loop-k-test.true);
}

pub loop-k-preserved : goal.loop-k-preserved
loop-k-preserved c = record {
  edits = entry_pushed (map word_edit c.args.change.edits) c.args.entries.now c.loop-k.k _ c.loop-k.edits.items c.push_edits.new.edits.items c.loop-k-test.true c.loop-k.invariant.edits c.push_edits.ensures.edits;
  room = omega (arith, c.loop-k.invariant.room, c.loop-k-test.true, c.push_edits.ensures.len, c.push_edits.ensures.capacity);
}

pub returns-in_err-reserve-clause-dir : goal.returns-in_err-reserve-clause-dir
returns-in_err-reserve-clause-dir c = if_err c.from_residual.result _ c.from_residual.ensures.0

pub returns-in_err-reserve-clause-inode : goal.returns-in_err-reserve-clause-inode
returns-in_err-reserve-clause-inode c = if_err c.from_residual.result _ c.from_residual.ensures.0

pub returns-in_err-reserve-clause-edits : goal.returns-in_err-reserve-clause-edits
returns-in_err-reserve-clause-edits c = if_err c.from_residual.result _ c.from_residual.ensures.0

pub returns-in_err-reserve-clause-taken : goal.returns-in_err-reserve-clause-taken
returns-in_err-reserve-clause-taken c = if_err c.from_residual.result _ c.from_residual.ensures.0

pub returns-in_err-reserve-clause-freed : goal.returns-in_err-reserve-clause-freed
returns-in_err-reserve-clause-freed c = if_err c.from_residual.result _ c.from_residual.ensures.0
