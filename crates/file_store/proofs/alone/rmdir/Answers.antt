use Rattle.file_store.proofs.alone.rmdir.Goals as goal

pub rmdir-requires-clause-in_step : goal.rmdir-requires-clause-in_step
rmdir-requires-clause-in_step g c = c.none-memo.ensures _ _
