use Rattle.file_store.proofs.alone.unlink.Goals as goal

pub unlink-requires-clause-in_step : goal.unlink-requires-clause-in_step
unlink-requires-clause-in_step g c = c.none-memo.ensures _ _
