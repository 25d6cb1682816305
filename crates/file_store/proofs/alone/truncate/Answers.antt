use Rattle.file_store.proofs.alone.truncate.Goals as goal

pub truncate-requires-clause-in_step : goal.truncate-requires-clause-in_step
truncate-requires-clause-in_step g c = c.none-memo.ensures _ _
