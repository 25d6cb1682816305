use Rattle.file_store.proofs.alone.rename.Goals as goal

pub rename-requires-clause-in_step : goal.rename-requires-clause-in_step
rename-requires-clause-in_step g c = c.none-memo.ensures _ _
