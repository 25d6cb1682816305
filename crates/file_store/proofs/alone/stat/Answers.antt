use Rattle.file_store.proofs.alone.stat.Goals as goal

pub stat-requires-clause-in_step : goal.stat-requires-clause-in_step
stat-requires-clause-in_step g c = c.none-memo.ensures _ _
