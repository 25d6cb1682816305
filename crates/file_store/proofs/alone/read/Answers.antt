use Rattle.file_store.proofs.alone.read.Goals as goal

pub read-requires-clause-in_step : goal.read-requires-clause-in_step
read-requires-clause-in_step g c = c.none-memo.ensures _ _
