use Rattle.file_store.proofs.alone.mkdir.Goals as goal

pub mkdir-requires-clause-in_step : goal.mkdir-requires-clause-in_step
mkdir-requires-clause-in_step g c = c.none-memo.ensures _ _
