use Rattle.file_store.proofs.alone.create.Goals as goal

pub create-requires-clause-in_step : goal.create-requires-clause-in_step
create-requires-clause-in_step g c = c.none-memo.ensures _ _
