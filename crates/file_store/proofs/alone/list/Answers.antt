use Rattle.file_store.proofs.alone.list.Goals as goal

pub list-requires-clause-in_step : goal.list-requires-clause-in_step
list-requires-clause-in_step g c = c.none-memo.ensures _ _
