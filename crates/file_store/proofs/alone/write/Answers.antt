use Rattle.file_store.proofs.alone.write.Goals as goal

pub write-requires-clause-in_step : goal.write-requires-clause-in_step
write-requires-clause-in_step g c = c.none-memo.ensures _ _
