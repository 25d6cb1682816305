use Rattle.file_store.proofs.alone.make_region.Goals as goal

pub make_region-requires-clause-in_step : goal.make_region-requires-clause-in_step
make_region-requires-clause-in_step g c = c.none-memo.ensures _ _
