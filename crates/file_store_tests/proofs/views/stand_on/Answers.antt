use Rattle.file_store_tests.proofs.views.stand_on.Goals as goal

pub stand_at-requires-clause-in_step : goal.stand_at-requires-clause-in_step
stand_at-requires-clause-in_step c = c.none-memo.ensures _ _
