use Rattle.file_store_tests.proofs.views.on_words.Given as goal

abbrev pub invariant-loop-t : goal.invariant-loop-t
invariant-loop-t g l = g.R.RegionWords.ready l.r
