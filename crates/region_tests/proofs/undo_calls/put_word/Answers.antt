use Rattle.std.proofs.Common.{ℕ, ◌+◌, ◌≤◌, ◌∙◌, ap, arith, subst, sym}
use Rattle.rio_base.proofs.RegionRules.{stays_trans}
use Rattle.rio_model.specs.Undo.{CoversAll, places, undo_records}
use Rattle.undo_list.proofs.Frames.{region_at}
use Rattle.region_tests.proofs.undo_calls.put_word.Goals as goal

pub word-requires-clause-place : goal.word-requires-clause-place
word-requires-clause-place g c = omega (arith, g.met.R.RegionWords.small c.args.r.now c.requires.ready, c.requires.region.size)

pub overflow_cast-undo : goal.overflow_cast-undo
overflow_cast-undo g c = omega (arith, g.met.R.RegionWords.small c.args.r.now c.requires.ready, c.requires.region.size, c.in_ok-undo.ensures.value)

pub returns-in_err-undo-clause-region : goal.returns-in_err-undo-clause-region
returns-in_err-undo-clause-region g c = region_at _ _ _ _ c.requires.region c.word.ensures.stays.count c.word.ensures.words

pub put_covered_run-requires-clause-region : goal.put_covered_run-requires-clause-region
put_covered_run-requires-clause-region g c = region_at _ _ _ _ c.requires.region c.word.ensures.stays.count c.word.ensures.words

pub put_covered_run-requires-clause-undo : goal.put_covered_run-requires-clause-undo
put_covered_run-requires-clause-undo g c = c.in_ok-undo.ensures.value ∙ sym (ap (λ (w : ℕ → ℕ). w 1) c.word.ensures.words)

pub put_covered_run-requires-clause-place : goal.put_covered_run-requires-clause-place
put_covered_run-requires-clause-place g c = subst (λ (w : ℕ → ℕ). c.args.place + 1 ≤ places w) (sym c.word.ensures.words) (omega (arith, c.requires.place))

pub put_covered_run-requires-clause-covered : goal.put_covered_run-requires-clause-covered
put_covered_run-requires-clause-covered g c = subst (λ (w : ℕ → ℕ). CoversAll (undo_records w) c.args.place 1) (sym c.word.ensures.words) c.requires.covered

pub returns-clause-stays : goal.returns-clause-stays
returns-clause-stays g c = stays_trans g.met.R.RegionWords.rest_trans c.word.ensures.stays c.put_covered_run.ensures.stays
