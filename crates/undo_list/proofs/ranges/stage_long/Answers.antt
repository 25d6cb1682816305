use Rattle.std.specs.Prelude.{Ok}
use Rattle.std.proofs.Common.{[], ◌∷◌, arith, inr, refl, ◌+◌}
use Rattle.std.proofs.lemmas.Result.{err_from_is_err_and}
use Rattle.rio_base.proofs.BlockRules.{ends_later}
use Rattle.rio_base.proofs.RegionRules.{stays_trans}
use Rattle.undo_list.proofs.Frames.{staged_long, off_front, off_run, off_trans}
use Rattle.undo_list.proofs.Outcomes.{on_ok, word_ok, ends_err, word_ends}
use Rattle.undo_list.proofs.ranges.stage_long.Goals as goal

pub returns-clause-ok : goal.returns-clause-ok
returns-clause-ok g c =
    let f = g.R.RegionWords.words in
    on_ok c.copy_words.result _ _ (staged_long (f c.args.r.now) (f c.set_run.new.self) (f c.copy_words.new.r) c.args.at c.args.head c.args.place _ c.args.from c.args.count _ c.requires.behind c.from.ensures c.from-2.ensures (word_ok c.set_run.result _ _ c.in_ok-uncounted.ensures c.set_run.ensures.ok)) c.copy_words.ensures.ok

pub returns-in_err-uncounted-clause-ok : goal.returns-in_err-uncounted-clause-ok
returns-in_err-uncounted-clause-ok g c =
    let p = err_from_is_err_and c.from_residual.result c.from_residual.ensures.1 in
    rw (p.1) tt

pub returns-in_err-uncounted-clause-off : goal.returns-in_err-uncounted-clause-off
returns-in_err-uncounted-clause-off g c =
    off_run (g.R.RegionWords.words c.args.r.now) (g.R.RegionWords.words c.args.r.now) (g.R.RegionWords.words c.set_run.new.self) (512 + c.args.at) (515 + c.args.at + c.args.count) 3 (c.args.head ∷ c.from.result ∷ c.from-2.result ∷ []) refl (omega arith) c.set_run.ensures.front

pub returns-in_err-uncounted-clause-ends : goal.returns-in_err-uncounted-clause-ends
returns-in_err-uncounted-clause-ends g c =
    let p = err_from_is_err_and c.from_residual.result c.from_residual.ensures.1 in
    ends_err _ _ c.uncounted.result c.from_residual.result _ _ c.in_err-uncounted.was p.1 p.2 (word_ends _ _ c.set_run.result c.uncounted.result c.uncounted.ensures c.set_run.ensures.ends)

pub copy_words-requires-clause-source : goal.copy_words-requires-clause-source
copy_words-requires-clause-source g c = omega (arith, c.set_run.ensures.stays.count, c.requires.source)

pub copy_words-requires-clause-target : goal.copy_words-requires-clause-target
copy_words-requires-clause-target g c = omega (arith, c.set_run.ensures.stays.count, c.requires.source, c.requires.behind)

pub copy_words-requires-clause-apart : goal.copy_words-requires-clause-apart
copy_words-requires-clause-apart g c = inr (omega (arith, c.requires.behind))

pub returns-clause-off : goal.returns-clause-off
returns-clause-off g c =
    off_trans (off_run (g.R.RegionWords.words c.args.r.now) (g.R.RegionWords.words c.args.r.now) (g.R.RegionWords.words c.set_run.new.self) (512 + c.args.at) (515 + c.args.at + c.args.count) 3 (c.args.head ∷ c.from.result ∷ c.from-2.result ∷ []) refl (omega arith) c.set_run.ensures.front) (off_front (g.R.RegionWords.words c.set_run.new.self) (g.R.RegionWords.words c.copy_words.new.r) c.args.from (512 + c.args.at) (515 + c.args.at + c.args.count) (515 + c.args.at) c.args.count (omega arith) (omega arith) c.copy_words.ensures.front)

pub returns-clause-stays : goal.returns-clause-stays
returns-clause-stays g c = stays_trans g.met.R.RegionWords.rest_trans c.set_run.ensures.stays c.copy_words.ensures.stays

pub returns-clause-ends : goal.returns-clause-ends
returns-clause-ends g c = ends_later _ _ _ _ c.set_run.ensures.ends.later (word_ends _ _ c.set_run.result (Ok tt) c.in_ok-uncounted.ensures c.set_run.ensures.ends).cause c.copy_words.ensures.ends
