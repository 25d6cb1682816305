use Rattle.std.proofs.Common.{refl, subst, ◌∙◌, ◌+◌, ◌%◌, cond, slice_index}
use Rattle.rio_model.specs.Undo.{Puts, live}
use Rattle.undo_list.specs.Bits.{WithBits}
use Rattle.undo_list.proofs.Outcomes.{word_ends}
use Rattle.recov_alloc.proofs.Marks.{pair_stored, start_count}
use Rattle.recov_alloc.proofs.Outcomes.{on_word}
use Rattle.recov_alloc.proofs.marking.mark_words.Goals as goal

pub returns-clause-ok : goal.returns-clause-ok
returns-clause-ok g c =
    let f = g.R.RegionWords.words in
    let start_bits = subst (λ s. WithBits (slice_index c.args.words.now 1) c.with_bits-starts.result (c.args.at % 64) (c.args.at % 64 + s) (cond c.args.on 1 0)) (c.from.ensures ∙ start_count c.args.start) c.with_bits-starts.ensures in
    let stored = pair_stored (live (f c.args.r.now)) (live (f c.args.r.now)) (live (f c.put_covered_run.new.r)) c.args.at c.args.units _ (cond c.args.on 1 0) _ _ c.args.words.now refl c.requires.words c.with_bits-used.ensures start_bits in
    on_word c.put_covered_run.result c.uncounted.result _ _ c.uncounted.ensures (λ (h : Puts (g.R.RegionWords.count c.args.r.now) (f c.args.r.now) (f c.put_covered_run.new.r) _ _ _). stored h.present) c.put_covered_run.ensures.ok

pub returns-clause-ends : goal.returns-clause-ends
returns-clause-ends g c = word_ends _ _ c.put_covered_run.result c.uncounted.result c.uncounted.ensures c.put_covered_run.ensures.ends
