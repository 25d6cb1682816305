use Rattle.std.proofs.Common.{◌≡◌, ◌<◌, ◌∙◌, arith, refl, slice_index, subst, sym}
use Rattle.rio_model.specs.Cover.{holds, last_of}
use Rattle.rio_model.specs.Registry.{frames_of}
use Rattle.registry.specs.Views.{entry_mark}
use Rattle.registry.proofs.Views.{noted_all, noted_next, noted_none}
use Rattle.registry.proofs.cover_view.note_entries.Goals as goal

pub loop-k-init : goal.loop-k-init
loop-k-init g c = record { count = refl; noted = λ b less. noted_none (g.M.Machine.contents c.args.m.now).words b _ (c.requires.none b less) }

pub loop-k-preserved : goal.loop-k-preserved
loop-k-preserved g c =
    let before = c.loop-k.invariant in
    record {
      count = c.note_entry.ensures.len ∙ before.count;
      noted = λ b less. noted_next (g.M.Machine.contents c.args.m.now).words b c.loop-k.k _ _ (before.noted b less) (c.note_entry.ensures.noted b (subst (λ n. b < n) (sym before.count) less));
    }

pub returns : goal.returns
returns g c =
    let words = (g.M.Machine.contents c.args.m.now).words in
    let all : c.loop-k.k ≡ frames_of words = omega (arith, c.loop-k.auto.k-end, c.loop-k-test.false, c.frame_count-k-end.ensures) in
    record { entries = noted_all words _ _ c.loop-k.invariant.count (λ b less. subst (λ n. slice_index c.loop-k.entries b ≡ entry_mark (last_of (holds words b) n)) all (c.loop-k.invariant.noted b less)) }
