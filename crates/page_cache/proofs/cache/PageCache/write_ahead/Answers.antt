use Rattle.cached_pages.proofs.Common.{◌≡◌, ◌<◌, ◌∙◌, true, ap, sym, subst, arith, true_false, order_of}
use Rattle.cached_pages.proofs.Nearness.{drops_near, looks_near, not_roomy, one_none, passes_near, passes_none}
use Rattle.page_cache.proofs.cache.PageCache.write_ahead.Goals as goal
use Rattle.std.proofs.Common.{refl}
use Rattle.cached_pages.specs.Caches.{cache_health}
use Rattle.cached_pages.proofs.Freed.{halts_of}
use Rattle.cached_pages.proofs.Stills.{still_refl}
use Rattle.page_cache.proofs.Outcomes.{halts_none}

pub send_next-requires-clause-entry : goal.send_next-requires-clause-entry
send_next-requires-clause-entry g c = subst (λ f. c.victim-k.result < f) c.requires.sound.frames c.victim-k.ensures.within

pub returns-clause-passes : goal.returns-clause-passes
returns-clause-passes g c = passes_near (g.M.Machine.contents c.args.self.now.machine) (g.M.Machine.contents c.send_next.new.m) _ _ _ _ c.send_next.ensures.nears c.send_next.ensures.ends.steps (λ r. absurd (not_roomy _ _ (sym c.has_all_frames.ensures ∙ c.if-has_all_frames.false) r))

pub returns-clause-free : goal.returns-clause-free
returns-clause-free g c = λ j less gone.
    let full : c.is_full.result ≡ true = grind (arith, c.if-not-is_full.false) in
    absurd (true_false (sym (c.is_full.ensures full j less) ∙ gone))

pub returns-clause-order : goal.returns-clause-order
returns-clause-order g c = ap order_of c.send_next.ensures.nears.pool

pub returns-then-has_all_frames-clause-passes : goal.returns-then-has_all_frames-clause-passes
returns-then-has_all_frames-clause-passes g c = passes_none (g.M.Machine.contents c.args.self.now.machine) (g.M.Machine.run c.args.self.now.machine) c.args.self.now.tables

pub returns-then-is_far_ahead-clause-passes : goal.returns-then-is_far_ahead-clause-passes
returns-then-is_far_ahead-clause-passes g c = passes_none (g.M.Machine.contents c.args.self.now.machine) (g.M.Machine.run c.args.self.now.machine) c.args.self.now.tables

pub returns-then-not-is_full-clause-passes : goal.returns-then-not-is_full-clause-passes
returns-then-not-is_full-clause-passes g c = passes_none (g.M.Machine.contents c.args.self.now.machine) (g.M.Machine.run c.args.self.now.machine) c.args.self.now.tables

pub returns-clause-drops : goal.returns-clause-drops
returns-clause-drops g c = drops_near (g.M.Machine.contents c.args.self.now.machine) (g.M.Machine.contents c.send_next.new.m) _ _ c.send_next.ensures.nears

pub returns-clause-looks : goal.returns-clause-looks
returns-clause-looks g c = looks_near (g.M.Machine.contents c.args.self.now.machine) (g.M.Machine.contents c.send_next.new.m) _ _ c.send_next.ensures.nears

pub returns-clause-ends : goal.returns-clause-ends
returns-clause-ends g c = halts_of (g.M.Machine.contents c.args.self.now.machine) (g.M.Machine.contents c.send_next.new.m) (g.M.Machine.run c.args.self.now.machine) (g.M.Machine.run c.send_next.new.m) _ c.send_next.ensures.nears.lasts c.send_next.ensures.ends

pub returns-then-has_all_frames-clause-drops : goal.returns-then-has_all_frames-clause-drops
returns-then-has_all_frames-clause-drops g c = record { kept = λ b e. (e, refl) }

pub returns-then-has_all_frames-clause-looks : goal.returns-then-has_all_frames-clause-looks
returns-then-has_all_frames-clause-looks g c = record { count = refl; words = refl; base = refl }

pub returns-then-has_all_frames-clause-ends : goal.returns-then-has_all_frames-clause-ends
returns-then-has_all_frames-clause-ends g c = halts_none tt (cache_health (g.M.Machine.contents c.args.self.now.machine) (g.M.Machine.run c.args.self.now.machine))

pub returns-then-has_all_frames-clause-free : goal.returns-then-has_all_frames-clause-free
returns-then-has_all_frames-clause-free g c = λ k less gone. still_refl (g.M.Machine.contents c.args.self.now.machine)

pub returns-then-has_all_frames-clause-one_write : goal.returns-then-has_all_frames-clause-one_write
returns-then-has_all_frames-clause-one_write g c = one_none (g.M.Machine.contents c.args.self.now.machine).writes (g.M.Machine.contents c.args.self.now.machine).writes refl

pub returns-then-has_all_frames-clause-pends : goal.returns-then-has_all_frames-clause-pends
returns-then-has_all_frames-clause-pends g c = λ b e. e

pub returns-then-is_far_ahead-clause-drops : goal.returns-then-is_far_ahead-clause-drops
returns-then-is_far_ahead-clause-drops g c = record { kept = λ b e. (e, refl) }

pub returns-then-is_far_ahead-clause-looks : goal.returns-then-is_far_ahead-clause-looks
returns-then-is_far_ahead-clause-looks g c = record { count = refl; words = refl; base = refl }

pub returns-then-is_far_ahead-clause-ends : goal.returns-then-is_far_ahead-clause-ends
returns-then-is_far_ahead-clause-ends g c = halts_none tt (cache_health (g.M.Machine.contents c.args.self.now.machine) (g.M.Machine.run c.args.self.now.machine))

pub returns-then-is_far_ahead-clause-free : goal.returns-then-is_far_ahead-clause-free
returns-then-is_far_ahead-clause-free g c = λ k less gone. still_refl (g.M.Machine.contents c.args.self.now.machine)

pub returns-then-is_far_ahead-clause-one_write : goal.returns-then-is_far_ahead-clause-one_write
returns-then-is_far_ahead-clause-one_write g c = one_none (g.M.Machine.contents c.args.self.now.machine).writes (g.M.Machine.contents c.args.self.now.machine).writes refl

pub returns-then-is_far_ahead-clause-pends : goal.returns-then-is_far_ahead-clause-pends
returns-then-is_far_ahead-clause-pends g c = λ b e. e

pub returns-then-not-is_full-clause-drops : goal.returns-then-not-is_full-clause-drops
returns-then-not-is_full-clause-drops g c = record { kept = λ b e. (e, refl) }

pub returns-then-not-is_full-clause-looks : goal.returns-then-not-is_full-clause-looks
returns-then-not-is_full-clause-looks g c = record { count = refl; words = refl; base = refl }

pub returns-then-not-is_full-clause-ends : goal.returns-then-not-is_full-clause-ends
returns-then-not-is_full-clause-ends g c = halts_none tt (cache_health (g.M.Machine.contents c.args.self.now.machine) (g.M.Machine.run c.args.self.now.machine))

pub returns-then-not-is_full-clause-free : goal.returns-then-not-is_full-clause-free
returns-then-not-is_full-clause-free g c = λ k less gone. still_refl (g.M.Machine.contents c.args.self.now.machine)

pub returns-then-not-is_full-clause-one_write : goal.returns-then-not-is_full-clause-one_write
returns-then-not-is_full-clause-one_write g c = one_none (g.M.Machine.contents c.args.self.now.machine).writes (g.M.Machine.contents c.args.self.now.machine).writes refl

pub returns-then-not-is_full-clause-pends : goal.returns-then-not-is_full-clause-pends
returns-then-not-is_full-clause-pends g c = λ b e. e
