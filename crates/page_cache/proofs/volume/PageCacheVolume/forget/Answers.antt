use Rattle.cached_pages.proofs.Common.{ap, subst, sym, ◌∙◌, true_false}
use Rattle.std.proofs.Common.{◌<◌, is_some, refl}
use Rattle.rio_base.proofs.MachineRules.{lasts_refl, steps_refl}
use Rattle.cached_pages.proofs.Kept.{tables_refl}
use Rattle.cached_pages.proofs.Rooms.{none_bound, some_bound}
use Rattle.cached_pages.proofs.StoreCalls.{drops_narrows}
use Rattle.cached_pages.proofs.Freed.{frees_same, halts_of, loose_marked, marked_still, marks_then, narrows_same, never_firm, settled, sound_marked}
use Rattle.cached_pages.proofs.Stills.{few_still, still_same}
use Rattle.cached_pages.proofs.Uses.{freed_none, freed_some, marked_order}
use Rattle.page_cache.proofs.Outcomes.{halts_err, halts_none}
use Rattle.write_back.proofs.Exits.{not_ok}
use Rattle.page_cache.proofs.volume.PageCacheVolume.forget.Goals as goal
use Rattle.cached_pages.proofs.DirtyMarks.{marks_refl}
use Rattle.cached_pages.proofs.Uses.{others_stay, stay_hit}
use Rattle.cached_pages.proofs.Common.{None}

pub mark-requires : goal.mark-requires
mark-requires g c = record { place = subst (λ n. c.args.b.0 < n) (sym c.requires.sound.marks) c.requires.place }

pub find-requires : goal.find-requires
find-requires g c = record { block = subst (λ n. c.args.b.0 < n) (sym (sound_marked c.args.b.0 _ _ (g.M.Machine.contents c.args.self.now.machine) c.args.self.now.tables c.mark.new.self c.requires.sound c.mark.ensures.marks).blocks) c.requires.place }

pub drop_frame-requires-clause-sound : goal.drop_frame-requires-clause-sound
drop_frame-requires-clause-sound g c = sound_marked c.args.b.0 _ _ (g.M.Machine.contents c.args.self.now.machine) c.args.self.now.tables c.mark.new.self c.requires.sound c.mark.ensures.marks

pub drop_frame-requires-clause-found : goal.drop_frame-requires-clause-found
drop_frame-requires-clause-found g c = some_bound c.args.b.0 c.in-Some.k _ (g.M.Machine.contents c.args.self.now.machine) c.mark.new.self (sound_marked c.args.b.0 _ _ (g.M.Machine.contents c.args.self.now.machine) c.args.self.now.tables c.mark.new.self c.requires.sound c.mark.ensures.marks) c.in-Some.ensures.some.0 c.in-Some.ensures.some.1

pub returns-in_default-clause-ok : goal.returns-in_default-clause-ok
returns-in_default-clause-ok g c = (loose_marked _ _ (marked_still c.args.b.0 _ c.args.self.now.tables c.mark.new.self c.mark.new.self c.mark.ensures.marks (tables_refl c.mark.new.self)), ap is_some (none_bound c.args.b.0 _ (g.M.Machine.contents c.args.self.now.machine) c.mark.new.self (sound_marked c.args.b.0 _ _ (g.M.Machine.contents c.args.self.now.machine) c.args.self.now.tables c.mark.new.self c.requires.sound c.mark.ensures.marks) (c.in_default.ensures.none refl)))

pub returns-in_default-clause-firm_block : goal.returns-in_default-clause-firm_block
returns-in_default-clause-firm_block g c = λ l. never_firm _ _ (marked_still c.args.b.0 _ c.args.self.now.tables c.mark.new.self c.mark.new.self c.mark.ensures.marks (tables_refl c.mark.new.self)) l

pub returns-in_default-clause-standing : goal.returns-in_default-clause-standing
returns-in_default-clause-standing g c = (settled c.args.b.0 (g.M.Machine.contents c.args.self.now.machine) (g.M.Machine.contents c.args.self.now.machine) (g.M.Machine.run c.args.self.now.machine) (g.M.Machine.run c.args.self.now.machine) c.args.self.now.tables c.mark.new.self c.requires.idle (frees_same c.args.b.0 (g.M.Machine.contents c.args.self.now.machine) (g.M.Machine.contents c.args.self.now.machine) refl) (marks_then c.args.b.0 _ c.args.self.now.tables c.mark.new.self c.mark.new.self c.mark.ensures.marks (tables_refl c.mark.new.self)) (lasts_refl (g.M.Machine.contents c.args.self.now.machine)) (steps_refl (g.M.Machine.run c.args.self.now.machine)) (few_still c.args.b.0 _ (g.M.Machine.contents c.args.self.now.machine) (g.M.Machine.contents c.args.self.now.machine) (still_same (g.M.Machine.contents c.args.self.now.machine) (g.M.Machine.contents c.args.self.now.machine) refl))).standing

pub returns-in_default-clause-firm : goal.returns-in_default-clause-firm
returns-in_default-clause-firm g c = (settled c.args.b.0 (g.M.Machine.contents c.args.self.now.machine) (g.M.Machine.contents c.args.self.now.machine) (g.M.Machine.run c.args.self.now.machine) (g.M.Machine.run c.args.self.now.machine) c.args.self.now.tables c.mark.new.self c.requires.idle (frees_same c.args.b.0 (g.M.Machine.contents c.args.self.now.machine) (g.M.Machine.contents c.args.self.now.machine) refl) (marks_then c.args.b.0 _ c.args.self.now.tables c.mark.new.self c.mark.new.self c.mark.ensures.marks (tables_refl c.mark.new.self)) (lasts_refl (g.M.Machine.contents c.args.self.now.machine)) (steps_refl (g.M.Machine.run c.args.self.now.machine)) (few_still c.args.b.0 _ (g.M.Machine.contents c.args.self.now.machine) (g.M.Machine.contents c.args.self.now.machine) (still_same (g.M.Machine.contents c.args.self.now.machine) (g.M.Machine.contents c.args.self.now.machine) refl))).firm

pub returns-in_default-clause-goes : goal.returns-in_default-clause-goes
returns-in_default-clause-goes g c = (settled c.args.b.0 (g.M.Machine.contents c.args.self.now.machine) (g.M.Machine.contents c.args.self.now.machine) (g.M.Machine.run c.args.self.now.machine) (g.M.Machine.run c.args.self.now.machine) c.args.self.now.tables c.mark.new.self c.requires.idle (frees_same c.args.b.0 (g.M.Machine.contents c.args.self.now.machine) (g.M.Machine.contents c.args.self.now.machine) refl) (marks_then c.args.b.0 _ c.args.self.now.tables c.mark.new.self c.mark.new.self c.mark.ensures.marks (tables_refl c.mark.new.self)) (lasts_refl (g.M.Machine.contents c.args.self.now.machine)) (steps_refl (g.M.Machine.run c.args.self.now.machine)) (few_still c.args.b.0 _ (g.M.Machine.contents c.args.self.now.machine) (g.M.Machine.contents c.args.self.now.machine) (still_same (g.M.Machine.contents c.args.self.now.machine) (g.M.Machine.contents c.args.self.now.machine) refl))).goes

pub returns-in_default-clause-sound : goal.returns-in_default-clause-sound
returns-in_default-clause-sound g c = sound_marked c.args.b.0 _ _ (g.M.Machine.contents c.args.self.now.machine) c.args.self.now.tables c.mark.new.self c.requires.sound c.mark.ensures.marks

pub returns-in_default-clause-still : goal.returns-in_default-clause-still
returns-in_default-clause-still g c = still_same (g.M.Machine.contents c.args.self.now.machine) (g.M.Machine.contents c.args.self.now.machine) refl

pub returns-in_default-clause-others : goal.returns-in_default-clause-others
returns-in_default-clause-others g c = (frees_same c.args.b.0 (g.M.Machine.contents c.args.self.now.machine) (g.M.Machine.contents c.args.self.now.machine) refl).others

pub returns-in_default-clause-drops : goal.returns-in_default-clause-drops
returns-in_default-clause-drops g c = drops_narrows (g.M.Machine.contents c.args.self.now.machine) (g.M.Machine.contents c.args.self.now.machine) (narrows_same (g.M.Machine.contents c.args.self.now.machine) (g.M.Machine.contents c.args.self.now.machine) refl)

pub returns-in_err-drop_frame-clause-firm_block : goal.returns-in_err-drop_frame-clause-firm_block
returns-in_err-drop_frame-clause-firm_block g c = λ l. never_firm _ _ (marked_still c.args.b.0 _ c.args.self.now.tables c.mark.new.self c.drop_frame.new.t c.mark.ensures.marks c.drop_frame.ensures.tables) l

pub returns-in_err-drop_frame-clause-standing : goal.returns-in_err-drop_frame-clause-standing
returns-in_err-drop_frame-clause-standing g c = (settled c.args.b.0 (g.M.Machine.contents c.args.self.now.machine) (g.M.Machine.contents c.drop_frame.new.m) (g.M.Machine.run c.args.self.now.machine) (g.M.Machine.run c.drop_frame.new.m) c.args.self.now.tables c.drop_frame.new.t c.requires.idle c.drop_frame.ensures.frees (marks_then c.args.b.0 _ c.args.self.now.tables c.mark.new.self c.drop_frame.new.t c.mark.ensures.marks c.drop_frame.ensures.tables) c.drop_frame.ensures.lasts c.drop_frame.ensures.ends.steps (few_still c.args.b.0 _ (g.M.Machine.contents c.args.self.now.machine) (g.M.Machine.contents c.drop_frame.new.m) c.drop_frame.ensures.still)).standing

pub returns-in_err-drop_frame-clause-firm : goal.returns-in_err-drop_frame-clause-firm
returns-in_err-drop_frame-clause-firm g c = (settled c.args.b.0 (g.M.Machine.contents c.args.self.now.machine) (g.M.Machine.contents c.drop_frame.new.m) (g.M.Machine.run c.args.self.now.machine) (g.M.Machine.run c.drop_frame.new.m) c.args.self.now.tables c.drop_frame.new.t c.requires.idle c.drop_frame.ensures.frees (marks_then c.args.b.0 _ c.args.self.now.tables c.mark.new.self c.drop_frame.new.t c.mark.ensures.marks c.drop_frame.ensures.tables) c.drop_frame.ensures.lasts c.drop_frame.ensures.ends.steps (few_still c.args.b.0 _ (g.M.Machine.contents c.args.self.now.machine) (g.M.Machine.contents c.drop_frame.new.m) c.drop_frame.ensures.still)).firm

pub returns-in_err-drop_frame-clause-goes : goal.returns-in_err-drop_frame-clause-goes
returns-in_err-drop_frame-clause-goes g c = (settled c.args.b.0 (g.M.Machine.contents c.args.self.now.machine) (g.M.Machine.contents c.drop_frame.new.m) (g.M.Machine.run c.args.self.now.machine) (g.M.Machine.run c.drop_frame.new.m) c.args.self.now.tables c.drop_frame.new.t c.requires.idle c.drop_frame.ensures.frees (marks_then c.args.b.0 _ c.args.self.now.tables c.mark.new.self c.drop_frame.new.t c.mark.ensures.marks c.drop_frame.ensures.tables) c.drop_frame.ensures.lasts c.drop_frame.ensures.ends.steps (few_still c.args.b.0 _ (g.M.Machine.contents c.args.self.now.machine) (g.M.Machine.contents c.drop_frame.new.m) c.drop_frame.ensures.still)).goes

pub returns-in_err-drop_frame-clause-idle : goal.returns-in_err-drop_frame-clause-idle
returns-in_err-drop_frame-clause-idle g c = (settled c.args.b.0 (g.M.Machine.contents c.args.self.now.machine) (g.M.Machine.contents c.drop_frame.new.m) (g.M.Machine.run c.args.self.now.machine) (g.M.Machine.run c.drop_frame.new.m) c.args.self.now.tables c.drop_frame.new.t c.requires.idle c.drop_frame.ensures.frees (marks_then c.args.b.0 _ c.args.self.now.tables c.mark.new.self c.drop_frame.new.t c.mark.ensures.marks c.drop_frame.ensures.tables) c.drop_frame.ensures.lasts c.drop_frame.ensures.ends.steps (few_still c.args.b.0 _ (g.M.Machine.contents c.args.self.now.machine) (g.M.Machine.contents c.drop_frame.new.m) c.drop_frame.ensures.still)).idle

pub returns-in_err-drop_frame-clause-drops : goal.returns-in_err-drop_frame-clause-drops
returns-in_err-drop_frame-clause-drops g c = drops_narrows (g.M.Machine.contents c.args.self.now.machine) (g.M.Machine.contents c.drop_frame.new.m) c.drop_frame.ensures.narrows

pub returns-clause-ok : goal.returns-clause-ok
returns-clause-ok g c = (loose_marked _ _ (marked_still c.args.b.0 _ c.args.self.now.tables c.mark.new.self c.drop_frame.new.t c.mark.ensures.marks c.drop_frame.ensures.tables), ap is_some c.in_ok-drop_frame.ensures.gone)

pub returns-clause-ends : goal.returns-clause-ends
returns-clause-ends g c = halts_of _ _ _ _ _ c.drop_frame.ensures.lasts c.in_ok-drop_frame.ensures.ends

pub returns-clause-firm_block : goal.returns-clause-firm_block
returns-clause-firm_block g c = λ l. never_firm _ _ (marked_still c.args.b.0 _ c.args.self.now.tables c.mark.new.self c.drop_frame.new.t c.mark.ensures.marks c.drop_frame.ensures.tables) l

pub returns-clause-standing : goal.returns-clause-standing
returns-clause-standing g c = (settled c.args.b.0 (g.M.Machine.contents c.args.self.now.machine) (g.M.Machine.contents c.drop_frame.new.m) (g.M.Machine.run c.args.self.now.machine) (g.M.Machine.run c.drop_frame.new.m) c.args.self.now.tables c.drop_frame.new.t c.requires.idle c.drop_frame.ensures.frees (marks_then c.args.b.0 _ c.args.self.now.tables c.mark.new.self c.drop_frame.new.t c.mark.ensures.marks c.drop_frame.ensures.tables) c.drop_frame.ensures.lasts c.drop_frame.ensures.ends.steps (few_still c.args.b.0 _ (g.M.Machine.contents c.args.self.now.machine) (g.M.Machine.contents c.drop_frame.new.m) c.drop_frame.ensures.still)).standing

pub returns-clause-firm : goal.returns-clause-firm
returns-clause-firm g c = (settled c.args.b.0 (g.M.Machine.contents c.args.self.now.machine) (g.M.Machine.contents c.drop_frame.new.m) (g.M.Machine.run c.args.self.now.machine) (g.M.Machine.run c.drop_frame.new.m) c.args.self.now.tables c.drop_frame.new.t c.requires.idle c.drop_frame.ensures.frees (marks_then c.args.b.0 _ c.args.self.now.tables c.mark.new.self c.drop_frame.new.t c.mark.ensures.marks c.drop_frame.ensures.tables) c.drop_frame.ensures.lasts c.drop_frame.ensures.ends.steps (few_still c.args.b.0 _ (g.M.Machine.contents c.args.self.now.machine) (g.M.Machine.contents c.drop_frame.new.m) c.drop_frame.ensures.still)).firm

pub returns-clause-goes : goal.returns-clause-goes
returns-clause-goes g c = (settled c.args.b.0 (g.M.Machine.contents c.args.self.now.machine) (g.M.Machine.contents c.drop_frame.new.m) (g.M.Machine.run c.args.self.now.machine) (g.M.Machine.run c.drop_frame.new.m) c.args.self.now.tables c.drop_frame.new.t c.requires.idle c.drop_frame.ensures.frees (marks_then c.args.b.0 _ c.args.self.now.tables c.mark.new.self c.drop_frame.new.t c.mark.ensures.marks c.drop_frame.ensures.tables) c.drop_frame.ensures.lasts c.drop_frame.ensures.ends.steps (few_still c.args.b.0 _ (g.M.Machine.contents c.args.self.now.machine) (g.M.Machine.contents c.drop_frame.new.m) c.drop_frame.ensures.still)).goes

pub returns-clause-idle : goal.returns-clause-idle
returns-clause-idle g c = (settled c.args.b.0 (g.M.Machine.contents c.args.self.now.machine) (g.M.Machine.contents c.drop_frame.new.m) (g.M.Machine.run c.args.self.now.machine) (g.M.Machine.run c.drop_frame.new.m) c.args.self.now.tables c.drop_frame.new.t c.requires.idle c.drop_frame.ensures.frees (marks_then c.args.b.0 _ c.args.self.now.tables c.mark.new.self c.drop_frame.new.t c.mark.ensures.marks c.drop_frame.ensures.tables) c.drop_frame.ensures.lasts c.drop_frame.ensures.ends.steps (few_still c.args.b.0 _ (g.M.Machine.contents c.args.self.now.machine) (g.M.Machine.contents c.drop_frame.new.m) c.drop_frame.ensures.still)).idle

pub returns-clause-drops : goal.returns-clause-drops
returns-clause-drops g c = drops_narrows (g.M.Machine.contents c.args.self.now.machine) (g.M.Machine.contents c.drop_frame.new.m) c.drop_frame.ensures.narrows

pub returns-in_default-clause-freed : goal.returns-in_default-clause-freed
returns-in_default-clause-freed g c = freed_none c.args.b.0 (g.M.Machine.contents c.args.self.now.machine).words c.args.self.now.tables c.mark.new.self (none_bound c.args.b.0 _ (g.M.Machine.contents c.args.self.now.machine) c.mark.new.self (sound_marked c.args.b.0 _ _ (g.M.Machine.contents c.args.self.now.machine) c.args.self.now.tables c.mark.new.self c.requires.sound c.mark.ensures.marks) (c.in_default.ensures.none refl)) (marked_order c.args.self.now.tables c.mark.new.self c.mark.ensures.marks.rest)

pub returns-in_err-drop_frame-clause-order : goal.returns-in_err-drop_frame-clause-order
returns-in_err-drop_frame-clause-order g c = λ _. c.in_err-drop_frame.ensures.order ∙ marked_order c.args.self.now.tables c.mark.new.self c.mark.ensures.marks.rest

pub returns-clause-freed : goal.returns-clause-freed
returns-clause-freed g c = freed_some c.args.b.0 c.in-Some.k (g.M.Machine.contents c.args.self.now.machine).words c.args.self.now.tables c.mark.new.self c.drop_frame.new.t (some_bound c.args.b.0 c.in-Some.k _ (g.M.Machine.contents c.args.self.now.machine) c.mark.new.self (sound_marked c.args.b.0 _ _ (g.M.Machine.contents c.args.self.now.machine) c.args.self.now.tables c.mark.new.self c.requires.sound c.mark.ensures.marks) c.in-Some.ensures.some.0 c.in-Some.ensures.some.1) (marked_order c.args.self.now.tables c.mark.new.self c.mark.ensures.marks.rest) c.in_ok-drop_frame.ensures.freed

pub returns-in_default-clause-order : goal.returns-in_default-clause-order
returns-in_default-clause-order g c q = absurd (true_false (sym q))

pub returns-clause-order : goal.returns-clause-order
returns-clause-order g c q = absurd (true_false (sym q))

pub returns-in_default-clause-stay : goal.returns-in_default-clause-stay
returns-in_default-clause-stay g c = others_stay c.args.b.0 _ _ (stay_hit (g.M.Machine.contents c.args.self.now.machine) (g.M.Machine.contents c.args.self.now.machine) refl)

pub returns-in_default-clause-kept : goal.returns-in_default-clause-kept
returns-in_default-clause-kept g c q = absurd (true_false (sym q))

pub returns-in_err-drop_frame-clause-kept : goal.returns-in_err-drop_frame-clause-kept
returns-in_err-drop_frame-clause-kept g c q = stay_hit (g.M.Machine.contents c.args.self.now.machine) (g.M.Machine.contents c.drop_frame.new.m) (c.in_err-drop_frame.ensures.same refl)

pub returns-clause-kept : goal.returns-clause-kept
returns-clause-kept g c q = absurd (true_false (sym q))

pub returns-in_default-clause-marks : goal.returns-in_default-clause-marks
returns-in_default-clause-marks g c = marks_refl None _

pub returns-in_default-clause-ends : goal.returns-in_default-clause-ends
returns-in_default-clause-ends g c = halts_none tt _

pub returns-in_err-drop_frame-clause-ok : goal.returns-in_err-drop_frame-clause-ok
returns-in_err-drop_frame-clause-ok g c = not_ok _ c.from_residual.result c.from_residual.ensures.0

pub returns-in_err-drop_frame-clause-freed : goal.returns-in_err-drop_frame-clause-freed
returns-in_err-drop_frame-clause-freed g c = not_ok _ c.from_residual.result c.from_residual.ensures.0

pub returns-in_err-drop_frame-clause-ends : goal.returns-in_err-drop_frame-clause-ends
returns-in_err-drop_frame-clause-ends g c = halts_err (g.M.Machine.contents c.args.self.now.machine) (g.M.Machine.contents c.drop_frame.new.m) (g.M.Machine.run c.args.self.now.machine) (g.M.Machine.run c.drop_frame.new.m) _ _ c.from_residual.ensures.0 refl c.drop_frame.ensures.lasts c.in_err-drop_frame.ensures.ends
