use Rattle.std.proofs.Common.{◌∙◌, arith, sym}
use Rattle.pair_files.proofs.StageRules.{same_memory, saved_by, unsaved_by}
use Rattle.pair_files.proofs.WorkEndings.{ended_unsaved_work, ended_worked}
use Rattle.pair_files.proofs.running.work_booted.Goals as goal

pub save-saved-requires-clause-pages : goal.save-saved-requires-clause-pages
save-saved-requires-clause-pages g c =
    let old = c.args.cache.machine in
    let new = c.work-machine.result.0 in
    let same = same_memory (g.B.M.Machine.contents old) (g.B.M.Machine.contents new) (g.B.M.Machine.run old) (g.B.M.Machine.run new) (g.met.B.M.Machine.protected_words old) (g.met.B.M.Machine.protected_words new) c.work-machine.ensures.lasts.memory in
    (c.requires.pages.0, c.requires.pages.1, c.requires.pages.2 ∙ sym same)

pub save-saved-requires-clause-bytes : goal.save-saved-requires-clause-bytes
save-saved-requires-clause-bytes g c =
    let old = c.args.cache.machine in
    let new = c.work-machine.result.0 in
    let same = same_memory (g.B.M.Machine.contents old) (g.B.M.Machine.contents new) (g.B.M.Machine.run old) (g.B.M.Machine.run new) (g.met.B.M.Machine.protected_words old) (g.met.B.M.Machine.protected_words new) c.work-machine.ensures.lasts.memory in
    omega (arith, same, c.requires.bytes)

pub returns-in-Ok-clause-ended : goal.returns-in-Ok-clause-ended
returns-in-Ok-clause-ended g c = λ o of h.
    let old = c.args.cache.machine in
    let new = c.work-machine.result.0 in
    ended_worked o (λ end before after. g.W.PairWork.does c.args.work.now before end after) c.work-machine.result.1 c.args.shape (g.B.M.Machine.contents old) (g.B.M.Machine.contents new) (g.B.M.Machine.run old) (g.B.M.Machine.run new) c.args.cache.tables _ _ (g.met.B.M.Machine.whole_blocks old) of.two of.streams_are h c.work-machine.ensures.works c.work-machine.ensures.lasts
    (saved_by o (g.B.M.Machine.contents new) (g.B.M.Machine.run new) _ _ c.save-saved.result.0 c.in-Ok.field-0 of.image_is c.in-Ok.is (c.save-saved.ensures.files o.told h.made.disk.asked o.disk (c.work-machine.ensures.lasts.around ∙ h.runs.around ∙ h.made.disk.around)) c.save-saved.ensures.fit c.save-saved.ensures.cause (c.requires.pages.0, c.save-saved.ensures.pages ∙ c.requires.pages.1) (λ e. c.save-saved.ensures.left (sym c.save-saved.ensures.tells ∙ e)))

pub returns-in-Err-clause-ended : goal.returns-in-Err-clause-ended
returns-in-Err-clause-ended g c = λ o of h.
    let old = c.args.cache.machine in
    let new = c.work-machine.result.0 in
    ended_unsaved_work o (λ end before after. g.W.PairWork.does c.args.work.now before end after) c.work-machine.result.1 c.args.shape (g.B.M.Machine.contents old) (g.B.M.Machine.contents new) (g.B.M.Machine.run old) (g.B.M.Machine.run new) c.args.cache.tables _ _ of.two of.streams_are h c.work-machine.ensures.works c.work-machine.ensures.lasts
    (unsaved_by o (g.B.M.Machine.contents new) (g.B.M.Machine.run new) _ _ c.save-saved.result.0 c.in-Err.field-0 c.in-Err.is (c.save-saved.ensures.files o.told h.made.disk.asked o.disk (c.work-machine.ensures.lasts.around ∙ h.runs.around ∙ h.made.disk.around)) c.save-saved.ensures.fit c.save-saved.ensures.cause (c.requires.pages.0, c.save-saved.ensures.pages ∙ c.requires.pages.1) (λ e. c.save-saved.ensures.left (sym c.save-saved.ensures.tells ∙ e)))
