use Rattle.std.proofs.Common.{◌∙◌, ◌+◌, ◌*◌, ap, length, subst, sym}
use Rattle.rio_base.specs.Disks.{is_pending}
use Rattle.rio_base.specs.Image.{HasHeader}
use Rattle.rio_base.specs.Machine.{Contents, Running}
use Rattle.board.specs.Boards.{protected_of}
use Rattle.rio_model.specs.Registry.{HasLayout, KeepsRegistry}
use Rattle.pair_files.specs.Scenes.{AsksUnarmed}
use Rattle.pair_files.proofs.Endings.{ended_early}
use Rattle.pair_files.proofs.StageRules.{ended_unmade, has_begun, is_made, read_header, read_long}
use Rattle.pair_files.proofs.running.work_loaded.Goals as goal

-- ---- what is asked of the machine

pub work_made-requires-clause-header : goal.work_made-requires-clause-header
work_made-requires-clause-header g c = subst (λ (y : Contents). HasHeader y.words) (sym c.in-Ok.ensures.contents) (read_header c.args.loaded.image.bytes.items c.args.loaded.image.words.items c.args.loaded.image.scratch c.requires.read)

pub work_made-requires-clause-layout : goal.work_made-requires-clause-layout
work_made-requires-clause-layout g c = subst (λ (y : Contents). HasLayout y.words (g.B.M.Machine.run c.in-Ok.machine).scratch) (sym c.in-Ok.ensures.contents) (subst (λ (r : Running). HasLayout (protected_of c.args.loaded.image.words.items c.args.loaded.image.scratch) r.scratch) (sym c.in-Ok.ensures.run) c.requires.read.layout)

pub work_made-requires-clause-keeps : goal.work_made-requires-clause-keeps
work_made-requires-clause-keeps g c = subst (λ (y : Contents). KeepsRegistry y.words) (sym c.in-Ok.ensures.contents) c.requires.read.keeps

pub work_made-requires-clause-closed : goal.work_made-requires-clause-closed
work_made-requires-clause-closed g c = ap (λ (y : Contents). y.open_page) c.in-Ok.ensures.contents

pub work_made-requires-clause-settled : goal.work_made-requires-clause-settled
work_made-requires-clause-settled g c = λ b. ap (λ (y : Contents). is_pending y.pending b) c.in-Ok.ensures.contents ∙ c.requires.settled b

pub work_made-requires-clause-bytes : goal.work_made-requires-clause-bytes
work_made-requires-clause-bytes g c =
    let sizes = ap (λ (y : Contents). 8 * (length y.words + length (g.B.M.Machine.run c.in-Ok.machine).scratch)) c.in-Ok.ensures.contents in
    let scratch = ap (λ (r : Running). 8 * (length (protected_of c.args.loaded.image.words.items c.args.loaded.image.scratch) + length r.scratch)) c.in-Ok.ensures.run in
    read_long c.args.loaded.image.bytes.items c.args.loaded.image.words.items c.args.loaded.image.scratch c.requires.read ∙ sym scratch ∙ sym sizes

pub work_made-requires-clause-unarmed : goal.work_made-requires-clause-unarmed
work_made-requires-clause-unarmed g c = ap (λ (r : Running). r.armed) c.in-Ok.ensures.run

pub work_made-requires-clause-asks : goal.work_made-requires-clause-asks
work_made-requires-clause-asks g c = subst (AsksUnarmed (g.W.PairWork.asks c.args.work.now)) (sym (ap (λ (r : Running). r.stop_set) c.in-Ok.ensures.run)) c.requires.asks

-- ---- how it ends

pub returns-in-Ok-clause-ended : goal.returns-in-Ok-clause-ended
returns-in-Ok-clause-ended g c = λ o of found. c.work_made.ensures.ended o of (is_made o _ _ _ _ _ (g.B.M.Machine.contents c.in-Ok.machine) (g.B.M.Machine.run c.in-Ok.machine) c.in-Ok.ensures.contents c.in-Ok.ensures.run found)

pub returns-in-Ok-clause-began : goal.returns-in-Ok-clause-began
returns-in-Ok-clause-began g c = λ o found n made tells. has_begun o _ _ _ _ _ _ found (c.work_made.ensures.began ∙ c.in-Ok.ensures.began (sym c.make_machine.ensures.tells_start ∙ sym c.work_made.ensures.tells_start ∙ tells))

pub returns-in-Err-clause-ended : goal.returns-in-Err-clause-ended
returns-in-Err-clause-ended g c = λ o of found. ended_early o (λ end before after. g.W.PairWork.does c.args.work.now before end after) _ _ (ended_unmade o _ _ _ _ _ _ _ _ _ found c.in-Err.ensures.back c.into_host.ensures.file c.into_host.ensures.around c.into_host.ensures.fit c.into_host.ensures.faults (sym of.streams_are) (ap (λ b. g.B.Bench.pages b) c.in-Err.ensures.same ∙ c.requires.unmade))
