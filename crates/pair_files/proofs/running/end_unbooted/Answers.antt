use Rattle.std.proofs.Common.{◌∙◌, arith, subst, sym}
use Rattle.pair_files.specs.Stages.{IsFailed}
use Rattle.pair_files.proofs.Endings.{either_fault, either_memory, either_stopped, ended_image, ended_volume, failed_around}
use Rattle.pair_files.proofs.running.end_unbooted.Goals as goal

pub returns-in-BadVolume-clause-ended : goal.returns-in-BadVolume-clause-ended
returns-in-BadVolume-clause-ended g c = λ o streams of failed.
    let contents = g.B.M.Machine.contents c.args.machine in
    let run = g.B.M.Machine.run c.args.machine in
    ended_volume o contents run c.in-BadVolume.rule c.in-BadVolume.block _ (subst (IsFailed o contents run) c.in-BadVolume.is failed) (c.hand_back-in-BadVolume.ensures.files o.told failed.made.disk.asked o.disk (failed_around o contents run c.args.fail failed)) (sym of.streams_are) (let count = c.hand_back-in-BadVolume.ensures.faults in omega (arith, count)) (λ e. c.hand_back-in-BadVolume.ensures.left (sym c.hand_back-in-BadVolume.ensures.tells ∙ e))

pub returns-in-Memory-clause-ended : goal.returns-in-Memory-clause-ended
returns-in-Memory-clause-ended g c = λ o streams of failed.
    let contents = g.B.M.Machine.contents c.args.machine in
    let run = g.B.M.Machine.run c.args.machine in
    either_memory o contents run _ c.end_saved.result.0 of.two (sym of.streams_are) (subst (IsFailed o contents run) c.in-Memory.is failed) (c.end_saved.ensures.saved o streams failed.made.disk.asked of.image_is (failed_around o contents run c.args.fail failed))

pub returns-in-Fault-clause-ended : goal.returns-in-Fault-clause-ended
returns-in-Fault-clause-ended g c = λ o streams of failed.
    let contents = g.B.M.Machine.contents c.args.machine in
    let run = g.B.M.Machine.run c.args.machine in
    either_fault o contents run _ c.end_saved-in-Fault.result.0 of.two (sym of.streams_are) (subst (IsFailed o contents run) c.in-Fault.is failed) (c.end_saved-in-Fault.ensures.saved o streams failed.made.disk.asked of.image_is (failed_around o contents run c.args.fail failed))

pub returns-in-Stopped-clause-ended : goal.returns-in-Stopped-clause-ended
returns-in-Stopped-clause-ended g c = λ o streams of failed.
    let contents = g.B.M.Machine.contents c.args.machine in
    let run = g.B.M.Machine.run c.args.machine in
    either_stopped o contents run _ c.end_saved-in-Stopped.result.0 of.two (sym of.streams_are) (subst (IsFailed o contents run) c.in-Stopped.is failed) (c.end_saved-in-Stopped.ensures.saved o streams failed.made.disk.asked of.image_is (failed_around o contents run c.args.fail failed))

pub returns-in-BadImage-clause-ended : goal.returns-in-BadImage-clause-ended
returns-in-BadImage-clause-ended g c = λ o streams of failed.
    let contents = g.B.M.Machine.contents c.args.machine in
    let run = g.B.M.Machine.run c.args.machine in
    ended_image o contents run c.in-BadImage.rule _ (subst (IsFailed o contents run) c.in-BadImage.is failed)
