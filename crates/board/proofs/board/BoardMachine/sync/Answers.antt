use Rattle.std.proofs.Common.{◌≡◌, ◌∙◌, List, ap, refl, subst, sym}
use Rattle.rio_base.specs.Failures.{Rose}
use Rattle.rio_base.specs.Disks.{DiskContents, FaultsLast, with_synced}
use Rattle.rio_base.specs.Machine.{Falls}
use Rattle.rio_base.specs.Rules.{true_false}
use Rattle.rio_base.proofs.MachineRules.{never}
use Rattle.board.specs.Boards.{protected_count, running_of, scratch_of}
use Rattle.board.proofs.DiskSteps.{disk_contents, ends_by, no_stop, on_err, on_ok, synced_contents, synced_lasts, unmade_lasts, unsynced, unsynced_contents}
use Rattle.board.proofs.Runs.{halted_advances, step_advances}
use Rattle.board.proofs.board.BoardMachine.sync.Goals as goal

pub returns-then-is_err-clause-begun : goal.returns-then-is_err-clause-begun
returns-then-is_err-clause-begun g c = λ n. absurd (n refl)

pub returns-then-is_err-clause-cut : goal.returns-then-is_err-clause-cut
returns-then-is_err-clause-cut g c =
    let old = c.args.self.now in
    let mid = c.begin.new.self in
    let words = g.F.MemWords.words in
    let disk = g.D.DiskBlocks.contents in
    let same : disk mid.disk ≡ disk old.disk = ap disk c.begin.ensures.disk in
    λ s. (disk_contents (words old.mem) (words mid.mem) old.scratch mid.scratch (disk old.disk) (disk mid.disk) old.guard mid.guard c.begin.ensures.protected c.begin.ensures.open_page same, (halted_advances _ old.guard mid.guard (words old.mem) (words mid.mem) old.scratch mid.scratch (on_err c.begin.result _ (sym c.if-is_err.ensures.value) c.begin.ensures.stops)))

pub returns-then-is_err-clause-ends : goal.returns-then-is_err-clause-ends
returns-then-is_err-clause-ends g c = ends_by _ _ _ _ (λ s. sym c.if-is_err.ensures.value) (λ w. refl) c.begin.ensures.ends

pub returns-then-is_err-clause-falls : goal.returns-then-is_err-clause-falls
returns-then-is_err-clause-falls g c =
    let old = c.args.self.now in
    let mid = c.begin.new.self in
    let words = g.F.MemWords.words in
    subst (λ o. Falls o (running_of (words old.mem) old.scratch old.guard) (running_of (words mid.mem) mid.scratch mid.guard)) c.requires.closed c.begin.ensures.falls

pub returns-then-is_err-clause-fault : goal.returns-then-is_err-clause-fault
returns-then-is_err-clause-fault g c = λ f. absurd (no_stop (sym f))

pub returns-then-is_err-clause-halted : goal.returns-then-is_err-clause-halted
returns-then-is_err-clause-halted g c = λ s. refl

pub returns-then-is_err-clause-lasts : goal.returns-then-is_err-clause-lasts
returns-then-is_err-clause-lasts g c =
    let old = c.args.self.now in
    let mid = c.begin.new.self in
    let words = g.F.MemWords.words in
    let disk = g.D.DiskBlocks.contents in
    let same : disk mid.disk ≡ disk old.disk = ap disk c.begin.ensures.disk in
    unmade_lasts _ _ (disk_contents (words old.mem) (words mid.mem) old.scratch mid.scratch (disk old.disk) (disk mid.disk) old.guard mid.guard c.begin.ensures.protected c.begin.ensures.open_page same)

pub returns-then-is_err-clause-made : goal.returns-then-is_err-clause-made
returns-then-is_err-clause-made g c = λ n. absurd (n refl)

pub returns-then-is_err-clause-not_begun : goal.returns-then-is_err-clause-not_begun
returns-then-is_err-clause-not_begun g c = λ s. on_err c.begin.result _ (sym c.if-is_err.ensures.value) c.begin.ensures.stops

pub returns-then-is_err-clause-same : goal.returns-then-is_err-clause-same
returns-then-is_err-clause-same g c =
    let old = c.args.self.now in
    let mid = c.begin.new.self in
    let words = g.F.MemWords.words in
    let disk = g.D.DiskBlocks.contents in
    let same : disk mid.disk ≡ disk old.disk = ap disk c.begin.ensures.disk in
    unsynced_contents (words old.mem) (words mid.mem) old.scratch mid.scratch (disk old.disk) (disk mid.disk) old.guard mid.guard c.begin.ensures.protected c.begin.ensures.open_page (unsynced _ _ same)

pub returns-then-is_err-clause-stops : goal.returns-then-is_err-clause-stops
returns-then-is_err-clause-stops g c = (λ s. c.begin.ensures.halts.0 (sym c.if-is_err.ensures.value), λ h. refl)

pub returns-then-is_err-clause-unchanged : goal.returns-then-is_err-clause-unchanged
returns-then-is_err-clause-unchanged g c =
    let old = c.args.self.now in
    let mid = c.begin.new.self in
    let words = g.F.MemWords.words in
    λ s. ap (λ (ws : List _). scratch_of ws mid.scratch) (on_err c.begin.result _ (sym c.if-is_err.ensures.value) c.begin.ensures.unmoved) ∙ ap (λ p. scratch_of (words old.mem) p) c.begin.ensures.scratch

pub returns-in-Ok-clause-begun : goal.returns-in-Ok-clause-begun
returns-in-Ok-clause-begun g c = λ n. on_ok c.begin.result _ (sym c.if-is_err.ensures.value) c.begin.ensures.made

pub returns-in-Ok-clause-cut : goal.returns-in-Ok-clause-cut
returns-in-Ok-clause-cut g c = λ s. absurd (never _ _ s)

pub returns-in-Ok-clause-ends : goal.returns-in-Ok-clause-ends
returns-in-Ok-clause-ends g c = ends_by _ _ _ _ (λ s. absurd (never _ _ s)) (λ w. absurd (true_false (sym w ∙ sym c.if-is_err.ensures.value))) c.begin.ensures.ends

pub returns-in-Ok-clause-falls : goal.returns-in-Ok-clause-falls
returns-in-Ok-clause-falls g c =
    let old = c.args.self.now in
    let mid = c.begin.new.self in
    let words = g.F.MemWords.words in
    subst (λ o. Falls o (running_of (words old.mem) old.scratch old.guard) (running_of (words mid.mem) mid.scratch mid.guard)) c.requires.closed c.begin.ensures.falls

pub returns-in-Ok-clause-fault : goal.returns-in-Ok-clause-fault
returns-in-Ok-clause-fault g c = λ s. absurd (never _ _ s)

pub returns-in-Ok-clause-halted : goal.returns-in-Ok-clause-halted
returns-in-Ok-clause-halted g c = λ s. absurd (true_false (sym s ∙ on_ok c.begin.result _ (sym c.if-is_err.ensures.value) c.begin.ensures.running))

pub returns-in-Ok-clause-lasts : goal.returns-in-Ok-clause-lasts
returns-in-Ok-clause-lasts g c =
    let old = c.args.self.now in
    let mid = c.begin.new.self in
    let words = g.F.MemWords.words in
    let disk = g.D.DiskBlocks.contents in
    let same : disk c.sync.new.self ≡ with_synced (disk old.disk) (disk c.sync.new.self).faults = subst (λ (d : DiskContents). disk c.sync.new.self ≡ with_synced d (disk c.sync.new.self).faults) (ap disk c.begin.ensures.disk) c.in-Ok.ensures.ok in
    synced_lasts _ _ _ (synced_contents (words old.mem) (words mid.mem) old.scratch mid.scratch (disk old.disk) (disk c.sync.new.self) old.guard mid.guard c.begin.ensures.protected c.begin.ensures.open_page same) (subst (λ (d : DiskContents). FaultsLast d.faults (disk c.sync.new.self).faults) (ap disk c.begin.ensures.disk) c.sync.ensures.cause.last)

pub returns-in-Ok-clause-made : goal.returns-in-Ok-clause-made
returns-in-Ok-clause-made g c =
    let old = c.args.self.now in
    let mid = c.begin.new.self in
    let words = g.F.MemWords.words in
    λ n. (step_advances (protected_count (words old.mem) old.scratch) (scratch_of (words old.mem) old.scratch) (scratch_of (words mid.mem) mid.scratch) old.guard mid.guard (words old.mem) (words mid.mem) old.scratch mid.scratch (on_ok c.begin.result _ (sym c.if-is_err.ensures.value) c.begin.ensures.made))

pub returns-in-Ok-clause-not_begun : goal.returns-in-Ok-clause-not_begun
returns-in-Ok-clause-not_begun g c = λ s. absurd (never _ _ s)

pub returns-in-Ok-clause-stops : goal.returns-in-Ok-clause-stops
returns-in-Ok-clause-stops g c = (λ s. absurd (never _ _ s), λ h. absurd (true_false (sym (c.begin.ensures.halts.1 h) ∙ sym c.if-is_err.ensures.value)))

pub returns-in-Ok-clause-synced : goal.returns-in-Ok-clause-synced
returns-in-Ok-clause-synced g c =
    let old = c.args.self.now in
    let mid = c.begin.new.self in
    let words = g.F.MemWords.words in
    let disk = g.D.DiskBlocks.contents in
    let same : disk c.sync.new.self ≡ with_synced (disk old.disk) (disk c.sync.new.self).faults = subst (λ (d : DiskContents). disk c.sync.new.self ≡ with_synced d (disk c.sync.new.self).faults) (ap disk c.begin.ensures.disk) c.in-Ok.ensures.ok in
    synced_contents (words old.mem) (words mid.mem) old.scratch mid.scratch (disk old.disk) (disk c.sync.new.self) old.guard mid.guard c.begin.ensures.protected c.begin.ensures.open_page same

pub returns-in-Ok-clause-unchanged : goal.returns-in-Ok-clause-unchanged
returns-in-Ok-clause-unchanged g c = λ s. absurd (never _ _ s)

pub returns-in-Err-clause-begun : goal.returns-in-Err-clause-begun
returns-in-Err-clause-begun g c = λ n. on_ok c.begin.result _ (sym c.if-is_err.ensures.value) c.begin.ensures.made

pub returns-in-Err-clause-cut : goal.returns-in-Err-clause-cut
returns-in-Err-clause-cut g c = λ s. absurd (no_stop s)

pub returns-in-Err-clause-ends : goal.returns-in-Err-clause-ends
returns-in-Err-clause-ends g c = ends_by _ _ _ _ (λ s. absurd (no_stop s)) (λ w. absurd (true_false (sym w ∙ sym c.if-is_err.ensures.value))) c.begin.ensures.ends

pub returns-in-Err-clause-falls : goal.returns-in-Err-clause-falls
returns-in-Err-clause-falls g c =
    let old = c.args.self.now in
    let mid = c.begin.new.self in
    let words = g.F.MemWords.words in
    subst (λ o. Falls o (running_of (words old.mem) old.scratch old.guard) (running_of (words mid.mem) mid.scratch mid.guard)) c.requires.closed c.begin.ensures.falls

pub returns-in-Err-clause-fault : goal.returns-in-Err-clause-fault
returns-in-Err-clause-fault g c =
    let disk = g.D.DiskBlocks.contents in
    λ f. subst (λ (d : DiskContents). Rose d.faults.count (disk c.sync.new.self).faults.count) (ap disk c.begin.ensures.disk) c.in-Err.ensures.cause.cause

pub returns-in-Err-clause-halted : goal.returns-in-Err-clause-halted
returns-in-Err-clause-halted g c = λ s. absurd (true_false (sym s ∙ on_ok c.begin.result _ (sym c.if-is_err.ensures.value) c.begin.ensures.running))

pub returns-in-Err-clause-lasts : goal.returns-in-Err-clause-lasts
returns-in-Err-clause-lasts g c =
    let old = c.args.self.now in
    let mid = c.begin.new.self in
    let words = g.F.MemWords.words in
    let disk = g.D.DiskBlocks.contents in
    let same : disk c.sync.new.self ≡ record (disk old.disk) { faults = (disk c.sync.new.self).faults } = subst (λ (d : DiskContents). disk c.sync.new.self ≡ record d { faults = (disk c.sync.new.self).faults }) (ap disk c.begin.ensures.disk) c.in-Err.ensures.err in
    synced_lasts _ _ _ (unsynced_contents (words old.mem) (words mid.mem) old.scratch mid.scratch (disk old.disk) (disk c.sync.new.self) old.guard mid.guard c.begin.ensures.protected c.begin.ensures.open_page same) (subst (λ (d : DiskContents). FaultsLast d.faults (disk c.sync.new.self).faults) (ap disk c.begin.ensures.disk) c.sync.ensures.cause.last)

pub returns-in-Err-clause-made : goal.returns-in-Err-clause-made
returns-in-Err-clause-made g c =
    let old = c.args.self.now in
    let mid = c.begin.new.self in
    let words = g.F.MemWords.words in
    λ n. (step_advances (protected_count (words old.mem) old.scratch) (scratch_of (words old.mem) old.scratch) (scratch_of (words mid.mem) mid.scratch) old.guard mid.guard (words old.mem) (words mid.mem) old.scratch mid.scratch (on_ok c.begin.result _ (sym c.if-is_err.ensures.value) c.begin.ensures.made))

pub returns-in-Err-clause-not_begun : goal.returns-in-Err-clause-not_begun
returns-in-Err-clause-not_begun g c = λ s. absurd (no_stop s)

pub returns-in-Err-clause-same : goal.returns-in-Err-clause-same
returns-in-Err-clause-same g c =
    let old = c.args.self.now in
    let mid = c.begin.new.self in
    let words = g.F.MemWords.words in
    let disk = g.D.DiskBlocks.contents in
    let same : disk c.sync.new.self ≡ record (disk old.disk) { faults = (disk c.sync.new.self).faults } = subst (λ (d : DiskContents). disk c.sync.new.self ≡ record d { faults = (disk c.sync.new.self).faults }) (ap disk c.begin.ensures.disk) c.in-Err.ensures.err in
    unsynced_contents (words old.mem) (words mid.mem) old.scratch mid.scratch (disk old.disk) (disk c.sync.new.self) old.guard mid.guard c.begin.ensures.protected c.begin.ensures.open_page same

pub returns-in-Err-clause-stops : goal.returns-in-Err-clause-stops
returns-in-Err-clause-stops g c = (λ s. absurd (no_stop s), λ h. absurd (true_false (sym (c.begin.ensures.halts.1 h) ∙ sym c.if-is_err.ensures.value)))

pub returns-in-Err-clause-unchanged : goal.returns-in-Err-clause-unchanged
returns-in-Err-clause-unchanged g c = λ s. absurd (no_stop s)
