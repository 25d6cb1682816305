use Rattle.std.proofs.Common.{◌≡◌, ◌≤◌, ◌+◌, ◌*◌, ◌∙◌, List, length, ap, refl, subst, sym, arith}
use Rattle.std.proofs.lemmas.List.{take-append-drop}
use Rattle.rio_base.specs.Failures.{Rose}
use Rattle.rio_base.specs.Disks.{DiskContents, FaultsLast, block_at, with_torn, with_written}
use Rattle.rio_base.specs.Machine.{Falls}
use Rattle.rio_base.specs.Memory.{page_at}
use Rattle.rio_base.specs.Rules.{true_false}
use Rattle.rio_base.proofs.MachineRules.{never}
use Rattle.board.specs.BoardLaws.{pages_protected}
use Rattle.board.specs.Boards.{protected_count, running_of, scratch_of}
use Rattle.board.proofs.DiskSteps.{disk_contents, ends_by, made_writes, marked_lasts, no_stop, on_err, on_ok, torn_contents, torn_writes, unmade_contents, unmade_writes, written_lasts}
use Rattle.board.proofs.Places.{page_in_memory, page_length, page_lent, written_block}
use Rattle.board.proofs.Runs.{halted_advances, step_advances}
use Rattle.board.proofs.board.BoardMachine.write_block.Goals as goal

pub write-requires-clause-words : goal.write-requires-clause-words
write-requires-clause-words g c =
    let old = c.args.self.now in
    let words = g.F.MemWords.words in
    let p = c.args.from.0 in
    let within : 512 * p + 512 ≤ length (words c.begin.new.self.mem) = omega (arith, page_in_memory (words old.mem) old.scratch p old.whole c.requires.from, c.begin.ensures.count) in
    rw c.frame.ensures (page_length (words c.begin.new.self.mem) p within)

pub returns-in-Ok-clause-protected : goal.returns-in-Ok-clause-protected
returns-in-Ok-clause-protected g c = λ h.
    let old = c.args.self.now in
    let mid = c.begin.new.self in
    let words = g.F.MemWords.words in
    let contents = g.D.DiskBlocks.contents in
    page_lent (words old.mem) (words mid.mem) old.scratch mid.scratch c.args.from.0 (block_at (contents c.write.new.self).blocks c.args.b.0)
    c.begin.ensures.protected
    (pages_protected (words old.mem) old.scratch old.whole old.room)
    h
    (written_block (contents mid.disk) (contents c.write.new.self) c.args.b.0 c.frame.result.now (contents c.write.new.self).faults (rw c.begin.ensures.disk c.requires.block) c.in-Ok.ensures.writes ∙ c.frame.ensures)

pub tear-requires : goal.tear-requires
tear-requires g c = record { block = rw c.begin.ensures.disk c.requires.block }

pub write-requires-clause-block : goal.write-requires-clause-block
write-requires-clause-block g c = rw c.begin.ensures.disk c.requires.block

pub returns-then-running-clause-begun : goal.returns-then-running-clause-begun
returns-then-running-clause-begun g c = λ n. absurd (n refl)

pub returns-then-running-clause-cut : goal.returns-then-running-clause-cut
returns-then-running-clause-cut g c =
    let old = c.args.self.now in
    let mid = c.begin.new.self in
    let words = g.F.MemWords.words in
    let disk = g.D.DiskBlocks.contents in
    let same : disk c.tear.new.self ≡ with_torn (disk old.disk) c.args.b.0 = c.tear.ensures ∙ ap (λ (d : DiskContents). with_torn d c.args.b.0) (ap disk c.begin.ensures.disk) in
    λ s. (torn_contents (words old.mem) (words mid.mem) old.scratch mid.scratch (disk old.disk) (disk c.tear.new.self) old.guard mid.guard c.args.b.0 c.begin.ensures.protected c.begin.ensures.open_page same, (halted_advances _ old.guard mid.guard (words old.mem) (words mid.mem) old.scratch mid.scratch (on_err c.begin.result _ (sym c.if-is_err.ensures.value) c.begin.ensures.stops)))

pub returns-then-running-clause-ends : goal.returns-then-running-clause-ends
returns-then-running-clause-ends g c = ends_by _ _ _ _ (λ s. sym c.if-is_err.ensures.value) (λ w. refl) c.begin.ensures.ends

pub returns-then-running-clause-falls : goal.returns-then-running-clause-falls
returns-then-running-clause-falls g c =
    let old = c.args.self.now in
    let mid = c.begin.new.self in
    let words = g.F.MemWords.words in
    subst (λ o. Falls o (running_of (words old.mem) old.scratch old.guard) (running_of (words mid.mem) mid.scratch mid.guard)) c.requires.closed c.begin.ensures.falls

pub returns-then-running-clause-fault : goal.returns-then-running-clause-fault
returns-then-running-clause-fault g c = λ f. absurd (no_stop (sym f))

pub returns-then-running-clause-frozen : goal.returns-then-running-clause-frozen
returns-then-running-clause-frozen g c = λ s. absurd (true_false (sym s ∙ c.if-running.true))

pub returns-then-running-clause-halted : goal.returns-then-running-clause-halted
returns-then-running-clause-halted g c = λ s. refl

pub returns-then-running-clause-lasts : goal.returns-then-running-clause-lasts
returns-then-running-clause-lasts g c =
    let old = c.args.self.now in
    let mid = c.begin.new.self in
    let words = g.F.MemWords.words in
    let disk = g.D.DiskBlocks.contents in
    let same : disk c.tear.new.self ≡ with_torn (disk old.disk) c.args.b.0 = c.tear.ensures ∙ ap (λ (d : DiskContents). with_torn d c.args.b.0) (ap disk c.begin.ensures.disk) in
    marked_lasts _ _ (torn_contents (words old.mem) (words mid.mem) old.scratch mid.scratch (disk old.disk) (disk c.tear.new.self) old.guard mid.guard c.args.b.0 c.begin.ensures.protected c.begin.ensures.open_page same)

pub returns-then-running-clause-made : goal.returns-then-running-clause-made
returns-then-running-clause-made g c = λ n. absurd (n refl)

pub returns-then-running-clause-not_begun : goal.returns-then-running-clause-not_begun
returns-then-running-clause-not_begun g c = λ s. on_err c.begin.result _ (sym c.if-is_err.ensures.value) c.begin.ensures.stops

pub returns-then-running-clause-pending : goal.returns-then-running-clause-pending
returns-then-running-clause-pending g c =
    let old = c.args.self.now in
    let disk = g.D.DiskBlocks.contents in
    let same : disk c.tear.new.self ≡ with_torn (disk old.disk) c.args.b.0 = c.tear.ensures ∙ ap (λ (d : DiskContents). with_torn d c.args.b.0) (ap disk c.begin.ensures.disk) in
    λ r. ap (λ (d : DiskContents). d.pending) same

pub returns-then-running-clause-stops : goal.returns-then-running-clause-stops
returns-then-running-clause-stops g c = (λ s. c.begin.ensures.halts.0 (sym c.if-is_err.ensures.value), λ h. refl)

pub returns-then-running-clause-unchanged : goal.returns-then-running-clause-unchanged
returns-then-running-clause-unchanged g c =
    let old = c.args.self.now in
    let mid = c.begin.new.self in
    let words = g.F.MemWords.words in
    λ s. ap (λ (ws : List _). scratch_of ws mid.scratch) (on_err c.begin.result _ (sym c.if-is_err.ensures.value) c.begin.ensures.unmoved) ∙ ap (λ p. scratch_of (words old.mem) p) c.begin.ensures.scratch

pub returns-then-running-clause-writes_block : goal.returns-then-running-clause-writes_block
returns-then-running-clause-writes_block g c =
    let old = c.args.self.now in
    let mid = c.begin.new.self in
    let words = g.F.MemWords.words in
    let disk = g.D.DiskBlocks.contents in
    let same : disk c.tear.new.self ≡ with_torn (disk old.disk) c.args.b.0 = c.tear.ensures ∙ ap (λ (d : DiskContents). with_torn d c.args.b.0) (ap disk c.begin.ensures.disk) in
    torn_writes (words old.mem) (words mid.mem) old.scratch mid.scratch (disk old.disk) (disk c.tear.new.self) old.guard mid.guard c.args.b.0 c.begin.ensures.protected c.begin.ensures.open_page same

pub returns-else-running-clause-begun : goal.returns-else-running-clause-begun
returns-else-running-clause-begun g c = λ n. absurd (n refl)

pub returns-else-running-clause-cut : goal.returns-else-running-clause-cut
returns-else-running-clause-cut g c =
    let old = c.args.self.now in
    let mid = c.begin.new.self in
    let words = g.F.MemWords.words in
    let disk = g.D.DiskBlocks.contents in
    let same : disk mid.disk ≡ disk old.disk = ap disk c.begin.ensures.disk in
    λ s. (unmade_contents (words old.mem) (words mid.mem) old.scratch mid.scratch (disk old.disk) (disk mid.disk) old.guard mid.guard c.begin.ensures.protected c.begin.ensures.open_page same, (halted_advances _ old.guard mid.guard (words old.mem) (words mid.mem) old.scratch mid.scratch (on_err c.begin.result _ (sym c.if-is_err.ensures.value) c.begin.ensures.stops)))

pub returns-else-running-clause-ends : goal.returns-else-running-clause-ends
returns-else-running-clause-ends g c = ends_by _ _ _ _ (λ s. sym c.if-is_err.ensures.value) (λ w. refl) c.begin.ensures.ends

pub returns-else-running-clause-falls : goal.returns-else-running-clause-falls
returns-else-running-clause-falls g c =
    let old = c.args.self.now in
    let mid = c.begin.new.self in
    let words = g.F.MemWords.words in
    subst (λ o. Falls o (running_of (words old.mem) old.scratch old.guard) (running_of (words mid.mem) mid.scratch mid.guard)) c.requires.closed c.begin.ensures.falls

pub returns-else-running-clause-fault : goal.returns-else-running-clause-fault
returns-else-running-clause-fault g c = λ f. absurd (no_stop (sym f))

pub returns-else-running-clause-frozen : goal.returns-else-running-clause-frozen
returns-else-running-clause-frozen g c =
    let old = c.args.self.now in
    let mid = c.begin.new.self in
    let words = g.F.MemWords.words in
    let disk = g.D.DiskBlocks.contents in
    let same : disk mid.disk ≡ disk old.disk = ap disk c.begin.ensures.disk in
    λ s. disk_contents (words old.mem) (words mid.mem) old.scratch mid.scratch (disk old.disk) (disk mid.disk) old.guard mid.guard c.begin.ensures.protected c.begin.ensures.open_page same

pub returns-else-running-clause-halted : goal.returns-else-running-clause-halted
returns-else-running-clause-halted g c = λ s. refl

pub returns-else-running-clause-lasts : goal.returns-else-running-clause-lasts
returns-else-running-clause-lasts g c =
    let old = c.args.self.now in
    let mid = c.begin.new.self in
    let words = g.F.MemWords.words in
    let disk = g.D.DiskBlocks.contents in
    let same : disk mid.disk ≡ disk old.disk = ap disk c.begin.ensures.disk in
    marked_lasts _ _ (unmade_contents (words old.mem) (words mid.mem) old.scratch mid.scratch (disk old.disk) (disk mid.disk) old.guard mid.guard c.begin.ensures.protected c.begin.ensures.open_page same)

pub returns-else-running-clause-made : goal.returns-else-running-clause-made
returns-else-running-clause-made g c = λ n. absurd (n refl)

pub returns-else-running-clause-not_begun : goal.returns-else-running-clause-not_begun
returns-else-running-clause-not_begun g c = λ s. on_err c.begin.result _ (sym c.if-is_err.ensures.value) c.begin.ensures.stops

pub returns-else-running-clause-pending : goal.returns-else-running-clause-pending
returns-else-running-clause-pending g c = λ r. absurd (true_false (sym c.if-running.false ∙ r))

pub returns-else-running-clause-stops : goal.returns-else-running-clause-stops
returns-else-running-clause-stops g c = (λ s. c.begin.ensures.halts.0 (sym c.if-is_err.ensures.value), λ h. refl)

pub returns-else-running-clause-unchanged : goal.returns-else-running-clause-unchanged
returns-else-running-clause-unchanged g c =
    let old = c.args.self.now in
    let mid = c.begin.new.self in
    let words = g.F.MemWords.words in
    λ s. ap (λ (ws : List _). scratch_of ws mid.scratch) (on_err c.begin.result _ (sym c.if-is_err.ensures.value) c.begin.ensures.unmoved) ∙ ap (λ p. scratch_of (words old.mem) p) c.begin.ensures.scratch

pub returns-else-running-clause-writes_block : goal.returns-else-running-clause-writes_block
returns-else-running-clause-writes_block g c =
    let old = c.args.self.now in
    let mid = c.begin.new.self in
    let words = g.F.MemWords.words in
    let disk = g.D.DiskBlocks.contents in
    let same : disk mid.disk ≡ disk old.disk = ap disk c.begin.ensures.disk in
    unmade_writes (words old.mem) (words mid.mem) old.scratch mid.scratch (disk old.disk) (disk mid.disk) old.guard mid.guard c.args.b.0 c.begin.ensures.protected c.begin.ensures.open_page same

pub returns-in-Ok-clause-begun : goal.returns-in-Ok-clause-begun
returns-in-Ok-clause-begun g c = λ n. on_ok c.begin.result _ (sym c.if-is_err.ensures.value) c.begin.ensures.made

pub returns-in-Ok-clause-cut : goal.returns-in-Ok-clause-cut
returns-in-Ok-clause-cut g c = λ s. absurd (never _ _ s)

pub returns-in-Ok-clause-ends : goal.returns-in-Ok-clause-ends
returns-in-Ok-clause-ends g c = ends_by _ _ _ _ (λ s. absurd (never _ _ s)) (λ w. absurd (true_false (sym w ∙ sym c.if-is_err.ensures.value))) c.begin.ensures.ends

pub returns-in-Ok-clause-falls : goal.returns-in-Ok-clause-falls
returns-in-Ok-clause-falls g c =
    let old = c.args.self.now in
    let mid = c.begin.new.self in
    let words = g.F.MemWords.words in
    subst (λ o. Falls o (running_of (words old.mem) old.scratch old.guard) (running_of (words mid.mem) mid.scratch mid.guard)) c.requires.closed c.begin.ensures.falls

pub returns-in-Ok-clause-fault : goal.returns-in-Ok-clause-fault
returns-in-Ok-clause-fault g c = λ s. absurd (never _ _ s)

pub returns-in-Ok-clause-frozen : goal.returns-in-Ok-clause-frozen
returns-in-Ok-clause-frozen g c = λ s. absurd (true_false (sym s ∙ on_ok c.begin.result _ (sym c.if-is_err.ensures.value) c.begin.ensures.running))

pub returns-in-Ok-clause-halted : goal.returns-in-Ok-clause-halted
returns-in-Ok-clause-halted g c = λ s. absurd (true_false (sym s ∙ on_ok c.begin.result _ (sym c.if-is_err.ensures.value) c.begin.ensures.running))

pub returns-in-Ok-clause-lasts : goal.returns-in-Ok-clause-lasts
returns-in-Ok-clause-lasts g c =
    let old = c.args.self.now in
    let mid = c.begin.new.self in
    let words = g.F.MemWords.words in
    let disk = g.D.DiskBlocks.contents in
    let same : disk c.write.new.self ≡ with_written (disk old.disk) c.args.b.0 c.frame.result.now (disk c.write.new.self).faults = subst (λ (d : DiskContents). disk c.write.new.self ≡ with_written d c.args.b.0 c.frame.result.now (disk c.write.new.self).faults) (ap disk c.begin.ensures.disk) c.in-Ok.ensures.writes in
    written_lasts (words old.mem) (words mid.mem) old.scratch mid.scratch (disk old.disk) (disk c.write.new.self) old.guard mid.guard c.args.b.0 c.frame.result.now c.begin.ensures.protected same (subst (λ (d : DiskContents). FaultsLast d.faults (disk c.write.new.self).faults) (ap disk c.begin.ensures.disk) c.write.ensures.cause.last)

pub returns-in-Ok-clause-made : goal.returns-in-Ok-clause-made
returns-in-Ok-clause-made g c =
    let old = c.args.self.now in
    let mid = c.begin.new.self in
    let words = g.F.MemWords.words in
    let disk = g.D.DiskBlocks.contents in
    let same : disk c.write.new.self ≡ with_written (disk old.disk) c.args.b.0 c.frame.result.now (disk c.write.new.self).faults = subst (λ (d : DiskContents). disk c.write.new.self ≡ with_written d c.args.b.0 c.frame.result.now (disk c.write.new.self).faults) (ap disk c.begin.ensures.disk) c.in-Ok.ensures.writes in
    λ n. (ap (λ (d : DiskContents). d.writes) same, (step_advances (protected_count (words old.mem) old.scratch) (scratch_of (words old.mem) old.scratch) (scratch_of (words mid.mem) mid.scratch) old.guard mid.guard (words old.mem) (words mid.mem) old.scratch mid.scratch (on_ok c.begin.result _ (sym c.if-is_err.ensures.value) c.begin.ensures.made)))

pub returns-in-Ok-clause-not_begun : goal.returns-in-Ok-clause-not_begun
returns-in-Ok-clause-not_begun g c = λ s. absurd (never _ _ s)

pub returns-in-Ok-clause-pending : goal.returns-in-Ok-clause-pending
returns-in-Ok-clause-pending g c =
    let old = c.args.self.now in
    let disk = g.D.DiskBlocks.contents in
    let same : disk c.write.new.self ≡ with_written (disk old.disk) c.args.b.0 c.frame.result.now (disk c.write.new.self).faults = subst (λ (d : DiskContents). disk c.write.new.self ≡ with_written d c.args.b.0 c.frame.result.now (disk c.write.new.self).faults) (ap disk c.begin.ensures.disk) c.in-Ok.ensures.writes in
    λ r. ap (λ (d : DiskContents). d.pending) same

pub returns-in-Ok-clause-stops : goal.returns-in-Ok-clause-stops
returns-in-Ok-clause-stops g c = (λ s. absurd (never _ _ s), λ h. absurd (true_false (sym (c.begin.ensures.halts.1 h) ∙ sym c.if-is_err.ensures.value)))

pub returns-in-Ok-clause-unchanged : goal.returns-in-Ok-clause-unchanged
returns-in-Ok-clause-unchanged g c = λ s. absurd (never _ _ s)

pub returns-in-Ok-clause-writes_block : goal.returns-in-Ok-clause-writes_block
returns-in-Ok-clause-writes_block g c =
    let old = c.args.self.now in
    let mid = c.begin.new.self in
    let words = g.F.MemWords.words in
    let disk = g.D.DiskBlocks.contents in
    let same : disk c.write.new.self ≡ with_written (disk old.disk) c.args.b.0 c.frame.result.now (disk c.write.new.self).faults = subst (λ (d : DiskContents). disk c.write.new.self ≡ with_written d c.args.b.0 c.frame.result.now (disk c.write.new.self).faults) (ap disk c.begin.ensures.disk) c.in-Ok.ensures.writes in
    made_writes (words old.mem) (words mid.mem) old.scratch mid.scratch (disk old.disk) (disk c.write.new.self) old.guard mid.guard c.args.b.0 c.frame.result.now c.begin.ensures.protected c.begin.ensures.open_page same

pub returns-in-Ok-clause-written : goal.returns-in-Ok-clause-written
returns-in-Ok-clause-written g c =
    let mid = c.begin.new.self in
    let words = g.F.MemWords.words in
    let disk = g.D.DiskBlocks.contents in
    written_block (disk mid.disk) (disk c.write.new.self) c.args.b.0 c.frame.result.now (disk c.write.new.self).faults (rw c.begin.ensures.disk c.requires.block) c.in-Ok.ensures.writes ∙ c.frame.ensures ∙ ap (λ (ws : List _). page_at ws c.args.from.0) (sym (take-append-drop (protected_count (words mid.mem) mid.scratch) (words mid.mem)))

pub returns-in-Err-clause-begun : goal.returns-in-Err-clause-begun
returns-in-Err-clause-begun g c = λ n. on_ok c.begin.result _ (sym c.if-is_err.ensures.value) c.begin.ensures.made

pub returns-in-Err-clause-cut : goal.returns-in-Err-clause-cut
returns-in-Err-clause-cut g c = λ s. absurd (no_stop s)

pub returns-in-Err-clause-ends : goal.returns-in-Err-clause-ends
returns-in-Err-clause-ends g c = ends_by _ _ _ _ (λ s. absurd (no_stop s)) (λ w. absurd (true_false (sym w ∙ sym c.if-is_err.ensures.value))) c.begin.ensures.ends

pub returns-in-Err-clause-falls : goal.returns-in-Err-clause-falls
returns-in-Err-clause-falls g c =
    let old = c.args.self.now in
    let mid = c.begin.new.self in
    let words = g.F.MemWords.words in
    subst (λ o. Falls o (running_of (words old.mem) old.scratch old.guard) (running_of (words mid.mem) mid.scratch mid.guard)) c.requires.closed c.begin.ensures.falls

pub returns-in-Err-clause-fault : goal.returns-in-Err-clause-fault
returns-in-Err-clause-fault g c =
    let disk = g.D.DiskBlocks.contents in
    λ f. subst (λ (d : DiskContents). Rose d.faults.count (disk c.write.new.self).faults.count) (ap disk c.begin.ensures.disk) c.in-Err.ensures.cause.cause

pub returns-in-Err-clause-frozen : goal.returns-in-Err-clause-frozen
returns-in-Err-clause-frozen g c = λ s. absurd (true_false (sym s ∙ on_ok c.begin.result _ (sym c.if-is_err.ensures.value) c.begin.ensures.running))

pub returns-in-Err-clause-halted : goal.returns-in-Err-clause-halted
returns-in-Err-clause-halted g c = λ s. absurd (true_false (sym s ∙ on_ok c.begin.result _ (sym c.if-is_err.ensures.value) c.begin.ensures.running))

pub returns-in-Err-clause-lasts : goal.returns-in-Err-clause-lasts
returns-in-Err-clause-lasts g c =
    let old = c.args.self.now in
    let mid = c.begin.new.self in
    let words = g.F.MemWords.words in
    let disk = g.D.DiskBlocks.contents in
    let same : disk c.write.new.self ≡ with_written (disk old.disk) c.args.b.0 c.in-Err.ensures.writes.0 (disk c.write.new.self).faults = subst (λ (d : DiskContents). disk c.write.new.self ≡ with_written d c.args.b.0 c.in-Err.ensures.writes.0 (disk c.write.new.self).faults) (ap disk c.begin.ensures.disk) c.in-Err.ensures.writes.2 in
    written_lasts (words old.mem) (words mid.mem) old.scratch mid.scratch (disk old.disk) (disk c.write.new.self) old.guard mid.guard c.args.b.0 c.in-Err.ensures.writes.0 c.begin.ensures.protected same (subst (λ (d : DiskContents). FaultsLast d.faults (disk c.write.new.self).faults) (ap disk c.begin.ensures.disk) c.write.ensures.cause.last)

pub returns-in-Err-clause-made : goal.returns-in-Err-clause-made
returns-in-Err-clause-made g c =
    let old = c.args.self.now in
    let mid = c.begin.new.self in
    let words = g.F.MemWords.words in
    let disk = g.D.DiskBlocks.contents in
    let same : disk c.write.new.self ≡ with_written (disk old.disk) c.args.b.0 c.in-Err.ensures.writes.0 (disk c.write.new.self).faults = subst (λ (d : DiskContents). disk c.write.new.self ≡ with_written d c.args.b.0 c.in-Err.ensures.writes.0 (disk c.write.new.self).faults) (ap disk c.begin.ensures.disk) c.in-Err.ensures.writes.2 in
    λ n. (ap (λ (d : DiskContents). d.writes) same, (step_advances (protected_count (words old.mem) old.scratch) (scratch_of (words old.mem) old.scratch) (scratch_of (words mid.mem) mid.scratch) old.guard mid.guard (words old.mem) (words mid.mem) old.scratch mid.scratch (on_ok c.begin.result _ (sym c.if-is_err.ensures.value) c.begin.ensures.made)))

pub returns-in-Err-clause-not_begun : goal.returns-in-Err-clause-not_begun
returns-in-Err-clause-not_begun g c = λ s. absurd (no_stop s)

pub returns-in-Err-clause-pending : goal.returns-in-Err-clause-pending
returns-in-Err-clause-pending g c =
    let old = c.args.self.now in
    let disk = g.D.DiskBlocks.contents in
    let same : disk c.write.new.self ≡ with_written (disk old.disk) c.args.b.0 c.in-Err.ensures.writes.0 (disk c.write.new.self).faults = subst (λ (d : DiskContents). disk c.write.new.self ≡ with_written d c.args.b.0 c.in-Err.ensures.writes.0 (disk c.write.new.self).faults) (ap disk c.begin.ensures.disk) c.in-Err.ensures.writes.2 in
    λ r. ap (λ (d : DiskContents). d.pending) same

pub returns-in-Err-clause-stops : goal.returns-in-Err-clause-stops
returns-in-Err-clause-stops g c = (λ s. absurd (no_stop s), λ h. absurd (true_false (sym (c.begin.ensures.halts.1 h) ∙ sym c.if-is_err.ensures.value)))

pub returns-in-Err-clause-unchanged : goal.returns-in-Err-clause-unchanged
returns-in-Err-clause-unchanged g c = λ s. absurd (no_stop s)

pub returns-in-Err-clause-writes_block : goal.returns-in-Err-clause-writes_block
returns-in-Err-clause-writes_block g c =
    let old = c.args.self.now in
    let mid = c.begin.new.self in
    let words = g.F.MemWords.words in
    let disk = g.D.DiskBlocks.contents in
    let same : disk c.write.new.self ≡ with_written (disk old.disk) c.args.b.0 c.in-Err.ensures.writes.0 (disk c.write.new.self).faults = subst (λ (d : DiskContents). disk c.write.new.self ≡ with_written d c.args.b.0 c.in-Err.ensures.writes.0 (disk c.write.new.self).faults) (ap disk c.begin.ensures.disk) c.in-Err.ensures.writes.2 in
    made_writes (words old.mem) (words mid.mem) old.scratch mid.scratch (disk old.disk) (disk c.write.new.self) old.guard mid.guard c.args.b.0 c.in-Err.ensures.writes.0 c.begin.ensures.protected c.begin.ensures.open_page same

pub frame-requires : goal.frame-requires
frame-requires g c = omega (arith, page_in_memory (g.F.MemWords.words c.args.self.now.mem) c.args.self.now.scratch c.args.from.0 c.args.self.now.whole c.requires.from, c.begin.ensures.count)
