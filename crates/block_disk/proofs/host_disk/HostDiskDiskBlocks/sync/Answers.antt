use Rattle.std.proofs.Common.{◌≡◌, ℕ, ◌*◌, Option, length, refl, sym, ap, ◌∙◌, arith, le_refl}
use Rattle.std.proofs.lemmas.List.{length-replicate, with_items_is}
use Rattle.block_disk.specs.HostDisks.{count_marks}
use Rattle.block_disk.proofs.Ends.{disk_failed, disk_went, none_owed, owed}
use Rattle.block_disk.proofs.HostFiles.{around_asked}
use Rattle.block_disk.proofs.HostDiskRules.{all_kept, contents_kept, contents_synced, given_kept, lent_kept, none_unwritten}
use Rattle.block_disk.proofs.host_disk.HostDiskDiskBlocks.sync.Goals as goal

pub returns-clause-ok : goal.returns-clause-ok
returns-clause-ok g c =
    let around = around_asked _ _ _ _ _ c.sync.ensures.files c.sync.ensures.asked ∙ c.in_ok-write_marked.ensures.around in
    contents_synced _ _ _ _ (g.H.Host.faults c.args.self.now.host) _ _ _ _ _ around (count_marks _ _ c.args.self.now.marks) c.clear-2.ensures _

pub returns-clause-cause : goal.returns-clause-cause
returns-clause-cause g c = disk_went _ _ _ c.write_marked.ensures.cause.later c.sync.ensures.cause.later

pub returns-in_err-write_marked-clause-ok : goal.returns-in_err-write_marked-clause-ok
returns-in_err-write_marked-clause-ok g c = none_owed c.from_residual.result _ c.from_residual.ensures.0

pub returns-in_err-write_marked-clause-err : goal.returns-in_err-write_marked-clause-err
returns-in_err-write_marked-clause-err g c = owed c.from_residual.result _ (contents_kept _ _ _ _ (g.H.Host.faults c.args.self.now.host) _ _ _ _ _ c.write_marked.ensures.around refl _)

pub returns-in_err-write_marked-clause-cause : goal.returns-in_err-write_marked-clause-cause
returns-in_err-write_marked-clause-cause g c = disk_failed c.from_residual.result _ _ _ c.from_residual.ensures.0 (le_refl _) c.write_marked.ensures.cause.later c.in_err-write_marked.ensures.cause.cause

pub returns-in_err-sync-clause-ok : goal.returns-in_err-sync-clause-ok
returns-in_err-sync-clause-ok g c = none_owed c.from_residual-in_err-sync.result _ c.from_residual-in_err-sync.ensures.0

pub returns-in_err-sync-clause-err : goal.returns-in_err-sync-clause-err
returns-in_err-sync-clause-err g c =
    let around = around_asked _ _ _ _ _ c.sync.ensures.files c.sync.ensures.asked ∙ c.write_marked.ensures.around in
    owed c.from_residual-in_err-sync.result _ (contents_kept _ _ _ _ (g.H.Host.faults c.args.self.now.host) _ _ _ _ _ around refl _)

pub returns-in_err-sync-clause-cause : goal.returns-in_err-sync-clause-cause
returns-in_err-sync-clause-cause g c = disk_failed c.from_residual-in_err-sync.result _ _ _ c.from_residual-in_err-sync.ensures.0 c.write_marked.ensures.cause.later c.sync.ensures.cause.later c.in_err-sync.ensures.cause.cause

pub write_marked-requires-clause-file : goal.write_marked-requires-clause-file
write_marked-requires-clause-file g c = lent_kept _ _ _ _ _ c.deref.ensures.value c.args.self.now.file

pub write_marked-requires-clause-marks : goal.write_marked-requires-clause-marks
write_marked-requires-clause-marks g c = ap (λ (n : ℕ). 512 * n) c.args.self.now.unwritten_marks ∙ c.args.self.now.marks ∙ sym (ap length c.deref.ensures.value)

pub write_marked-requires-clause-room : goal.write_marked-requires-clause-room
write_marked-requires-clause-room g c = ap length c.deref_mut.ensures.value ∙ c.args.self.now.room_bytes

pub write_marked-requires-clause-most : goal.write_marked-requires-clause-most
write_marked-requires-clause-most g c = omega (arith, c.args.self.now.long.most, ap length c.deref.ensures.value)

pub invariant_of-self : goal.invariant_of-self
invariant_of-self g c =
    let disk = c.args.self.now in
    record {
      file = given_kept _ _ _ _ _ c.deref.ensures.value c.write_marked.ensures.file;
      long = disk.long;
      marks = disk.marks;
      unwritten_marks = disk.unwritten_marks;
      unwritten_pending = disk.unwritten_pending;
      room_bytes = ap length (with_items_is disk.room c.write_marked.new.room (omega (arith, c.write_marked.ensures.room, disk.room.ok.0, disk.room_bytes))) ∙ c.write_marked.ensures.room;
    }

pub invariant_of-self-in-Break-branch-2 : goal.invariant_of-self-in-Break-branch-2
invariant_of-self-in-Break-branch-2 g c =
    let disk = c.args.self.now in
    record {
      file = all_kept _ _ _ _ _ _ c.sync.ensures.files c.deref.ensures.value c.in_ok-write_marked.ensures.all;
      long = disk.long;
      marks = disk.marks;
      unwritten_marks = ap length c.clear.ensures ∙ length-replicate _ _ ∙ disk.unwritten_marks;
      unwritten_pending = none_unwritten _ _ _ c.clear.ensures;
      room_bytes = ap length (with_items_is disk.room c.write_marked.new.room (omega (arith, c.write_marked.ensures.room, disk.room.ok.0, disk.room_bytes))) ∙ c.write_marked.ensures.room;
    }

pub invariant_of-self-2 : goal.invariant_of-self-2
invariant_of-self-2 g c =
    let disk = c.args.self.now in
    let cleared : length c.clear-2.new.self.marks.items ≡ length disk.pending.marks.items = ap length c.clear-2.ensures ∙ length-replicate _ _ in
    record {
      file = all_kept _ _ _ _ _ _ c.sync.ensures.files c.deref.ensures.value c.in_ok-write_marked.ensures.all;
      long = disk.long;
      marks = ap (λ (n : ℕ). 512 * n) cleared ∙ disk.marks;
      unwritten_marks = ap length c.clear.ensures ∙ length-replicate _ _ ∙ disk.unwritten_marks ∙ sym cleared;
      unwritten_pending = none_unwritten _ _ _ c.clear.ensures;
      room_bytes = ap length (with_items_is disk.room c.write_marked.new.room (omega (arith, c.write_marked.ensures.room, disk.room.ok.0, disk.room_bytes))) ∙ c.write_marked.ensures.room;
    }
