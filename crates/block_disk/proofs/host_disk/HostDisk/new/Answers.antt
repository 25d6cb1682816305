use Rattle.block_disk.proofs.HostDiskRules.{contents_fresh, fresh_kept, fresh_marks, none_unwritten, same_marks}
use Rattle.block_disk.proofs.host_disk.HostDisk.new.Goals as goal

pub invariant_of-result : goal.invariant_of-result
invariant_of-result g c =
    let made = c.in-Ok.ensures in
    record {
      file = fresh_kept _ _ _ _ _ made.files made.words;
      long = made.words.long;
      marks = fresh_marks _ _ made.words.long made.pending;
      unwritten_marks = same_marks _ _ _ made.pending made.unwritten;
      unwritten_pending = none_unwritten _ _ _ made.unwritten;
      room_bytes = made.room;
    }

pub returns-in-Ok-clause-disk : goal.returns-in-Ok-clause-disk
returns-in-Ok-clause-disk g c = (c.in-Ok.field-0.words.items, c.in-Ok.ensures.words, contents_fresh _ _ _ _ _ _ _ c.in-Ok.ensures.files c.in-Ok.ensures.asked c.in-Ok.ensures.pending _)
