use Rattle.std.proofs.Common.{◌≡◌, ◌<◌, ◌*◌, ℕ, length, sym, ap, subst, ◌∙◌, arith, rules}
use Rattle.std.proofs.lemmas.List.{length-set, with_items_is}
use Rattle.rio_base.specs.Disks.{raised}
use Rattle.rio_base.proofs.WordBlocks.{blocks_many}
use Rattle.block_disk.specs.HostDisks.{IsDiskLength, count_marks}
use Rattle.block_disk.proofs.HostDiskRules.{contents_written, kept_given, pending_both, pending_more, torn_given}
use Rattle.block_disk.proofs.host_disk.HostDiskDiskBlocks.write.Goals as goal

-- What the disk has after the call stands first: a body that marks another block is then refused by that clause.

pub returns-in-Ok-clause-writes : goal.returns-in-Ok-clause-writes
returns-in-Ok-clause-writes g c =
    let counted : c.saturating_add-self.result ≡ raised c.args.self.now.writes 1 = search rules in
    contents_written _ _ _ _ (g.H.Host.faults c.args.self.now.host) _ _ _ _ _ _ _ _ c.args.b.0 c.in-Ok.ensures.around c.put_block_words.ensures.words c.requires.words (omega (arith, c.requires.block, blocks_many c.args.self.now.words.items)) c.mark.ensures counted _

pub returns-in-Err-clause-writes : goal.returns-in-Err-clause-writes
returns-in-Err-clause-writes g c =
    let counted : c.saturating_add-self.result ≡ raised c.args.self.now.writes 1 = search rules in
    (c.args.from.now, c.requires.words, contents_written _ _ _ _ (g.H.Host.faults c.args.self.now.host) _ _ _ _ _ _ _ _ c.args.b.0 c.in-Err.ensures.around c.put_block_words.ensures.words c.requires.words (omega (arith, c.requires.block, blocks_many c.args.self.now.words.items)) c.mark.ensures counted _)

pub mark-requires : goal.mark-requires
mark-requires g c = omega (arith, c.requires.block, count_marks _ _ c.args.self.now.marks)

pub put_block_words-requires-clause-within : goal.put_block_words-requires-clause-within
put_block_words-requires-clause-within g c = omega (arith, c.requires.block, blocks_many c.args.self.now.words.items)

pub write_block-requires-clause-block : goal.write_block-requires-clause-block
write_block-requires-clause-block g c = omega (arith, c.requires.block, blocks_many c.args.self.now.words.items, ap length c.deref.ensures.value, c.put_block_words.ensures.words.count)

pub mark-requires-in-Err : goal.mark-requires-in-Err
mark-requires-in-Err g c = omega (arith, c.requires.block, count_marks _ _ c.args.self.now.marks, c.args.self.now.unwritten_marks)

pub invariant_of-self : goal.invariant_of-self
invariant_of-self g c =
    let disk = c.args.self.now in
    let put = c.put_block_words.ensures.words in
    let wrote = c.in-Ok.ensures in
    let within : c.args.b.0 < length disk.pending.marks.items = omega (arith, c.requires.block, count_marks _ _ disk.marks) in
    let marked : length c.mark.new.self.marks.items ≡ length disk.pending.marks.items = ap length c.mark.ensures ∙ length-set _ _ _ in
    record {
      file = kept_given _ _ _ _ _ _ _ c.args.b.0 _ disk.file put c.deref.ensures.value wrote.fits wrote.here wrote.others;
      long = subst (λ (n : ℕ). IsDiskLength (8 * n)) (sym put.count) disk.long;
      marks = ap (λ (n : ℕ). 512 * n) marked ∙ disk.marks ∙ sym put.count;
      unwritten_marks = disk.unwritten_marks ∙ sym marked;
      unwritten_pending = pending_more _ _ _ c.args.b.0 disk.unwritten_pending within c.mark.ensures;
      room_bytes = ap length (with_items_is disk.room c.write_block.new.room (omega (arith, c.write_block.ensures.room, disk.room.ok.0, disk.room_bytes))) ∙ c.write_block.ensures.room;
    }

pub invariant_of-self-in-Err : goal.invariant_of-self-in-Err
invariant_of-self-in-Err g c =
    let disk = c.args.self.now in
    let put = c.put_block_words.ensures.words in
    let wrote = c.in-Err.ensures in
    let within : c.args.b.0 < length disk.pending.marks.items = omega (arith, c.requires.block, count_marks _ _ disk.marks) in
    let within_unwritten : c.args.b.0 < length disk.unwritten.marks.items = omega (arith, within, disk.unwritten_marks) in
    let marked : length c.mark.new.self.marks.items ≡ length disk.pending.marks.items = ap length c.mark.ensures ∙ length-set _ _ _ in
    record {
      file = torn_given _ _ _ _ _ _ _ c.args.b.0 _ _ disk.file put c.deref.ensures.value wrote.fits wrote.others within_unwritten c.mark-in-Err.ensures;
      long = subst (λ (n : ℕ). IsDiskLength (8 * n)) (sym put.count) disk.long;
      marks = ap (λ (n : ℕ). 512 * n) marked ∙ disk.marks ∙ sym put.count;
      unwritten_marks = ap length c.mark-in-Err.ensures ∙ length-set _ _ _ ∙ disk.unwritten_marks ∙ sym marked;
      unwritten_pending = pending_both _ _ _ _ c.args.b.0 disk.unwritten_pending within within_unwritten c.mark-in-Err.ensures c.mark.ensures;
      room_bytes = ap length (with_items_is disk.room c.write_block.new.room (omega (arith, c.write_block.ensures.room, disk.room.ok.0, disk.room_bytes))) ∙ c.write_block.ensures.room;
    }
