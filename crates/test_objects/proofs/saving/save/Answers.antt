use Rattle.block_disk.proofs.Ends.{none_owed}
use Rattle.std.proofs.Common.{◌∙◌, ◌*◌, IsErr, arith, inl, inr, refl, sym}
use Rattle.std.specs.Prelude.{None, Some}
use Rattle.rio_base.specs.Rules.{true_false}
use Rattle.rio_base.specs.declared.failures.DiskFail.{DiskFail}
use Rattle.rio_base.proofs.MachineRules.{ends_then, ends_told, lasts_trans, never}
use Rattle.test_objects.proofs.Ends.{ends_still, ends_within, lasts_within}
use Rattle.test_objects.proofs.SavedPages.{closed_page, fault_told, no_fault, not_ok_fault, opened_page, page_read, read_page, read_words, same_words, settled, stays_open, stop_told, stored_words, synced_disk, synced_page, synced_words, was_err, was_ok, within_more, within_now}
use Rattle.test_objects.proofs.saving.save.Goals as goal

pub returns-in_err-write_block-clause-ends : goal.returns-in_err-write_block-clause-ends
returns-in_err-write_block-clause-ends g c =
    ends_then _ _ _ _ _ (λ e. true_false (sym e ∙ sym c.is_err.ensures.value ∙ c.if-is_err.false)) (ends_within _ _ _ _ (IsErr c.store-stored.result) c.open_page.ensures.run c.store-stored.ensures.ends c.close_page.ensures.run) (ends_told _ _ _ _ _ (grind (arith, c.from_residual.ensures)) c.in_err-write_block.ensures.ends)

pub returns-in_err-sync-clause-ends : goal.returns-in_err-sync-clause-ends
returns-in_err-sync-clause-ends g c =
    ends_then _ _ _ _ _ (λ e. true_false (sym e ∙ sym c.is_err.ensures.value ∙ c.if-is_err.false)) (ends_within _ _ _ _ (IsErr c.store-stored.result) c.open_page.ensures.run c.store-stored.ensures.ends c.close_page.ensures.run)
    (ends_then _ _ _ _ _ (never _ DiskFail.Stopped) c.in_ok-write_block.ensures.ends (ends_told _ _ _ _ _ (grind (arith, c.from_residual-in_err-sync.ensures)) c.in_err-sync.ensures.ends))

pub returns-in_err-read_block-clause-lasts : goal.returns-in_err-read_block-clause-lasts
returns-in_err-read_block-clause-lasts g c =
    lasts_trans _ _ _ (lasts_within _ _ _ _ _ _ c.open_page.ensures.contents c.store-stored.ensures.lasts c.close_page.ensures.contents) (lasts_trans _ _ _ c.write_block.ensures.lasts (lasts_trans _ _ _ c.sync.ensures.lasts c.read_block.ensures.lasts))

pub returns-in_err-read_block-clause-ends : goal.returns-in_err-read_block-clause-ends
returns-in_err-read_block-clause-ends g c =
    ends_then _ _ _ _ _ (λ e. true_false (sym e ∙ sym c.is_err.ensures.value ∙ c.if-is_err.false)) (ends_within _ _ _ _ (IsErr c.store-stored.result) c.open_page.ensures.run c.store-stored.ensures.ends c.close_page.ensures.run)
    (ends_then _ _ _ _ _ (never _ DiskFail.Stopped) c.in_ok-write_block.ensures.ends (ends_then _ _ _ _ _ (never _ DiskFail.Stopped) c.in_ok-sync.ensures.ends
    (ends_told _ _ _ _ _ (grind (arith, c.from_residual-in_err-read_block.ensures)) (ends_still _ _ _ c.read_block.ensures.run (λ s. (c.in_err-read_block.ensures.stopped s).0)))))

pub returns-clause-ends : goal.returns-clause-ends
returns-clause-ends g c =
    ends_then _ _ _ _ _ (λ e. true_false (sym e ∙ sym c.is_err.ensures.value ∙ c.if-is_err.false)) (ends_within _ _ _ _ (IsErr c.store-stored.result) c.open_page.ensures.run c.store-stored.ensures.ends c.close_page.ensures.run)
    (ends_then _ _ _ _ _ (never _ DiskFail.Stopped) c.in_ok-write_block.ensures.ends (ends_then _ _ _ _ _ (never _ DiskFail.Stopped) c.in_ok-sync.ensures.ends
    (ends_still _ _ _ c.read_block.ensures.run (λ s. absurd (never _ DiskFail.Stopped s)))))

pub returns-then-is_err-clause-words : goal.returns-then-is_err-clause-words
returns-then-is_err-clause-words g c =
    let m = g.M.Machine.contents in
    inl (same_words (m c.args.m.now) (m c.open_page.new.self) (m c.store-stored.new.self) (m c.close_page.new.self) (Some c.args.p.0) None c.open_page.ensures.contents (was_err c.store-stored.result _ (sym c.is_err.ensures.value ∙ c.if-is_err.true) c.store-stored.ensures.same) c.close_page.ensures.contents)

pub returns-then-is_err-clause-closed : goal.returns-then-is_err-clause-closed
returns-then-is_err-clause-closed g c =
    let m = g.M.Machine.contents in
    closed_page (m c.store-stored.new.self) (m c.close_page.new.self) c.close_page.ensures.contents

pub returns-then-is_err-clause-lasts : goal.returns-then-is_err-clause-lasts
returns-then-is_err-clause-lasts g c =
    let m = g.M.Machine.contents in
    lasts_within (m c.args.m.now) (m c.open_page.new.self) (m c.store-stored.new.self) (m c.close_page.new.self) (Some c.args.p.0) None c.open_page.ensures.contents c.store-stored.ensures.lasts c.close_page.ensures.contents

pub returns-then-is_err-clause-fault : goal.returns-then-is_err-clause-fault
returns-then-is_err-clause-fault g c = no_fault

pub returns-then-is_err-clause-ends : goal.returns-then-is_err-clause-ends
returns-then-is_err-clause-ends g c =
    let m = g.M.Machine.contents in
    stop_told _ _ (IsErr c.store-stored.result) _ (sym c.is_err.ensures.value ∙ c.if-is_err.true) refl (ends_within _ _ _ _ (IsErr c.store-stored.result) c.open_page.ensures.run c.store-stored.ensures.ends c.close_page.ensures.run)

pub returns-in_err-write_block-clause-ok : goal.returns-in_err-write_block-clause-ok
returns-in_err-write_block-clause-ok g c = none_owed c.from_residual.result _ c.from_residual.ensures.0

pub returns-in_err-write_block-clause-read : goal.returns-in_err-write_block-clause-read
returns-in_err-write_block-clause-read g c = none_owed c.from_residual.result _ c.from_residual.ensures.0

pub returns-in_err-write_block-clause-settled : goal.returns-in_err-write_block-clause-settled
returns-in_err-write_block-clause-settled g c = none_owed c.from_residual.result _ c.from_residual.ensures.0

pub returns-in_err-write_block-clause-words : goal.returns-in_err-write_block-clause-words
returns-in_err-write_block-clause-words g c =
    let m = g.M.Machine.contents in
    inr (c.write_block.ensures.writes_block.words ∙ stored_words (m c.args.m.now) (m c.open_page.new.self) (m c.store-stored.new.self) (m c.close_page.new.self) (Some c.args.p.0) None (512 * c.args.p.0) c.args.v c.open_page.ensures.contents (was_ok c.store-stored.result _ (sym c.is_err.ensures.value ∙ c.if-is_err.false) c.store-stored.ensures.stored) c.close_page.ensures.contents)

pub returns-in_err-write_block-clause-closed : goal.returns-in_err-write_block-clause-closed
returns-in_err-write_block-clause-closed g c =
    let m = g.M.Machine.contents in
    c.write_block.ensures.writes_block.open_page ∙ closed_page (m c.store-stored.new.self) (m c.close_page.new.self) c.close_page.ensures.contents

pub returns-in_err-write_block-clause-lasts : goal.returns-in_err-write_block-clause-lasts
returns-in_err-write_block-clause-lasts g c =
    let m = g.M.Machine.contents in
    lasts_trans _ _ _ (lasts_within (m c.args.m.now) (m c.open_page.new.self) (m c.store-stored.new.self) (m c.close_page.new.self) (Some c.args.p.0) None c.open_page.ensures.contents c.store-stored.ensures.lasts c.close_page.ensures.contents) c.write_block.ensures.lasts

pub returns-in_err-write_block-clause-fault : goal.returns-in_err-write_block-clause-fault
returns-in_err-write_block-clause-fault g c =
    let m = g.M.Machine.contents in
    fault_told (m c.args.m.now) (m c.close_page.new.self) (m c.write_block.new.self) _ _ (grind (arith, c.from_residual.ensures)) (lasts_within (m c.args.m.now) (m c.open_page.new.self) (m c.store-stored.new.self) (m c.close_page.new.self) (Some c.args.p.0) None c.open_page.ensures.contents c.store-stored.ensures.lasts c.close_page.ensures.contents) c.in_err-write_block.ensures.fault

pub returns-in_err-sync-clause-ok : goal.returns-in_err-sync-clause-ok
returns-in_err-sync-clause-ok g c = none_owed c.from_residual-in_err-sync.result _ c.from_residual-in_err-sync.ensures.0

pub returns-in_err-sync-clause-read : goal.returns-in_err-sync-clause-read
returns-in_err-sync-clause-read g c = none_owed c.from_residual-in_err-sync.result _ c.from_residual-in_err-sync.ensures.0

pub returns-in_err-sync-clause-settled : goal.returns-in_err-sync-clause-settled
returns-in_err-sync-clause-settled g c = none_owed c.from_residual-in_err-sync.result _ c.from_residual-in_err-sync.ensures.0

pub returns-in_err-sync-clause-words : goal.returns-in_err-sync-clause-words
returns-in_err-sync-clause-words g c =
    let m = g.M.Machine.contents in
    inr (read_words (m c.write_block.new.self) (m c.sync.new.self) c.in_err-sync.ensures.same ∙ c.write_block.ensures.writes_block.words ∙ stored_words (m c.args.m.now) (m c.open_page.new.self) (m c.store-stored.new.self) (m c.close_page.new.self) (Some c.args.p.0) None (512 * c.args.p.0) c.args.v c.open_page.ensures.contents (was_ok c.store-stored.result _ (sym c.is_err.ensures.value ∙ c.if-is_err.false) c.store-stored.ensures.stored) c.close_page.ensures.contents)

pub returns-in_err-sync-clause-closed : goal.returns-in_err-sync-clause-closed
returns-in_err-sync-clause-closed g c =
    let m = g.M.Machine.contents in
    read_page (m c.write_block.new.self) (m c.sync.new.self) c.in_err-sync.ensures.same ∙ c.write_block.ensures.writes_block.open_page ∙ closed_page (m c.store-stored.new.self) (m c.close_page.new.self) c.close_page.ensures.contents

pub returns-in_err-sync-clause-lasts : goal.returns-in_err-sync-clause-lasts
returns-in_err-sync-clause-lasts g c =
    let m = g.M.Machine.contents in
    lasts_trans _ _ _ (lasts_trans (m c.args.m.now) (m c.close_page.new.self) (m c.write_block.new.self) (lasts_within (m c.args.m.now) (m c.open_page.new.self) (m c.store-stored.new.self) (m c.close_page.new.self) (Some c.args.p.0) None c.open_page.ensures.contents c.store-stored.ensures.lasts c.close_page.ensures.contents) c.write_block.ensures.lasts) c.sync.ensures.lasts

pub returns-in_err-sync-clause-fault : goal.returns-in_err-sync-clause-fault
returns-in_err-sync-clause-fault g c =
    let m = g.M.Machine.contents in
    fault_told (m c.args.m.now) (m c.write_block.new.self) (m c.sync.new.self) _ _ (grind (arith, c.from_residual-in_err-sync.ensures)) (lasts_trans (m c.args.m.now) (m c.close_page.new.self) (m c.write_block.new.self) (lasts_within (m c.args.m.now) (m c.open_page.new.self) (m c.store-stored.new.self) (m c.close_page.new.self) (Some c.args.p.0) None c.open_page.ensures.contents c.store-stored.ensures.lasts c.close_page.ensures.contents) c.write_block.ensures.lasts) c.in_err-sync.ensures.fault

pub returns-in_err-read_block-clause-ok : goal.returns-in_err-read_block-clause-ok
returns-in_err-read_block-clause-ok g c = none_owed c.from_residual-in_err-read_block.result _ c.from_residual-in_err-read_block.ensures.0

pub returns-in_err-read_block-clause-read : goal.returns-in_err-read_block-clause-read
returns-in_err-read_block-clause-read g c = none_owed c.from_residual-in_err-read_block.result _ c.from_residual-in_err-read_block.ensures.0

pub returns-in_err-read_block-clause-settled : goal.returns-in_err-read_block-clause-settled
returns-in_err-read_block-clause-settled g c = none_owed c.from_residual-in_err-read_block.result _ c.from_residual-in_err-read_block.ensures.0

pub returns-in_err-read_block-clause-words : goal.returns-in_err-read_block-clause-words
returns-in_err-read_block-clause-words g c =
    let m = g.M.Machine.contents in
    inr (read_words (m c.sync.new.self) (m c.read_block.new.self) c.read_block.ensures.same ∙ synced_words (m c.write_block.new.self) (m c.sync.new.self) _ c.in_ok-sync.ensures.synced ∙ c.write_block.ensures.writes_block.words ∙ stored_words (m c.args.m.now) (m c.open_page.new.self) (m c.store-stored.new.self) (m c.close_page.new.self) (Some c.args.p.0) None (512 * c.args.p.0) c.args.v c.open_page.ensures.contents (was_ok c.store-stored.result _ (sym c.is_err.ensures.value ∙ c.if-is_err.false) c.store-stored.ensures.stored) c.close_page.ensures.contents)

pub returns-in_err-read_block-clause-closed : goal.returns-in_err-read_block-clause-closed
returns-in_err-read_block-clause-closed g c =
    let m = g.M.Machine.contents in
    read_page (m c.sync.new.self) (m c.read_block.new.self) c.read_block.ensures.same ∙ synced_page (m c.write_block.new.self) (m c.sync.new.self) _ c.in_ok-sync.ensures.synced ∙ c.write_block.ensures.writes_block.open_page ∙ closed_page (m c.store-stored.new.self) (m c.close_page.new.self) c.close_page.ensures.contents

pub returns-in_err-read_block-clause-fault : goal.returns-in_err-read_block-clause-fault
returns-in_err-read_block-clause-fault g c =
    let m = g.M.Machine.contents in
    fault_told (m c.args.m.now) (m c.sync.new.self) (m c.read_block.new.self) _ _ (grind (arith, c.from_residual-in_err-read_block.ensures)) (lasts_trans (m c.args.m.now) (m c.write_block.new.self) (m c.sync.new.self) (lasts_trans (m c.args.m.now) (m c.close_page.new.self) (m c.write_block.new.self) (lasts_within (m c.args.m.now) (m c.open_page.new.self) (m c.store-stored.new.self) (m c.close_page.new.self) (Some c.args.p.0) None c.open_page.ensures.contents c.store-stored.ensures.lasts c.close_page.ensures.contents) c.write_block.ensures.lasts) c.sync.ensures.lasts) c.in_err-read_block.ensures.fault

pub returns-clause-ok : goal.returns-clause-ok
returns-clause-ok g c =
    let m = g.M.Machine.contents in
    read_words (m c.sync.new.self) (m c.read_block.new.self) c.read_block.ensures.same ∙ synced_words (m c.write_block.new.self) (m c.sync.new.self) _ c.in_ok-sync.ensures.synced ∙ c.write_block.ensures.writes_block.words ∙ stored_words (m c.args.m.now) (m c.open_page.new.self) (m c.store-stored.new.self) (m c.close_page.new.self) (Some c.args.p.0) None (512 * c.args.p.0) c.args.v c.open_page.ensures.contents (was_ok c.store-stored.result _ (sym c.is_err.ensures.value ∙ c.if-is_err.false) c.store-stored.ensures.stored) c.close_page.ensures.contents

pub returns-clause-settled : goal.returns-clause-settled
returns-clause-settled g c =
    let m = g.M.Machine.contents in
    settled (m c.write_block.new.self) (m c.sync.new.self) (m c.read_block.new.self) c.in_ok-sync.ensures.synced c.read_block.ensures.same

pub returns-clause-read : goal.returns-clause-read
returns-clause-read g c =
    let m = g.M.Machine.contents in
    page_read (m c.close_page.new.self) (m c.write_block.new.self) (m c.sync.new.self) (m c.read_block.new.self) _ _ _ c.in_ok-write_block.ensures.protected (within_now _ _ _ (lasts_within (m c.args.m.now) (m c.open_page.new.self) (m c.store-stored.new.self) (m c.close_page.new.self) (Some c.args.p.0) None c.open_page.ensures.contents c.store-stored.ensures.lasts c.close_page.ensures.contents).size c.requires.page) (synced_disk (m c.write_block.new.self) (m c.sync.new.self) _ c.in_ok-sync.ensures.synced) c.in_ok-read_block.ensures.words (read_words (m c.sync.new.self) (m c.read_block.new.self) c.read_block.ensures.same ∙ synced_words (m c.write_block.new.self) (m c.sync.new.self) _ c.in_ok-sync.ensures.synced ∙ c.write_block.ensures.writes_block.words)

pub returns-clause-words : goal.returns-clause-words
returns-clause-words g c =
    let m = g.M.Machine.contents in
    inr (read_words (m c.sync.new.self) (m c.read_block.new.self) c.read_block.ensures.same ∙ synced_words (m c.write_block.new.self) (m c.sync.new.self) _ c.in_ok-sync.ensures.synced ∙ c.write_block.ensures.writes_block.words ∙ stored_words (m c.args.m.now) (m c.open_page.new.self) (m c.store-stored.new.self) (m c.close_page.new.self) (Some c.args.p.0) None (512 * c.args.p.0) c.args.v c.open_page.ensures.contents (was_ok c.store-stored.result _ (sym c.is_err.ensures.value ∙ c.if-is_err.false) c.store-stored.ensures.stored) c.close_page.ensures.contents)

pub returns-clause-closed : goal.returns-clause-closed
returns-clause-closed g c =
    let m = g.M.Machine.contents in
    read_page (m c.sync.new.self) (m c.read_block.new.self) c.read_block.ensures.same ∙ synced_page (m c.write_block.new.self) (m c.sync.new.self) _ c.in_ok-sync.ensures.synced ∙ c.write_block.ensures.writes_block.open_page ∙ closed_page (m c.store-stored.new.self) (m c.close_page.new.self) c.close_page.ensures.contents

pub returns-clause-lasts : goal.returns-clause-lasts
returns-clause-lasts g c =
    let m = g.M.Machine.contents in
    lasts_trans _ _ _ (lasts_trans (m c.args.m.now) (m c.write_block.new.self) (m c.sync.new.self) (lasts_trans (m c.args.m.now) (m c.close_page.new.self) (m c.write_block.new.self) (lasts_within (m c.args.m.now) (m c.open_page.new.self) (m c.store-stored.new.self) (m c.close_page.new.self) (Some c.args.p.0) None c.open_page.ensures.contents c.store-stored.ensures.lasts c.close_page.ensures.contents) c.write_block.ensures.lasts) c.sync.ensures.lasts) c.read_block.ensures.lasts

pub returns-clause-fault : goal.returns-clause-fault
returns-clause-fault g c = not_ok_fault

pub store-stored-requires : goal.store-stored-requires
store-stored-requires g c =
    let m = g.M.Machine.contents in
    opened_page (m c.args.m.now) (m c.open_page.new.self) c.args.p.0 c.open_page.ensures.contents

pub close_page-requires : goal.close_page-requires
close_page-requires g c =
    let m = g.M.Machine.contents in
    stays_open c.store-stored.result (m c.args.m.now) (m c.open_page.new.self) (m c.store-stored.new.self) c.args.p.0 _ c.open_page.ensures.contents c.store-stored.ensures.stored c.store-stored.ensures.same

pub write_block-requires-clause-closed : goal.write_block-requires-clause-closed
write_block-requires-clause-closed g c =
    let m = g.M.Machine.contents in
    closed_page (m c.store-stored.new.self) (m c.close_page.new.self) c.close_page.ensures.contents

pub write_block-requires-clause-block : goal.write_block-requires-clause-block
write_block-requires-clause-block g c =
    let m = g.M.Machine.contents in
    within_now _ _ _ (lasts_within (m c.args.m.now) (m c.open_page.new.self) (m c.store-stored.new.self) (m c.close_page.new.self) (Some c.args.p.0) None c.open_page.ensures.contents c.store-stored.ensures.lasts c.close_page.ensures.contents).blocks c.requires.block

pub write_block-requires-clause-from : goal.write_block-requires-clause-from
write_block-requires-clause-from g c =
    let m = g.M.Machine.contents in
    within_more _ _ _ _ (lasts_within (m c.args.m.now) (m c.open_page.new.self) (m c.store-stored.new.self) (m c.close_page.new.self) (Some c.args.p.0) None c.open_page.ensures.contents c.store-stored.ensures.lasts c.close_page.ensures.contents).size c.requires.page

pub sync-requires : goal.sync-requires
sync-requires g c =
    let m = g.M.Machine.contents in
    record { closed = c.write_block.ensures.writes_block.open_page ∙ closed_page (m c.store-stored.new.self) (m c.close_page.new.self) c.close_page.ensures.contents }

pub read_block-requires-clause-closed : goal.read_block-requires-clause-closed
read_block-requires-clause-closed g c =
    let m = g.M.Machine.contents in
    synced_page (m c.write_block.new.self) (m c.sync.new.self) _ c.in_ok-sync.ensures.synced ∙ c.write_block.ensures.writes_block.open_page ∙ closed_page (m c.store-stored.new.self) (m c.close_page.new.self) c.close_page.ensures.contents

pub read_block-requires-clause-block : goal.read_block-requires-clause-block
read_block-requires-clause-block g c =
    let m = g.M.Machine.contents in
    within_now _ _ _ (lasts_trans (m c.args.m.now) (m c.write_block.new.self) (m c.sync.new.self) (lasts_trans (m c.args.m.now) (m c.close_page.new.self) (m c.write_block.new.self) (lasts_within (m c.args.m.now) (m c.open_page.new.self) (m c.store-stored.new.self) (m c.close_page.new.self) (Some c.args.p.0) None c.open_page.ensures.contents c.store-stored.ensures.lasts c.close_page.ensures.contents) c.write_block.ensures.lasts) c.sync.ensures.lasts).blocks c.requires.block
