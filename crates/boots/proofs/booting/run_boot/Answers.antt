use Rattle.std.proofs.Common.{◌∙◌, ap, refl}
use Rattle.rio_base.specs.Machine.{Contents, Running}
use Rattle.boots.proofs.BootRules.{planned_stopped}
use Rattle.boots.proofs.Handing.{boot_done, boot_stands}
use Rattle.boots.proofs.booting.run_boot.Goals as goal

pub serve_machine-requires-clause-closed : goal.serve_machine-requires-clause-closed
serve_machine-requires-clause-closed c = ap (λ (x : Contents). x.open_page) c.planned_board-board.ensures.contents

pub serve_machine-requires-clause-running : goal.serve_machine-requires-clause-running
serve_machine-requires-clause-running c = ap (λ (r : Running). r.stopped) c.planned_board-board.ensures.run ∙ planned_stopped c.args.plan.now _ _

pub serve_machine-requires-clause-standing : goal.serve_machine-requires-clause-standing
serve_machine-requires-clause-standing c =
    let s = c.requires.stand in
    let made = c.planned_board-board.ensures in
    (s.0, boot_stands c.args.plan.now _ _ _ _ _ _ _ s.0 c.in_ok-disk.ensures.rest made.whole made.contents made.run s.1)

pub returns-clause-leads : goal.returns-clause-leads
returns-clause-leads c = λ s st.
    let done = boot_done c.args.plan.now _ _ _ _ _ _ _ _ s (record {
      failing_disk = _;
      rest = c.in_ok-disk.ensures.rest;
      more = rw c.as_slice-fail.ensures at c.in_ok-disk.ensures.more;
      whole = c.planned_board-board.ensures.whole;
      before = _;
      run_before = _;
      after = _;
      health_after = _;
      below_after = _;
      scratch_after = _;
      made = c.planned_board-board.ensures.contents;
      planned = c.planned_board-board.ensures.run;
      size = c.in_ok-run.ensures.words;
      leads = rw c.as_slice.ensures at c.in_ok-run.ensures.leads;
      counts = refl;
      limits = refl;
      behind = refl;
      left_disk = _;
      words_are = c.into_parts-memory.ensures.words;
      disk_is = c.into_parts-memory.ensures.disk;
      settled = c.disk_after-disk.ensures;
    }) (rw c.as_slice-fail.ensures at c.in_ok-failing.ensures.total) c.in_ok-failing.ensures.few st in
    (done.0, done.1, done.2)

pub returns-clause-words : goal.returns-clause-words
returns-clause-words c =
    let s = c.requires.stand in
    (boot_done c.args.plan.now _ _ _ _ _ _ _ _ s.0 (record {
      failing_disk = _;
      rest = c.in_ok-disk.ensures.rest;
      more = rw c.as_slice-fail.ensures at c.in_ok-disk.ensures.more;
      whole = c.planned_board-board.ensures.whole;
      before = _;
      run_before = _;
      after = _;
      health_after = _;
      below_after = _;
      scratch_after = _;
      made = c.planned_board-board.ensures.contents;
      planned = c.planned_board-board.ensures.run;
      size = c.in_ok-run.ensures.words;
      leads = rw c.as_slice.ensures at c.in_ok-run.ensures.leads;
      counts = refl;
      limits = refl;
      behind = refl;
      left_disk = _;
      words_are = c.into_parts-memory.ensures.words;
      disk_is = c.into_parts-memory.ensures.disk;
      settled = c.disk_after-disk.ensures;
    }) (rw c.as_slice-fail.ensures at c.in_ok-failing.ensures.total) c.in_ok-failing.ensures.few s.1).3
