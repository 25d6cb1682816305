use Rattle.pair_files.proofs.StageRules.{is_booted}
use Rattle.boots.proofs.BootRules.{runs_then}
use Rattle.boots.proofs.FailedBoots.{failed_boot, words_kept}
use Rattle.boots.proofs.PartsMachines.{standing_layout}
use Rattle.boots.proofs.serving.serve_machine.Goals as goal

pub boot-requires-clause-layout : goal.boot-requires-clause-layout
boot-requires-clause-layout g c = standing_layout _ _ _ c.requires.standing.1

pub serve_cache-requires-clause-booted : goal.serve_cache-requires-clause-booted
serve_cache-requires-clause-booted g c =
    let old = c.args.machine in
    let new = c.in-Ok.cache.machine in
    let s = c.requires.standing in
    (s.0, is_booted (g.M.Machine.contents old) (g.M.Machine.contents new) (g.M.Machine.run old) (g.M.Machine.run new) c.in-Ok.cache.tables c.in-Ok.report s.0 (g.met.M.Machine.whole_blocks old) (g.met.M.Machine.protected_words old) c.in-Ok.ensures.runs.memory c.in-Ok.ensures.running (c.in-Ok.ensures.booted s.0) s.1)

pub returns-in_ok-run-in-Ok-clause-leads : goal.returns-in_ok-run-in-Ok-clause-leads
returns-in_ok-run-in-Ok-clause-leads g c = λ s st.
    let old = c.args.machine in
    let new = c.in-Ok.cache.machine in
    let led = c.in_ok-run-in-Ok.ensures.leads s (is_booted (g.M.Machine.contents old) (g.M.Machine.contents new) (g.M.Machine.run old) (g.M.Machine.run new) c.in-Ok.cache.tables c.in-Ok.report s (g.met.M.Machine.whole_blocks old) (g.met.M.Machine.protected_words old) c.in-Ok.ensures.runs.memory c.in-Ok.ensures.running (c.in-Ok.ensures.booted s) st) in
    (led.0, runs_then s _ _ led.0 _ _ _ _ _ _ c.in-Ok.ensures.runs led.1, led.2)

pub returns-in_ok-run-in-Ok-clause-words : goal.returns-in_ok-run-in-Ok-clause-words
returns-in_ok-run-in-Ok-clause-words g c =
    let old = c.args.machine in
    let new = c.in-Ok.cache.machine in
    let after = c.in_ok-run-in-Ok.machine in
    let s = c.requires.standing in
    let led = c.in_ok-run-in-Ok.ensures.leads s.0 (is_booted (g.M.Machine.contents old) (g.M.Machine.contents new) (g.M.Machine.run old) (g.M.Machine.run new) c.in-Ok.cache.tables c.in-Ok.report s.0 (g.met.M.Machine.whole_blocks old) (g.met.M.Machine.protected_words old) c.in-Ok.ensures.runs.memory c.in-Ok.ensures.running (c.in-Ok.ensures.booted s.0) s.1) in
    words_kept (g.M.Machine.contents old) (g.M.Machine.contents after) (g.M.Machine.run old) (g.M.Machine.run after) (g.met.M.Machine.protected_words old) (g.met.M.Machine.protected_words after) (runs_then s.0 _ _ led.0 _ _ _ _ _ _ c.in-Ok.ensures.runs led.1).memory

pub unbooted-requires : goal.unbooted-requires
unbooted-requires g c = record { rule = c.in-Err.ensures.standing c.requires.standing.0 c.requires.standing.1 }

pub returns-in_ok-run-in-Err-clause-leads : goal.returns-in_ok-run-in-Err-clause-leads
returns-in_ok-run-in-Err-clause-leads g c = λ s st.
    failed_boot (g.M.Machine.contents c.args.machine) (g.M.Machine.contents c.in-Err.field-0.machine) (g.M.Machine.run c.args.machine) (g.M.Machine.run c.in-Err.field-0.machine) c.in-Err.field-0.fail _ _ s c.in_ok-run-in-Err.ensures c.in-Err.ensures.unbooted c.in-Err.ensures.runs c.requires.running st

pub returns-in_ok-run-in-Err-clause-words : goal.returns-in_ok-run-in-Err-clause-words
returns-in_ok-run-in-Err-clause-words g c =
    let old = c.args.machine in
    let new = c.in-Err.field-0.machine in
    words_kept (g.M.Machine.contents old) (g.M.Machine.contents new) (g.M.Machine.run old) (g.M.Machine.run new) (g.met.M.Machine.protected_words old) (g.met.M.Machine.protected_words new) c.in-Err.ensures.runs.memory
