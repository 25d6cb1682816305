use Rattle.std.proofs.Common.{◌∙◌, arith, le_refl, sym}
use Rattle.pair_files.proofs.Endings.{ended_early}
use Rattle.pair_files.proofs.StageRules.{asks_booted, is_booted, same_memory, some_booted}
use Rattle.pair_files.proofs.running.work_made.Goals as goal

pub work_booted-requires-clause-booted : goal.work_booted-requires-clause-booted
work_booted-requires-clause-booted g c =
    let old = c.args.machine in
    let new = c.in-Ok.cache.machine in
    let some = some_booted (g.B.M.Machine.contents old) (g.B.M.Machine.contents new) (g.B.M.Machine.run old) (g.B.M.Machine.run new) c.in-Ok.cache.tables c.in-Ok.report (g.met.B.M.Machine.whole_blocks old) c.requires.header c.requires.layout c.requires.keeps c.requires.settled (g.met.B.M.Machine.protected_words old) c.in-Ok.ensures.runs.memory c.in-Ok.ensures.running c.in-Ok.ensures.state c.in-Ok.ensures.booted in
    (some.0, some.2)

pub work_booted-requires-clause-bytes : goal.work_booted-requires-clause-bytes
work_booted-requires-clause-bytes g c =
    let old = c.args.machine in
    let new = c.in-Ok.cache.machine in
    let same = same_memory (g.B.M.Machine.contents old) (g.B.M.Machine.contents new) (g.B.M.Machine.run old) (g.B.M.Machine.run new) (g.met.B.M.Machine.protected_words old) (g.met.B.M.Machine.protected_words new) c.in-Ok.ensures.runs.memory in
    omega (arith, same, c.requires.bytes)

pub work_booted-requires-clause-pages : goal.work_booted-requires-clause-pages
work_booted-requires-clause-pages g c =
    let old = c.args.machine in
    let new = c.in-Ok.cache.machine in
    let same = same_memory (g.B.M.Machine.contents old) (g.B.M.Machine.contents new) (g.B.M.Machine.run old) (g.B.M.Machine.run new) (g.met.B.M.Machine.protected_words old) (g.met.B.M.Machine.protected_words new) c.in-Ok.ensures.runs.memory in
    (c.requires.pages.0, c.requires.pages.1, c.requires.pages.2 ∙ sym same)

pub work_booted-requires-clause-asks : goal.work_booted-requires-clause-asks
work_booted-requires-clause-asks g c =
    let old = c.args.machine in
    let new = c.in-Ok.cache.machine in
    asks_booted (g.W.PairWork.asks c.args.work.now) (g.B.M.Machine.contents old) (g.B.M.Machine.contents new) (g.B.M.Machine.run old) (g.B.M.Machine.run new) c.requires.asks c.requires.unarmed c.in-Ok.ensures.runs

pub returns-in-Ok-clause-ended : goal.returns-in-Ok-clause-ended
returns-in-Ok-clause-ended g c = λ o of made.
    let old = c.args.machine in
    let new = c.in-Ok.cache.machine in
    let some = some_booted (g.B.M.Machine.contents old) (g.B.M.Machine.contents new) (g.B.M.Machine.run old) (g.B.M.Machine.run new) c.in-Ok.cache.tables c.in-Ok.report (g.met.B.M.Machine.whole_blocks old) c.requires.header c.requires.layout c.requires.keeps c.requires.settled (g.met.B.M.Machine.protected_words old) c.in-Ok.ensures.runs.memory c.in-Ok.ensures.running c.in-Ok.ensures.state c.in-Ok.ensures.booted in
    c.work_booted.ensures.ended o of (record {
      old = g.B.M.Machine.contents old;
      run = g.B.M.Machine.run old;
      made = made;
      runs = c.in-Ok.ensures.runs;
      running = c.in-Ok.ensures.running;
      found = (some.0, some.1);
      booted = λ s st. is_booted (g.B.M.Machine.contents old) (g.B.M.Machine.contents new) (g.B.M.Machine.run old) (g.B.M.Machine.run new) c.in-Ok.cache.tables c.in-Ok.report s (g.met.B.M.Machine.whole_blocks old) (g.met.B.M.Machine.protected_words old) c.in-Ok.ensures.runs.memory c.in-Ok.ensures.running (c.in-Ok.ensures.booted s) st;
      restored = c.in-Ok.ensures.restored;
      synced = c.in-Ok.ensures.synced;
    })

pub returns-in-Err-clause-ended : goal.returns-in-Err-clause-ended
returns-in-Err-clause-ended g c = λ o of made.
    ended_early o (λ end before after. g.W.PairWork.does c.args.work.now before end after) _ _ (c.end_unbooted.ensures.ended o _ of (record {
      old = g.B.M.Machine.contents c.args.machine;
      run = g.B.M.Machine.run c.args.machine;
      made = made;
      unbooted = c.in-Err.ensures.unbooted;
      looked = c.in-Err.ensures.looked;
      runs = c.in-Err.ensures.runs;
      standing = λ s st. c.in-Err.ensures.standing s st;
    }))

-- ---- what is asked of the calls

pub end_unbooted-requires-clause-bytes : goal.end_unbooted-requires-clause-bytes
end_unbooted-requires-clause-bytes g c =
    let old = c.args.machine in
    let new = c.in-Err.field-0.machine in
    let same = same_memory (g.B.M.Machine.contents old) (g.B.M.Machine.contents new) (g.B.M.Machine.run old) (g.B.M.Machine.run new) (g.met.B.M.Machine.protected_words old) (g.met.B.M.Machine.protected_words new) c.in-Err.ensures.runs.memory in
    omega (arith, same, c.requires.bytes)

pub end_unbooted-requires-clause-pages : goal.end_unbooted-requires-clause-pages
end_unbooted-requires-clause-pages g c =
    let old = c.args.machine in
    let new = c.in-Err.field-0.machine in
    let same = same_memory (g.B.M.Machine.contents old) (g.B.M.Machine.contents new) (g.B.M.Machine.run old) (g.B.M.Machine.run new) (g.met.B.M.Machine.protected_words old) (g.met.B.M.Machine.protected_words new) c.in-Err.ensures.runs.memory in
    (c.requires.pages.0, c.requires.pages.1, c.requires.pages.2 ∙ sym same)

-- ---- what is left of the bench and the streams

pub returns-in-Err-clause-source_later : goal.returns-in-Err-clause-source_later
returns-in-Err-clause-source_later g c = le_refl _

pub returns-in-Err-clause-sink_later : goal.returns-in-Err-clause-sink_later
returns-in-Err-clause-sink_later g c = le_refl _
