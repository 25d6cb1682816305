use Rattle.vista_region.proofs.Common.{arith, subst, ◌≡◌, ◌/◌, length, CoversAll, undo_records}
use Rattle.vista_region.proofs.Words.{stored_fault, stored_ok, words_read}
use Rattle.vista_region.proofs.runs.put_through.Goals as goal

pub returns-clause-ok : goal.returns-clause-ok
returns-clause-ok g c =
    let room = c.read_u64_into.new.dst in
    stored_ok c.put_covered_run.result (g.R.RegionWords.count c.args.r.now) (g.R.RegionWords.words c.args.r.now) (g.R.RegionWords.words c.put_covered_run.new.r) c.args.place c.args.bytes.now room (words_read c.args.bytes.now room (omega (arith, c.requires.room, c.read_u64_into.auto.dst)) c.read_u64_into.ensures) c.put_covered_run.ensures.ok

pub returns-clause-fault : goal.returns-clause-fault
returns-clause-fault g c =
    let room = c.read_u64_into.new.dst in
    stored_fault c.put_covered_run.result (g.R.RegionWords.count c.args.r.now) (g.R.RegionWords.words c.args.r.now) (g.R.RegionWords.words c.put_covered_run.new.r) c.args.place c.args.bytes.now room (words_read c.args.bytes.now room (omega (arith, c.requires.room, c.read_u64_into.auto.dst)) c.read_u64_into.ensures) c.put_covered_run.ensures.fault

pub put_covered_run-requires-clause-place : goal.put_covered_run-requires-clause-place
put_covered_run-requires-clause-place g c = omega (arith, c.requires.place, c.requires.room, c.read_u64_into.auto.dst)

pub put_covered_run-requires-clause-covered : goal.put_covered_run-requires-clause-covered
put_covered_run-requires-clause-covered g c =
    let long : length c.args.bytes.now / 8 ≡ length c.read_u64_into.new.dst = omega (arith, c.requires.room, c.read_u64_into.auto.dst) in
    subst (λ k. CoversAll (undo_records (g.R.RegionWords.words c.args.r.now)) c.args.place k) long c.requires.covered
