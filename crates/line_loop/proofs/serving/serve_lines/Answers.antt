use Rattle.std.proofs.Common.{refl, ap, subst, ◌∙◌, arith, le_trans}
use Rattle.std.specs.Prelude.{Err}
use Rattle.std.proofs.lemmas.Result.{IfOk-from_err}
use Rattle.rio_base.specs.Failures.{Rose}
use Rattle.rio_base.specs.Rules.{limit_refl, limit_trans}
use Rattle.rio_base.proofs.Exits.{on_err}
use Rattle.rio_base.proofs.Rules.{rose_later}
use Rattle.request_codec.specs.Lines.{Reading}
use Rattle.line_loop.proofs.Leaving.{later_than, sink_no_source, sink_no_stop, stayed}
use Rattle.line_loop.proofs.Running.{budget_falls}
use Rattle.line_loop.proofs.Turns.{ask_later, ask_rises, ask_steady, ask_unstopped, each_end, each_holds, each_more, each_sent, each_sink, each_start, each_stop, each_way, calm_still, none_waits, quiet_or_none}
use Rattle.line_loop.proofs.serving.serve_lines.Goals as goal

pub loop-request-init : goal.loop-request-init
loop-request-init g c =
    let unended = ap (λ (r : Reading). r.ended) c.requires.fresh in
    record {
      took = each_start g.C.LineServer.protocol g.C.LineServer.does _ _ _ _ _ _ _ g.met.C.LineServer.goes_none unended c.requires.none;
      calm = c.requires.calm;
      sound = c.requires.sound;
      limit = limit_refl _;
      within = let e = ap (λ (r : Reading). r.taken) c.requires.fresh in omega arith;
      later = omega arith;
      steady = refl;
      spent = λ told. absurd (cc (unended, told));
    }

-- ---- no line came

pub returns-in-Err-clause-run : goal.returns-in-Err-clause-run
returns-in-Err-clause-run g c =
    let server = g.C.LineServer in
    let left = g.S.Source.left in
    let written = g.K.Sink.written in
    let faults = g.K.Sink.faults in
    let old = c.args.core.now in
    let core = c.loop-request.core in
    each_end server.protocol server.does (server.holds old) (server.holds core) (server.stands core) c.args.reader.now c.loop-request.reader c.ask.new.reader (left c.args.source.now) (left c.loop-request.source) (left c.ask.new.source) (written c.args.sink.now) (written c.loop-request.sink) (written c.ask.new.sink) c.loop-request.waiting (faults c.loop-request.sink) (faults c.ask.new.sink) c.in-Err.end (server.health old) (server.below old) (server.health core) (server.below core)
    g.met.C.LineServer.still g.met.C.LineServer.goes_less (ap (λ (r : Reading). r.held) c.requires.fresh) (ap (λ (r : Reading). r.taken) c.requires.fresh) c.loop-request.invariant.within c.loop-request.invariant.took c.in-Err.ensures.end

pub returns-in-Err-clause-other : goal.returns-in-Err-clause-other
returns-in-Err-clause-other g c = ask_unstopped _ _ _ _ _ _ _ _ _ _ c.in-Err.ensures.end

pub returns-in-Err-clause-sink_fault : goal.returns-in-Err-clause-sink_fault
returns-in-Err-clause-sink_fault g c = λ is. subst (λ n. Rose n (g.K.Sink.faults c.ask.new.sink)) c.loop-request.invariant.steady (ask_rises _ _ _ _ _ _ _ _ _ _ c.in-Err.ensures.end is)

pub returns-in-Err-clause-steady : goal.returns-in-Err-clause-steady
returns-in-Err-clause-steady g c = λ other. ask_steady _ _ _ _ _ _ _ _ _ _ c.in-Err.ensures.end other ∙ c.loop-request.invariant.steady

pub returns-in-Err-clause-sink_later : goal.returns-in-Err-clause-sink_later
returns-in-Err-clause-sink_later g c =
    let later = ask_later _ _ _ _ _ _ _ _ _ _ c.in-Err.ensures.end in
    let same = c.loop-request.invariant.steady in
    omega (arith, later, same)

pub returns-in-Err-clause-source_fault : goal.returns-in-Err-clause-source_fault
returns-in-Err-clause-source_fault g c = λ is. rose_later _ _ _ c.loop-request.invariant.later (c.in-Err.ensures.cause (ap Err is))

pub returns-in-Err-clause-later : goal.returns-in-Err-clause-later
returns-in-Err-clause-later g c = le_trans c.loop-request.invariant.later c.in-Err.ensures.later

-- ---- what waited was refused, before the line was answered

pub returns-in-Err-make_way-clause-run : goal.returns-in-Err-make_way-clause-run
returns-in-Err-make_way-clause-run g c =
    let server = g.C.LineServer in
    let left = g.S.Source.left in
    let written = g.K.Sink.written in
    let faults = g.K.Sink.faults in
    let old = c.args.core.now in
    let mid = c.loop-request.core in
    let asked = each_sent server.protocol server.does (server.holds old) (server.holds mid) c.args.reader.now c.loop-request.reader (left c.args.source.now) (left c.loop-request.source) (written c.args.sink.now) (written c.loop-request.sink) (written c.ask.new.sink) c.loop-request.waiting c.ask.new.waiting (faults c.loop-request.sink) (faults c.ask.new.sink) (server.health old) (server.below old) (server.health mid) (server.below mid) c.loop-request.invariant.took c.in-Ok.ensures.waits in
    each_way server.protocol server.does (server.holds old) (server.holds mid) (server.stands mid) c.args.reader.now c.loop-request.reader c.ask.new.reader (left c.args.source.now) (left c.loop-request.source) (left c.ask.new.source) (written c.args.sink.now) (written c.ask.new.sink) (written c.make_way.new.sink) c.ask.new.waiting (faults c.ask.new.sink) (faults c.make_way.new.sink) c.in-Ok.request (server.health old) (server.below old) (server.health mid) (server.below mid)
    g.met.C.LineServer.still g.met.C.LineServer.goes_less (ap (λ (r : Reading). r.held) c.requires.fresh) (ap (λ (r : Reading). r.taken) c.requires.fresh) asked c.in-Ok.ensures.line c.in-Err-make_way.ensures.err

pub returns-in-Err-make_way-clause-sink_fault : goal.returns-in-Err-make_way-clause-sink_fault
returns-in-Err-make_way-clause-sink_fault g c = λ is. subst (λ n. Rose n (g.K.Sink.faults c.make_way.new.sink)) (c.in-Ok.ensures.waits.steady ∙ c.loop-request.invariant.steady) c.in-Err-make_way.ensures.err.cut.rose

pub returns-in-Err-make_way-clause-other : goal.returns-in-Err-make_way-clause-other
returns-in-Err-make_way-clause-other g c = sink_no_stop

pub returns-in-Err-make_way-clause-source_fault : goal.returns-in-Err-make_way-clause-source_fault
returns-in-Err-make_way-clause-source_fault g c = sink_no_source

pub returns-in-Err-make_way-clause-steady : goal.returns-in-Err-make_way-clause-steady
returns-in-Err-make_way-clause-steady g c = λ other. absurd (other refl)

pub returns-in-Err-make_way-clause-later : goal.returns-in-Err-make_way-clause-later
returns-in-Err-make_way-clause-later g c = le_trans c.loop-request.invariant.later c.in-Ok.ensures.later

pub returns-in-Err-make_way-clause-sink_later : goal.returns-in-Err-make_way-clause-sink_later
returns-in-Err-make_way-clause-sink_later g c = later_than (c.in-Ok.ensures.waits.steady ∙ c.loop-request.invariant.steady) c.in-Err-make_way.ensures.err.cut.later

-- ---- the line was answered, or the machine stopped

pub reply_to-requires-clause-holds : goal.reply_to-requires-clause-holds
reply_to-requires-clause-holds g c = each_holds g.C.LineServer.protocol g.C.LineServer.does _ _ _ _ _ _ _ _ _ _ _ _ _ c.loop-request.invariant.took c.requires.holds

pub reply_to-requires-clause-asked : goal.reply_to-requires-clause-asked
reply_to-requires-clause-asked g c = (c.in-Ok.ensures.line.line, c.in-Ok.ensures.line.asks)

pub returns-in_err-reply-clause-stopped : goal.returns-in_err-reply-clause-stopped
returns-in_err-reply-clause-stopped g c =
    let server = g.C.LineServer in
    let left = g.S.Source.left in
    let written = g.K.Sink.written in
    let faults = g.K.Sink.faults in
    let old = c.args.core.now in
    let mid = c.loop-request.core in
    let core = c.reply_to.new.core in
    let asked = each_sent server.protocol server.does (server.holds old) (server.holds mid) c.args.reader.now c.loop-request.reader (left c.args.source.now) (left c.loop-request.source) (written c.args.sink.now) (written c.loop-request.sink) (written c.ask.new.sink) c.loop-request.waiting c.ask.new.waiting (faults c.loop-request.sink) (faults c.ask.new.sink) (server.health old) (server.below old) (server.health mid) (server.below mid) c.loop-request.invariant.took c.in-Ok.ensures.waits in
    let way = each_sent server.protocol server.does (server.holds old) (server.holds mid) c.args.reader.now c.loop-request.reader (left c.args.source.now) (left c.loop-request.source) (written c.args.sink.now) (written c.ask.new.sink) (written c.make_way.new.sink) c.ask.new.waiting c.make_way.new.waiting (faults c.ask.new.sink) (faults c.make_way.new.sink) (server.health old) (server.below old) (server.health mid) (server.below mid) asked c.in-Ok-make_way.ensures.ok in
    each_stop c.from_residual.result server.protocol server.does (server.holds old) (server.holds mid) (server.holds core) (server.stands core) c.args.reader.now c.loop-request.reader c.ask.new.reader (left c.args.source.now) (left c.loop-request.source) (left c.ask.new.source) (written c.args.sink.now) (written c.make_way.new.sink) c.make_way.new.waiting c.in-Ok.request (server.health old) (server.below old) (server.health mid) (server.below mid) (server.health core) (server.below core)
    (ap (λ (r : Reading). r.held) c.requires.fresh) (ap (λ (r : Reading). r.taken) c.requires.fresh) way c.in-Ok.ensures.line
    (λ some. none_waits server.protocol server.does server.calm c.in-Ok.request c.effect_of_line-effect.result c.may_wait-waits.result c.still_gathers-gathering.result c.loop-request.gathering c.make_way.new.waiting (server.health mid) (server.below mid) (server.health core) (server.below core) g.met.C.LineServer.runs_on c.effect_of_line-effect.ensures c.may_wait-waits.ensures (λ told. (c.still_gathers-gathering.ensures told).0) c.loop-request.invariant.calm some c.in_err-reply.ensures.stopped c.in-Ok-make_way.ensures.none)
    c.in_err-reply.ensures.answered c.in_err-reply.ensures.stopped

pub returns-in_err-reply-clause-run : goal.returns-in_err-reply-clause-run
returns-in_err-reply-clause-run g c = IfOk-from_err c.from_residual.result _ c.from_residual.ensures.0

pub returns-in_err-reply-clause-halted : goal.returns-in_err-reply-clause-halted
returns-in_err-reply-clause-halted g c = on_err c.from_residual.result _ c.in_err-reply.ensures.halted

pub returns-in_err-reply-clause-other : goal.returns-in_err-reply-clause-other
returns-in_err-reply-clause-other g c = IfOk-from_err c.from_residual.result _ c.from_residual.ensures.0

pub returns-in_err-reply-clause-limit : goal.returns-in_err-reply-clause-limit
returns-in_err-reply-clause-limit g c = limit_trans _ _ _ c.loop-request.invariant.limit c.reply_to.ensures.limit

pub returns-in_err-reply-clause-source_fault : goal.returns-in_err-reply-clause-source_fault
returns-in_err-reply-clause-source_fault g c = IfOk-from_err c.from_residual.result _ c.from_residual.ensures.0

pub returns-in_err-reply-clause-sink_fault : goal.returns-in_err-reply-clause-sink_fault
returns-in_err-reply-clause-sink_fault g c = IfOk-from_err c.from_residual.result _ c.from_residual.ensures.0

pub returns-in_err-reply-clause-steady : goal.returns-in_err-reply-clause-steady
returns-in_err-reply-clause-steady g c = IfOk-from_err c.from_residual.result _ c.from_residual.ensures.0

pub returns-in_err-reply-clause-steady_stop : goal.returns-in_err-reply-clause-steady_stop
returns-in_err-reply-clause-steady_stop g c = on_err c.from_residual.result _ (c.in-Ok-make_way.ensures.ok.steady ∙ c.in-Ok.ensures.waits.steady ∙ c.loop-request.invariant.steady)

pub returns-in_err-reply-clause-later : goal.returns-in_err-reply-clause-later
returns-in_err-reply-clause-later g c = le_trans c.loop-request.invariant.later c.in-Ok.ensures.later

pub returns-in_err-reply-clause-sink_later : goal.returns-in_err-reply-clause-sink_later
returns-in_err-reply-clause-sink_later g c = stayed (c.in-Ok-make_way.ensures.ok.steady ∙ c.in-Ok.ensures.waits.steady ∙ c.loop-request.invariant.steady)

-- ---- its reply was refused, or what waited before it

pub returns-in-Err-add-clause-run : goal.returns-in-Err-add-clause-run
returns-in-Err-add-clause-run g c =
    let server = g.C.LineServer in
    let left = g.S.Source.left in
    let written = g.K.Sink.written in
    let faults = g.K.Sink.faults in
    let old = c.args.core.now in
    let mid = c.loop-request.core in
    let core = c.reply_to.new.core in
    let asked = each_sent server.protocol server.does (server.holds old) (server.holds mid) c.args.reader.now c.loop-request.reader (left c.args.source.now) (left c.loop-request.source) (written c.args.sink.now) (written c.loop-request.sink) (written c.ask.new.sink) c.loop-request.waiting c.ask.new.waiting (faults c.loop-request.sink) (faults c.ask.new.sink) (server.health old) (server.below old) (server.health mid) (server.below mid) c.loop-request.invariant.took c.in-Ok.ensures.waits in
    let way = each_sent server.protocol server.does (server.holds old) (server.holds mid) c.args.reader.now c.loop-request.reader (left c.args.source.now) (left c.loop-request.source) (written c.args.sink.now) (written c.ask.new.sink) (written c.make_way.new.sink) c.ask.new.waiting c.make_way.new.waiting (faults c.ask.new.sink) (faults c.make_way.new.sink) (server.health old) (server.below old) (server.health mid) (server.below mid) asked c.in-Ok-make_way.ensures.ok in
    let quiet = quiet_or_none server.does c.in-Ok.request c.effect_of_line-effect.result c.may_wait-waits.result c.still_gathers-gathering.result c.make_way.new.waiting c.effect_of_line-effect.ensures c.may_wait-waits.ensures c.in-Ok-make_way.ensures.none in
    each_sink server.protocol server.does (server.holds old) (server.holds mid) (server.holds core) (server.stands core) c.args.reader.now c.loop-request.reader c.ask.new.reader (left c.args.source.now) (left c.loop-request.source) (left c.ask.new.source) (written c.args.sink.now) (written c.make_way.new.sink) (written c.add.new.sink) c.make_way.new.waiting (faults c.make_way.new.sink) (faults c.add.new.sink) c.in-Ok.request c.in_ok-reply.reply (server.health old) (server.below old) (server.health mid) (server.below mid) (server.health core) (server.below core)
    g.met.C.LineServer.goes_more g.met.C.LineServer.still g.met.C.LineServer.goes_less (ap (λ (r : Reading). r.held) c.requires.fresh) (ap (λ (r : Reading). r.taken) c.requires.fresh) way c.in-Ok.ensures.line quiet c.in_ok-reply.ensures.answered c.in_ok-reply.ensures.went c.in-Err-add.ensures.sends.err

pub returns-in-Err-add-clause-limit : goal.returns-in-Err-add-clause-limit
returns-in-Err-add-clause-limit g c = limit_trans _ _ _ c.loop-request.invariant.limit c.reply_to.ensures.limit

pub returns-in-Err-add-clause-sink_fault : goal.returns-in-Err-add-clause-sink_fault
returns-in-Err-add-clause-sink_fault g c = λ is. subst (λ n. Rose n (g.K.Sink.faults c.add.new.sink)) (c.in-Ok-make_way.ensures.ok.steady ∙ c.in-Ok.ensures.waits.steady ∙ c.loop-request.invariant.steady) c.in-Err-add.ensures.sends.err.rose

pub returns-in-Err-add-clause-other : goal.returns-in-Err-add-clause-other
returns-in-Err-add-clause-other g c = sink_no_stop

pub returns-in-Err-add-clause-source_fault : goal.returns-in-Err-add-clause-source_fault
returns-in-Err-add-clause-source_fault g c = sink_no_source

pub returns-in-Err-add-clause-steady : goal.returns-in-Err-add-clause-steady
returns-in-Err-add-clause-steady g c = λ other. absurd (other refl)

pub returns-in-Err-add-clause-later : goal.returns-in-Err-add-clause-later
returns-in-Err-add-clause-later g c = le_trans c.loop-request.invariant.later c.in-Ok.ensures.later

pub returns-in-Err-add-clause-sink_later : goal.returns-in-Err-add-clause-sink_later
returns-in-Err-add-clause-sink_later g c = later_than (c.in-Ok-make_way.ensures.ok.steady ∙ c.in-Ok.ensures.waits.steady ∙ c.loop-request.invariant.steady) c.in-Err-add.ensures.sends.err.later

-- ---- the next line

pub loop-request-smaller : goal.loop-request-smaller
loop-request-smaller g c =
    budget_falls _ _ _ _ _ c.in-Ok.ensures.line.takes c.in-Ok.ensures.line.within

pub loop-request-preserved : goal.loop-request-preserved
loop-request-preserved g c =
    let server = g.C.LineServer in
    let left = g.S.Source.left in
    let written = g.K.Sink.written in
    let faults = g.K.Sink.faults in
    let old = c.args.core.now in
    let mid = c.loop-request.core in
    let core = c.reply_to.new.core in
    let asked = each_sent server.protocol server.does (server.holds old) (server.holds mid) c.args.reader.now c.loop-request.reader (left c.args.source.now) (left c.loop-request.source) (written c.args.sink.now) (written c.loop-request.sink) (written c.ask.new.sink) c.loop-request.waiting c.ask.new.waiting (faults c.loop-request.sink) (faults c.ask.new.sink) (server.health old) (server.below old) (server.health mid) (server.below mid) c.loop-request.invariant.took c.in-Ok.ensures.waits in
    let way = each_sent server.protocol server.does (server.holds old) (server.holds mid) c.args.reader.now c.loop-request.reader (left c.args.source.now) (left c.loop-request.source) (written c.args.sink.now) (written c.ask.new.sink) (written c.make_way.new.sink) c.ask.new.waiting c.make_way.new.waiting (faults c.ask.new.sink) (faults c.make_way.new.sink) (server.health old) (server.below old) (server.health mid) (server.below mid) asked c.in-Ok-make_way.ensures.ok in
    let quiet = quiet_or_none server.does c.in-Ok.request c.effect_of_line-effect.result c.may_wait-waits.result c.still_gathers-gathering.result c.make_way.new.waiting c.effect_of_line-effect.ensures c.may_wait-waits.ensures c.in-Ok-make_way.ensures.none in
    record {
      took = each_more server.protocol server.does (server.holds old) (server.holds mid) (server.holds core) c.args.reader.now c.loop-request.reader c.ask.new.reader (left c.args.source.now) (left c.loop-request.source) (left c.ask.new.source) (written c.args.sink.now) (written c.make_way.new.sink) (written c.add.new.sink) c.make_way.new.waiting c.add.new.self (faults c.make_way.new.sink) (faults c.add.new.sink) c.in-Ok.request c.in_ok-reply.reply (server.health old) (server.below old) (server.health mid) (server.below mid) (server.health core) (server.below core)
          g.met.C.LineServer.goes_more way c.in-Ok.ensures.line quiet c.in_ok-reply.ensures.answered c.in_ok-reply.ensures.went c.in-Ok-add.ensures.sends.ok;
      calm = λ told. calm_still server.protocol server.does server.calm c.in-Ok.request c.in_ok-reply.reply c.effect_of_line-effect.result (server.health mid) (server.below mid) (server.health core) (server.below core) g.met.C.LineServer.stays_calm c.effect_of_line-effect.ensures (c.still_gathers-gathering.ensures told).1 (c.loop-request.invariant.calm (c.still_gathers-gathering.ensures told).0) c.in_ok-reply.ensures.went;
      sound = c.reply_to.ensures.sound;
      limit = limit_trans (server.below old).limit (server.below mid).limit (server.below core).limit c.loop-request.invariant.limit c.reply_to.ensures.limit;
      within = c.in-Ok.ensures.line.within;
      later = omega (arith, c.in-Ok.ensures.later);
      steady = c.in-Ok-add.ensures.sends.ok.steady ∙ c.in-Ok-make_way.ensures.ok.steady ∙ c.in-Ok.ensures.waits.steady ∙ c.loop-request.invariant.steady;
      spent = λ told. (c.in-Ok.ensures.line.closed told).spent;
    }
