use Rattle.file_pages.proofs.Written.{bytes_fault, bytes_ok, bytes_runs, bytes_stop}
use Rattle.file_pages.proofs.Common.{◌≡◌, ◌+◌, arith, le_trans, subst, sym, ap, ◌∙◌, Err, firm_trans, goes_trans, numbers, ends_by_after, ◌then◌}
use Rattle.std.proofs.Common.{Fits, w64}
use Rattle.file_pages.specs.Spans.{PutsSpan}
use Rattle.file_pages.proofs.Spanned.{fault_told, span_more}
use Rattle.node_pages.proofs.Staged.{beside_trans}
use Rattle.file_pages.proofs.spans.store_span.Goals as goal

pub loop-done-preserved : goal.loop-done-preserved
loop-done-preserved g c =
    let inv = c.loop-done.invariant in
    let now = c.store_page.ensures in
    let ok = c.in-Ok.ensures.ok in
    let more = span_more _ _ _ (numbers c.args.blocks.now) c.args.first c.args.off c.args.bytes.now c.loop-done.done c.in-Ok.count inv.within inv.puts ok.1 ok.2 in
    record {
      within = more.0;
      puts = more.1;
      beside = beside_trans _ _ _ _ _ _ _ inv.beside now.beside;
      firm = firm_trans _ _ _ inv.firm now.firm;
      named = now.named;
      idle = now.idle;
      goes = goes_trans _ _ _ _ _ _ inv.goes now.goes;
      later = le_trans inv.later now.ends.later;
      running = bytes_runs _ _ _ c.in-Ok.ensures.ends ∙ inv.running;
      sound = now.sound;
    }

pub overflow_add-result : goal.overflow_add-result
overflow_add-result g c =
    let inv = c.loop-done.invariant in
    let stored = c.in-Err-Fault.ensures.fault c.in-Err-Fault.k (ap Err c.in-Err-Fault.field-0-is) in
    let more = span_more _ _ _ (numbers c.args.blocks.now) c.args.first c.args.off c.args.bytes.now c.loop-done.done c.in-Err-Fault.k inv.within inv.puts stored.0 stored.1 in
    subst (λ n. Fits w64 (c.loop-done.done + n)) (sym c.in-Err-Fault.k-is) (omega (arith, more.0, c.requires.few, c.requires.to))

pub returns-in-Err-Fault-clause-fault : goal.returns-in-Err-Fault-clause-fault
returns-in-Err-Fault-clause-fault g c = λ k is.
    let inv = c.loop-done.invariant in
    let stored = c.in-Err-Fault.ensures.fault c.in-Err-Fault.k (ap Err c.in-Err-Fault.field-0-is) in
    let more = span_more _ _ _ (numbers c.args.blocks.now) c.args.first c.args.off c.args.bytes.now c.loop-done.done c.in-Err-Fault.k inv.within inv.puts stored.0 stored.1 in
    let told : c.loop-done.done + c.in-Err-Fault.k ≡ k = ap (λ n. c.loop-done.done + n) (sym c.in-Err-Fault.k-is) ∙ fault_told _ k is in
    let puts = subst (PutsSpan _ _ (numbers c.args.blocks.now) c.args.first c.args.off c.args.bytes.now) told more.1 in
    (omega (arith, more.0, told), puts)

pub returns-in-Err-Fault-clause-front : goal.returns-in-Err-Fault-clause-front
returns-in-Err-Fault-clause-front g c =
    let inv = c.loop-done.invariant in
    let front = c.store_page.ensures.front in
    let more = span_more _ _ _ (numbers c.args.blocks.now) c.args.first c.args.off c.args.bytes.now c.loop-done.done front.0 inv.within inv.puts front.1 front.2 in
    (c.loop-done.done + front.0, more.0, more.1)

pub returns-in-Err-Stopped-clause-front : goal.returns-in-Err-Stopped-clause-front
returns-in-Err-Stopped-clause-front g c =
    let inv = c.loop-done.invariant in
    let front = c.store_page.ensures.front in
    let more = span_more _ _ _ (numbers c.args.blocks.now) c.args.first c.args.off c.args.bytes.now c.loop-done.done front.0 inv.within inv.puts front.1 front.2 in
    (c.loop-done.done + front.0, more.0, more.1)

pub store_page-requires-clause-from : goal.store_page-requires-clause-from
store_page-requires-clause-from g c = omega (arith, c.requires.from)

pub returns-in-Err-Fault-clause-beside : goal.returns-in-Err-Fault-clause-beside
returns-in-Err-Fault-clause-beside g c = beside_trans _ _ _ _ _ _ _ c.loop-done.invariant.beside c.store_page.ensures.beside

pub returns-in-Err-Stopped-clause-beside : goal.returns-in-Err-Stopped-clause-beside
returns-in-Err-Stopped-clause-beside g c = beside_trans _ _ _ _ _ _ _ c.loop-done.invariant.beside c.store_page.ensures.beside

pub returns-in-Err-Fault-clause-firm : goal.returns-in-Err-Fault-clause-firm
returns-in-Err-Fault-clause-firm g c = firm_trans _ _ _ c.loop-done.invariant.firm c.store_page.ensures.firm

pub returns-in-Err-Stopped-clause-firm : goal.returns-in-Err-Stopped-clause-firm
returns-in-Err-Stopped-clause-firm g c = firm_trans _ _ _ c.loop-done.invariant.firm c.store_page.ensures.firm

pub returns-in-Err-Fault-clause-goes : goal.returns-in-Err-Fault-clause-goes
returns-in-Err-Fault-clause-goes g c = c.loop-done.invariant.goes then c.store_page.ensures.goes

pub returns-in-Err-Stopped-clause-goes : goal.returns-in-Err-Stopped-clause-goes
returns-in-Err-Stopped-clause-goes g c = c.loop-done.invariant.goes then c.store_page.ensures.goes

pub returns-in-Err-Fault-clause-ends : goal.returns-in-Err-Fault-clause-ends
returns-in-Err-Fault-clause-ends g c = ends_by_after _ _ _ _ _ c.loop-done.invariant.later c.loop-done.invariant.running (bytes_fault _ _ _ c.in-Err-Fault.k _ c.in-Err-Fault.field-0-is c.in-Err-Fault.ensures.ends)

pub returns-in-Err-Stopped-clause-ends : goal.returns-in-Err-Stopped-clause-ends
returns-in-Err-Stopped-clause-ends g c = ends_by_after _ _ _ _ _ c.loop-done.invariant.later c.loop-done.invariant.running (bytes_stop _ _ _ c.in-Err-Stopped.field-0-is c.in-Err-Stopped.ensures.ends)

pub returns-in-Err-Stopped-clause-fault : goal.returns-in-Err-Stopped-clause-fault
returns-in-Err-Stopped-clause-fault g c = λ k is. absurd cc

pub returns-clause-fault : goal.returns-clause-fault
returns-clause-fault g c = λ k is. absurd cc

pub returns-clause-front : goal.returns-clause-front
returns-clause-front g c = (c.loop-done.done, c.loop-done.invariant.within, c.loop-done.invariant.puts)

pub returns-clause-ends : goal.returns-clause-ends
returns-clause-ends g c = bytes_ok _ _ _ c.loop-done.invariant.later c.loop-done.invariant.running

pub returns-clause-ok : goal.returns-clause-ok
returns-clause-ok g c = subst (PutsSpan _ _ (numbers c.args.blocks.now) c.args.first c.args.off c.args.bytes.now) (let to = c.loop-done.invariant.within in omega (arith, to, c.loop-done-test.false)) c.loop-done.invariant.puts
