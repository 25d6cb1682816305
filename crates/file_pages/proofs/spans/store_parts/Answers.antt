use Rattle.file_pages.proofs.Written.{bytes_fault, bytes_runs, bytes_stop}
use Rattle.file_pages.proofs.Common.{◌≡◌, ◌-◌, min, arith, ap, subst, sym, ◌∙◌, Err, ◌then◌, firm_trans, ends_by_after, numbers, ℕ, ◌<◌, slice_index}
use Rattle.file_pages.specs.Spans.{PutsLead}
use Rattle.file_pages.proofs.Spanned.{fault_told, parts_first, parts_then, parts_whole}
use Rattle.node_pages.proofs.Staged.{beside_trans}
use Rattle.file_pages.proofs.spans.store_parts.Goals as goal

pub returns-in-Err-Fault-clause-front : goal.returns-in-Err-Fault-clause-front
returns-in-Err-Fault-clause-front g c =
    let front = c.store_span.ensures.front in
    (0, parts_first _ _ (numbers c.args.blocks.now) c.args.first c.args.size c.args.off c.args.bytes.now _ front.0 c.live_bytes-live.ensures front.1 front.2)

pub returns-in-Err-Stopped-clause-front : goal.returns-in-Err-Stopped-clause-front
returns-in-Err-Stopped-clause-front g c =
    let front = c.store_span.ensures.front in
    (0, parts_first _ _ (numbers c.args.blocks.now) c.args.first c.args.size c.args.off c.args.bytes.now _ front.0 c.live_bytes-live.ensures front.1 front.2)

pub returns-in-Ok-store_span-clause-ok : goal.returns-in-Ok-store_span-clause-ok
returns-in-Ok-store_span-clause-ok g c = parts_whole _ _ _ (numbers c.args.blocks.now) c.args.first c.args.off c.args.bytes.now _ (let live = c.live_bytes-live.ensures in omega (arith, live)) c.in-Ok.ensures.ok c.in-Ok-store_span.ensures.ok

pub returns-in-Ok-store_span-clause-front : goal.returns-in-Ok-store_span-clause-front
returns-in-Ok-store_span-clause-front g c =
    let one = c.store_span.ensures.front in
    let two = c.store_span-2.ensures.front in
    (min two.0 (c.args.size - c.args.off), parts_then _ _ _ (numbers c.args.blocks.now) c.args.first c.args.size c.args.off c.args.bytes.now _ one.0 two.0 c.live_bytes-live.ensures one.1 one.2 two.1 two.2)

pub returns-in-Ok-store_span-clause-beside : goal.returns-in-Ok-store_span-clause-beside
returns-in-Ok-store_span-clause-beside g c = beside_trans _ _ _ _ _ _ _ c.store_span.ensures.beside c.store_span-2.ensures.beside

pub returns-in-Ok-store_span-clause-goes : goal.returns-in-Ok-store_span-clause-goes
returns-in-Ok-store_span-clause-goes g c = c.store_span.ensures.goes then c.store_span-2.ensures.goes

pub returns-in-Err-Fault-store_span-clause-fault : goal.returns-in-Err-Fault-store_span-clause-fault
returns-in-Err-Fault-store_span-clause-fault g c = λ k is.
    let one = c.store_span.ensures.front in
    let two = c.in-Err-Fault-store_span in
    let stored = two.ensures.fault two.k (ap Err two.field-0-is) in
    let told : min two.k (c.args.size - c.args.off) ≡ k = ap (min two.k) (sym c.saturating_sub.ensures) ∙ sym c.min.ensures ∙ fault_told _ k is in
    subst (PutsLead _ _ (numbers c.args.blocks.now) c.args.first c.args.size c.args.off c.args.bytes.now) told (parts_then _ _ _ (numbers c.args.blocks.now) c.args.first c.args.size c.args.off c.args.bytes.now _ one.0 two.k c.live_bytes-live.ensures one.1 one.2 stored.0 stored.1)

pub returns-in-Err-Fault-store_span-clause-front : goal.returns-in-Err-Fault-store_span-clause-front
returns-in-Err-Fault-store_span-clause-front g c =
    let one = c.store_span.ensures.front in
    let two = c.store_span-2.ensures.front in
    (min two.0 (c.args.size - c.args.off), parts_then _ _ _ (numbers c.args.blocks.now) c.args.first c.args.size c.args.off c.args.bytes.now _ one.0 two.0 c.live_bytes-live.ensures one.1 one.2 two.1 two.2)

pub returns-in-Err-Fault-store_span-clause-beside : goal.returns-in-Err-Fault-store_span-clause-beside
returns-in-Err-Fault-store_span-clause-beside g c = beside_trans _ _ _ _ _ _ _ c.store_span.ensures.beside c.store_span-2.ensures.beside

pub returns-in-Err-Fault-store_span-clause-firm : goal.returns-in-Err-Fault-store_span-clause-firm
returns-in-Err-Fault-store_span-clause-firm g c = firm_trans _ _ _ c.store_span.ensures.firm c.store_span-2.ensures.firm

pub returns-in-Err-Fault-store_span-clause-goes : goal.returns-in-Err-Fault-store_span-clause-goes
returns-in-Err-Fault-store_span-clause-goes g c = c.store_span.ensures.goes then c.store_span-2.ensures.goes

pub returns-in-Err-Fault-store_span-clause-ends : goal.returns-in-Err-Fault-store_span-clause-ends
returns-in-Err-Fault-store_span-clause-ends g c =
    let two = c.in-Err-Fault-store_span in
    let is = two.field-0-is in
    ends_by_after _ _ _ _ _ c.store_span.ensures.ends.later (bytes_runs _ _ _ c.in-Ok.ensures.ends) (bytes_fault _ _ _ two.k _ is two.ensures.ends)

pub returns-in-Err-Stopped-store_span-clause-front : goal.returns-in-Err-Stopped-store_span-clause-front
returns-in-Err-Stopped-store_span-clause-front g c =
    let one = c.store_span.ensures.front in
    let two = c.store_span-2.ensures.front in
    (min two.0 (c.args.size - c.args.off), parts_then _ _ _ (numbers c.args.blocks.now) c.args.first c.args.size c.args.off c.args.bytes.now _ one.0 two.0 c.live_bytes-live.ensures one.1 one.2 two.1 two.2)

pub returns-in-Err-Stopped-store_span-clause-beside : goal.returns-in-Err-Stopped-store_span-clause-beside
returns-in-Err-Stopped-store_span-clause-beside g c = beside_trans _ _ _ _ _ _ _ c.store_span.ensures.beside c.store_span-2.ensures.beside

pub returns-in-Err-Stopped-store_span-clause-goes : goal.returns-in-Err-Stopped-store_span-clause-goes
returns-in-Err-Stopped-store_span-clause-goes g c = c.store_span.ensures.goes then c.store_span-2.ensures.goes

pub returns-in-Err-Stopped-clause-fault : goal.returns-in-Err-Stopped-clause-fault
returns-in-Err-Stopped-clause-fault g c = λ k is. absurd cc

pub returns-in-Ok-store_span-clause-fault : goal.returns-in-Ok-store_span-clause-fault
returns-in-Ok-store_span-clause-fault g c = λ k is. absurd cc

pub returns-in-Ok-store_span-clause-firm : goal.returns-in-Ok-store_span-clause-firm
returns-in-Ok-store_span-clause-firm g c = firm_trans _ _ _ c.store_span.ensures.firm c.store_span-2.ensures.firm

pub returns-in-Err-Stopped-store_span-clause-fault : goal.returns-in-Err-Stopped-store_span-clause-fault
returns-in-Err-Stopped-store_span-clause-fault g c = λ k is. absurd cc

pub returns-in-Err-Stopped-store_span-clause-firm : goal.returns-in-Err-Stopped-store_span-clause-firm
returns-in-Err-Stopped-store_span-clause-firm g c = firm_trans _ _ _ c.store_span.ensures.firm c.store_span-2.ensures.firm

pub returns-in-Err-Fault-clause-ends : goal.returns-in-Err-Fault-clause-ends
returns-in-Err-Fault-clause-ends g c = bytes_fault _ _ _ c.in-Err-Fault.field-0-0 _ c.in-Err-Fault.field-0-is c.in-Err-Fault.ensures.ends

pub returns-in-Err-Stopped-clause-ends : goal.returns-in-Err-Stopped-clause-ends
returns-in-Err-Stopped-clause-ends g c = bytes_stop _ _ _ c.in-Err-Stopped.field-0-is c.in-Err-Stopped.ensures.ends

pub returns-in-Ok-store_span-clause-ends : goal.returns-in-Ok-store_span-clause-ends
returns-in-Ok-store_span-clause-ends g c = ends_by_after _ _ _ _ _ c.store_span.ensures.ends.later (bytes_runs _ _ _ c.in-Ok.ensures.ends) c.in-Ok-store_span.ensures.ends

pub returns-in-Err-Stopped-store_span-clause-ends : goal.returns-in-Err-Stopped-store_span-clause-ends
returns-in-Err-Stopped-store_span-clause-ends g c = ends_by_after _ _ _ _ _ c.store_span.ensures.ends.later (bytes_runs _ _ _ c.in-Ok.ensures.ends) (bytes_stop _ _ _ c.in-Err-Stopped-store_span.field-0-is c.in-Err-Stopped-store_span.ensures.ends)

pub returns-in-Err-Fault-clause-fault : goal.returns-in-Err-Fault-clause-fault
returns-in-Err-Fault-clause-fault g c = λ k is.
    let front = c.store_span.ensures.front in
    subst (PutsLead _ _ (numbers c.args.blocks.now) c.args.first c.args.size c.args.off c.args.bytes.now) (fault_told _ k is) (parts_first _ _ (numbers c.args.blocks.now) c.args.first c.args.size c.args.off c.args.bytes.now _ front.0 c.live_bytes-live.ensures front.1 front.2)

pub store_span-requires-2-clause-places : goal.store_span-requires-2-clause-places
store_span-requires-2-clause-places g c = λ t few. subst (λ (n : ℕ). slice_index (numbers c.args.blocks.now) t < n) (sym c.store_span.ensures.beside.count) (c.requires.places t few)

pub store_span-requires-clause-from : goal.store_span-requires-clause-from
store_span-requires-clause-from g c = omega (arith, c.requires.from)
