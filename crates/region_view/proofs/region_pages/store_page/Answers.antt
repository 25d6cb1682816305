use Rattle.region_view.proofs.Common.{◌≡◌, ◌<◌, length, le_refl, refl, subst, sym, put_words, held_of}
use Rattle.region_view.proofs.RegionParts.{front_of_part, part_done, part_place, part_some, part_told, part_within}
use Rattle.region_view.proofs.RunEnds.{ends_fault, ends_stop, fault_told, run_ended}
use Rattle.region_view.proofs.region_pages.store_page.Goals as goal

pub returns-in-Ok-clause-ok : goal.returns-in-Ok-clause-ok
returns-in-Ok-clause-ok g c = (c.in_page-count.ensures.some c.requires.some, c.in_page-count.ensures.most, part_done _ _ c.args.at c.in_page-count.result c.args.from.now c.in_page-count.ensures.most c.in-Ok.ensures.ok)

pub returns-in-Ok-clause-front : goal.returns-in-Ok-clause-front
returns-in-Ok-clause-front g c = front_of_part _ _ c.args.at c.in_page-count.result c.args.from.now c.in_page-count.ensures.most c.store_part.ensures.front

pub returns-in-Err-Fault-clause-fault : goal.returns-in-Err-Fault-clause-fault
returns-in-Err-Fault-clause-fault g c =
    let f = (g.V.Blocks.seen c.args.v.now).words in
    let h = (g.V.Blocks.seen c.store_part.new.v).words in
    let i = c.args.i.0 in
    let fault = fault_told (Unit {0}) _ c.in-Err-Fault.n _ c.in-Err-Fault.field-0-is c.in-Err-Fault.ensures.fault in
    let told = part_told (held_of c.args.shape.now f i).word (held_of c.args.shape.now h i).word c.args.at c.in-Err-Fault.n c.in_page-count.result c.args.from.now c.in_page-count.ensures.most fault.0 fault.1 in
    subst (λ n. (n < length c.args.from.now) × ((held_of c.args.shape.now h i).word ≡ put_words (held_of c.args.shape.now f i).word c.args.at n c.args.from.now)) (sym c.in-Err-Fault.n-is) told

pub returns-in-Err-Fault-clause-front : goal.returns-in-Err-Fault-clause-front
returns-in-Err-Fault-clause-front g c = front_of_part _ _ c.args.at c.in_page-count.result c.args.from.now c.in_page-count.ensures.most c.store_part.ensures.front

pub returns-in-Err-Stopped-clause-front : goal.returns-in-Err-Stopped-clause-front
returns-in-Err-Stopped-clause-front g c = front_of_part _ _ c.args.at c.in_page-count.result c.args.from.now c.in_page-count.ensures.most c.store_part.ensures.front

pub returns-in-Err-Fault-clause-ends : goal.returns-in-Err-Fault-clause-ends
returns-in-Err-Fault-clause-ends g c = ends_fault _ _ _ _ _ c.in-Err-Fault.field-0-is (le_refl _) refl c.in-Err-Fault.ensures.ends

pub returns-in-Err-Stopped-clause-ends : goal.returns-in-Err-Stopped-clause-ends
returns-in-Err-Stopped-clause-ends g c = ends_stop _ _ _ _ c.in-Err-Stopped.field-0-is (le_refl _) refl c.in-Err-Stopped.ensures.ends

pub store_part-requires-clause-some : goal.store_part-requires-clause-some
store_part-requires-clause-some g c = part_some c.args.from.now _ c.in_page-count.ensures.most (c.in_page-count.ensures.some c.requires.some)

pub store_part-requires-clause-within : goal.store_part-requires-clause-within
store_part-requires-clause-within g c = part_within c.args.at c.args.from.now _ c.in_page-count.ensures.within

pub store_part-requires-clause-place : goal.store_part-requires-clause-place
store_part-requires-clause-place g c = part_place c.args.at c.args.from.now _ _ c.requires.place

pub returns-in-Ok-clause-ends : goal.returns-in-Ok-clause-ends
returns-in-Ok-clause-ends g c = run_ended _ _ _ _ c.in-Ok.ensures.ends
