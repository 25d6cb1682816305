use Rattle.std.proofs.Common.{arith, rules, sym, subst, ◌≡◌, ◌*◌, ap, le_trans, ℕ, ◌∙◌}
use Rattle.std.proofs.lemmas.Result.{err_from_is_err_and}
use Rattle.rio_base.proofs.BlockRules.{ends_later}
use Rattle.rio_base.proofs.RegionRules.{stays_trans}
use Rattle.rio_model.specs.Heap.{starts, IsBlock, OfBlocks, units_of}
use Rattle.rio_model.specs.Undo.{live}
use Rattle.recov_alloc.proofs.Outcomes.{ends_err}
use Rattle.recov_alloc.proofs.Reaches.{block_by, block_starts, none_starts, stops_in_page, within_page}
use Rattle.recov_alloc.specs.Extents.{Within}
use Rattle.recov_alloc.proofs.extents.units_at.Goals as goal

pub returns-then-not-is_start-clause-value : goal.returns-then-not-is_start-clause-value
returns-then-not-is_start-clause-value g c =
    none_starts (live (g.R.RegionWords.words c.args.r.now)) _ c.args.unit c.read_places_behind.new.into c.is_start.result c.in_ok-read_places_behind.ensures.value c.is_start.ensures (search rules)

pub returns-then-end-ne0-clause-value : goal.returns-then-end-ne0-clause-value
returns-then-end-ne0-clause-value g c =
    let f = g.R.RegionWords.words c.args.r.now in
    let words = c.in_ok-read_places_behind.ensures.value in
    let reach = c.reach_in_page-end.ensures in
    block_by (live f) (f 2) (64 * f 2) c.args.unit c.reach_in_page-end.result c.requires.heap (omega arith) (block_starts (live f) c.args.unit c.read_places_behind.new.into c.is_start.result words c.is_start.ensures (search rules)) reach.low (omega (arith, reach.most, c.requires.unit, c.requires.pages)) (within_page (live f) c.args.unit c.reach_in_page-end.result c.read_places_behind.new.into words reach) (λ s. stops_in_page (live f) c.args.unit c.reach_in_page-end.result c.read_places_behind.new.into words reach c.if-end-ne0.true)

pub units_from-requires-clause-start : goal.units_from-requires-clause-start
units_from-requires-clause-start g c =
    subst (λ w. starts (live w) c.args.unit ≡ 1) (sym c.read_places_behind.ensures.words) (block_starts (live (g.R.RegionWords.words c.args.r.now)) c.args.unit c.read_places_behind.new.into c.is_start.result c.in_ok-read_places_behind.ensures.value c.is_start.ensures (search rules))

pub units_from-requires-clause-inside : goal.units_from-requires-clause-inside
units_from-requires-clause-inside g c =
    subst (λ w. Within (live w) c.args.unit c.reach_in_page-end.result) (sym c.read_places_behind.ensures.words) (within_page (live (g.R.RegionWords.words c.args.r.now)) c.args.unit c.reach_in_page-end.result c.read_places_behind.new.into c.in_ok-read_places_behind.ensures.value c.reach_in_page-end.ensures)

pub returns-in_err-units-clause-stays : goal.returns-in_err-units-clause-stays
returns-in_err-units-clause-stays g c = stays_trans g.met.R.RegionWords.rest_trans c.read_places_behind.ensures.stays c.units_from.ensures.stays

pub returns-clause-stays : goal.returns-clause-stays
returns-clause-stays g c = stays_trans g.met.R.RegionWords.rest_trans c.read_places_behind.ensures.stays c.units_from.ensures.stays

pub returns-in_err-read_places_behind-clause-ends : goal.returns-in_err-read_places_behind-clause-ends
returns-in_err-read_places_behind-clause-ends g c =
    let p = err_from_is_err_and c.from_residual.result c.from_residual.ensures.1 in
    ends_err _ _ c.read_places_behind.result c.from_residual.result _ _ c.in_err-read_places_behind.was p.1 p.2 c.read_places_behind.ensures.ends

pub returns-in_err-read_places_behind-clause-value : goal.returns-in_err-read_places_behind-clause-value
returns-in_err-read_places_behind-clause-value g c =
    let p = err_from_is_err_and c.from_residual.result c.from_residual.ensures.1 in
    rw (p.1) tt

pub returns-then-not-is_start-clause-ends : goal.returns-then-not-is_start-clause-ends
returns-then-not-is_start-clause-ends g c = record { later = c.read_places_behind.ensures.ends.later; stays = λ stopped. c.in_ok-read_places_behind.ensures.ends.cause ∙ stopped; cause = c.in_ok-read_places_behind.ensures.ends.cause }

pub returns-then-end-ne0-clause-ends : goal.returns-then-end-ne0-clause-ends
returns-then-end-ne0-clause-ends g c = record { later = c.read_places_behind.ensures.ends.later; stays = λ stopped. c.in_ok-read_places_behind.ensures.ends.cause ∙ stopped; cause = c.in_ok-read_places_behind.ensures.ends.cause }

pub units_from-requires-clause-heap : goal.units_from-requires-clause-heap
units_from-requires-clause-heap g c = subst (λ (w : ℕ → ℕ). OfBlocks (live w) (w 2)) (sym c.read_places_behind.ensures.words) c.requires.heap

pub units_from-requires-clause-pages : goal.units_from-requires-clause-pages
units_from-requires-clause-pages g c = c.requires.pages ∙ sym (ap (λ (w : ℕ → ℕ). w 2) c.read_places_behind.ensures.words)

pub returns-in_err-units-clause-words : goal.returns-in_err-units-clause-words
returns-in_err-units-clause-words g c = c.units_from.ensures.words ∙ c.read_places_behind.ensures.words

pub returns-in_err-units-clause-ends : goal.returns-in_err-units-clause-ends
returns-in_err-units-clause-ends g c =
    let p = err_from_is_err_and c.from_residual-in_err-units.result c.from_residual-in_err-units.ensures.1 in
    ends_later _ _ _ _ c.read_places_behind.ensures.ends.later c.in_ok-read_places_behind.ensures.ends.cause (ends_err _ _ c.units_from.result c.from_residual-in_err-units.result _ _ c.in_err-units.was p.1 p.2 c.units_from.ensures.ends)

pub returns-in_err-units-clause-value : goal.returns-in_err-units-clause-value
returns-in_err-units-clause-value g c =
    let p = err_from_is_err_and c.from_residual-in_err-units.result c.from_residual-in_err-units.ensures.1 in
    rw (p.1) tt

pub returns-clause-words : goal.returns-clause-words
returns-clause-words g c = c.units_from.ensures.words ∙ c.read_places_behind.ensures.words

pub returns-clause-ends : goal.returns-clause-ends
returns-clause-ends g c =
    let running = c.in_ok-units.ensures.ends.cause ∙ c.in_ok-read_places_behind.ensures.ends.cause in
    record { later = le_trans c.read_places_behind.ensures.ends.later c.units_from.ensures.ends.later; stays = λ stopped. running ∙ stopped; cause = running }

pub returns-clause-value : goal.returns-clause-value
returns-clause-value g c = subst (λ (w : ℕ → ℕ). IsBlock (live w) (units_of w) c.args.unit c.in_ok-units.units) c.read_places_behind.ensures.words c.in_ok-units.ensures.value

pub read_places_behind-requires-clause-place : goal.read_places_behind-requires-clause-place
read_places_behind-requires-clause-place g c = omega (arith, c.requires.unit, c.requires.pages)

pub units_from-requires-clause-most : goal.units_from-requires-clause-most
units_from-requires-clause-most g c = omega (arith, c.reach_in_page-end.ensures.most, c.requires.unit)
