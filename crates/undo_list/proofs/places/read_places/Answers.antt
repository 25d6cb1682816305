use Rattle.std.proofs.Common.{ap, arith, length, subst, sym, ℕ, ◌+◌, ◌∙◌, ◌≤◌}
use Rattle.std.proofs.lemmas.Result.{IfOk-weaker, err_from_is_err_and}
use Rattle.rio_base.specs.Regions.{AreWords}
use Rattle.rio_base.proofs.BlockRules.{ends_later}
use Rattle.rio_base.proofs.RegionRules.{stays_trans}
use Rattle.rio_model.specs.Undo.{live, places}
use Rattle.undo_list.proofs.Frames.{region_at}
use Rattle.undo_list.proofs.Outcomes.{ends_err}
use Rattle.undo_list.proofs.places.read_places.Goals as goal

pub returns-in_err-undo-clause-region : goal.returns-in_err-undo-clause-region
returns-in_err-undo-clause-region g c = region_at _ _ _ _ c.requires.region c.word.ensures.stays.count c.word.ensures.words

pub returns-in_err-undo-clause-ends : goal.returns-in_err-undo-clause-ends
returns-in_err-undo-clause-ends g c =
    let p = err_from_is_err_and c.from_residual.result c.from_residual.ensures.1 in
    ends_err _ _ c.word.result c.from_residual.result _ _ c.in_err-undo.was p.1 p.2 c.word.ensures.ends

pub returns-in_err-undo-clause-value : goal.returns-in_err-undo-clause-value
returns-in_err-undo-clause-value g c =
    let p = err_from_is_err_and c.from_residual.result c.from_residual.ensures.1 in
    rw (p.1) tt

pub word-requires-clause-place : goal.word-requires-clause-place
word-requires-clause-place g c = omega (arith, g.met.R.RegionWords.small c.args.r.now c.requires.ready, c.requires.region.size)

pub overflow_cast-undo : goal.overflow_cast-undo
overflow_cast-undo g c = omega (arith, g.met.R.RegionWords.small c.args.r.now c.requires.ready, c.requires.region.size, c.in_ok-undo.ensures.value)

pub read_places_behind-requires-clause-region : goal.read_places_behind-requires-clause-region
read_places_behind-requires-clause-region g c = region_at _ _ _ _ c.requires.region c.word.ensures.stays.count c.word.ensures.words

pub read_places_behind-requires-clause-undo : goal.read_places_behind-requires-clause-undo
read_places_behind-requires-clause-undo g c = c.in_ok-undo.ensures.value ∙ sym (ap (λ (w : ℕ → ℕ). w 1) c.word.ensures.words)

pub read_places_behind-requires-clause-place : goal.read_places_behind-requires-clause-place
read_places_behind-requires-clause-place g c = subst (λ (w : ℕ → ℕ). c.args.place + length c.args.into.now ≤ places w) (sym c.word.ensures.words) c.requires.place

pub returns-clause-words : goal.returns-clause-words
returns-clause-words g c = c.read_places_behind.ensures.words ∙ c.word.ensures.words

pub returns-clause-stays : goal.returns-clause-stays
returns-clause-stays g c = stays_trans g.met.R.RegionWords.rest_trans c.word.ensures.stays c.read_places_behind.ensures.stays

pub returns-clause-ends : goal.returns-clause-ends
returns-clause-ends g c = ends_later _ _ _ _ c.word.ensures.ends.later c.in_ok-undo.ensures.ends.cause c.read_places_behind.ensures.ends

pub returns-clause-value : goal.returns-clause-value
returns-clause-value g c =
    IfOk-weaker c.read_places_behind.result _ _ (λ v is. subst (λ (w : ℕ → ℕ). AreWords (live w) c.args.place (length c.args.into.now) c.read_places_behind.new.into) c.word.ensures.words is) c.read_places_behind.ensures.value
