use Rattle.std.proofs.Common.{ap, arith, ℕ, ◌*◌, ◌+◌, ◌∙◌, ◌≡◌}
use Rattle.std.proofs.lemmas.Result.{IfOk-weaker, err_from_is_err_and}
use Rattle.rio_base.proofs.BlockRules.{ends_later}
use Rattle.rio_base.proofs.RegionRules.{stays_trans}
use Rattle.rio_model.specs.Undo.{live}
use Rattle.undo_list.proofs.Frames.{region_at}
use Rattle.undo_list.proofs.Outcomes.{ends_err}
use Rattle.undo_list.proofs.places.word_at.Goals as goal

pub returns-in_err-undo-clause-region : goal.returns-in_err-undo-clause-region
returns-in_err-undo-clause-region g c = region_at _ _ _ _ c.requires.region c.word.ensures.stays.count c.word.ensures.words

pub returns-in_err-undo-clause-ends : goal.returns-in_err-undo-clause-ends
returns-in_err-undo-clause-ends g c =
    let p = err_from_is_err_and c.from_residual.result c.from_residual.ensures.1 in
    ends_err _ _ c.word.result c.from_residual.result _ _ c.in_err-undo.was p.1 p.2 c.word.ensures.ends

pub returns-in_err-undo-clause-value : goal.returns-in_err-undo-clause-value
returns-in_err-undo-clause-value g c =
    let p = err_from_is_err_and c.from_residual.result c.from_residual.ensures.1 in
    rw (p.1) tt

pub word-requires-clause-place : goal.word-requires-clause-place
word-requires-clause-place g c = omega (arith, g.met.R.RegionWords.small c.args.r.now c.requires.ready, c.requires.region.size)

pub overflow_cast-undo : goal.overflow_cast-undo
overflow_cast-undo g c = omega (arith, g.met.R.RegionWords.small c.args.r.now c.requires.ready, c.requires.region.size, c.in_ok-undo.ensures.value)

pub word-requires-2-clause-place : goal.word-requires-2-clause-place
word-requires-2-clause-place g c = omega (arith, c.word.ensures.stays.count, c.requires.region.size, c.requires.place, c.in_ok-undo.ensures.value)

pub returns-clause-words : goal.returns-clause-words
returns-clause-words g c = c.word-2.ensures.words ∙ c.word.ensures.words

pub returns-clause-region : goal.returns-clause-region
returns-clause-region g c = region_at _ _ _ _ c.requires.region (c.word-2.ensures.stays.count ∙ c.word.ensures.stays.count) (c.word-2.ensures.words ∙ c.word.ensures.words)

pub returns-clause-stays : goal.returns-clause-stays
returns-clause-stays g c = stays_trans g.met.R.RegionWords.rest_trans c.word.ensures.stays c.word-2.ensures.stays

pub returns-clause-ends : goal.returns-clause-ends
returns-clause-ends g c = ends_later _ _ _ _ c.word.ensures.ends.later c.in_ok-undo.ensures.ends.cause c.word-2.ensures.ends

pub returns-clause-value : goal.returns-clause-value
returns-clause-value g c =
    let f = g.R.RegionWords.words in
    let at : f c.word.new.self (512 * (1 + c.in_ok-undo.undo) + c.args.place) ≡ live (f c.args.r.now) c.args.place = ap (λ (w : ℕ → ℕ). w (512 * (1 + c.in_ok-undo.undo) + c.args.place)) c.word.ensures.words ∙ ap (λ u. f c.args.r.now (512 * (1 + u) + c.args.place)) c.in_ok-undo.ensures.value in
    IfOk-weaker c.word-2.result _ _ (λ v is. is ∙ at) c.word-2.ensures.value
