use Rattle.std.proofs.Common.{sym, subst, ◌*◌, ◌/◌, cond, OnOk, ap, ℕ, ◌+◌, ◌∙◌, ◌≤◌}
use Rattle.std.proofs.lemmas.Result.{err_from_is_err_and}
use Rattle.rio_base.specs.Regions.{AreWords}
use Rattle.rio_base.proofs.BlockRules.{ends_later}
use Rattle.rio_base.proofs.RegionRules.{stays_trans}
use Rattle.rio_model.proofs.UndoRules.{keeps_refl}
use Rattle.rio_model.specs.Undo.{CoversAll, live, undo_records, Keeps}
use Rattle.recov_alloc.proofs.Outcomes.{ends_err}
use Rattle.recov_alloc.specs.Marks.{StoresPair}
use Rattle.recov_alloc.proofs.marking.mark_page.Goals as goal

pub mark_words-requires-clause-words : goal.mark_words-requires-clause-words
mark_words-requires-clause-words g c =
    subst (λ w. AreWords (live w) (2 * (c.args.at / 64)) 2 c.read_places_behind.new.into) (sym c.read_places_behind.ensures.words) c.in_ok-read_places_behind.ensures.value

pub mark_words-requires-clause-covered : goal.mark_words-requires-clause-covered
mark_words-requires-clause-covered g c =
    subst (λ w. CoversAll (undo_records w) (2 * (c.args.at / 64)) 2) (sym c.read_places_behind.ensures.words) c.requires.covered

pub returns-clause-ok : goal.returns-clause-ok
returns-clause-ok g c =
    subst (λ w. OnOk c.mark_words.result (StoresPair (live w) (live (g.R.RegionWords.words c.mark_words.new.r)) c.args.at c.args.units (cond c.args.start 1 0) (cond c.args.on 1 0))) c.read_places_behind.ensures.words c.mark_words.ensures.ok

pub returns-in_err-read_places_behind-clause-ends : goal.returns-in_err-read_places_behind-clause-ends
returns-in_err-read_places_behind-clause-ends g c =
    let p = err_from_is_err_and c.from_residual.result c.from_residual.ensures.1 in
    ends_err _ _ c.read_places_behind.result c.from_residual.result _ _ c.in_err-read_places_behind.was p.1 p.2 c.read_places_behind.ensures.ends

pub returns-in_err-read_places_behind-clause-ok : goal.returns-in_err-read_places_behind-clause-ok
returns-in_err-read_places_behind-clause-ok g c =
    let p = err_from_is_err_and c.from_residual.result c.from_residual.ensures.1 in
    rw (p.1) tt

pub returns-in_err-read_places_behind-clause-keeps : goal.returns-in_err-read_places_behind-clause-keeps
returns-in_err-read_places_behind-clause-keeps g c =
    subst (λ w. Keeps (g.R.RegionWords.count c.args.r.now) (g.R.RegionWords.words c.args.r.now) w) (sym c.read_places_behind.ensures.words) (keeps_refl (g.R.RegionWords.count c.args.r.now) (g.R.RegionWords.words c.args.r.now) c.requires.region)

pub mark_words-requires-clause-undo : goal.mark_words-requires-clause-undo
mark_words-requires-clause-undo g c = c.requires.undo ∙ sym (ap (λ (w : ℕ → ℕ). w 1) c.read_places_behind.ensures.words)

pub mark_words-requires-clause-within : goal.mark_words-requires-clause-within
mark_words-requires-clause-within g c = subst (λ (w : ℕ → ℕ). c.args.at + c.args.units ≤ 64 * w 2) (sym c.read_places_behind.ensures.words) c.requires.within

pub returns-clause-stays : goal.returns-clause-stays
returns-clause-stays g c = stays_trans g.met.R.RegionWords.rest_trans c.read_places_behind.ensures.stays c.mark_words.ensures.stays

pub returns-clause-ends : goal.returns-clause-ends
returns-clause-ends g c = ends_later _ _ _ _ c.read_places_behind.ensures.ends.later c.in_ok-read_places_behind.ensures.ends.cause c.mark_words.ensures.ends

pub returns-clause-keeps : goal.returns-clause-keeps
returns-clause-keeps g c =
    subst (λ n. Keeps n (g.R.RegionWords.words c.args.r.now) (g.R.RegionWords.words c.mark_words.new.r)) c.read_places_behind.ensures.stays.count (subst (λ w. Keeps (g.R.RegionWords.count c.read_places_behind.new.r) w (g.R.RegionWords.words c.mark_words.new.r)) c.read_places_behind.ensures.words c.mark_words.ensures.keeps)
