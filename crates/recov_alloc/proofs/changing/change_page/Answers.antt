use Rattle.std.proofs.Common.{arith, ap, sym, subst, ◌∙◌, ◌+◌, ◌*◌, ◌/◌, ◌<◌, ◌≤◌, cond, ℕ, le_trans}
use Rattle.std.proofs.lemmas.Result.{err_from_is_err_and}
use Rattle.rio_base.specs.Regions.{AreWords}
use Rattle.rio_base.proofs.RegionRules.{stays_trans}
use Rattle.rio_base.proofs.Rules.{ends_by_after}
use Rattle.rio_model.proofs.UndoRules.{gains_covers, undoes_refl, undoes_trans}
use Rattle.rio_model.specs.Heap.{touched_pages}
use Rattle.rio_model.specs.Undo.{Gains, live, taken, undo_records, undo_words, Undoes, places}
use Rattle.undo_list.proofs.Frames.{undoes_from}
use Rattle.undo_list.specs.Records.{IsHeader}
use Rattle.recov_alloc.proofs.Marks.{changed, one_page, page_marked}
use Rattle.recov_alloc.proofs.Outcomes.{ends_did, ends_handed, ends_same, never_full, no_err, same_err}
use Rattle.recov_alloc.proofs.changing.change_page.Goals as goal

pub set_pair-requires-clause-first : goal.set_pair-requires-clause-first
set_pair-requires-clause-first g c =
    let f = g.R.RegionWords.words in
    c.in_ok-read_places_behind.ensures.value.each 0 (omega arith) ∙ ap (live (f c.args.r.now)) (omega arith) ∙ sym (ap (λ (w : ℕ → ℕ). live w (2 * (c.args.at / 64))) c.read_places_behind.ensures.words)

pub set_pair-requires-clause-second : goal.set_pair-requires-clause-second
set_pair-requires-clause-second g c =
    c.in_ok-read_places_behind.ensures.value.each 1 (omega arith) ∙ sym (ap (λ (w : ℕ → ℕ). live w (2 * (c.args.at / 64) + 1)) c.read_places_behind.ensures.words)

pub mark_words-requires-clause-words : goal.mark_words-requires-clause-words
mark_words-requires-clause-words g c =
    let present = c.in_ok-set_pair.ensures.ok.present ∙ ap live c.read_places_behind.ensures.words in
    subst (λ l. AreWords l (2 * (c.args.at / 64)) 2 c.read_places_behind.new.into) (sym present) c.in_ok-read_places_behind.ensures.value

pub mark_words-requires-clause-covered : goal.mark_words-requires-clause-covered
mark_words-requires-clause-covered g c =
    let f = g.R.RegionWords.words in
    gains_covers (g.R.RegionWords.count c.read_places_behind.new.r) (f c.read_places_behind.new.r) (f c.set_pair.new.r) (2 * (c.args.at / 64)) 2 c.in_ok-set_pair.ensures.ok

pub returns-in_err-set_pair-clause-full : goal.returns-in_err-set_pair-clause-full
returns-in_err-set_pair-clause-full g c =
    let one = one_page c.args.at c.args.units c.requires.units c.requires.page in
    let p = err_from_is_err_and c.from_residual-in_err-set_pair.result c.from_residual-in_err-set_pair.ensures.1 in
    rw (p.1, p.2) (λ is. subst (λ (w : ℕ → ℕ). undo_words w < taken (undo_records w) + 3 + 2 * touched_pages c.args.at c.args.units) c.read_places_behind.ensures.words (subst (λ k. undo_words (g.R.RegionWords.words c.read_places_behind.new.r) < taken (undo_records (g.R.RegionWords.words c.read_places_behind.new.r)) + 3 + 2 * k) (sym one) (c.in_err-set_pair.ensures.full is)))

pub returns-clause-room : goal.returns-clause-room
returns-clause-room g c =
    let one = one_page c.args.at c.args.units c.requires.units c.requires.page in
    subst (λ (w : ℕ → ℕ). taken (undo_records w) + 3 + 2 * touched_pages c.args.at c.args.units ≤ undo_words w) c.read_places_behind.ensures.words (subst (λ k. taken (undo_records (g.R.RegionWords.words c.read_places_behind.new.r)) + 3 + 2 * k ≤ undo_words (g.R.RegionWords.words c.read_places_behind.new.r)) (sym one) c.in_ok-set_pair.ensures.room)

pub returns-clause-ok : goal.returns-clause-ok
returns-clause-ok g c =
    let f = g.R.RegionWords.words in
    let one = one_page c.args.at c.args.units c.requires.units c.requires.page in
    let gain = subst (λ k. Gains (g.R.RegionWords.count c.read_places_behind.new.r) (f c.read_places_behind.new.r) (f c.set_pair.new.r) (2 * (c.args.at / 64)) (2 * k)) (sym one) c.in_ok-set_pair.ensures.ok in
    let marks = page_marked (live (f c.set_pair.new.r)) (live (f c.mark_words.new.r)) c.args.at c.args.units (cond c.args.on 1 0) c.requires.units c.requires.page c.in_ok-mark_words.ensures.ok in
    changed (f c.args.r.now) (f c.read_places_behind.new.r) (f c.set_pair.new.r) (f c.mark_words.new.r) (g.R.RegionWords.count c.read_places_behind.new.r) c.args.at c.args.units (cond c.args.on 1 0) c.read_places_behind.ensures.words gain marks c.mark_words.ensures.keeps.records

pub set_pair-requires-clause-header : goal.set_pair-requires-clause-header
set_pair-requires-clause-header g c = subst (λ (w : ℕ → ℕ). IsHeader w c.args.header) (sym c.read_places_behind.ensures.words) c.requires.header

pub set_pair-requires-clause-place : goal.set_pair-requires-clause-place
set_pair-requires-clause-place g c = subst (λ (w : ℕ → ℕ). 2 * (c.args.at / 64) + 2 ≤ places w) (sym c.read_places_behind.ensures.words) (omega (arith, c.requires.within, c.requires.units))

pub mark_words-requires-clause-undo : goal.mark_words-requires-clause-undo
mark_words-requires-clause-undo g c = c.requires.header.undo ∙ sym (ap (λ (w : ℕ → ℕ). w 1) c.read_places_behind.ensures.words) ∙ sym c.set_pair.ensures.before.sizes.undo

pub mark_words-requires-clause-within : goal.mark_words-requires-clause-within
mark_words-requires-clause-within g c = subst (λ n. c.args.at + c.args.units ≤ 64 * n) (sym (c.set_pair.ensures.before.sizes.data_pages ∙ ap (λ (w : ℕ → ℕ). w 2) c.read_places_behind.ensures.words)) c.requires.within

pub returns-in_err-read_places_behind-clause-ok : goal.returns-in_err-read_places_behind-clause-ok
returns-in_err-read_places_behind-clause-ok g c =
    let p = err_from_is_err_and c.from_residual.result c.from_residual.ensures.1 in
    rw (p.1) tt

pub returns-in_err-read_places_behind-clause-room : goal.returns-in_err-read_places_behind-clause-room
returns-in_err-read_places_behind-clause-room g c =
    let p = err_from_is_err_and c.from_residual.result c.from_residual.ensures.1 in
    rw (p.1) tt

pub returns-in_err-read_places_behind-clause-full : goal.returns-in_err-read_places_behind-clause-full
returns-in_err-read_places_behind-clause-full g c =
    let p = err_from_is_err_and c.from_residual.result c.from_residual.ensures.1 in
    λ full. absurd (never_full c.from_residual.result _ p.0 p.1 p.2 full)

pub returns-in_err-read_places_behind-clause-refused : goal.returns-in_err-read_places_behind-clause-refused
returns-in_err-read_places_behind-clause-refused g c = λ full. c.read_places_behind.ensures.words

pub returns-in_err-read_places_behind-clause-before : goal.returns-in_err-read_places_behind-clause-before
returns-in_err-read_places_behind-clause-before g c =
    subst (λ w. Undoes (g.R.RegionWords.count c.args.r.now) (g.R.RegionWords.words c.args.r.now) w) (sym c.read_places_behind.ensures.words) (undoes_refl (g.R.RegionWords.count c.args.r.now) (g.R.RegionWords.words c.args.r.now) c.requires.region)

pub returns-in_err-read_places_behind-clause-ends : goal.returns-in_err-read_places_behind-clause-ends
returns-in_err-read_places_behind-clause-ends g c =
    let p = err_from_is_err_and c.from_residual.result c.from_residual.ensures.1 in
    ends_handed _ _ c.read_places_behind.result c.from_residual.result _ _ c.in_err-read_places_behind.was p.1 p.2 c.read_places_behind.ensures.ends

pub returns-in_err-set_pair-clause-ok : goal.returns-in_err-set_pair-clause-ok
returns-in_err-set_pair-clause-ok g c =
    let p = err_from_is_err_and c.from_residual-in_err-set_pair.result c.from_residual-in_err-set_pair.ensures.1 in
    rw (p.1) tt

pub returns-in_err-set_pair-clause-room : goal.returns-in_err-set_pair-clause-room
returns-in_err-set_pair-clause-room g c =
    let p = err_from_is_err_and c.from_residual-in_err-set_pair.result c.from_residual-in_err-set_pair.ensures.1 in
    rw (p.1) tt

pub returns-in_err-set_pair-clause-refused : goal.returns-in_err-set_pair-clause-refused
returns-in_err-set_pair-clause-refused g c =
    let p = err_from_is_err_and c.from_residual-in_err-set_pair.result c.from_residual-in_err-set_pair.ensures.1 in
    λ full. c.set_pair.ensures.refused (same_err c.set_pair.result c.from_residual-in_err-set_pair.result _ p.0 c.in_err-set_pair.was p.1 p.2 ∙ full) ∙ c.read_places_behind.ensures.words

pub returns-in_err-set_pair-clause-before : goal.returns-in_err-set_pair-clause-before
returns-in_err-set_pair-clause-before g c =
    undoes_from (g.R.RegionWords.count c.args.r.now) (g.R.RegionWords.count c.read_places_behind.new.r) (g.R.RegionWords.words c.read_places_behind.new.r) (g.R.RegionWords.words c.args.r.now) (g.R.RegionWords.words c.set_pair.new.r) c.read_places_behind.ensures.words c.read_places_behind.ensures.stays.count c.set_pair.ensures.before

pub returns-in_err-set_pair-clause-stays : goal.returns-in_err-set_pair-clause-stays
returns-in_err-set_pair-clause-stays g c = stays_trans g.met.R.RegionWords.rest_trans c.read_places_behind.ensures.stays c.set_pair.ensures.stays

pub returns-in_err-set_pair-clause-ends : goal.returns-in_err-set_pair-clause-ends
returns-in_err-set_pair-clause-ends g c =
    let p = err_from_is_err_and c.from_residual-in_err-set_pair.result c.from_residual-in_err-set_pair.ensures.1 in
    ends_by_after _ _ _ _ _ c.read_places_behind.ensures.ends.later c.in_ok-read_places_behind.ensures.ends.cause (ends_same _ _ c.set_pair.result c.from_residual-in_err-set_pair.result _ p.0 c.in_err-set_pair.was p.1 p.2 c.set_pair.ensures.ends)

pub returns-in_err-mark_words-clause-ok : goal.returns-in_err-mark_words-clause-ok
returns-in_err-mark_words-clause-ok g c =
    let p = err_from_is_err_and c.from_residual-in_err-mark_words.result c.from_residual-in_err-mark_words.ensures.1 in
    rw (p.1) tt

pub returns-in_err-mark_words-clause-room : goal.returns-in_err-mark_words-clause-room
returns-in_err-mark_words-clause-room g c =
    let p = err_from_is_err_and c.from_residual-in_err-mark_words.result c.from_residual-in_err-mark_words.ensures.1 in
    rw (p.1) tt

pub returns-in_err-mark_words-clause-full : goal.returns-in_err-mark_words-clause-full
returns-in_err-mark_words-clause-full g c =
    let p = err_from_is_err_and c.from_residual-in_err-mark_words.result c.from_residual-in_err-mark_words.ensures.1 in
    λ full. absurd (never_full c.from_residual-in_err-mark_words.result _ p.0 p.1 p.2 full)

pub returns-in_err-mark_words-clause-refused : goal.returns-in_err-mark_words-clause-refused
returns-in_err-mark_words-clause-refused g c =
    let p = err_from_is_err_and c.from_residual-in_err-mark_words.result c.from_residual-in_err-mark_words.ensures.1 in
    λ full. absurd (never_full c.from_residual-in_err-mark_words.result _ p.0 p.1 p.2 full)

pub returns-in_err-mark_words-clause-before : goal.returns-in_err-mark_words-clause-before
returns-in_err-mark_words-clause-before g c =
    undoes_trans (g.R.RegionWords.count c.args.r.now) (g.R.RegionWords.words c.args.r.now) (g.R.RegionWords.words c.set_pair.new.r) (g.R.RegionWords.words c.mark_words.new.r) (undoes_from (g.R.RegionWords.count c.args.r.now) (g.R.RegionWords.count c.read_places_behind.new.r) (g.R.RegionWords.words c.read_places_behind.new.r) (g.R.RegionWords.words c.args.r.now) (g.R.RegionWords.words c.set_pair.new.r) c.read_places_behind.ensures.words c.read_places_behind.ensures.stays.count c.set_pair.ensures.before) (subst (λ k. Undoes k (g.R.RegionWords.words c.set_pair.new.r) (g.R.RegionWords.words c.mark_words.new.r)) (c.set_pair.ensures.stays.count ∙ c.read_places_behind.ensures.stays.count) c.mark_words.ensures.keeps.undoes)

pub returns-in_err-mark_words-clause-stays : goal.returns-in_err-mark_words-clause-stays
returns-in_err-mark_words-clause-stays g c = stays_trans g.met.R.RegionWords.rest_trans c.read_places_behind.ensures.stays (stays_trans g.met.R.RegionWords.rest_trans c.set_pair.ensures.stays c.mark_words.ensures.stays)

pub returns-in_err-mark_words-clause-ends : goal.returns-in_err-mark_words-clause-ends
returns-in_err-mark_words-clause-ends g c =
    let p = err_from_is_err_and c.from_residual-in_err-mark_words.result c.from_residual-in_err-mark_words.ensures.1 in
    ends_by_after _ _ _ _ _ c.read_places_behind.ensures.ends.later c.in_ok-read_places_behind.ensures.ends.cause (ends_by_after _ _ _ _ _ c.set_pair.ensures.ends.later (c.in_ok-set_pair.ensures.ends.runs (no_err tt _)) (ends_handed _ _ c.mark_words.result c.from_residual-in_err-mark_words.result _ _ c.in_err-mark_words.was p.1 p.2 c.mark_words.ensures.ends))

pub returns-clause-full : goal.returns-clause-full
returns-clause-full g c = λ told. absurd (no_err tt _ told)

pub returns-clause-refused : goal.returns-clause-refused
returns-clause-refused g c = λ told. absurd (no_err tt _ told)

pub returns-clause-before : goal.returns-clause-before
returns-clause-before g c =
    undoes_trans (g.R.RegionWords.count c.args.r.now) (g.R.RegionWords.words c.args.r.now) (g.R.RegionWords.words c.set_pair.new.r) (g.R.RegionWords.words c.mark_words.new.r) (undoes_from (g.R.RegionWords.count c.args.r.now) (g.R.RegionWords.count c.read_places_behind.new.r) (g.R.RegionWords.words c.read_places_behind.new.r) (g.R.RegionWords.words c.args.r.now) (g.R.RegionWords.words c.set_pair.new.r) c.read_places_behind.ensures.words c.read_places_behind.ensures.stays.count c.set_pair.ensures.before) (subst (λ k. Undoes k (g.R.RegionWords.words c.set_pair.new.r) (g.R.RegionWords.words c.mark_words.new.r)) (c.set_pair.ensures.stays.count ∙ c.read_places_behind.ensures.stays.count) c.mark_words.ensures.keeps.undoes)

pub returns-clause-stays : goal.returns-clause-stays
returns-clause-stays g c = stays_trans g.met.R.RegionWords.rest_trans c.read_places_behind.ensures.stays (stays_trans g.met.R.RegionWords.rest_trans c.set_pair.ensures.stays c.mark_words.ensures.stays)

pub returns-clause-ends : goal.returns-clause-ends
returns-clause-ends g c =
    ends_did _ _ tt (le_trans c.read_places_behind.ensures.ends.later (le_trans c.set_pair.ensures.ends.later c.mark_words.ensures.ends.later)) (c.in_ok-mark_words.ensures.ends.cause ∙ (c.in_ok-set_pair.ensures.ends.runs (no_err tt _)) ∙ c.in_ok-read_places_behind.ensures.ends.cause)
