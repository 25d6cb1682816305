use Rattle.std.proofs.Common.{refl}
use Rattle.cached_pages.proofs.Common.{ℕ, ◌∙◌, List, length, ap, sym, arith, tag_at, tag_block}
use Rattle.rio_model.specs.Cover.{frame_page}
use Rattle.cached_pages.proofs.Kept.{sound_near}
use Rattle.cached_pages.proofs.Nearness.{has_home, knows_written, page_full}
use Rattle.cached_pages.proofs.leaving.send.Goals as goal

pub frame-requires : goal.frame-requires
frame-requires g c = let within = c.frame_page_of-page.ensures.within in record { page = rw c.write_entry.ensures.words (omega (arith, within)) }

pub wrote-requires-clause-words : goal.wrote-requires-clause-words
wrote-requires-clause-words g c =
    let within = c.frame_page_of-page.ensures.within in
    let words = c.write_entry.ensures.words in
    ap (λ (xs : List ℕ). length xs) (c.frame.ensures.protected (rw words (omega (arith, within)))) ∙ page_full (g.M.Machine.contents c.write_entry.new.m).words c.frame_page_of-page.result.0 (rw words within)

pub returns-in_err-write_entry-clause-nears : goal.returns-in_err-write_entry-clause-nears
returns-in_err-write_entry-clause-nears g c = record { keeps = c.write_entry.ensures.keeps; words = c.write_entry.ensures.words; lasts = c.write_entry.ensures.lasts; tables = record { forgotten = refl; shadowed = refl; shadows = refl }; pool = refl }

pub returns-in_err-write_entry-clause-sound : goal.returns-in_err-write_entry-clause-sound
returns-in_err-write_entry-clause-sound g c =
    let old = g.M.Machine.contents c.args.m.now in
    let new = g.M.Machine.contents c.write_entry.new.m in
    let early = knows_written c.args.b.0 _ old new c.args.t.now c.clear.new.self c.requires.sound c.clear.ensures.loses c.clear.ensures.off (λ x ne. c.write_entry.ensures.blocks x (λ q. ne (q ∙ c.requires.block))) (λ x ne. c.write_entry.ensures.marks x (λ q. ne (q ∙ c.requires.block))) in
    sound_near _ _ old new _ _ c.requires.sound c.write_entry.ensures.ends.steps.scratch_count (record { keeps = c.write_entry.ensures.keeps; words = c.write_entry.ensures.words; lasts = c.write_entry.ensures.lasts; tables = record { forgotten = refl; shadowed = refl; shadows = refl }; pool = refl }) c.write_entry.ensures.closed refl refl early

pub returns-clause-nears : goal.returns-clause-nears
returns-clause-nears g c = record { keeps = c.write_entry.ensures.keeps; words = c.write_entry.ensures.words; lasts = c.write_entry.ensures.lasts; tables = record { forgotten = refl; shadowed = refl; shadows = refl }; pool = refl }

pub returns-clause-sound : goal.returns-clause-sound
returns-clause-sound g c =
    let old = g.M.Machine.contents c.args.m.now in
    let new = g.M.Machine.contents c.write_entry.new.m in
    let within = c.frame_page_of-page.ensures.within in
    let words = c.write_entry.ensures.words in
    let early = knows_written c.args.b.0 _ old new c.args.t.now c.clear.new.self c.requires.sound c.clear.ensures.loses c.clear.ensures.off (λ x ne. c.write_entry.ensures.blocks x (λ q. ne (q ∙ c.requires.block))) (λ x ne. c.write_entry.ensures.marks x (λ q. ne (q ∙ c.requires.block))) in
    let page = c.frame_page_of-page.ensures.page ∙ ap (λ ws. frame_page ws c.args.k) (sym words) in
    let block = sym (ap (λ ws. tag_block (tag_at ws c.args.k)) words ∙ c.requires.block) in
    let has = has_home c.args.k c.args.b.0 _ new _ block page (c.frame.ensures.protected (rw words (omega (arith, within)))) c.in_ok-write_entry.ensures.written in
    sound_near _ _ old new _ _ c.requires.sound c.write_entry.ensures.ends.steps.scratch_count (record { keeps = c.write_entry.ensures.keeps; words = c.write_entry.ensures.words; lasts = c.write_entry.ensures.lasts; tables = record { forgotten = refl; shadowed = refl; shadows = refl }; pool = refl }) c.write_entry.ensures.closed refl refl (c.wrote.ensures new.disk new.pending early has)
