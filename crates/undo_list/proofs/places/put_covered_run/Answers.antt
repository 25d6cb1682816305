use Rattle.std.proofs.Common.{ap, refl, ◌+◌, ◌*◌, ◌≡◌, ◌<◌, ◌≤◌, ℕ, length, arith, le_refl}
use Rattle.rio_base.specs.Regions.{put_words}
use Rattle.rio_model.specs.Undo.{map_from, Puts}
use Rattle.undo_list.proofs.Outcomes.{on_ok, on_fault}
use Rattle.undo_list.proofs.Frames.{puts_at, puts_front, puts_region}
use Rattle.undo_list.proofs.places.put_covered_run.Goals as goal

pub returns-clause-ok : goal.returns-clause-ok
returns-clause-ok g c =
    let f = g.R.RegionWords.words in
    let at : 512 * (1 + c.args.undo) + c.args.place ≡ map_from (f c.args.r.now) + c.args.place = ap (λ u. 512 * (1 + u) + c.args.place) c.requires.undo in
    on_ok c.set_run.result _ _ (puts_at (g.R.RegionWords.count c.args.r.now) (f c.args.r.now) (f c.args.r.now) (f c.set_run.new.self) (512 * (1 + c.args.undo) + c.args.place) c.args.place (length c.args.words.now) (length c.args.words.now) c.args.words.now refl c.requires.region (le_refl (length c.args.words.now)) c.requires.covered at) c.set_run.ensures.ok

pub returns-clause-fault : goal.returns-clause-fault
returns-clause-fault g c =
    let f = g.R.RegionWords.words in
    let at : 512 * (1 + c.args.undo) + c.args.place ≡ map_from (f c.args.r.now) + c.args.place = ap (λ u. 512 * (1 + u) + c.args.place) c.requires.undo in
    let one : (n : ℕ) → (n < length c.args.words.now) × (f c.set_run.new.self ≡ put_words (f c.args.r.now) (512 * (1 + c.args.undo) + c.args.place) n c.args.words.now) → (n ≤ length c.args.words.now) × Puts (g.R.RegionWords.count c.args.r.now) (f c.args.r.now) (f c.set_run.new.self) c.args.place n c.args.words.now = λ n h. (omega (arith, h.0), puts_at (g.R.RegionWords.count c.args.r.now) (f c.args.r.now) (f c.args.r.now) (f c.set_run.new.self) (512 * (1 + c.args.undo) + c.args.place) c.args.place n (length c.args.words.now) c.args.words.now refl c.requires.region (omega (arith, h.0)) c.requires.covered at h.1) in
    on_fault c.set_run.result _ _ one c.set_run.ensures.fault

pub returns-clause-front : goal.returns-clause-front
returns-clause-front g c =
    let f = g.R.RegionWords.words in
    let at : 512 * (1 + c.args.undo) + c.args.place ≡ map_from (f c.args.r.now) + c.args.place = ap (λ u. 512 * (1 + u) + c.args.place) c.requires.undo in
    puts_front (g.R.RegionWords.count c.args.r.now) (f c.args.r.now) (f c.args.r.now) (f c.set_run.new.self) (512 * (1 + c.args.undo) + c.args.place) c.args.place c.args.words.now refl c.requires.region c.requires.covered at c.set_run.ensures.front

pub returns-clause-region : goal.returns-clause-region
returns-clause-region g c =
    let f = g.R.RegionWords.words in
    let at : 512 * (1 + c.args.undo) + c.args.place ≡ map_from (f c.args.r.now) + c.args.place = ap (λ u. 512 * (1 + u) + c.args.place) c.requires.undo in
    puts_region (g.R.RegionWords.count c.args.r.now) (g.R.RegionWords.count c.set_run.new.self) (f c.args.r.now) (f c.set_run.new.self) c.args.place c.args.words.now c.set_run.ensures.stays.count (puts_front (g.R.RegionWords.count c.args.r.now) (f c.args.r.now) (f c.args.r.now) (f c.set_run.new.self) (512 * (1 + c.args.undo) + c.args.place) c.args.place c.args.words.now refl c.requires.region c.requires.covered at c.set_run.ensures.front)
