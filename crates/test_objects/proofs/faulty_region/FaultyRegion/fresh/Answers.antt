use Rattle.std.proofs.Common.{arith, ap, ◌∙◌, ◌≡◌, ◌+◌, ◌*◌}
use Rattle.rio_base.specs.Regions.{put_word}
use Rattle.rio_model.specs.Undo.{map_pages, region_magic}
use Rattle.test_objects.specs.FaultyRegions.{faulty_content}
use Rattle.test_objects.proofs.FreshRegions.{is_fresh}
use Rattle.test_objects.proofs.faulty_region.FaultyRegion.fresh.Goals as goal

pub returns-clause-fresh : goal.returns-clause-fresh
returns-clause-fresh c =
    let zeros = faulty_content c.in_ok-r.r in
    let count = c.put-3.ensures.count ∙ c.put-2.ensures.count ∙ c.put.ensures.count ∙ c.in_ok-r.ensures.count in
    let size : c.put-3.new.self.count ≡ 512 * (1 + c.args.undo + (map_pages c.args.pages + c.args.pages)) = omega (arith, count, c.div_ceil.ensures) in
    let two = c.put-2.ensures.words ∙ ap (λ w. put_word w 1 c.from.result) c.put.ensures.words ∙ ap (λ v. put_word (put_word zeros 0 region_magic) 1 v) c.from.ensures in
    let three = c.put-3.ensures.words ∙ ap (λ w. put_word w 2 c.from-2.result) two ∙ ap (λ v. put_word (put_word (put_word zeros 0 region_magic) 1 c.args.undo) 2 v) c.from-2.ensures in
    is_fresh c.args.undo c.args.pages c.put-3.new.self zeros (omega (arith, c.requires.undo.0)) (omega (arith, c.requires.pages.0)) size c.in_ok-r.ensures.words three
