use Rattle.std.proofs.Common.{◌∙◌, ap, arith}
use Rattle.test_objects.proofs.Fronts.{content_pasted}
use Rattle.test_objects.specs.ListRegions.{region_content}
use Rattle.rio_base.specs.Regions.{put_words}
use Rattle.test_objects.proofs.list_region.ListRegionRegionWords.set_run.Goals as goal

pub returns-then-made-from-clause-words : goal.returns-then-made-from-clause-words
returns-then-made-from-clause-words c =
    content_pasted _ _ _ _ _ c.store_front.ensures (omega (arith, c.requires.ready.fits, c.requires.place, c.take-made.ensures.most)) c.take-made.ensures.most
    ∙ ap (λ n. put_words (region_content c.args.self.now) c.args.at n c.args.from.now) c.take-made.ensures.made

pub returns-clause-words : goal.returns-clause-words
returns-clause-words c =
    content_pasted _ _ _ _ _ c.store_front.ensures (omega (arith, c.requires.ready.fits, c.requires.place, c.take-made.ensures.most)) c.take-made.ensures.most
    ∙ ap (λ n. put_words (region_content c.args.self.now) c.args.at n c.args.from.now) c.take-made.ensures.made
