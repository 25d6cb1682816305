use Rattle.cached_pages.proofs.Common.{◌<◌, ◌∙◌, ap, sym, subst, is_valid}
use Rattle.cached_pages.proofs.Roomy.{all_valid}
use Rattle.cached_pages.proofs.leaving.is_full.Goals as goal

pub tag_of-requires-clause-entry : goal.tag_of-requires-clause-entry
tag_of-requires-clause-entry g c = subst (λ f. c.args.k < f) c.requires.sound.frames c.requires.victim.within

pub returns : goal.returns
returns g c = λ is. all_valid c.args.k _ (g.M.Machine.contents c.args.m.now) _ c.requires.sound c.requires.victim (ap is_valid (sym c.tag_of.ensures) ∙ sym c.is_valid.ensures ∙ is)
