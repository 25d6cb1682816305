use Rattle.cached_pages.proofs.Common.{◌∙◌, ap, sym, arith, is_dirty, is_valid}
use Rattle.cached_pages.proofs.leaving.can_send.Goals as goal

pub returns-clause-valid : goal.returns-clause-valid
returns-clause-valid g c = λ e. record { within = c.requires.entry; valid = ap is_valid (sym c.tag_of-tag.ensures) ∙ sym c.is_valid.ensures ∙ grind (arith, c.if-not-is_valid.false) }

pub returns-clause-dirty : goal.returns-clause-dirty
returns-clause-dirty g c = λ e. ap is_dirty (sym c.tag_of-tag.ensures) ∙ sym c.is_dirty.ensures ∙ grind (arith, c.if-not-is_dirty.false)
