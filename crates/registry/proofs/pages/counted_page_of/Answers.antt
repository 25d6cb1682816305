use Rattle.std.proofs.Common.{◌∙◌, ◌≤◌, ap, arith, inl, inr, subst, sym}
use Rattle.registry.specs.declared.entry.Entry.{Entry}
use Rattle.registry.proofs.PagePlaces.{counts_frame, counts_shadow, shadow_small}
use Rattle.registry.proofs.Places.{in_memory}
use Rattle.registry.proofs.pages.counted_page_of.Goals as goal

pub load-updating-requires : goal.load-updating-requires
load-updating-requires g c = in_memory _ _ 4 (omega (arith, c.requires.layout.protected))

pub shadow_page_of-requires-clause-shadow : goal.shadow_page_of-requires-clause-shadow
shadow_page_of-requires-clause-shadow g c = subst (λ n. n ≤ 16) (sym (ap (λ (e : Entry). e.shadow) c.read_entry-shadow.ensures)) (shadow_small (g.M.Machine.contents c.args.m.now).words c.args.k c.requires.shadows c.requires.valid)

pub overflow_cast-shadow : goal.overflow_cast-shadow
overflow_cast-shadow g c = let few : c.read_entry-shadow.result.shadow ≤ 16 = subst (λ n. n ≤ 16) (sym (ap (λ (e : Entry). e.shadow) c.read_entry-shadow.ensures)) (shadow_small (g.M.Machine.contents c.args.m.now).words c.args.k c.requires.shadows c.requires.valid) in omega (arith, few)

pub returns-then-not-updating-clause-page : goal.returns-then-not-updating-clause-page
returns-then-not-updating-clause-page g c = counts_frame (g.M.Machine.contents c.args.m.now).words c.args.k _ c.frame_page_of.ensures.page (inl (λ e. c.if-not-updating.true (c.load-updating.ensures.protected (omega (arith, c.requires.layout.protected)) ∙ e)))

pub returns-then-shadow-eq0-clause-page : goal.returns-then-shadow-eq0-clause-page
returns-then-shadow-eq0-clause-page g c = counts_frame (g.M.Machine.contents c.args.m.now).words c.args.k _ c.frame_page_of-then-shadow-eq0.ensures.page (inr (sym (ap (λ (e : Entry). e.shadow) c.read_entry-shadow.ensures) ∙ c.if-shadow-eq0.true))

pub returns-clause-page : goal.returns-clause-page
returns-clause-page g c = counts_shadow (g.M.Machine.contents c.args.m.now).words c.args.k _ _ c.shadow_page_of.ensures.page (ap (λ (e : Entry). e.shadow) c.read_entry-shadow.ensures) (sym (c.load-updating.ensures.protected (omega (arith, c.requires.layout.protected))) ∙ c.if-not-updating.false) c.if-shadow-eq0.false
