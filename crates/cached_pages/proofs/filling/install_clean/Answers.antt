use Rattle.std.proofs.Common.{false}
use Rattle.rio_model.proofs.CoverFills.{keeps_begun, keeps_made}
use Rattle.rio_model.proofs.CoverSteps.{rest_stored}
use Rattle.cached_pages.proofs.Fills.{made_new}
use Rattle.cached_pages.proofs.filling.install_clean.Goals as goal

pub returns-in_err-install-clause-keeps : goal.returns-in_err-install-clause-keeps
returns-in_err-install-clause-keeps g c = keeps_begun _ c.args.k _ _ c.requires.coherent c.install.ensures.changes.rest c.install.ensures.changes.one_entry c.requires.entry c.requires.invalid c.in_err-install.ensures.begun

pub returns-clause-keeps : goal.returns-clause-keeps
returns-clause-keeps g c =
    let made = made_new c.args.k c.args.b.0 c.args.name false _ _ c.install.ensures.changes.one_entry c.requires.entry c.requires.invalid c.requires.free c.requires.name c.in_ok-install.ensures.entry in
    keeps_made _ c.args.k c.args.b.0 _ _ c.requires.coherent (rest_stored (g.M.Machine.contents c.args.m.now) _ _ c.in_ok-install.ensures.stored) made c.requires.block c.requires.home

pub returns-clause-made : goal.returns-clause-made
returns-clause-made g c = made_new c.args.k c.args.b.0 c.args.name false _ _ c.install.ensures.changes.one_entry c.requires.entry c.requires.invalid c.requires.free c.requires.name c.in_ok-install.ensures.entry
