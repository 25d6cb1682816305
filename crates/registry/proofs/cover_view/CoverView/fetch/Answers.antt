use Rattle.std.proofs.Common.{◌∙◌, sym}
use Rattle.rio_base.proofs.MachineRules.{never}
use Rattle.rio_base.specs.Rules.{true_false}
use Rattle.registry.specs.ViewLaws.{viewed_refl}
use Rattle.registry.proofs.Exits.{ends_none, ok_then}
use Rattle.registry.proofs.Views.{hand_read}
use Rattle.registry.proofs.cover_view.CoverView.fetch.Goals as goal

pub returns-then-has-clause-hand : goal.returns-then-has-clause-hand
returns-then-has-clause-hand g c = sym c.if-has.ensures

pub returns-then-has-clause-viewed : goal.returns-then-has-clause-viewed
returns-then-has-clause-viewed g c = viewed_refl _ _

pub returns-then-has-clause-ends : goal.returns-then-has-clause-ends
returns-then-has-clause-ends g c = ends_none _ tt

pub returns-then-has-clause-sure : goal.returns-then-has-clause-sure
returns-then-has-clause-sure g c = λ is hand. never tt _ is

pub returns-clause-hand : goal.returns-clause-hand
returns-clause-hand g c = ok_then c.read.result _ _ (hand_read (g.M.Machine.contents c.read.new.self.machine).words c.read.new.self.held c.args.b.0) c.read.ensures.held

pub returns-clause-sure : goal.returns-clause-sure
returns-clause-sure g c = λ is hand. true_false (sym hand ∙ sym c.if-has.ensures)
