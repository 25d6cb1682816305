use Rattle.std.proofs.Common.{◌∙◌, ap, sym}
use Rattle.rio_base.specs.Rules.{true_false}
use Rattle.rio_base.proofs.MachineRules.{ends_none}
use Rattle.rio_model.specs.Registry.{is_valid}
use Rattle.registry.specs.declared.entry.Entry.{Entry}
use Rattle.shadow_pages.proofs.Restores.{restored_bare, restores_refl}
use Rattle.shadow_pages.proofs.Steps.{layout_now, stores_refl}
use Rattle.shadow_pages.proofs.undoing.restore_frame.Goals as goal

pub read_entry-entry-requires-clause-layout : goal.read_entry-entry-requires-clause-layout
read_entry-entry-requires-clause-layout g c = layout_now _ _ c.requires.coherent

pub returns-then-not-is_valid-clause-restores : goal.returns-then-not-is_valid-clause-restores
returns-then-not-is_valid-clause-restores g c = restores_refl _

pub returns-then-not-is_valid-clause-restored : goal.returns-then-not-is_valid-clause-restored
returns-then-not-is_valid-clause-restored g c = record { each = λ v w small. absurd (true_false (sym v.valid ∙ ap (λ (x : Entry). is_valid x.tag) (sym c.read_entry-entry.ensures) ∙ sym c.is_valid.ensures ∙ c.if-not-is_valid.true)) }

pub returns-then-not-is_valid-clause-stores : goal.returns-then-not-is_valid-clause-stores
returns-then-not-is_valid-clause-stores g c = stores_refl _ c.requires.closed

pub returns-then-not-is_valid-clause-ends : goal.returns-then-not-is_valid-clause-ends
returns-then-not-is_valid-clause-ends g c = ends_none _ _ (λ e. true_false (sym e))

pub returns-then-entry-eq0-clause-restores : goal.returns-then-entry-eq0-clause-restores
returns-then-entry-eq0-clause-restores g c = restores_refl _

pub returns-then-entry-eq0-clause-restored : goal.returns-then-entry-eq0-clause-restored
returns-then-entry-eq0-clause-restored g c = restored_bare c.args.k _ (ap (λ (x : Entry). x.shadow) (sym c.read_entry-entry.ensures) ∙ c.if-entry-eq0.true)

pub returns-then-entry-eq0-clause-stores : goal.returns-then-entry-eq0-clause-stores
returns-then-entry-eq0-clause-stores g c = stores_refl _ c.requires.closed

pub returns-then-entry-eq0-clause-ends : goal.returns-then-entry-eq0-clause-ends
returns-then-entry-eq0-clause-ends g c = ends_none _ _ (λ e. true_false (sym e))

pub copy_back-requires-clause-has : goal.copy_back-requires-clause-has
copy_back-requires-clause-has g c = record { valid = record { within = c.requires.entry; valid = ap (λ (x : Entry). is_valid x.tag) (sym c.read_entry-entry.ensures) ∙ sym c.is_valid.ensures ∙ c.if-not-is_valid.false }; updating = c.requires.updating; shadow = ap (λ (x : Entry). x.shadow) (sym c.read_entry-entry.ensures); some = c.if-entry-eq0.false }
