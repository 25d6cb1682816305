use Rattle.std.proofs.Common.{◌∙◌, ap, refl, sym}
use Rattle.rio_base.specs.Rules.{true_false}
use Rattle.rio_base.proofs.MachineRules.{ends_none}
use Rattle.rio_model.specs.Registry.{is_valid}
use Rattle.registry.specs.declared.entry.Entry.{Entry}
use Rattle.shadow_pages.proofs.Exits.{clears_same, ends_told, not_ok, stores_entry}
use Rattle.shadow_pages.proofs.Shadows.{clears_taken}
use Rattle.shadow_pages.proofs.Steps.{clears_refl, layout_now}
use Rattle.shadow_pages.proofs.opening.clear_shadow.Goals as goal

pub read_entry-entry-requires-clause-layout : goal.read_entry-entry-requires-clause-layout
read_entry-entry-requires-clause-layout g c = layout_now _ _ c.requires.coherent

pub returns-then-not-is_valid-clause-clears : goal.returns-then-not-is_valid-clause-clears
returns-then-not-is_valid-clause-clears g c = clears_refl _ c.requires.closed

pub returns-then-not-is_valid-clause-cleared : goal.returns-then-not-is_valid-clause-cleared
returns-then-not-is_valid-clause-cleared g c = record { bare = λ v. absurd (true_false (sym v.valid ∙ ap (λ (x : Entry). is_valid x.tag) (sym c.read_entry-entry.ensures) ∙ sym c.is_valid.ensures ∙ c.if-not-is_valid.true)) }

pub returns-then-not-is_valid-clause-ends : goal.returns-then-not-is_valid-clause-ends
returns-then-not-is_valid-clause-ends g c = ends_none _ _ (λ e. true_false (sym e))

pub returns-then-entry-eq0-clause-clears : goal.returns-then-entry-eq0-clause-clears
returns-then-entry-eq0-clause-clears g c = clears_refl _ c.requires.closed

pub returns-then-entry-eq0-clause-cleared : goal.returns-then-entry-eq0-clause-cleared
returns-then-entry-eq0-clause-cleared g c = record { bare = λ v. ap (λ (x : Entry). x.shadow) (sym c.read_entry-entry.ensures) ∙ c.if-entry-eq0.true }

pub returns-then-entry-eq0-clause-ends : goal.returns-then-entry-eq0-clause-ends
returns-then-entry-eq0-clause-ends g c = ends_none _ _ (λ e. true_false (sym e))

pub set_shadow-requires-clause-can : goal.set_shadow-requires-clause-can
set_shadow-requires-clause-can g c = record { layout = layout_now _ _ c.requires.coherent; closed = c.requires.closed; entry = c.requires.entry }

pub set_shadow-requires-clause-valid : goal.set_shadow-requires-clause-valid
set_shadow-requires-clause-valid g c = ap (λ (x : Entry). is_valid x.tag) (sym c.read_entry-entry.ensures) ∙ sym c.is_valid.ensures ∙ c.if-not-is_valid.false

pub returns-in_err-set_shadow-clause-clears : goal.returns-in_err-set_shadow-clause-clears
returns-in_err-set_shadow-clause-clears g c = clears_same _ _ _ c.in_err-set_shadow.ensures.same (clears_refl _ c.requires.closed)

pub returns-in_err-set_shadow-clause-cleared : goal.returns-in_err-set_shadow-clause-cleared
returns-in_err-set_shadow-clause-cleared g c = not_ok _ c.from_residual.result c.from_residual.ensures.0

pub returns-in_err-set_shadow-clause-ends : goal.returns-in_err-set_shadow-clause-ends
returns-in_err-set_shadow-clause-ends g c = ends_told _ _ _ _ refl c.from_residual.ensures.0 c.in_err-set_shadow.ensures.changes.ends

pub returns-clause-clears : goal.returns-clause-clears
returns-clause-clears g c =
    let valid = ap (λ (x : Entry). is_valid x.tag) (sym c.read_entry-entry.ensures) ∙ sym c.is_valid.ensures ∙ c.if-not-is_valid.false in
    clears_taken c.args.k _ _ c.requires.shut (stores_entry _ _ _ _ _ _ c.requires.closed c.in_ok-set_shadow.ensures.changes) (record { within = c.requires.entry; valid = valid }) c.in_ok-set_shadow.ensures.changes.one_entry c.in_ok-set_shadow.ensures.entry

pub returns-clause-cleared : goal.returns-clause-cleared
returns-clause-cleared g c = record { bare = λ v. ap (λ (x : Entry). x.shadow) c.in_ok-set_shadow.ensures.entry }
