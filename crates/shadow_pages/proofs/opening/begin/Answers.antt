use Rattle.std.proofs.Common.{refl, sym}
use Rattle.rio_base.specs.Rules.{true_false}
use Rattle.rio_base.proofs.MachineRules.{ends_err, ends_then}
use Rattle.rio_model.proofs.CoverStands.{same_names_trans}
use Rattle.shadow_pages.proofs.Exits.{all_bare, at_err, clears_same, ends_told, loses_then, not_ok, opened_then}
use Rattle.rio_model.proofs.Gates.{gate_names, gate_shadow}
use Rattle.shadow_pages.proofs.Gates.{coherent_opened, gate_firm, opened_by}
use Rattle.shadow_pages.proofs.Steps.{coherent_then, stores_trans}
use Rattle.shadow_pages.proofs.opening.begin.Goals as goal

pub store_gate-requires-clause-coherent : goal.store_gate-requires-clause-coherent
store_gate-requires-clause-coherent g c = coherent_then _ _ _ _ c.requires.coherent c.in_ok-clear_shadows.ensures.clears.keeps c.in_ok-clear_shadows.ensures.ends.steps.scratch_count

-- ---- not all shadows are taken away

pub returns-in_err-clear_shadows-clause-opened : goal.returns-in_err-clear_shadows-clause-opened
returns-in_err-clear_shadows-clause-opened g c = not_ok _ c.from_residual.result c.from_residual.ensures.0

pub returns-in_err-clear_shadows-clause-cut : goal.returns-in_err-clear_shadows-clause-cut
returns-in_err-clear_shadows-clause-cut g c = at_err c.from_residual.result c.from_residual.ensures.0 c.in_err-clear_shadows.ensures.clears.keeps

pub returns-in_err-clear_shadows-clause-ends : goal.returns-in_err-clear_shadows-clause-ends
returns-in_err-clear_shadows-clause-ends g c = ends_told _ _ _ _ refl c.from_residual.ensures.0 c.in_err-clear_shadows.ensures.ends

-- ---- the gate is not stored

pub returns-in_err-store_gate-clause-opened : goal.returns-in_err-store_gate-clause-opened
returns-in_err-store_gate-clause-opened g c = not_ok _ c.from_residual-in_err-store_gate.result c.from_residual-in_err-store_gate.ensures.0

pub returns-in_err-store_gate-clause-cut : goal.returns-in_err-store_gate-clause-cut
returns-in_err-store_gate-clause-cut g c = at_err c.from_residual-in_err-store_gate.result c.from_residual-in_err-store_gate.ensures.0 (clears_same _ _ _ c.in_err-store_gate.ensures.same c.in_ok-clear_shadows.ensures.clears).keeps

pub returns-in_err-store_gate-clause-shadows : goal.returns-in_err-store_gate-clause-shadows
returns-in_err-store_gate-clause-shadows g c = (clears_same _ _ _ c.in_err-store_gate.ensures.same c.in_ok-clear_shadows.ensures.clears).shadows

pub returns-in_err-store_gate-clause-names : goal.returns-in_err-store_gate-clause-names
returns-in_err-store_gate-clause-names g c = (clears_same _ _ _ c.in_err-store_gate.ensures.same c.in_ok-clear_shadows.ensures.clears).names

pub returns-in_err-store_gate-clause-rest : goal.returns-in_err-store_gate-clause-rest
returns-in_err-store_gate-clause-rest g c = (clears_same _ _ _ c.in_err-store_gate.ensures.same c.in_ok-clear_shadows.ensures.clears).stores.rest

pub returns-in_err-store_gate-clause-coherent : goal.returns-in_err-store_gate-clause-coherent
returns-in_err-store_gate-clause-coherent g c = (clears_same _ _ _ c.in_err-store_gate.ensures.same c.in_ok-clear_shadows.ensures.clears).keeps.coherent

pub returns-in_err-store_gate-clause-firm : goal.returns-in_err-store_gate-clause-firm
returns-in_err-store_gate-clause-firm g c = (clears_same _ _ _ c.in_err-store_gate.ensures.same c.in_ok-clear_shadows.ensures.clears).keeps.firm

pub returns-in_err-store_gate-clause-lasts : goal.returns-in_err-store_gate-clause-lasts
returns-in_err-store_gate-clause-lasts g c = (clears_same _ _ _ c.in_err-store_gate.ensures.same c.in_ok-clear_shadows.ensures.clears).stores.lasts

pub returns-in_err-store_gate-clause-ends : goal.returns-in_err-store_gate-clause-ends
returns-in_err-store_gate-clause-ends g c = ends_err _ _ _ _ _ refl c.from_residual-in_err-store_gate.ensures.0 c.in_ok-clear_shadows.ensures.ends.steps c.in_err-store_gate.ensures.ends

-- ---- the update is open

pub returns-clause-opened : goal.returns-clause-opened
returns-clause-opened g c = opened_then _ _ _ c.in_ok-clear_shadows.ensures.clears (opened_by _ _ _ (coherent_then _ _ _ _ c.requires.coherent c.in_ok-clear_shadows.ensures.clears.keeps c.in_ok-clear_shadows.ensures.ends.steps.scratch_count) (all_bare _ _ _ c.in_ok-clear_shadows.ensures.clears c.requires.listed c.in_ok-clear_shadows.ensures.cleared) c.in_ok-store_gate.ensures.stored)

pub returns-clause-shadows : goal.returns-clause-shadows
returns-clause-shadows g c = loses_then _ _ _ c.in_ok-clear_shadows.ensures.clears.names c.in_ok-clear_shadows.ensures.clears.shadows (λ k less. gate_shadow 1 _ _ k c.in_ok-store_gate.ensures.gated)

pub returns-clause-names : goal.returns-clause-names
returns-clause-names g c = same_names_trans _ _ _ c.in_ok-clear_shadows.ensures.clears.names (gate_names 1 _ _ c.in_ok-store_gate.ensures.gated)

pub returns-clause-rest : goal.returns-clause-rest
returns-clause-rest g c = (stores_trans _ _ _ c.in_ok-clear_shadows.ensures.clears.stores c.in_ok-store_gate.ensures.stores).rest

pub returns-clause-coherent : goal.returns-clause-coherent
returns-clause-coherent g c = λ n s. coherent_opened n _ _ c.in_ok-store_gate.ensures.stores.rest c.in_ok-store_gate.ensures.gated (all_bare _ _ _ c.in_ok-clear_shadows.ensures.clears c.requires.listed c.in_ok-clear_shadows.ensures.cleared) (c.in_ok-clear_shadows.ensures.clears.keeps.coherent n s)

pub returns-clause-firm : goal.returns-clause-firm
returns-clause-firm g c = λ b e. c.in_ok-clear_shadows.ensures.clears.keeps.firm b (gate_firm 1 _ _ b c.in_ok-store_gate.ensures.stores.rest c.in_ok-store_gate.ensures.gated e)

pub returns-clause-lasts : goal.returns-clause-lasts
returns-clause-lasts g c = (stores_trans _ _ _ c.in_ok-clear_shadows.ensures.clears.stores c.in_ok-store_gate.ensures.stores).lasts

pub returns-clause-ends : goal.returns-clause-ends
returns-clause-ends g c = ends_then _ _ _ _ _ (λ e. true_false (sym e)) c.in_ok-clear_shadows.ensures.ends c.in_ok-store_gate.ensures.ends
