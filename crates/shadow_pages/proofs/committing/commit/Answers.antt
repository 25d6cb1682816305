use Rattle.std.proofs.Common.{◌≡◌, ap, refl, slice_index, subst, sym, true}
use Rattle.rio_base.specs.Machine.{Contents}
use Rattle.rio_model.specs.Cover.{Coherent, is_loose}
use Rattle.rio_model.proofs.Gates.{gate_entries, gate_names}
use Rattle.shadow_pages.proofs.Exits.{at_err, ends_told, not_ok, same_names}
use Rattle.shadow_pages.proofs.Gates.{coherent_shut, committed_by, gate_firm}
use Rattle.shadow_pages.proofs.committing.commit.Goals as goal

pub returns-in_err-store_gate-clause-committed : goal.returns-in_err-store_gate-clause-committed
returns-in_err-store_gate-clause-committed g c = not_ok _ c.from_residual.result c.from_residual.ensures.0

pub returns-in_err-store_gate-clause-same : goal.returns-in_err-store_gate-clause-same
returns-in_err-store_gate-clause-same g c = at_err c.from_residual.result c.from_residual.ensures.0 c.in_err-store_gate.ensures.same

pub returns-in_err-store_gate-clause-entries : goal.returns-in_err-store_gate-clause-entries
returns-in_err-store_gate-clause-entries g c = λ i past. ap (λ (x : Contents). slice_index x.words i) c.in_err-store_gate.ensures.same

pub returns-in_err-store_gate-clause-names : goal.returns-in_err-store_gate-clause-names
returns-in_err-store_gate-clause-names g c = same_names _ _ c.in_err-store_gate.ensures.same

pub returns-in_err-store_gate-clause-coherent : goal.returns-in_err-store_gate-clause-coherent
returns-in_err-store_gate-clause-coherent g c = λ n s. subst (λ (x : Contents). Coherent x n) (sym c.in_err-store_gate.ensures.same) s

pub returns-in_err-store_gate-clause-firm : goal.returns-in_err-store_gate-clause-firm
returns-in_err-store_gate-clause-firm g c = λ b e. subst (λ (x : Contents). is_loose x b ≡ true) c.in_err-store_gate.ensures.same e

pub returns-in_err-store_gate-clause-ends : goal.returns-in_err-store_gate-clause-ends
returns-in_err-store_gate-clause-ends g c = ends_told _ _ _ _ refl c.from_residual.ensures.0 c.in_err-store_gate.ensures.ends

pub returns-clause-committed : goal.returns-clause-committed
returns-clause-committed g c = committed_by _ _ _ c.requires.coherent c.in_ok-store_gate.ensures.stored

pub returns-clause-entries : goal.returns-clause-entries
returns-clause-entries g c = λ i past. gate_entries 0 _ _ i c.in_ok-store_gate.ensures.gated past

pub returns-clause-names : goal.returns-clause-names
returns-clause-names g c = gate_names 0 _ _ c.in_ok-store_gate.ensures.gated

pub returns-clause-coherent : goal.returns-clause-coherent
returns-clause-coherent g c = λ n s. coherent_shut n _ _ c.in_ok-store_gate.ensures.stores.rest c.in_ok-store_gate.ensures.gated s

pub returns-clause-firm : goal.returns-clause-firm
returns-clause-firm g c = λ b e. gate_firm 0 _ _ b c.in_ok-store_gate.ensures.stores.rest c.in_ok-store_gate.ensures.gated e
