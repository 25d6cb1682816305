use Rattle.std.proofs.Common.{◌∙◌, List, ap, arith, length, ℕ}
use Rattle.std.proofs.lemmas.List.{length-replicate}
use Rattle.registry.proofs.Exits.{not_ok, table_back, zeros_are}
use Rattle.registry.proofs.cover_view.view_tables.Goals as goal

pub overflow_cast-disk_blocks : goal.overflow_cast-disk_blocks
overflow_cast-disk_blocks g c = omega (arith, c.disk_blocks.type_inv)

pub note_entries-requires-clause-none : goal.note_entries-requires-clause-none
note_entries-requires-clause-none g c = λ b less. zeros_are _ _ _ b c.deref_mut.ensures.value (c.in_ok-entries.ensures.items_if_clones_equal (λ y e. e))

pub returns-in_err-entries-clause-entries : goal.returns-in_err-entries-clause-entries
returns-in_err-entries-clause-entries g c = not_ok _ c.from_residual.result c.from_residual.ensures.0

pub returns-in_err-entries-clause-room : goal.returns-in_err-entries-clause-room
returns-in_err-entries-clause-room g c = not_ok _ c.from_residual.result c.from_residual.ensures.0

pub returns-in_err-block-clause-entries : goal.returns-in_err-block-clause-entries
returns-in_err-block-clause-entries g c = not_ok _ c.from_residual-in_err-block.result c.from_residual-in_err-block.ensures.0

pub returns-in_err-block-clause-room : goal.returns-in_err-block-clause-room
returns-in_err-block-clause-room g c = not_ok _ c.from_residual-in_err-block.result c.from_residual-in_err-block.ensures.0

pub returns-clause-entries : goal.returns-clause-entries
returns-clause-entries g c = table_back _ _ _ _ _ _ c.note_entries.ensures.entries c.deref_mut.ensures.len (c.in_ok-entries.ensures.len ∙ c.disk_blocks.ensures)

pub returns-clause-room : goal.returns-clause-room
returns-clause-room g c = ap (λ (xs : List ℕ). length xs) (c.in_ok-block.ensures.items_if_clones_equal (λ y e. e)) ∙ length-replicate {A = ℕ} 512 0
