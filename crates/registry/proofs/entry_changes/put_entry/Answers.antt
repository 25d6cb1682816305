use Rattle.std.proofs.Common.{ap, arith, refl, sym}
use Rattle.rio_base.proofs.Exits.{on_err}
use Rattle.rio_base.specs.Rules.{true_false}
use Rattle.registry.specs.declared.entry.Entry.{Entry}
use Rattle.registry.proofs.Changes.{can_still, changes_then, changes_told, tag_kept}
use Rattle.registry.proofs.EntryRuns.{all_stored, entry_filled}
use Rattle.registry.proofs.Exits.{err_then, not_ok, ok_then}
use Rattle.registry.proofs.entry_changes.put_entry.Goals as goal

pub returns-in_err-put_behind_tag-clause-begun : goal.returns-in_err-put_behind_tag-clause-begun
returns-in_err-put_behind_tag-clause-begun g c = on_err _ _ c.in_err-put_behind_tag.ensures.begun

pub put_behind_tag-requires : goal.put_behind_tag-requires
put_behind_tag-requires g c = record { can = c.requires.can }

pub put_entry_word-requires-clause-can : goal.put_entry_word-requires-clause-can
put_entry_word-requires-clause-can g c = can_still _ _ _ _ _ _ _ c.requires.can c.in_ok-put_behind_tag.ensures.changes

pub put_entry_word-requires-clause-within : goal.put_entry_word-requires-clause-within
put_entry_word-requires-clause-within g c = omega arith

pub returns-in_err-put_behind_tag-clause-stored : goal.returns-in_err-put_behind_tag-clause-stored
returns-in_err-put_behind_tag-clause-stored g c = not_ok _ c.from_residual.result c.from_residual.ensures.0

pub returns-in_err-put_behind_tag-clause-entry : goal.returns-in_err-put_behind_tag-clause-entry
returns-in_err-put_behind_tag-clause-entry g c = not_ok _ c.from_residual.result c.from_residual.ensures.0

pub returns-in_err-put_behind_tag-clause-changes : goal.returns-in_err-put_behind_tag-clause-changes
returns-in_err-put_behind_tag-clause-changes g c = changes_told _ _ _ _ _ _ _ refl c.from_residual.ensures.0 c.in_err-put_behind_tag.ensures.changes

pub returns-clause-stored : goal.returns-clause-stored
returns-clause-stored g c = ok_then c.put_entry_word.result _ _ (all_stored c.args.k c.args.entry.now (g.M.Machine.contents c.args.m.now) (g.M.Machine.contents c.put_behind_tag.new.m) (g.M.Machine.contents c.put_entry_word.new.m) c.in_ok-put_behind_tag.ensures.stored) c.put_entry_word.ensures.stored

pub returns-clause-entry : goal.returns-clause-entry
returns-clause-entry g c = ok_then c.put_entry_word.result _ _ (entry_filled c.args.k _ c.args.entry.now (g.M.Machine.contents c.put_behind_tag.new.m).words (g.M.Machine.contents c.put_entry_word.new.m).words c.in_ok-put_behind_tag.ensures.entry) c.put_entry_word.ensures.entry

pub returns-clause-begun : goal.returns-clause-begun
returns-clause-begun g c = err_then c.put_entry_word.result _ _ (tag_kept c.args.k _ (g.M.Machine.contents c.put_behind_tag.new.m) (g.M.Machine.contents c.put_entry_word.new.m) (ap (λ (x : Entry). x.tag) c.in_ok-put_behind_tag.ensures.entry)) c.put_entry_word.ensures.same

pub returns-clause-changes : goal.returns-clause-changes
returns-clause-changes g c = changes_then _ _ _ _ _ _ _ _ _ (λ e. true_false (sym e)) c.in_ok-put_behind_tag.ensures.changes c.put_entry_word.ensures.changes
