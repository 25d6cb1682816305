-- The names of the crates below that the proofs of this crate cite again and again, passed on from one place. Declares nothing.
pub use Rattle.std.proofs.Common.{IsErr, IsErrOf, ap, arith, inl, inr, rules, subst, sym, ◌∙◌}
pub use Rattle.std.proofs.lemmas.Bool.{cases_Bool, cases_eq, eq-eqb, ne_eqb}
pub use Rattle.std.proofs.lemmas.List.{length-set}
pub use Rattle.std.specs.Prelude.{Bool, List, None, Option, Some, false, if◌then◌else◌, is_some, length, not, refl, slice_index, slice_index_or, slice_set, suc, true, ℕ, ◌&&◌, ◌*◌, ◌+◌, ◌-◌, ◌/◌, ◌<◌, ◌==◌, ◌||◌, ◌≡◌, ◌≢◌, ◌≤◌, ◌⊎◌}
pub use Rattle.frame_pool.specs.Orders.{used_last}
pub use Rattle.frame_pool.specs.Pools.{block_of, frames_in, is_pinned, order_of, pins_in}
pub use Rattle.frame_pool.specs.declared.frame_pool.FramePool.{FramePool}
pub use Rattle.registry.specs.Entries.{entry_of, new_entry}
pub use Rattle.registry.specs.declared.entry.Entry.{Entry}
pub use Rattle.rio_base.proofs.MachineRules.{ends_after, lasts_trans, steps_trans}
pub use Rattle.rio_base.specs.Blocks.{BlockWords, InRange}
pub use Rattle.rio_base.specs.Disks.{is_pending}
pub use Rattle.rio_base.specs.Machine.{Contents, Lasts, Running, StepEnds, Steps}
pub use Rattle.rio_base.specs.Memory.{FrontStored}
pub use Rattle.rio_base.specs.Rules.{none_some, true_false}
pub use Rattle.rio_base.specs.Volume.{Firm, Goes, put_run}
pub use Rattle.rio_base.specs.declared.failures.VolFail.TheVariants.{Stopped}
pub use Rattle.rio_base.specs.declared.places.PageName.{PageName}
pub use Rattle.rio_model.proofs.CoverChanges.{entry_same, found_entries, found_kept, found_other, frame_entries, frame_word_one, header_same, same_entries, tag_same}
pub use Rattle.rio_model.proofs.CoverFills.{frame_past}
pub use Rattle.rio_model.proofs.CoverLookups.{entry_one, found_at, frames_one, header_one, tag_one}
pub use Rattle.rio_model.proofs.CoverSteps.{coherent_on, coherent_one, disk_same, firm_by, pending_same}
pub use Rattle.rio_model.proofs.RegistryRules.{valid_moved}
pub use Rattle.rio_model.specs.Cover.{Coherent, HeldEntry, IsBare, Keeps, Narrows, SameNames, cover_by, entry_block, entry_of_block, name_in, reads, stands}
pub use Rattle.rio_model.specs.CoverChanges.{OnePage, SameEntries, stands_idle}
pub use Rattle.rio_model.specs.CoverFills.{Made}
pub use Rattle.rio_model.specs.CoverLookups.{cover_at, found_is}
pub use Rattle.rio_model.specs.Registry.{BlockRule, IsValid, OneEntry, frames_of, gate_of, is_data, is_dirty, is_valid, page_of_entry, shadow_at, size_at, tag_at, tag_block, tag_of}
