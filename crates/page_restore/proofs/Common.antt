-- The names of the crates below that the proofs of this crate cite again and again, passed on from one place. Declares nothing.
pub use Rattle.std.specs.Prelude.{Bool, Err, IsErrOf, List, None, Option, Result, Some, false, length, not, refl, slice_index, slice_index_or, true, ℕ, ◌&&◌, ◌*◌, ◌+◌, ◌<◌, ◌≡◌, ◌≢◌, ◌≤◌, ◌⊎◌}
pub use Rattle.std.proofs.Common.{ap, arith, inl, inr, subst, sym, ◌∙◌}
pub use Rattle.std.proofs.lemmas.Bool.{and_parts, cases_Bool, cases_eq}
pub use Rattle.rio_base.proofs.MachineRules.{ends_after, ends_none, lasts_refl, lasts_trans}
pub use Rattle.rio_base.specs.Disks.{block_at, is_pending}
pub use Rattle.rio_base.specs.Machine.{Contents, Running}
pub use Rattle.rio_base.specs.Rules.{true_false}
pub use Rattle.rio_model.specs.Registry.{IsValid, OneEntry, frames_of, is_data, is_dirty, is_valid, page_of_entry, tag_at, tag_block}
pub use Rattle.rio_model.specs.Standing.{Brings, Endures, IsHome, IsSettled, Restorable, none_apart, stale_block}
