-- The names of the crates below that the proofs of this crate cite again and again, passed on from one place. Declares nothing.
pub use Rattle.std.proofs.Common.{Bool, List, Option, [], ap, arith, cond, drop, false, inl, inr, map, refl, subst, suc, sym, true, zero, ℕ, ◌%◌, ◌&&◌, ◌*◌, ◌++◌, ◌+◌, ◌-◌, ◌/◌, ◌<◌, ◌==◌, ◌∙◌, ◌∷◌, ◌≡◌, ◌≢◌, ◌≤◌, ◌⊎◌}
pub use Rattle.std.proofs.lemmas.Bool.{cases_Bool, cases_eq, eq-eqb}
pub use Rattle.std.proofs.lemmas.Bool.Decides.{Decides-eqb, nat_tests}
pub use Rattle.std.specs.Cmp.{nat_cmp_total}
pub use Rattle.std.specs.FinMap.{entries, find, from_entries, get, get-from_entries, insert, nat_cmp-IsAntisymmetric, remove, same_map}
pub use Rattle.std.specs.Int.{bit_at}
pub use Rattle.std.specs.List.{range_with_len}
pub use Rattle.std.specs.Ordering.{eq_by_cmp, is_eq, nat_cmp}
pub use Rattle.std.specs.Prelude.{None, Some, filter, if◌then◌else◌, length, nat_lt, not, slice_index, slice_set, sum}
pub use Rattle.std.specs.declared.cmp.Ordering.{Ordering}
pub use Rattle.std.specs.declared.cmp.Ordering.TheVariants.{Equal}
pub use Rattle.rio_base.specs.Bitmap.{used_bit}
pub use Rattle.rio_base.specs.Blocks.{BlockWords}
pub use Rattle.rio_base.specs.Disks.{is_pending}
pub use Rattle.rio_base.specs.Layout.{IsIno, inode_block, inode_word}
pub use Rattle.rio_base.specs.Machine.{Contents}
pub use Rattle.rio_base.specs.Rules.{true_false}
pub use Rattle.rio_base.specs.Shapes.{reserved}
pub use Rattle.rio_base.specs.Volume.{put}
pub use Rattle.rio_base.specs.declared.places.VolumeShape.{VolumeShape}
