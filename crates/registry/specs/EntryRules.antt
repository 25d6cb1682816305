-- The rules of single entries by their names, and blocks and shadows that no valid entry before the n-th has.
use Rattle.std.specs.Prelude.{◌≡◌, ◌≢◌, ℕ, ◌*◌, ◌/◌, ◌%◌, ◌<◌, ◌≤◌, List, length, slice_index}
use Rattle.std.specs.Int.{bit_at}
use Rattle.rio_model.specs.Registry.{IsValid, KeepsMetadata, KeepsName, KeepsShadow, KeepsSize, KeepsTag, shadow_at, tag_at, tag_block}
use Rattle.registry.specs.declared.entry.Entry.{Entry}
use Rattle.registry.specs.declared.image_rules.EntryRule.{EntryRule}
use Rattle.registry.specs.declared.image_rules.EntryRule.TheVariants.{Tag, Metadata, Name, Size, Shadow}

-- the entry keeps the rule
abbrev pub EntryKeeps : EntryRule → Entry → Type 0
EntryKeeps Tag e = KeepsTag e.tag
EntryKeeps Metadata e = KeepsMetadata e.tag e.file e.index e.size
EntryKeeps Name e = KeepsName e.tag e.file e.index
EntryKeeps Size e = KeepsSize e.tag e.size
EntryKeeps Shadow e = KeepsShadow e.tag e.shadow

-- no valid entry before the n-th has this block
pub record IsFreeBefore (words : List ℕ) (n block : ℕ) : Type 0 where
  pub each : (j : ℕ) → j < n → IsValid words j → tag_block (tag_at words j) ≢ block

-- the mark of block b, 1 where it is marked: a bit for each block, 64 to a word
unfoldable pub block_mark : List ℕ → ℕ → ℕ
block_mark marks b = bit_at (slice_index marks (b / 64)) (b % 64)

-- of the blocks below `most`, those are marked that a valid entry before the n-th has
pub record MarksBefore (words : List ℕ) (n most : ℕ) (marks : List ℕ) : Type 0 where
  pub room : most ≤ 64 * length marks
  pub marked : (b : ℕ) → b < most → block_mark marks b ≡ 1 → IsFreeBefore words n b → ⊥
  pub unmarked : (b : ℕ) → b < most → block_mark marks b ≢ 1 → IsFreeBefore words n b

-- no valid entry before the n-th has this shadow
pub record IsUnusedBefore (words : List ℕ) (n shadow : ℕ) : Type 0 where
  pub each : (j : ℕ) → j < n → IsValid words j → shadow_at words j ≢ shadow
