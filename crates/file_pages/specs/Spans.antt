-- Bytes stored over a run of a file's pages, wherever their blocks lie.
use Rattle.std.specs.Prelude.{◌≡◌, ℕ, ◌+◌, ◌-◌, ◌*◌, ◌/◌, ◌%◌, ◌<◌, ◌≤◌, min, true, List, length, slice_index}
use Rattle.std.specs.List.{Contains}
use Rattle.rio_base.specs.Blocks.{BlockWords, Seen}
use Rattle.file_pages.specs.PageBytes.{block_byte}
use Rattle.node_pages.specs.WordBytes.{over}
use Rattle.file_pages.specs.Storing.{NamedAs}

-- byte x of a file whose pages, from page `first` on, are these blocks
abbrev pub span_byte : BlockWords → List ℕ → ℕ → ℕ → ℕ
span_byte f blocks first x = block_byte f (slice_index blocks (x / 4096 - first)) (x % 4096)

-- the first k of these bytes are stored from byte `off` of the file on. No other byte of these pages differs, and no other
-- block
pub record PutsSpan (f g : BlockWords) (blocks : List ℕ) (first off : ℕ) (bytes : List ℕ) (k : ℕ) : Type 0 where
  pub others : (b w : ℕ) → (Contains blocks b → ⊥) → g b w ≡ f b w
  pub each : (x : ℕ) → 4096 * first ≤ x → x < 4096 * (first + length blocks) → span_byte g blocks first x ≡ over (span_byte f blocks first) off bytes k x

-- the first k of these bytes are stored from byte `off` of the file on, all of them below a size. No other byte of these
-- pages below the size differs, and no other block; behind it they may hold anything
pub record PutsLead (f g : BlockWords) (blocks : List ℕ) (first size off : ℕ) (bytes : List ℕ) (k : ℕ) : Type 0 where
  pub most : k ≤ min (length bytes) (size - off)
  pub others : (b w : ℕ) → (Contains blocks b → ⊥) → g b w ≡ f b w
  pub each : (x : ℕ) → 4096 * first ≤ x → x < 4096 * (first + length blocks) → x < size → span_byte g blocks first x ≡ over (span_byte f blocks first) off bytes k x

-- those of these blocks that are cached bear names of pages of file i, as wide as in a file of so many bytes
pub record SpanNamed (blocks : List ℕ) (first i len : ℕ) (y : Seen) : Type 0 where
  pub each : (t : ℕ) → t < length blocks → y.cached (slice_index blocks t) ≡ true → NamedAs i len (first + t) (y.names (slice_index blocks t))
