-- A record that is written behind the others, words that are stored in part, and words that are copied.
use Rattle.std.specs.Prelude.{◌≡◌, ℕ, ◌+◌, ◌<◌, ◌≤◌, ◌⊎◌, ◌-◌, ◌&&◌, List, length, nat_lt, nat_le, if◌then◌else◌}
use Rattle.rio_base.specs.Regions.{RegionContent}
use Rattle.rio_model.specs.Undo.{Puts, undo_word}

-- outside a span no word differs
pub record Off (from to : ℕ) (f g : RegionContent) : Type 0 where
  pub each : (x : ℕ) → (x < from) ⊎ (to ≤ x) → g x ≡ f x

-- a record lies at an undo word, not yet published: of the words from `from` on
pub record Staged (f g : RegionContent) (at head place from n : ℕ) : Type 0 where
  pub older : undo_word g at ≡ head
  pub first : undo_word g (at + 1) ≡ place
  pub count : undo_word g (at + 2) ≡ n
  pub old : (k : ℕ) → k < n → undo_word g (at + 3 + k) ≡ f (from + k)

-- a front of the words is stored at covered places
abbrev pub PutsFront : ℕ → RegionContent → RegionContent → ℕ → List ℕ → Type 0
PutsFront n f g place words = (k : ℕ) × (k ≤ length words) × Puts n f g place k words

-- ---- a run of a region's words, copied to another place of it

-- the first n words from `from` on, copied to `to` on
abbrev pub copied : RegionContent → ℕ → ℕ → ℕ → RegionContent
copied f from to n x = if nat_le to x && nat_lt x (to + n) then f (from + (x - to)) else f x

-- a front of the words is copied
abbrev pub CopiedFront : RegionContent → RegionContent → ℕ → ℕ → ℕ → Type 0
CopiedFront old new from to n = (k : ℕ) × (k ≤ n) × (new ≡ copied old from to k)

-- the two spans are apart
abbrev pub Apart : ℕ → ℕ → ℕ → Type 0
Apart from to n = (from + n ≤ to) ⊎ (to + n ≤ from)
