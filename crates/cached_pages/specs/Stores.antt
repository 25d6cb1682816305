-- What the steps of a store, and a step towards the disk, leave so.
use Rattle.std.specs.Prelude.{◌≡◌, ◌≢◌, ℕ, ◌<◌, Bool, true, ◌⊎◌, List, length, slice_index, Option, Some}
use Rattle.rio_base.specs.declared.places.PageName.{PageName}
use Rattle.rio_base.specs.Blocks.{BlockWords}
use Rattle.rio_base.specs.Machine.{Contents, Lasts}
use Rattle.rio_base.specs.Volume.{SameBut, widened}
use Rattle.rio_model.specs.Cover.{Coherent, Keeps, entry_of_block, is_loose, name_in, reads}
use Rattle.cached_pages.specs.declared.tables.CacheTables.{CacheTables}
use Rattle.cached_pages.specs.Caches.{SameTables, was_forgotten}

-- each block has the entry that it had, if any, and that the name that it had
pub record SameCached (old new : List ℕ) : Type 0 where
  pub found : (b : ℕ) → entry_of_block new b ≡ entry_of_block old b
  pub names : (b k : ℕ) → entry_of_block old b ≡ Some k → name_in new (Some k) ≡ name_in old (Some k)

-- each block has the entry that it had, if any, and that the name that it had; but entry k may have its name with the larger
-- size of the two
pub record Widens (k : ℕ) (name : Option PageName) (old new : List ℕ) : Type 0 where
  pub found : (b : ℕ) → entry_of_block new b ≡ entry_of_block old b
  pub others : (b j : ℕ) → entry_of_block old b ≡ Some j → j ≢ k → name_in new (Some j) ≡ name_in old (Some j)
  pub own : (name_in new (Some k) ≡ name_in old (Some k)) ⊎ (name_in new (Some k) ≡ widened (name_in old (Some k)) name)

-- the blocks read so now; no block becomes loose, and what is kept between calls is kept, the header too
pub record Rewrites (words : BlockWords) (old new : Contents) : Type 0 where
  pub reading : reads new ≡ words
  pub firm : (b : ℕ) → is_loose new b ≡ true → is_loose old b ≡ true
  pub coherent : (n : ℕ) → Coherent old n → Coherent new n
  pub header : (i : ℕ) → i < 512 → slice_index new.words i ≡ slice_index old.words i

-- block b may read as anything, and may become loose; no other does, and what is kept between calls is kept, the header too
pub record Frees (b : ℕ) (old new : Contents) : Type 0 where
  pub others : SameBut b (reads old) (reads new)
  pub firm : (c : ℕ) → c ≢ b → is_loose new c ≡ true → is_loose old c ≡ true
  pub coherent : (n : ℕ) → Coherent old n → Coherent new n
  pub header : (i : ℕ) → i < 512 → slice_index new.words i ≡ slice_index old.words i

-- block b alone is marked so, as forgotten or not, and no other table differs
pub record Marks (b : ℕ) (forgotten : Bool) (old new : CacheTables) : Type 0 where
  pub mark : was_forgotten new b ≡ forgotten
  pub others : (c : ℕ) → c ≢ b → was_forgotten new c ≡ was_forgotten old c
  pub count : length new.forgotten.items ≡ length old.forgotten.items
  pub rest : new ≡ record old { forgotten = new.forgotten }

-- ---- a step towards the disk

-- no word of memory differs, and all reads and stands as before; of the tables only the buffer and what was written early may
-- differ
pub record Nears (old new : Contents) (t u : CacheTables) : Type 0 where
  pub keeps : Keeps old new
  pub words : new.words ≡ old.words
  pub lasts : Lasts old new
  pub tables : SameTables t u
  pub pool : u.pool ≡ t.pool
