-- What a cache makes of its machine and its tables: blocks, names, what stands, the open update, and the machine below.
use Rattle.std.specs.Prelude.{◌≡◌, ◌≢◌, ℕ, ◌+◌, ◌-◌, ◌<◌, ◌≤◌, ◌==◌, ◌&&◌, ◌||◌, not, nat_lt, Bool, true, false, if◌then◌else◌, ◌⊎◌, List, length, slice_index, slice_index_or, Option, Some, None, is_some}
use Rattle.rio_base.specs.declared.places.PageName.{PageName}
use Rattle.rio_base.specs.Blocks.{Health, Seen}
use Rattle.rio_base.specs.Disks.{is_pending, raised}
use Rattle.rio_base.specs.Image.{registry_pages}
use Rattle.rio_base.specs.Machine.{Contents, Running}
use Rattle.rio_base.specs.Volume.{Below, Kept}
use Rattle.frame_pool.specs.Pools.{block_of, blocks_in, frames_in, is_pinned, least_recent, pins_in}
use Rattle.rio_model.specs.Registry.{IsValid, frames_of, gate_of, is_dirty, is_valid, shadow_at, tag_at}
use Rattle.write_back.specs.Flushing.{SameDisk}
use Rattle.rio_model.specs.Cover.{Coherent, StandsAs, causes_of, entry_block, entry_of_block, home_of, home_word, is_loose, name_in, reads, stands}
use Rattle.cached_pages.specs.declared.tables.CacheTables.{CacheTables}
use Rattle.cached_pages.specs.EarlyBlocks.{Knows, KnowsNone}

-- ---- what a reader sees

abbrev pub cache_seen : Contents → Seen
cache_seen c = record { count = length c.disk; words = reads c; cached = λ b. is_some (entry_of_block c.words b); names = λ b. name_in c.words (entry_of_block c.words b); base = None }

abbrev pub cache_health : Contents → Running → Health
cache_health c r = record { faults = c.faults.count; stopped = r.stopped }

-- ---- the machine below

-- there is a frame for each block
abbrev pub is_roomy : Contents → Bool
is_roomy c = not (nat_lt (frames_of c.words) (length c.disk))

abbrev pub cache_below : Contents → Running → Below
cache_below c r = record { roomy = is_roomy c; home = Some (home_of c); writes = c.writes; around = c.around; causes = causes_of r; memory = record { protected = r.protected; scratch = length r.scratch }; limit = c.faults.limit }

-- ---- what stands, and the open update

-- block b was forgotten, and not made anew since
abbrev pub was_forgotten : CacheTables → ℕ → Bool
was_forgotten t b = slice_index_or t.forgotten.items b false

abbrev pub has_shadow : List ℕ → Option ℕ → Bool
has_shadow words None = false
has_shadow words (Some k) = not (shadow_at words k == 0)

-- block b is part of the open update: the gate is 1, and its entry has a shadow
abbrev pub is_touched : List ℕ → ℕ → Bool
is_touched words b = (gate_of words == 1) && has_shadow words (entry_of_block words b)

abbrev pub cache_kept : Contents → CacheTables → Kept
cache_kept c t = record {
  standing = stands c;
  loose = λ b. was_forgotten t b || is_loose c b;
  updating = gate_of c.words == 1;
  touched = is_touched c.words;
  touches = if gate_of c.words == 1 then t.shadows else 0;
}

-- ---- what holds between calls

-- frame k is one of those that were given a shadow since the last update began
pub record IsListed (t : CacheTables) (k : ℕ) : Type 0 where
  pub place : ℕ
  pub within : place < t.shadows
  pub here : slice_index t.shadowed place ≡ k

-- of the machine, and of a machine with so many words of scratch
pub record CacheSound (c : Contents) (scratch : ℕ) (t : CacheTables) : Type 0 where
  pub coherent : Coherent c scratch
  pub closed : c.open_page ≡ None
  -- the tables are this machine's
  pub frames : frames_in t.pool ≡ frames_of c.words
  pub blocks : blocks_in t.pool ≡ length c.disk
  pub first : t.first_frame ≡ registry_pages (frames_of c.words) + 17
  pub marks : length t.forgotten.items ≡ length c.disk
  pub buffer : length t.buffer.items ≡ 512
  -- what is known of blocks that were written early is so
  pub early : Knows c.disk c.pending t.early
  -- the pool has for each frame the block of its entry
  pub bound : (k : ℕ) → k < frames_of c.words → block_of t.pool k ≡ entry_block c.words k
  -- an entry with shadow s is the s-th that was given one, and all 16 are enough
  pub most : t.shadows ≤ 16
  pub room : length t.shadowed ≡ 16
  pub shadows : (k : ℕ) → IsValid c.words k → shadow_at c.words k ≢ 0 → (shadow_at c.words k ≤ t.shadows) × (slice_index t.shadowed (shadow_at c.words k - 1) ≡ k)
  pub listed : (i : ℕ) → i < t.shadows → slice_index t.shadowed i < frames_of c.words
  -- pages of an open update are dirty and pinned; nothing else is pinned
  pub edited : gate_of c.words ≡ 1 → (k : ℕ) → IsValid c.words k → shadow_at c.words k ≢ 0 → (is_dirty (tag_at c.words k) ≡ true) × (is_pinned t.pool k ≡ true)
  pub pinned : (k : ℕ) → is_pinned t.pool k ≡ true → (gate_of c.words ≡ 1) × IsListed t k
  pub few : pins_in t.pool ≤ t.shadows

-- tables for so many frames and blocks, as they are made
pub record IsFresh (frames blocks : ℕ) (t : CacheTables) : Type 0 where
  pub in_pool : frames_in t.pool ≡ frames
  pub in_volume : blocks_in t.pool ≡ blocks
  pub first : t.first_frame ≡ registry_pages frames + 17
  pub marks : length t.forgotten.items ≡ blocks
  pub firm : (b : ℕ) → was_forgotten t b ≡ false
  pub buffer : length t.buffer.items ≡ 512
  pub early : KnowsNone t.early
  pub free : (k : ℕ) → block_of t.pool k ≡ None
  pub room : length t.shadowed ≡ 16
  pub none : t.shadows ≡ 0
  pub unpinned : (k : ℕ) → is_pinned t.pool k ≡ false
  pub few : pins_in t.pool ≡ 0

-- ---- what calls leave so

-- the marks of forgotten blocks and the list of shadows are as before
pub record SameTables (t u : CacheTables) : Type 0 where
  pub forgotten : u.forgotten ≡ t.forgotten
  pub shadowed : u.shadowed ≡ t.shadowed
  pub shadows : u.shadows ≡ t.shadows

-- the open update is as before
pub record SameTouches (old new : List ℕ) : Type 0 where
  pub touched : is_touched new ≡ is_touched old

-- no entry is found that wasn't, but one of block b under this name
pub record Adds (b : ℕ) (name : Option PageName) (old new : List ℕ) : Type 0 where
  pub others : (c k : ℕ) → c ≢ b → entry_of_block new c ≡ Some k → (entry_of_block old c ≡ Some k) × (name_in new (Some k) ≡ name_in old (Some k))
  pub named : (k : ℕ) → entry_of_block new b ≡ Some k → ((entry_of_block old b ≡ Some k) × (name_in new (Some k) ≡ name_in old (Some k))) ⊎ (name_in new (Some k) ≡ name)

-- a call that names block b asks for one block write at most, and for none where the block is cached, where a frame is
-- free, where there is a frame for each block, or where the page that was used least recently of those that aren't pinned is
-- clean
pub record FewWrites (b : ℕ) (t : CacheTables) (old new : Contents) : Type 0 where
  pub one : new.writes ≤ raised old.writes 1
  pub cached : is_some (entry_of_block old.words b) ≡ true → SameDisk old new
  pub free : (k : ℕ) → k < frames_of old.words → is_valid (tag_at old.words k) ≡ false → SameDisk old new
  pub roomy : length old.disk ≤ frames_of old.words → SameDisk old new
  pub clean : (k : ℕ) → least_recent t.pool ≡ Some k → is_dirty (tag_at old.words k) ≡ false → SameDisk old new

-- ---- what a cache tells of its machine

-- the entries are the cached blocks, under the names that the volume tells; memory and disk stand for what the volume
-- says, whatever the pending blocks hold; faults, causes and what is around are the machine's
pub record Tells (c : Contents) (r : Running) (s : Seen) (h : Health) (b : Below) (k : Kept) : Type 0 where
  pub stands_as : StandsAs c (length r.scratch) k.standing k.loose
  pub cached : (x : ℕ) → s.cached x ≡ is_some (entry_of_block c.words x)
  pub names : (x : ℕ) → s.names x ≡ name_in c.words (entry_of_block c.words x)
  pub count : s.count ≡ length c.disk
  pub reading : s.words ≡ reads c
  pub updating : k.updating ≡ (gate_of c.words == 1)
  pub loose : (x : ℕ) → is_loose c x ≡ true → k.loose x ≡ true
  pub health : h ≡ cache_health c r
  pub below : b ≡ cache_below c r

-- a cache that has just started: no block is cached, no update is open, and each block reads and stands as the disk's, and
-- is loose where that is pending
pub record Started (c : Contents) (s : Seen) (k : Kept) : Type 0 where
  pub uncached : (x : ℕ) → s.cached x ≡ false
  pub reading : (x w : ℕ) → w < 512 → s.words x w ≡ home_word c.disk x w
  pub standing : (x w : ℕ) → w < 512 → k.standing x w ≡ home_word c.disk x w
  pub loose : (x : ℕ) → k.loose x ≡ is_pending c.pending x
  pub updating : k.updating ≡ false
