-- What a volume keeps beside the blocks that read: what stands after a stop, the open update, and the machine below.
use Rattle.std.specs.Prelude.{◌≡◌, ◌≢◌, ℕ, ◌+◌, ◌/◌, ◌<◌, ◌≤◌, Bool, true, false, ◌-◌, List, slice_index, nat_lt, not, ◌==◌, ◌&&◌, ◌||◌, if◌then◌else◌, ◌⊎◌, Option, Some, None, max}
use Rattle.rio_base.specs.declared.places.PageName.{PageName}
use Rattle.rio_base.specs.Blocks.{BlockWords, Home, Around, Causes, Seen, Health}

-- how many words of memory are protected, and how many lie behind them
pub record MemorySizes : Type 0 where
  pub protected : ℕ
  pub scratch : ℕ

-- how far a count of faults can rise, where it is told, doesn't rise
pub record LimitLasts (old new : Option ℕ) : Type 0 where
  pub limit : (most : ℕ) → old ≡ Some most → (next : ℕ) × (new ≡ Some next) × (next ≤ most)

pub record Below : Type 0 where
  -- at least as many frames as blocks: nothing has to be written back to make room
  pub roomy : Bool
  -- the disk as read and its pending blocks, where there is a disk
  pub home : Option Home
  -- how many blocks were written to the disk, up to the largest u64
  pub writes : ℕ
  pub around : Option Around
  pub causes : Causes
  pub memory : MemorySizes
  -- how far the count of faults can rise, where it is told
  pub limit : Option ℕ

pub record Kept : Type 0 where
  -- what a warm reboot finds
  pub standing : BlockWords
  -- blocks whose standing content isn't told
  pub loose : ℕ → Bool
  -- an update is open; which blocks are touched in it, and how many
  pub updating : Bool
  pub touched : ℕ → Bool
  pub touches : ℕ

-- ---- words of blocks

-- one word changed
abbrev pub put : BlockWords → ℕ → ℕ → ℕ → BlockWords
put f b w v c x = if (c == b) && (x == w) then v else f c x

-- n words changed, from word w on, to the first n of these
abbrev pub put_run : BlockWords → ℕ → ℕ → ℕ → List ℕ → BlockWords
put_run f b w n words c x = if (c == b) && (not (nat_lt x w) && nat_lt x (w + n)) then slice_index words (x - w) else f c x

-- one block all zeros
abbrev pub cleared : BlockWords → ℕ → BlockWords
cleared f b c x = if c == b then 0 else f c x

-- no block differs but b
pub record SameBut (b : ℕ) (f g : BlockWords) : Type 0 where
  pub others : (c w : ℕ) → c ≢ b → g c w ≡ f c w

-- ---- sets of blocks

abbrev pub with_block : (ℕ → Bool) → ℕ → ℕ → Bool
with_block set b c = (c == b) || set c

-- no block becomes loose
pub record Firm (old new : Kept) : Type 0 where
  pub loose : (c : ℕ) → new.loose c ≡ true → old.loose c ≡ true

-- no block becomes loose but b
pub record FirmBut (b : ℕ) (old new : Kept) : Type 0 where
  pub loose : (c : ℕ) → c ≢ b → new.loose c ≡ true → old.loose c ≡ true

-- ---- names of cached pages

-- a name after a store under another name of the same page: the larger size
abbrev pub widened : Option PageName → Option PageName → Option PageName
widened (Some own) (Some given) = Some (record own { size = max own.size given.size })
widened own _ = own

-- a stored page's name: its own with the larger size where it was cached, else the given one
abbrev pub stored_name : Bool → Option PageName → Option PageName → Option PageName
stored_name true own given = widened own given
stored_name false own given = given

-- as Caches, of a store, which may also widen the page's name
pub record CachesStored (s t : Seen) (b : ℕ) (name : Option PageName) : Type 0 where
  pub others : (c : ℕ) → c ≢ b → t.cached c ≡ true → (s.cached c ≡ true) × (t.names c ≡ s.names c)
  pub named : t.cached b ≡ true → ((s.cached b ≡ true) × (t.names b ≡ s.names b)) ⊎ (t.names b ≡ name) ⊎ ((s.cached b ≡ true) × (t.names b ≡ widened (s.names b) name))

-- ---- rules of every call

-- where a call newly stops the volume, an armed wild store fell on a protected page and trapped, or a stop was given;
-- no other call changes which store trapped. The two Bools say whether it was and is stopped
abbrev pub StopCause : Causes → Causes → Bool → Bool → Type 0
StopCause old new false true = ((a : ℕ) × (old.armed ≡ Some a) × (old.protected (a / 512) ≡ true) × (new.trapped ≡ Some a)) ⊎ ((new.trapped ≡ old.trapped) × (old.stop_set ≡ true))
StopCause old new _ _ = new.trapped ≡ old.trapped

-- what every call leaves so, flush too
pub record Runs (s : Health) (old : Below) (t : Health) (new : Below) : Type 0 where
  pub later : s.faults ≤ t.faults
  pub stays : s.stopped ≡ true → t.stopped ≡ true
  pub written : old.writes ≤ new.writes
  pub roomy : new.roomy ≡ old.roomy
  pub around : new.around ≡ old.around
  pub stop_set : new.causes.stop_set ≡ old.causes.stop_set
  pub protected : new.causes.protected ≡ old.causes.protected
  pub armed : (new.causes.armed ≡ old.causes.armed) ⊎ (new.causes.armed ≡ None)
  pub cause : StopCause old.causes new.causes s.stopped t.stopped
  pub memory : new.memory ≡ old.memory
  pub limit : LimitLasts old.limit new.limit

-- where there is a frame for each block, nothing is written to the disk
pub record Quiet (old new : Below) : Type 0 where
  pub home : old.roomy ≡ true → new.home ≡ old.home
  pub writes : old.roomy ≡ true → new.writes ≡ old.writes

-- what every call but flush leaves so
pub record Goes (s : Health) (old : Below) (t : Health) (new : Below) : Type 0 where
  pub runs : Runs s old t new
  pub quiet : Quiet old new

-- ---- what holds between calls

-- while no update is open, each block that isn't loose stands as it reads
pub record Idle (s : Seen) (k : Kept) : Type 0 where
  pub stands : (b : ℕ) → k.loose b ≡ false → (w : ℕ) → k.standing b w ≡ s.words b w

-- while one is open, each block that isn't touched reads as it stands
pub record Open (s : Seen) (k : Kept) : Type 0 where
  pub untouched : (b : ℕ) → k.touched b ≡ false → (w : ℕ) → s.words b w ≡ k.standing b w

pub record Settled (s : Seen) (k : Kept) : Type 0 where
  pub idle : k.updating ≡ false → Idle s k
  pub in_update : k.updating ≡ true → Open s k
  -- blocks are touched in an update alone
  pub touched : (b : ℕ) → k.touched b ≡ true → k.updating ≡ true

-- ---- calls

-- a volume that is only read
pub record Passes (s : Health) (old : Below) (k : Kept) (t : Health) (new : Below) (l : Kept) : Type 0 where
  pub goes : Goes s old t new
  pub standing : l.standing ≡ k.standing
  pub firm : Firm k l
  pub updating : l.updating ≡ k.updating
  pub touched : l.touched ≡ k.touched
  pub touches : l.touches ≡ k.touches

-- the open update is as before
pub record SameUpdate (k l : Kept) : Type 0 where
  pub updating : l.updating ≡ k.updating
  pub touched : l.touched ≡ k.touched
  pub touches : l.touches ≡ k.touches

-- an update has begun: what reads is what stands
pub record Begun (s : Seen) (k l : Kept) : Type 0 where
  pub updating : l.updating ≡ true
  pub standing : l.standing ≡ s.words
  pub touched : (b : ℕ) → l.touched b ≡ false
  pub touches : l.touches ≡ 0

-- there is room to touch a block
abbrev pub HasRoom : Kept → ℕ → Type 0
HasRoom k b = (k.touched b ≡ true) ⊎ (k.touches < 16)

-- one more block is touched
pub record Touches (b : ℕ) (k l : Kept) : Type 0 where
  pub updating : l.updating ≡ k.updating
  pub touched : l.touched ≡ with_block k.touched b
  pub touches : l.touches ≡ (if k.touched b then k.touches else k.touches + 1)

-- what stands is the old blocks, or the new ones
abbrev pub OldOrNew : BlockWords → BlockWords → BlockWords → Type 0
OldOrNew before old new = (new ≡ before) ⊎ (new ≡ old)

-- one word is the old or the new one, and no other changes
abbrev pub OldOrPut : BlockWords → BlockWords → ℕ → ℕ → ℕ → Type 0
OldOrPut old new b w v = (new ≡ old) ⊎ (new ≡ put old b w v)

-- a front of a run of words is stored, and no other word changes
abbrev pub OldOrRun : BlockWords → BlockWords → ℕ → ℕ → List ℕ → ℕ → Type 0
OldOrRun old new b w words most = (n : ℕ) × (n ≤ most) × (new ≡ put_run old b w n words)

-- a page's name after a run of stores: its own, widened, or the given one
abbrev pub RunName : Bool → Option PageName → Option PageName → Option PageName → Type 0
RunName cached own given now = (now ≡ stored_name cached own given) ⊎ (now ≡ given)
