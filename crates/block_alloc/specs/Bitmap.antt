-- The blocks that are taken, and one block marked used or free.
use Rattle.std.specs.Prelude.{◌≡◌, ◌≢◌, ℕ, ◌/◌, ◌%◌, true, None, ◌⊎◌, List, map, Result, OnOk}
use Rattle.rio_base.specs.declared.places.Block.{Block}
use Rattle.rio_base.specs.declared.places.VolumeShape.{VolumeShape}
use Rattle.rio_base.specs.declared.failures.VolFail.{VolFail}
use Rattle.rio_base.specs.declared.failures.VolFail.TheVariants.{Fault as DiskFault, Stopped as MachineStopped}
use Rattle.rio_base.specs.Bitmap.{bitmap_block, used_bit}
use Rattle.rio_base.specs.Blocks.{BlockWords, Caches, Seen}
use Rattle.rio_base.specs.Volume.{Firm, Kept, SameUpdate}
use Rattle.block_alloc.specs.declared.taking.TakeFail.{TakeFail}
use Rattle.block_alloc.specs.declared.taking.TakeFail.TheVariants.{Fault, Stopped}

abbrev pub numbers : List Block → List ℕ
numbers blocks = map (λ b. b.0) blocks

-- a failure of the volume, handed on
abbrev pub handed : VolFail → TakeFail
handed DiskFault = Fault
handed MachineStopped = Stopped

-- the bit of block b is so, and nothing else differs
pub record SetsBit (shape : VolumeShape) (old new : BlockWords) (b bit : ℕ) : Type 0 where
  pub same : used_bit shape new b ≡ bit
  pub others : (c : ℕ) → c ≢ b → used_bit shape new c ≡ used_bit shape old c
  pub elsewhere : (c w : ℕ) → (c ≢ bitmap_block shape b) ⊎ (w ≢ b % 32768 / 64) → new c w ≡ old c w

-- where a call was stopped, the bit may have been set or not
abbrev pub IsSetOrSame : VolumeShape → BlockWords → BlockWords → ℕ → ℕ → Type 0
IsSetOrSame shape old new b bit = (new ≡ old) ⊎ SetsBit shape old new b bit

-- what marking block b so leaves: of the words, the open update, what stands and what is cached. s and k are before
-- the call, t and l after it
pub record MarksBit {T E : Type 0} (shape : VolumeShape) (b bit : ℕ) (s t : Seen) (k l : Kept) (answer : Result T E) : Type 0 where
  pub ok : OnOk answer (SetsBit shape s.words t.words b bit)
  pub either : IsSetOrSame shape s.words t.words b bit
  pub update : OnOk answer (SameUpdate k l)
  pub in_update : l.updating ≡ true
  pub standing : l.standing ≡ k.standing
  pub firm : Firm k l
  pub caches : Caches s t (bitmap_block shape b) None
