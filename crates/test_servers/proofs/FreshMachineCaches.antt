-- A cache that starts on a fresh machine is a volume that may be served.
use Rattle.std.specs.Prelude.{◌≡◌, ◌≢◌, ℕ, ◌≤◌, ◌&&◌, nat_le, Bool, true, false, cond, length, refl}
use Rattle.std.proofs.Common.{◌∙◌, ap, sym, subst, arith, inl, inr}
use Rattle.std.proofs.lemmas.Bool.{cases_eq}
use Rattle.std.proofs.lemmas.Bool.Decides.{nat_tests}
use Rattle.rio_base.specs.declared.places.VolumeShape.{VolumeShape}
use Rattle.rio_base.specs.Blocks.{BlockWords, Health, Seen}
use Rattle.rio_base.specs.Disks.{DiskContents, FaultCount}
use Rattle.rio_base.specs.Image.{image_pages}
use Rattle.rio_base.specs.Layout.{inode_kind}
use Rattle.rio_base.specs.Machine.{Contents, Running}
use Rattle.rio_base.specs.Rules.{true_false}
use Rattle.rio_base.specs.Volume.{Kept}
use Rattle.rio_model.specs.Fresh.{IsFreshVolume, fresh_state}
use Rattle.rio_model.specs.Held.{held, held_of, nothing}
use Rattle.rio_model.specs.Placed.{placed_at}
use Rattle.rio_model.specs.Registry.{frames_of}
use Rattle.rio_model.specs.VolumeReads.{ReadsAs}
use Rattle.rio_model.specs.VolumeReady.{Ready}
use Rattle.rio_model.proofs.FreshReads.{fresh_reads}
use Rattle.rio_base.specs.Shapes.{IsServed}
use Rattle.cached_pages.specs.declared.tables.CacheTables.{CacheTables}
use Rattle.cached_pages.specs.Caches.{IsFresh, Started, cache_below, cache_health}
use Rattle.test_servers.specs.FreshMachines.{IsFreshDisk, IsFreshMemory}
use Rattle.test_servers.specs.FreshMachines.{IsFreshBelow}
use Rattle.test_servers.proofs.FreshMachineDisks.{reads_fresh}

-- tables for this machine
pub fresh_tables : (frames blocks : ℕ) (c : Contents) (r : Running) (t : CacheTables) → IsFreshMemory frames c r → length c.disk ≡ blocks → IsFresh frames blocks t → IsFresh (frames_of c.words) (length c.disk) t
fresh_tables frames blocks c r t memory many fresh = subst (λ n. IsFresh (frames_of c.words) n t) (sym many) (subst (λ f. IsFresh f blocks t) (sym memory.sized) fresh)

-- ---- what is served

volume_read : (shape : VolumeShape) (c : Contents) (s : Seen) (k : Kept) → IsServed shape → IsFreshDisk shape c.disk c.pending → Started c s k → IsFreshVolume shape s.words
volume_read shape c s k sizes disk started = reads_fresh shape c.disk c.pending s.words sizes disk started.reading

pub cache_reads : (frames : ℕ) (shape : VolumeShape) (c : Contents) (s : Seen) (k : Kept) → IsServed shape → IsFreshDisk shape c.disk c.pending → Started c s k → ReadsAs shape s.words (fresh_state shape (image_pages frames 1) 1)
cache_reads frames shape c s k sizes disk started = fresh_reads shape s.words (image_pages frames 1) 1 (volume_read shape c s k sizes disk started)

pub cache_ready : (shape : VolumeShape) (c : Contents) (s : Seen) (k : Kept) → IsServed shape → IsFreshDisk shape c.disk c.pending → Started c s k → s.count ≡ length c.disk → Ready shape s k
cache_ready shape c s k sizes disk started count = record {
  order = record {
    has_shape = record { sizes = sizes.sizes; count = count ∙ disk.count; unnamed = λ b low on. absurd (uncached b on) };
    mapped = (fresh_reads shape s.words 0 0 (volume_read shape c s k sizes disk started)).mapped;
    named = record { each = λ i ino slot has on. absurd (uncached _ on) };
    firm = record { low = λ b low. firm b; owned = λ i slot own. firm _ };
  };
  idle = started.updating;
}
  where
    uncached : (b : ℕ) → s.cached b ≡ true → ⊥
    uncached b on = true_false (sym on ∙ started.uncached b)

    firm : (b : ℕ) → k.loose b ≡ false
    firm b = started.loose b ∙ disk.settled b

-- no inode of a fresh volume is of a region
kind_of : (shape : VolumeShape) (f : BlockWords) (i : ℕ) (t : Bool) → IsFreshVolume shape f → (nat_le 1 i && nat_le i shape.inodes) ≡ t → (held_of shape f i).kind ≢ 3
kind_of shape f i false h e three = let none : (held_of shape f i).kind ≡ 0 = ap (λ t. (cond t (held f (placed_at f i)) nothing).kind) e in omega (arith, none, three)
kind_of shape f i true h e three =
    let from : 1 ≤ i = grind (arith, nat_tests) in
    let to : i ≤ shape.inodes = grind (arith, nat_tests) in
    let is : (held_of shape f i).kind ≡ inode_kind f i = ap (λ t. (cond t (held f (placed_at f i)) nothing).kind) e in
    elim (cases_eq i 1) [
      | inl root ↦ (let one : inode_kind f i ≡ 1 = ap (inode_kind f) root ∙ h.root_kind in omega (arith, is, one, three))
      | inr other ↦ (let none = h.others i (omega (arith, from, other)) to in omega (arith, is, none, three))
    ]

pub cache_no_regions : (shape : VolumeShape) (c : Contents) (s : Seen) (k : Kept) → IsServed shape → IsFreshDisk shape c.disk c.pending → Started c s k → (i : ℕ) → (held_of shape s.words i).kind ≢ 3
cache_no_regions shape c s k sizes disk started i = kind_of shape s.words i _ (volume_read shape c s k sizes disk started) refl

-- ---- the machine below

health_of : ℕ → Bool → Health
health_of faults stopped = record { faults = faults; stopped = stopped }

pub fresh_health : (frames : ℕ) (c : Contents) (r : Running) (disk : DiskContents) → IsFreshMemory frames c r → c.faults ≡ disk.faults → cache_health c r ≡ record { faults = disk.faults.count; stopped = false }
unfolding health_of
fresh_health frames c r disk memory faults = ap (λ (f : FaultCount). health_of f.count r.stopped) faults ∙ ap (health_of disk.faults.count) memory.running

pub fresh_below : (frames : ℕ) (c : Contents) (r : Running) (disk : DiskContents) → IsFreshMemory frames c r → c.faults ≡ disk.faults → c.writes ≡ disk.writes → IsFreshBelow frames disk (cache_below c r)
fresh_below frames c r disk memory faults writes = record {
  unset = memory.unset;
  unarmed = memory.unarmed;
  limit = ap (λ (f : FaultCount). f.limit) faults;
  writes = writes;
  protected = let all = memory.protected in omega (arith, all);
  scratch = memory.scratch;
}
