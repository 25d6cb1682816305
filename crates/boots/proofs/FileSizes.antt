-- The sizes of files by the inodes of a volume.
use Rattle.std.proofs.Common.{◌≡◌, ◌≢◌, ◌≤◌, ℕ, zero, suc, cond, nat_lt, refl, sym, ap, ◌∙◌, inl, inr, arith, true, false, Some, Err}
use Rattle.std.proofs.lemmas.List.FromFn.{length-map-range_with_len}
use Rattle.std.specs.FinMap.{get}
use Rattle.rio_base.specs.Blocks.{BlockWords, Ends}
use Rattle.rio_base.specs.declared.failures.VolFail.{VolFail}
use Rattle.rio_base.specs.declared.failures.VolFail.TheVariants.{Fault, Stopped}
use Rattle.rio_base.specs.Disks.{FaultCount, FaultsLast}
use Rattle.rio_base.specs.Failures.{Rose}
use Rattle.rio_base.specs.Layout.{IsIno, inode_kind, inode_size}
use Rattle.rio_base.specs.Machine.{Contents, Running}
use Rattle.rio_base.specs.Rules.{true_false}
use Rattle.rio_base.specs.Shapes.{HasShape}
use Rattle.rio_base.specs.declared.places.VolumeShape.{VolumeShape}
use Rattle.rio_model.specs.declared.state.State.{State}
use Rattle.rio_model.specs.Held.{Held, byte_in, held_ino, held_of}
use Rattle.rio_model.specs.Placed.{volume_layout}
use Rattle.rio_model.specs.Sizes.{largest_size}
use Rattle.rio_model.specs.Standing.{StandsFor}
use Rattle.rio_model.specs.VolumeReads.{ReadsAs, node_in}
use Rattle.rio_model.specs.Cover.{stands}
use Rattle.rio_model.proofs.StandingStates.{AreWhole, stands_with_reads}
use Rattle.rio_model.proofs.VolumeReadRules.{reads_dir, reads_file, reads_none, reads_region}
use Rattle.registry.specs.Views.{Viewed, view_health, view_seen}
use Rattle.warm_reboot.specs.Examining.{TellsNoRule, Unexamined}
use Rattle.warm_reboot.specs.declared.report.BootFail.{BootFail}
use Rattle.warm_reboot.specs.declared.report.BootFail.TheVariants.{BadImage, BadVolume, Fault as BootFault, Memory, Stopped as BootStopped}
use Rattle.boots.specs.Legal.{bytes_in}
use Rattle.boots.specs.Parts.{NeverFails}

-- ---- one inode

kind_held : (shape : VolumeShape) (f : BlockWords) (i : ℕ) → IsIno shape i → (held_of shape f i).kind ≡ inode_kind f i
kind_held shape f i ino = ap (λ (h : Held). h.kind) (held_ino (volume_layout shape f) f i ino)

size_held : (shape : VolumeShape) (f : BlockWords) (i : ℕ) → IsIno shape i → inode_kind f i ≡ 2 → (held_of shape f i).size ≡ inode_size f i
size_held shape f i ino file = ap (λ (h : Held). h.size) (held_ino (volume_layout shape f) f i ino) ∙ ap (λ k. cond (nat_lt 0 k) (inode_size f i) 0) file

pub kind_small : (shape : VolumeShape) (f : BlockWords) (s : State) (i : ℕ) → ReadsAs shape f s → IsIno shape i → inode_kind f i ≤ 3
kind_small shape f s i reads ino = (reads.mapped.laid.kinds.each i ino).0

-- a file has as many bytes as its inode says
pub file_sized : (shape : VolumeShape) (f : BlockWords) (s : State) (i : ℕ) → ReadsAs shape f s → IsIno shape i → inode_kind f i ≡ 2 → inode_size f i ≡ bytes_in (get s.nodes i)
file_sized shape f s i reads ino file =
    let h = held_of shape f i in
    sym (ap bytes_in (reads.reads.nodes i ∙ reads_file h (kind_held shape f i ino ∙ file)) ∙ length-map-range_with_len (byte_in h.word) 0 h.size ∙ size_held shape f i ino file)

pub file_small : (shape : VolumeShape) (f : BlockWords) (s : State) (i : ℕ) → ReadsAs shape f s → IsIno shape i → inode_kind f i ≡ 2 → inode_size f i ≤ largest_size
file_small shape f s i reads ino file = (reads.mapped.laid.sizes.each i ino (omega (arith, file))).most

-- another node is no file
pub no_file : (shape : VolumeShape) (f : BlockWords) (s : State) (i : ℕ) → ReadsAs shape f s → IsIno shape i → inode_kind f i ≢ 2 → 0 ≡ bytes_in (get s.nodes i)
no_file shape f s i reads ino other = sym (ap bytes_in (reads.reads.nodes i) ∙ by (inode_kind f i) (kind_held shape f i ino) (kind_small shape f s i reads ino) other)
  where
    by : (k : ℕ) → (held_of shape f i).kind ≡ k → k ≤ 3 → k ≢ 2 → bytes_in (node_in (held_of shape f i)) ≡ 0
    by zero e most off = ap bytes_in (reads_none (held_of shape f i) e)
    by (suc zero) e most off = ap bytes_in (reads_dir (held_of shape f i) e)
    by (suc (suc zero)) e most off = absurd (off refl)
    by (suc (suc (suc zero))) e most off = ap bytes_in (reads_region (held_of shape f i) e)
    by (suc (suc (suc (suc k)))) e most off = absurd (omega (arith, most))

-- ---- the machine that is read

-- what it stands for its blocks read as
pub standing_reads : (c : Contents) (n : ℕ) (s : State) → AreWhole c → StandsFor c n s → ReadsAs s.shape (stands c) s
standing_reads c n s whole h = (stands_with_reads c n s whole h).reads

pub view_shape : (c : Contents) (r : Running) (n : ℕ) (s : State) → StandsFor c n s → HasShape s.shape (view_seen c r)
view_shape c r n s h = record { sizes = h.served.sizes; count = h.blocks; unnamed = λ b low cached. absurd (true_false (sym cached)) }

-- no count of faults rises where no more calls can fail
pub never_rises : (f g : FaultCount) → NeverFails f → FaultsLast f g → ((most : ℕ) → g.limit ≡ (Some most) → g.count ≤ most) → Rose f.count g.count → ⊥
never_rises f g never last limited rose = by rose
  where
    next : (next : ℕ) × (g.limit ≡ Some next) × (next ≤ f.count)
    next = last.limit f.count never.0

    most : g.count ≤ f.count
    most = let a = limited next.0 next.1 in let b = next.2 in omega (arith, a, b)

    by : Rose f.count g.count → ⊥
    by (inl more) = omega (arith, more, most)
    by (inr top) = let few = never.1 in omega (arith, top, most, few)

-- as many have failed as before, and no more can fail
pub still_never : (f g : FaultCount) → NeverFails f → FaultsLast f g → ((most : ℕ) → g.limit ≡ (Some most) → g.count ≤ most) → NeverFails g
still_never f g never last limited = (next.1 ∙ ap Some same, let few = never.1 in let a = limited next.0 next.1 in let b = next.2 in omega (arith, few, a, b))
  where
    next : (next : ℕ) × (g.limit ≡ Some next) × (next ≤ f.count)
    next = last.limit f.count never.0

    same : next.0 ≡ g.count
    same = let a = limited next.0 next.1 in let b = next.2 in let later = last.later in omega (arith, a, b, later)

runs_on : (r q : Running) → r.stopped ≡ false → q ≡ r → q.stopped ≡ true → ⊥
runs_on r q ran same stopped = true_false (sym stopped ∙ ap (λ (x : Running). x.stopped) same ∙ ran)

-- a machine that is only read, whose disk does not fail, does not fail
pub view_never_fails : {T : Type 0} (old new : Contents) (r q : Running) (e : VolFail) → NeverFails old.faults → Viewed old new r q → ((most : ℕ) → new.faults.limit ≡ (Some most) → new.faults.count ≤ most) → r.stopped ≡ false → Ends {T = T} (view_health old r) (view_health new q) (Err e) → ⊥
view_never_fails old new r q Fault never viewed limited ran ends = never_rises old.faults new.faults never viewed.faults limited ends.cause.0
view_never_fails old new r q Stopped never viewed limited ran ends = runs_on r q ran viewed.run ends.cause

pub examined_never_fails : (old new : Contents) (r q : Running) (fail : BootFail) → NeverFails old.faults → Viewed old new r q → ((most : ℕ) → new.faults.limit ≡ (Some most) → new.faults.count ≤ most) → r.stopped ≡ false → TellsNoRule fail → Unexamined old new q fail → (fail ≡ Memory → ⊥) → ⊥
examined_never_fails old new r q BootFault never viewed limited ran rule unexamined known = never_rises old.faults new.faults never viewed.faults limited unexamined
examined_never_fails old new r q BootStopped never viewed limited ran rule unexamined known = runs_on r q ran viewed.run unexamined
examined_never_fails old new r q Memory never viewed limited ran rule unexamined known = known refl
examined_never_fails old new r q (BadImage number) never viewed limited ran rule unexamined known = rule
examined_never_fails old new r q (BadVolume number b) never viewed limited ran rule unexamined known = rule
