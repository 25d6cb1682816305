-- What stands over the parts of a reboot, one after the other.
use Rattle.page_restore.proofs.Common.{Bool, Err, false, length, refl, true, ℕ, ◌≡◌, ◌≢◌, ◌≤◌, ap, arith, subst, sym, ◌∙◌, is_pending, Contents, Running, Endures, Restorable, none_apart}
use Rattle.std.specs.Prelude.{Option, None, Some, Result, Ok, IfOk, OnOk, [], ◌==◌}
use Rattle.rio_base.specs.Blocks.{BlockWords, Ends, Health, Home, Seen}
use Rattle.rio_base.specs.Failures.{Rose}
use Rattle.rio_base.specs.declared.failures.VolFail.{VolFail}
use Rattle.rio_base.specs.declared.failures.VolFail.TheVariants.{Fault, Stopped}
use Rattle.rio_base.specs.declared.places.VolumeShape.{VolumeShape}
use Rattle.rio_base.specs.Volume.{Kept, Settled}
use Rattle.rio_base.proofs.Rules.{rose_later}
use Rattle.rio_model.specs.declared.state.State.{State}
use Rattle.rio_model.specs.Cover.{home_of, reads}
use Rattle.rio_model.specs.CoverChanges.{stands_idle}
use Rattle.rio_model.specs.Registry.{gate_of}
use Rattle.rio_model.specs.Standing.{Sound, StandsFor}
use Rattle.rio_model.specs.VolumeReads.{ReadsAs}
use Rattle.rio_model.specs.VolumeReady.{Ready}
use Rattle.rio_model.proofs.RebootSteps.{endures_read}
use Rattle.rio_model.proofs.StandingStates.{AreWhole, SameLengths, one_shape, stands_for_could, stands_for_ready, stands_with_reads}
use Rattle.registry.specs.Views.{Viewed}
use Rattle.cached_pages.specs.Caches.{CacheSound, Tells, cache_below, cache_health, cache_kept, cache_seen}
use Rattle.page_cache.specs.Settled.{cache_settled, gate_shut}
use Rattle.cached_pages.specs.declared.tables.CacheTables.{CacheTables}
use Rattle.region_recovery.proofs.ReadySound.{sound_ready}
use Rattle.region_recovery.proofs.SameDisk.{same_disk}
use Rattle.region_recovery.specs.RegionLists.{AreRecovered, region_inos, undone_count}
use Rattle.warm_reboot.specs.Boots.{IsCutOff, Survives}
use Rattle.warm_reboot.specs.Reboots.{Recovers}

-- ---- one after the other

pub survives_then : (a b c : Contents) (n m o : ℕ) → Survives a b n m → Survives b c m o → Survives a c n o
survives_then a b c n m o h k = record { state = λ s st. k.state s (h.state s st); sound = λ s st so. k.sound s (h.state s st) (h.sound s st so) }

-- nothing was stored
pub survives_viewed : (old new : Contents) (r q : Running) → Viewed old new r q → Survives old new (length r.scratch) (length q.scratch)
survives_viewed old new r q v = record {
  state = λ s h. stands_for_could old new (length r.scratch) (length q.scratch) s lengths (subst (Restorable new) (sym lengths.scratch) (kept.image (length r.scratch) h.image)) kept.narrows kept.could h;
  sound = λ s h. kept.sound s.shape;
}
  where
    kept : Endures none_apart old new
    kept = endures_read old new v.rest

    lengths : SameLengths old new (length r.scratch) (length q.scratch)
    lengths = record { words = ap (λ (c : Contents). length c.words) v.rest; blocks = ap (λ (c : Contents). length c.disk) v.rest; scratch = ap (λ (x : Running). length x.scratch) v.run }

-- ---- it was cut off

-- a fault is no stop
fault_no_stop : Fault ≡ Stopped → ⊥
fault_no_stop e = cc

pub cut_by : (old new : Contents) (r q : Running) (e : VolFail) → (e ≡ Fault → Rose old.faults.count new.faults.count) → (e ≡ Stopped → q.stopped ≡ true) → ((e ≡ Stopped → ⊥) → q.stopped ≡ r.stopped) → Survives old new (length r.scratch) (length q.scratch) → IsCutOff old r new q e
cut_by old new r q Fault rose stop runs h = (rose refl, h, runs fault_no_stop)
cut_by old new r q Stopped rose stop runs h = (stop refl, h)

pub cut_by_ends : {T : Type 0} (old new : Contents) (r q : Running) (e : VolFail) → Ends {T = T} (cache_health old r) (cache_health new q) (Err e) → Survives old new (length r.scratch) (length q.scratch) → IsCutOff old r new q e
cut_by_ends old new r q Fault ends h = (ends.cause.0, h, ends.cause.1)
cut_by_ends old new r q Stopped ends h = (ends.cause, h)

-- after a part that was not
pub cut_later : (a b c : Contents) (q r s : Running) (e : VolFail) → a.faults.count ≤ b.faults.count → r.stopped ≡ q.stopped → Survives a b (length q.scratch) (length r.scratch) → IsCutOff b r c s e → IsCutOff a q c s e
cut_later a b c q r s Fault less ran h k = (rose_later _ _ _ less k.0, survives_then a b c (length q.scratch) (length r.scratch) (length s.scratch) h k.1, k.2 ∙ ran)
cut_later a b c q r s Stopped less ran h k = (k.0, survives_then a b c (length q.scratch) (length r.scratch) (length s.scratch) h k.1)

-- a machine that runs after a part ran before
pub ran_before : (was is : Bool) → (was ≡ true → is ≡ true) → is ≡ false → is ≡ was
ran_before true is stays runs = absurd (let e = stays refl in cc (e, runs))
ran_before false is stays runs = runs

-- ---- over a cache that is ready

-- the volume reads as what memory and disk stand for
read_standing : (c : Contents) (n : ℕ) (t : CacheTables) (shape : VolumeShape) (s : State) → AreWhole c → Ready shape (cache_seen c) (cache_kept c t) → StandsFor c n s → (s.shape ≡ shape) × ReadsAs shape (reads c) s
read_standing c n t shape s whole ready h = (same, subst (λ (sh : VolumeShape). ReadsAs sh (reads c) s) same reading)
  where
    reading : ReadsAs s.shape (reads c) s
    reading = subst (λ (f : BlockWords). ReadsAs s.shape f s) (stands_idle c (gate_shut c.words ready.idle)) (stands_with_reads c n s whole h).reads

    same : s.shape ≡ shape
    same = one_shape (reads c) s.shape shape reading.mapped.superblock.words ready.order.mapped.superblock.words

-- calls on a volume that leave what it reads as
pub survives_ready : (old new : Contents) (r q : Running) (t u : CacheTables) (shape : VolumeShape) → AreWhole old → AreWhole new → length new.pending ≡ length new.disk → length new.words ≡ length old.words → length q.scratch ≡ length r.scratch
    → CacheSound new (length q.scratch) u → Tells new q (cache_seen new) (cache_health new q) (cache_below new q) (cache_kept new u)
    → Ready shape (cache_seen old) (cache_kept old t) → Ready shape (cache_seen new) (cache_kept new u) → ((s : State) → ReadsAs shape (reads old) s → ReadsAs shape (reads new) s) → Survives old new (length r.scratch) (length q.scratch)
survives_ready old new r q t u shape whole still marks size scratch sound tells before after on = record {
  state = λ s h.
      let was = read_standing old (length r.scratch) t shape s whole before h in
      stands_for_ready new (length q.scratch) s (cache_seen new) (cache_kept new u) tells.stands_as
      (record { cached = λ b. refl; names = λ b. refl; count = refl })
      (record { version = h.served.version; pages = omega (arith, h.pages, size, scratch); scratch = h.scratch_pages ∙ sym scratch })
      settled
      (subst (λ (sh : VolumeShape). Ready sh (cache_seen new) (cache_kept new u)) (sym was.0) after)
      (subst (λ (sh : VolumeShape). ReadsAs sh (reads new) s) (sym was.0) (on s was.1));
  sound = λ s h so.
      let was = read_standing old (length r.scratch) t shape s whole before h in
      subst (λ (sh : VolumeShape). Sound new sh) (sym was.0) (sound_ready new (length q.scratch) shape (cache_seen new) (cache_kept new u) marks still tells.stands_as tells.loose refl settled after);
}
  where
    settled : Settled (cache_seen new) (cache_kept new u)
    settled = cache_settled new (length q.scratch) u sound

-- ---- the disk and the gate

told_or : Home → Option Home → Home
told_or h None = h
told_or h (Some k) = k

-- a disk that is told, told again
home_told : (c d : Contents) → Some (home_of d) ≡ Some (home_of c) → home_of d ≡ home_of c
unfolding told_or
home_told c d e = ap (told_or (home_of c)) e

pub disk_by_home : (old new : Contents) → AreWhole old → AreWhole new → length new.disk ≡ length old.disk → Some (home_of new) ≡ Some (home_of old) → new.disk ≡ old.disk
disk_by_home old new whole still count e = same_disk old new whole still count (home_told old new e)

-- and what is pending
pub pending_by_home : (old new : Contents) → Some (home_of new) ≡ Some (home_of old) → (b : ℕ) → is_pending new.pending b ≡ is_pending old.pending b
pending_by_home old new e b = ap (λ (h : Home). h.pending b) (home_told old new e)

pub gate_is_shut : (c : Contents) (n : ℕ) (t : CacheTables) → CacheSound c n t → (gate_of c.words == 1) ≡ false → gate_of c.words ≡ 0
gate_is_shut c n t sound idle = not_one (gate_of c.words) sound.coherent.rules.gate (gate_shut c.words idle)
  where
    not_one : (g : ℕ) → g ≤ 1 → g ≢ 1 → g ≡ 0
    not_one g most ne = omega (arith, most, ne)

-- ---- a view of a volume

-- what is seen of two that are equal is equal
pub seen_as : {V S : Type 0} (v w : V) → v ≡ w → (seen : V → S) → seen v ≡ seen w
seen_as v w e seen = ap seen e

-- what is said of the sizes and the volume that a view was made of is said of the view's
pub by_view : {V : Type 0} (shape here : VolumeShape) (v w : V) → here ≡ shape → w ≡ v → (p : VolumeShape → V → Type 0) → p here w → p shape v
by_view shape here v w e k p h = subst (λ (sh : VolumeShape). p sh v) e (subst (p here) k h)

-- and of the volume that is taken back
pub by_views : {V : Type 0} (shape here : VolumeShape) (v w x y : V) → here ≡ shape → w ≡ v → y ≡ x → (p : VolumeShape → V → V → Type 0) → p here w y → p shape v x
by_views shape here v w x y e k l p h = by_view shape here v w e k (λ sh u. p sh u x) (subst (p here w) l h)

pub by_two : {V : Type 0} (v w x y : V) → w ≡ v → y ≡ x → (p : V → V → Type 0) → p w y → p v x
by_two v w x y e k p h = subst (λ u. p u x) e (subst (p w) k h)

-- the regions were recovered
pub recovers_by : (r : Result ℕ VolFail) (shape : VolumeShape) (x y : Seen) (k : Kept) → ((s : State) → ReadsAs shape x.words s → ReadsAs shape y.words s) → OnOk r (AreRecovered shape y.words) → IfOk r (λ n. n ≡ undone_count shape x.words) → Ready shape y k → (region_inos shape x.words ≡ [] → y.cached ≡ x.cached) → IfOk r (Recovers shape x y k)
recovers_by (Ok n) shape x y k reads recovered count ready bare = record { reads = reads; recovered = recovered; undone = count; ready = ready; bare = bare }
recovers_by (Err e) shape x y k reads recovered count ready bare = tt

pub ok_is : {T E : Type 0} (r : Result T E) (x : T) (p : T → Type 0) → r ≡ Ok x → IfOk r p → p x
ok_is {T} {E} r x p is h = subst (λ (z : Result T E). IfOk z p) is h

-- the machine runs as it ran
pub ran_on : {T : Type 0} (s t : Health) (r : Result T VolFail) (x : T) → r ≡ Ok x → Ends s t r → t.stopped ≡ s.stopped
ran_on {T} s t r x is h = (subst (λ (z : Result T VolFail). Ends s t z) is h).cause

pub err_ends : {T : Type 0} (s t : Health) (r : Result T VolFail) (e : VolFail) → r ≡ Err e → Ends s t r → Ends {T = T} s t (Err e)
err_ends {T} s t r e is h = subst (λ (z : Result T VolFail). Ends s t z) is h
