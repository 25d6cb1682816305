-- A cache on what a restore leaves.
use Rattle.page_restore.proofs.Common.{Bool, List, false, length, refl, true, ap, ℕ, ◌*◌, ◌+◌, ◌<◌, ◌≡◌, ◌⊎◌, arith, subst, sym, ◌∙◌, block_at, is_pending, true_false, Contents, Running, frames_of, tag_at, Endures, Restorable, none_apart, stale_block}
use Rattle.std.specs.Prelude.{Err, IsErrOf, Result}
use Rattle.rio_base.specs.declared.failures.VolFail.{VolFail}
use Rattle.rio_base.specs.declared.failures.VolFail.TheVariants.{Fault, Stopped}
use Rattle.rio_base.specs.Blocks.{Seen}
use Rattle.rio_base.specs.Image.{registry_pages}
use Rattle.rio_base.specs.Volume.{Kept, Runs}
use Rattle.rio_model.specs.declared.state.State.{State}
use Rattle.rio_model.specs.Cover.{reads, stands}
use Rattle.rio_model.specs.CoverChanges.{stands_idle}
use Rattle.rio_model.specs.Held.{held_of}
use Rattle.rio_model.specs.Placed.{Agrees, Layout, volume_layout}
use Rattle.rio_model.specs.Registry.{gate_of}
use Rattle.rio_model.specs.Standing.{EntriesFit, Restored, StandsFor}
use Rattle.rio_model.specs.VolumeReads.{ReadsAs}
use Rattle.rio_model.proofs.RestoredBlocks.{restored_by}
use Rattle.rio_model.proofs.StandingStates.{AreWhole, stale_out_of_use, stands_for_kept, stands_with_reads}
use Rattle.rio_model.proofs.VolumeReadRules.{held_of_agree, reads_agree}
use Rattle.cached_pages.specs.Caches.{IsFresh, Started, cache_below, cache_health}
use Rattle.cached_pages.specs.declared.tables.CacheTables.{CacheTables}
use Rattle.cached_pages.proofs.Goes.{runs_of}
use Rattle.page_restore.proofs.Restores.{stale_of, wanted_of}
use Rattle.page_restore.specs.Phases.{PhaseEnds}
use Rattle.page_restore.specs.Stale.{MarksStale}
use Rattle.warm_reboot.specs.Boots.{AreMarked, StandsNow, Starts, Survives}

-- ---- the frames are as many

frames_eq : (f g : ℕ) → 512 * (17 + registry_pages f + f) ≡ 512 * (17 + registry_pages g + g) → f ≡ g
unfolding registry_pages
frames_eq f g e = omega (arith, e)

pub frames_kept : (old new : Contents) (n m : ℕ) → Restorable old n → Restorable new m → length new.words ≡ length old.words → frames_of new.words ≡ frames_of old.words
frames_kept old new n m i j size = frames_eq (frames_of new.words) (frames_of old.words) (sym j.protected ∙ size ∙ i.protected)

pub fresh_kept : (old new : Contents) (t : CacheTables) → frames_of new.words ≡ frames_of old.words → length new.disk ≡ length old.disk → IsFresh (frames_of old.words) (length old.disk) t → IsFresh (frames_of new.words) (length new.disk) t
fresh_kept old new t frames count h = subst (λ f. IsFresh f (length new.disk) t) (sym frames) (subst (λ b. IsFresh (frames_of old.words) b t) (sym count) h)

-- ---- what stands

pub stands_kept : (marks : List Bool) (old new : Contents) (r q : Running) (fault stop : Type 0) (s : State) → AreWhole old → Endures (stale_block marks old.words) old new → (Endures none_apart old new) ⊎ ((b : ℕ) → is_pending new.pending b ≡ false) → PhaseEnds old new r q fault stop → MarksStale (volume_layout s.shape (stands old)) old.words marks → StandsFor old (length r.scratch) s → StandsFor new (length q.scratch) s
stands_kept marks old new r q fault stop s whole e exit ends are h = stands_for_kept marks old new (length r.scratch) (length q.scratch) s whole (record { words = ends.lasts.size; blocks = ends.lasts.blocks; scratch = ends.ends.steps.scratch_count }) e exit (stale_of _ marks old.words are) h

-- whatever stood
pub survives_kept : (marks : List Bool) (old new : Contents) (r q : Running) (fault stop : Type 0) → AreWhole old → Endures (stale_block marks old.words) old new → (Endures none_apart old new) ⊎ ((b : ℕ) → is_pending new.pending b ≡ false) → PhaseEnds old new r q fault stop → AreMarked old (length r.scratch) marks → Survives old new (length r.scratch) (length q.scratch)
survives_kept marks old new r q fault stop whole e exit ends are = record {
  state = λ s h. stands_kept marks old new r q fault stop s whole e exit ends (are s h) h;
  sound = λ s h. e.sound s.shape;
}

-- with the disk as it reads, the blocks that are not in use alone differ
pub agrees_kept : (marks : List Bool) (old new : Contents) (s : State) → Endures (stale_block marks old.words) old new → MarksStale (volume_layout s.shape (stands old)) old.words marks → StandsNow old s → Agrees (volume_layout s.shape (stands old)) (stands old) (stands new)
agrees_kept marks old new s e are h =
    let out = stale_out_of_use (volume_layout s.shape (stands old)) marks old.words h.reads.entries (stale_of _ marks old.words are) in
    record {
      low = λ b w low. e.standing b w (out.low b low);
      owned = λ i t owns w. e.standing _ w (out.owned _ (record { node = i; slot = t; owns = owns; is = refl }));
    }

-- a volume over a machine on which what is in use stands as before, and of which nothing is pending
pub starts_on : (old c : Contents) (s : State) (x : Seen) (k : Kept) → StandsNow old s → Agrees (volume_layout s.shape (stands old)) (stands old) (stands c) → gate_of c.words ≡ 0 → length c.disk ≡ length old.disk → ((b : ℕ) → is_pending c.pending b ≡ false) → x.words ≡ reads c → x.count ≡ length c.disk → Started c x k → Starts old s x k
starts_on old c s x k h agrees shut blocks none words count start = record {
  reads = reading;
  held = ap (held_of s.shape) same ∙ held_of_agree s.shape (stands old) (stands c) h.reads.reads.mapped agrees;
  ready = record {
    order = record {
      has_shape = record { sizes = h.says.served.sizes; count = count ∙ blocks ∙ h.says.blocks; unnamed = λ b low e. absurd (true_false (sym e ∙ start.uncached b)) };
      mapped = reading.mapped;
      named = record { each = λ i ino t has e. absurd (true_false (sym e ∙ start.uncached _)) };
      firm = record { low = λ b low. start.loose b ∙ none b; owned = λ i t own. start.loose _ ∙ none _ };
    };
    idle = start.updating;
  };
  bare = start.uncached;
}
  where
    same : x.words ≡ stands c
    same = words ∙ sym (stands_idle c (λ e. absurd (omega (arith, e, shut))))

    reading : ReadsAs s.shape x.words s
    reading = subst (λ f. ReadsAs s.shape f s) (sym same) (reads_agree s.shape (stands old) (stands c) s h.reads.reads agrees)

-- what memory and disk stand for they stand for with the disk as it reads
pub stands_now : (c : Contents) (n : ℕ) (s : State) → AreWhole c → StandsFor c n s → StandsNow c s
stands_now c n s whole h =
    let reads = stands_with_reads c n s whole h in
    record { says = record { served = h.served; words = reads.reads.mapped.superblock.words; blocks = h.blocks }; reads = reads }

-- ---- the disk

pub restored_on : (marks : List Bool) (l : Layout) (n : ℕ) (old new : Contents) (r q : Running) (fault stop : Type 0) → AreWhole old → AreWhole new → Restorable old n → PhaseEnds old new r q fault stop → Endures (stale_block marks old.words) old new → ((k : ℕ) → k < frames_of new.words → tag_at new.words k ≡ 0)
    → ((b : ℕ) → stale_block marks old.words b ≡ true → block_at new.disk b ≡ block_at old.disk b) → EntriesFit l old.words → MarksStale l old.words marks → Restored l old.words old.disk new.disk
restored_on marks l n old new r q fault stop whole still image ends e empty kept fits are = restored_by marks l n old new whole still ends.lasts.blocks image fits (stale_of l marks old.words are) (wanted_of l marks old.words are) e empty kept

-- ---- the machine

pub runs_on : (apart : ℕ → Bool) (old new : Contents) (r q : Running) (fault stop : Type 0) → Restorable old (length r.scratch) → Endures apart old new → PhaseEnds old new r q fault stop → Runs (cache_health old r) (cache_below old r) (cache_health new q) (cache_below new q)
runs_on apart old new r q fault stop image e ends = runs_of old new r q ends.lasts ends.ends.steps (frames_kept old new (length r.scratch) (length r.scratch) image (e.image (length r.scratch) image) ends.lasts.size)

-- ---- how a failure is told

err_is : (T : Type 0) (e d : VolFail) → ◌≡◌ {A = Result T VolFail} (Err e) (Err d) → e ≡ d
err_is T e d same = cc

pub phase_failed : {T : Type 0} (a b : Contents) (r s : Running) (e : VolFail) → PhaseEnds a b r s (IsErrOf {T = T} (Err e) Fault) (IsErrOf {T = T} (Err e) Stopped) → PhaseEnds a b r s (e ≡ Fault) (e ≡ Stopped)
phase_failed {T = T} a b r s e h = record {
  closed = h.closed;
  lasts = h.lasts;
  cause = λ f. h.cause (ap Err f);
  ends = record { steps = h.ends.steps; told = λ x. h.ends.told (ap Err x); runs = λ n. h.ends.runs (λ x. n (err_is T e Stopped x)) };
}
