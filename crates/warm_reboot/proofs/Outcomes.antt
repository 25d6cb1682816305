-- How a reboot ends, from how its parts do.
use Rattle.page_restore.proofs.Common.{Bool, List, length, true, ℕ, ◌≡◌, ◌≤◌, ap, arith, subst, sym, ◌∙◌, Contents, Running, IsHome, frames_of, is_dirty, tag_at}
use Rattle.std.specs.Prelude.{◌⊎◌, Result, Ok, Err, IfOk, IfErr, MatchResult}
use Rattle.std.proofs.Common.{inl, inr}
use Rattle.rio_base.specs.Blocks.{Seen}
use Rattle.rio_base.specs.declared.failures.VolFail.{VolFail}
use Rattle.rio_base.specs.declared.failures.VolFail.TheVariants.{Fault, Stopped}
use Rattle.rio_base.specs.declared.places.VolumeShape.{VolumeShape}
use Rattle.rio_base.specs.Machine.{Steps}
use Rattle.rio_base.specs.Volume.{Kept, Runs}
use Rattle.rio_base.proofs.MachineRules.{steps_refl}
use Rattle.rio_base.specs.Image.{HasHeader}
use Rattle.rio_model.specs.declared.census.Census.{Census}
use Rattle.rio_model.specs.declared.state.State.{State}
use Rattle.rio_model.specs.Cover.{stands}
use Rattle.rio_model.specs.Held.{held_of}
use Rattle.rio_model.specs.Placed.{Layout, volume_layout}
use Rattle.rio_model.specs.Registry.{FailsRegistry, HasLayout, KeepsRegistry}
use Rattle.rio_model.specs.Standing.{EntriesFit, Restorable}
use Rattle.rio_model.specs.VolumeFails.{FailsPair}
use Rattle.rio_model.specs.VolumeReads.{ReadsAs}
use Rattle.rio_model.specs.VolumeReady.{Ready}
use Rattle.rio_model.proofs.StandingStates.{AreWhole, one_shape}
use Rattle.registry.specs.Views.{Viewed}
use Rattle.registry.specs.ViewLaws.{viewed_trans}
use Rattle.cached_pages.specs.Caches.{cache_below, cache_health}
use Rattle.cached_pages.proofs.Goes.{runs_of}
use Rattle.page_restore.specs.Reports.{AreSoMany, CountsPages, IsUnsaved}
use Rattle.page_restore.specs.Stale.{MarksStale}
use Rattle.page_restore.specs.declared.kinds.PageCounts.{PageCounts}
use Rattle.region_recovery.specs.RegionLists.{region_inos}
use Rattle.region_recovery.proofs.HeldRegions.{regions_held, undone_held}
use Rattle.warm_reboot.specs.Boots.{AreMarked, IsCutOff, StandsNow, Starts}
use Rattle.warm_reboot.proofs.Examines.{restorable_examined}
use Rattle.warm_reboot.proofs.Starts.{stands_now}
use Rattle.warm_reboot.proofs.Survivals.{cut_later, survives_viewed}
use Rattle.warm_reboot.specs.Examining.{IsExamined, TellsNoRule, Unexamined, handed}
use Rattle.warm_reboot.specs.Reboots.{Booted, Recovers, Unbooted}
use Rattle.warm_reboot.specs.declared.report.BootFail.{BootFail}
use Rattle.warm_reboot.specs.declared.report.BootFail.TheVariants.{BadImage, BadVolume, Fault as BootFault, Memory, Stopped as BootStopped}
use Rattle.warm_reboot.specs.declared.report.BootReport.{BootReport}

-- ---- the state that is found

-- any state that memory and disk stand for has the shape that was found
pub shape_found : (c : Contents) (census : Census) (s : State) → IsExamined c census → StandsNow c s → census.shape ≡ s.shape
shape_found c census s x h = x.counts.shape ∙ one_shape (stands c) x.state.shape s.shape x.says.words h.says.words

-- one such is found
pub now_found : (c : Contents) (census : Census) → (x : IsExamined c census) → StandsNow c x.state
now_found c census x = record { says = x.says; reads = x.reads }

-- the marks are those of each state that memory and disk stand for
pub marked_found : (c : Contents) (n : ℕ) (census : Census) (marks : List Bool) → AreWhole c → IsExamined c census → MarksStale (volume_layout census.shape (stands c)) c.words marks → AreMarked c n marks
marked_found c n census marks whole found are = λ s h. subst (λ (sh : VolumeShape). MarksStale (volume_layout sh (stands c)) c.words marks) (shape_found c census s found (stands_now c n s whole h)) are

-- what a cache says that started over them
abbrev pub StartsOver : Contents → List Bool → Seen → Kept → Type 0
StartsOver c marks x k = (s : State) → MarksStale (volume_layout s.shape (stands c)) c.words marks → StandsNow c s → Starts c s x k

started_found : (c : Contents) (census : Census) (marks : List Bool) (x : Seen) (k : Kept) → (found : IsExamined c census) → MarksStale (volume_layout census.shape (stands c)) c.words marks → StartsOver c marks x k → Starts c found.state x k
started_found c census marks x k found are starts = starts found.state (subst (λ (sh : VolumeShape). MarksStale (volume_layout sh (stands c)) c.words marks) found.counts.shape are) (now_found c census found)

pub ready_found : (c : Contents) (census : Census) (marks : List Bool) (x : Seen) (k : Kept) → IsExamined c census → MarksStale (volume_layout census.shape (stands c)) c.words marks → StartsOver c marks x k → Ready census.shape x k
ready_found c census marks x k found are starts = subst (λ (sh : VolumeShape). Ready sh x k) (sym found.counts.shape) (started_found c census marks x k found are starts).ready

pub reads_found : (c : Contents) (census : Census) (marks : List Bool) (x : Seen) (k : Kept) → IsExamined c census → MarksStale (volume_layout census.shape (stands c)) c.words marks → StartsOver c marks x k → (s : State) × ReadsAs census.shape x.words s
reads_found c census marks x k found are starts = (found.state, subst (λ (sh : VolumeShape). ReadsAs sh x.words found.state) (sym found.counts.shape) (started_found c census marks x k found are starts).reads)

pub regions_found : (c : Contents) (census : Census) (marks : List Bool) (x : Seen) (k : Kept) (list : List ℕ) → IsExamined c census → MarksStale (volume_layout census.shape (stands c)) c.words marks → StartsOver c marks x k → list ≡ region_inos census.shape (stands c) → list ≡ region_inos census.shape x.words
regions_found c census marks x k list found are starts is = is ∙ sym (regions_held census.shape (stands c) x.words (subst (λ (sh : VolumeShape). held_of sh x.words ≡ held_of sh (stands c)) (sym found.counts.shape) (started_found c census marks x k found are starts).held))

pub booted_by : (c : Contents) (s : State) (census : Census) (marks : List Bool) (counts : PageCounts) (x y : Seen) (j k : Kept) (undone : ℕ) → IsExamined c census → StandsNow c s → MarksStale (volume_layout census.shape (stands c)) c.words marks
    → (MarksStale (volume_layout s.shape (stands c)) c.words marks → Starts c s x j) → Recovers census.shape x y k undone
    → ((l : Layout) → MarksStale l c.words marks → CountsPages l c counts)
    → Booted c s (record { meta = counts.meta; pages = counts.pages; stale = counts.stale; undone = undone; shape = census.shape }) y k
booted_by c s census marks counts x y j k undone found h are starts recovers counted = record {
  reads = here.reads s start.reads;
  ready = here.ready;
  recovered = here.recovered;
  shape = same;
  counts = counted (volume_layout s.shape (stands c)) marked;
  undone = here.undone ∙ undone_held s.shape (stands c) x.words start.held;
  bare = λ none b. ap (λ (f : ℕ → Bool). f b) (here.bare (regions_held s.shape (stands c) x.words start.held ∙ none)) ∙ start.bare b;
}
  where
    same : census.shape ≡ s.shape
    same = shape_found c census s found h

    marked : MarksStale (volume_layout s.shape (stands c)) c.words marks
    marked = subst (λ (sh : VolumeShape). MarksStale (volume_layout sh (stands c)) c.words marks) same are

    start : Starts c s x j
    start = starts marked

    here : Recovers s.shape x y k undone
    here = subst (λ (sh : VolumeShape). Recovers sh x y k undone) same recovers

pub entries_found : (c : Contents) (census : Census) → IsExamined c census → EntriesFit (volume_layout census.shape (stands c)) c.words
entries_found c census x = subst (λ (sh : VolumeShape). EntriesFit (volume_layout sh (stands c)) c.words) (sym x.counts.shape) x.reads.entries

-- ---- after a look, which changed nothing but the count of faults

so_many_as : (p q : ℕ → Type 0) (most n : ℕ) → ((k : ℕ) → p k → q k) → ((k : ℕ) → q k → p k) → AreSoMany p most n → AreSoMany q most n
so_many_as p q most n into back h = record { test = h.test; sure = λ k less e. into k (h.sure k less e); all = λ k less such. h.all k less (back k such); count = h.count }

abbrev Again : Contents → Contents → Contents
Again c d = record c { faults = d.faults }

unsaved_back : (c d : Contents) (k : ℕ) → IsUnsaved (Again c d) k → IsUnsaved c k
unsaved_back c d k h = record { valid = h.valid; unsaved = by h.unsaved }
  where
    by : (is_dirty (tag_at c.words k) ≡ true) ⊎ ¬ IsHome (Again c d) k → (is_dirty (tag_at c.words k) ≡ true) ⊎ ¬ IsHome c k
    by (inl e) = inl e
    by (inr n) = inr (λ home. n (record { same = home.same }))

unsaved_on : (c d : Contents) (k : ℕ) → IsUnsaved c k → IsUnsaved (Again c d) k
unsaved_on c d k h = record { valid = h.valid; unsaved = by h.unsaved }
  where
    by : (is_dirty (tag_at c.words k) ≡ true) ⊎ ¬ IsHome c k → (is_dirty (tag_at c.words k) ≡ true) ⊎ ¬ IsHome (Again c d) k
    by (inl e) = inl e
    by (inr n) = inr (λ home. n (record { same = home.same }))

counts_back : (l : Layout) (c d : Contents) (counts : PageCounts) → CountsPages l (Again c d) counts → CountsPages l c counts
counts_back l c d counts h = record {
  meta = so_many_as _ _ _ _ (λ k e. (unsaved_back c d k e.0, e.1)) (λ k e. (unsaved_on c d k e.0, e.1)) h.meta;
  pages = so_many_as _ _ _ _ (λ k e. (unsaved_back c d k e.0, e.1)) (λ k e. (unsaved_on c d k e.0, e.1)) h.pages;
  stale = so_many_as _ _ _ _ (λ k e. (unsaved_back c d k e.0, e.1)) (λ k e. (unsaved_on c d k e.0, e.1)) h.stale;
}

now_again : (c d : Contents) (s : State) → StandsNow c s → StandsNow (Again c d) s
now_again c d s h = record { says = h.says; reads = record { reads = h.reads.reads; entries = h.reads.entries } }

booted_again : (c d : Contents) (s : State) (report : BootReport) (x : Seen) (k : Kept) → Booted (Again c d) s report x k → Booted c s report x k
booted_again c d s report x k h = record { reads = h.reads; ready = h.ready; recovered = h.recovered; shape = h.shape; counts = counts_back _ c d _ h.counts; undone = h.undone; bare = h.bare }

pub booted_viewed : (c d : Contents) (r q : Running) (s : State) (report : BootReport) (x : Seen) (k : Kept) → Viewed c d r q → (StandsNow d s → Booted d s report x k) → StandsNow c s → Booted c s report x k
booted_viewed c d r q s report x k v on h = booted_again c d s report x k (subst (λ (e : Contents). StandsNow e s → Booted e s report x k) v.rest on (now_again c d s h))

pub examined_viewed : (c d : Contents) (r q : Running) (census : Census) → Viewed c d r q → IsExamined c census → IsExamined d census
examined_viewed c d r q census v h = subst (λ (e : Contents). IsExamined e census) (sym v.rest) (record { image = h.image; state = h.state; says = h.says; reads = record { reads = h.reads.reads; entries = h.reads.entries }; counts = h.counts })

pub image_viewed : (c d : Contents) (r q : Running) (census : Census) → Viewed c d r q → HasHeader c.words → HasLayout c.words r.scratch → IsExamined c census → Restorable d (length q.scratch)
image_viewed c d r q census v header layout h = restorable_examined d q.scratch census
    (subst (λ (e : Contents). HasHeader e.words) (sym v.rest) header)
    (subst (λ (e : Contents). HasLayout e.words q.scratch) (sym v.rest) (subst (λ (x : Running). HasLayout c.words x.scratch) (sym v.run) layout))
    (examined_viewed c d r q census v h)

-- ---- how it fails

pub unbooted_cut : (old new : Contents) (r q : Running) (e : VolFail) → IsCutOff old r new q e → Unbooted old r new q (handed e)
unbooted_cut old new r q Fault h = h
unbooted_cut old new r q Stopped h = h

-- why a reboot was cut off that was looked at before
abbrev pub IsCut : Contents → Contents → Running → Running → BootFail → Type 0
IsCut old new r q fail = (e : VolFail) × (fail ≡ handed e) × IsCutOff old r new q e

pub unbooted_so : (old new : Contents) (r q : Running) (fail : BootFail) → IsCut old new r q fail → Unbooted old r new q fail
unbooted_so old new r q fail (e, is, cut) = subst (Unbooted old r new q) (sym is) (unbooted_cut old new r q e cut)

handed_none : (e : VolFail) → TellsNoRule (handed e)
handed_none Fault = tt
handed_none Stopped = tt

pub no_rule_so : (old new : Contents) (r q : Running) (fail : BootFail) → IsCut old new r q fail → TellsNoRule fail
no_rule_so old new r q fail (e, is, cut) = subst TellsNoRule (sym is) (handed_none e)

pub unbooted_viewed : (old mid new : Contents) (r q t : Running) (e : BootFail) → Viewed old mid r q → Unbooted mid q new t e → Unbooted old r new t e
unbooted_viewed old mid new r q t (BadImage rule) v h = (subst (λ (c : Contents). FailsRegistry c.words rule) v.rest h.0, viewed_trans old mid new r q t v h.1)
unbooted_viewed old mid new r q t (BadVolume rule b) v h = (subst (λ (c : Contents). KeepsRegistry c.words) v.rest h.0, subst (λ (c : Contents). FailsPair c rule b.0) v.rest h.1, viewed_trans old mid new r q t v h.2)
unbooted_viewed old mid new r q t Memory v h = viewed_trans old mid new r q t v h
unbooted_viewed old mid new r q t BootFault v h = cut_later old mid new r q t Fault v.faults.later (ap (λ (x : Running). x.stopped) v.run) (survives_viewed old mid r q v) h
unbooted_viewed old mid new r q t BootStopped v h = cut_later old mid new r q t Stopped v.faults.later (ap (λ (x : Running). x.stopped) v.run) (survives_viewed old mid r q v) h

-- after a look that failed
pub unbooted_look : (old new : Contents) (r t : Running) (e : BootFail) → Unexamined old new t e → Viewed old new r t → Unbooted old r new t e
unbooted_look old new r t (BadImage rule) h v = (h, v)
unbooted_look old new r t (BadVolume rule b) h v = (h.0, h.1, v)
unbooted_look old new r t Memory h v = v
unbooted_look old new r t BootFault h v = (h, survives_viewed old new r t v, ap (λ (x : Running). x.stopped) v.run)
unbooted_look old new r t BootStopped h v = (h, survives_viewed old new r t v)

-- the machine ran over it
pub runs_viewed : (old new : Contents) (r t : Running) → Viewed old new r t → Runs (cache_health old r) (cache_below old r) (cache_health new t) (cache_below new t)
runs_viewed old new r t v = runs_of old new r t
    (record { size = ap (λ (c : Contents). length c.words) v.rest; blocks = ap (λ (c : Contents). length c.disk) v.rest; around = ap (λ (c : Contents). c.around) v.rest; faults = v.faults; writes = le_of (ap (λ (c : Contents). c.writes) v.rest) })
    (subst (Steps r) (sym v.run) (steps_refl r))
    (ap (λ (c : Contents). frames_of c.words) v.rest)
  where
    le_of : {n m : ℕ} → n ≡ m → m ≤ n
    le_of e = omega (arith, e)

-- ---- what one answer says, another says

pub ok_as : {T E : Type 0} (r : Result T E) (p q : T → Type 0) → ((x : T) → p x → q x) → IfOk r p → IfOk r q
ok_as (Ok x) p q on h = on x h
ok_as (Err e) p q on h = tt

pub ok_always : {T E : Type 0} (r : Result T E) (p : T → Type 0) → ((x : T) → p x) → IfOk r p
ok_always (Ok x) p h = h x
ok_always (Err e) p h = tt

pub err_as : {T E : Type 0} (r : Result T E) (p q : E → Type 0) → ((e : E) → p e → q e) → IfErr r p → IfErr r q
err_as (Ok x) p q on h = tt
err_as (Err e) p q on h = on e h

pub err_always : {T E : Type 0} (r : Result T E) (p : E → Type 0) → ((e : E) → p e) → IfErr r p
err_always (Ok x) p h = tt
err_always (Err e) p h = h e

pub either_as : {T E : Type 0} (r : Result T E) (p q : T → Type 0) (f h : E → Type 0) → ((x : T) → p x → q x) → ((e : E) → f e → h e) → MatchResult r p f → MatchResult r q h
either_as (Ok x) p q f h on off k = on x k
either_as (Err e) p q f h on off k = off e k
