-- From one boot to the next: what a machine stands for that is taken apart, one that is made of the parts stands for.
use Rattle.std.proofs.Common.{◌≡◌, ◌≤◌, ◌<◌, ◌+◌, ◌*◌, ◌-◌, ◌%◌, ◌^◌, ℕ, nat_lt, true, false, List, [], ◌++◌, length, refl, sym, ap, subst, ◌∙◌, inl, inr, arith, length-append}
use Rattle.std.specs.Prelude.{Option, Some, None, ◌⊎◌, take}
use Rattle.std.proofs.lemmas.List.{get_or_past, length-take}
use Rattle.std.proofs.Math.Seq.{take-append_seam}
use Rattle.rio_base.specs.Blocks.{Health}
use Rattle.rio_base.specs.Failures.{RoseBy}
use Rattle.rio_base.specs.Disks.{DiskContents, block_at, is_pending}
use Rattle.rio_base.specs.Machine.{Contents, Running}
use Rattle.rio_base.specs.Volume.{Below, LimitLasts, MemorySizes}
use Rattle.rio_model.specs.declared.state.State.{State}
use Rattle.rio_model.specs.Cover.{MayLeave}
use Rattle.rio_model.specs.Standing.{StandsFor}
use Rattle.rio_model.proofs.CoverSteps.{none_pending}
use Rattle.rio_model.proofs.PlacedRules.{cases_lt}
use Rattle.rio_model.proofs.StandingStates.{stands_for_stopped}
use Rattle.board.specs.Boards.{protected_count, protected_of}
use Rattle.block_disk.specs.BlockLists.{AreWhole}
use Rattle.block_disk.specs.MemDisks.{Crashed, FailsNever, MemDiskState, contents_of, crashed_block, most_faults, upcoming}
use Rattle.block_disk.specs.declared.disk_choice.DiskChoice.{DiskChoice}
use Rattle.machine_bench.specs.Benches.{made_contents, made_run}
use Rattle.cached_pages.specs.Caches.{cache_below, cache_health}
use Rattle.boots.specs.declared.plan.BootPlan.{BootPlan}
use Rattle.boots.specs.declared.transcript.BootEnd.{BootEnd}
use Rattle.boots.specs.declared.transcript.BootEnd.TheVariants.{Served, Stopped, BootFault}
use Rattle.boots.specs.declared.transcript.BootRun.{BootRun}
use Rattle.boots.proofs.PartsMachines.{none_upcoming, scratch_count, stands_same}
use Rattle.boots.specs.Boots.{MayStop, RunsBoot}
use Rattle.boots.specs.Legal.{BootEnds, BootLeads, SetsStop, boot_faults}
use Rattle.boots.specs.Parts.{IsDiskAfter, PartsStand, armed_run, unfailing}
use Rattle.boots.proofs.BootRules.{ends_as, planned_run, planned_stop}

-- ---- what stands

-- the words of a machine are parted where they were
front_of : (a b : List ℕ) (scratch : ℕ) → length b ≡ 512 * scratch → protected_of (a ++ b) scratch ≡ a
front_of a b scratch long = ap (λ n. take n (a ++ b)) count ∙ take-append_seam a b
  where
    count : protected_count (a ++ b) scratch ≡ length a
    count = omega (arith, long, length-append a b)

pub stands_parted : (words : List ℕ) (c : Contents) (behind : List ℕ) (disk : DiskContents) (scratch : ℕ) (s : State) → words ≡ c.words ++ behind → length behind ≡ 512 * scratch → disk.blocks ≡ c.disk → disk.pending ≡ c.pending → StandsFor c (length behind) s → StandsFor (made_contents words scratch disk) (512 * scratch) s
stands_parted words c behind disk scratch s are long blocks pending h = stands_same c (made_contents words scratch disk) (length behind) (512 * scratch) s (ap (λ (ws : List ℕ). protected_of ws scratch) are ∙ front_of c.words behind scratch long) blocks pending (sym long) h

-- a crash leaves blocks that may be left, and nothing pending
crash_leaves : (choice : DiskChoice) (old new : MemDiskState) (words : List ℕ) (scratch : ℕ) → Crashed choice old new → AreWhole new.blocks → MayLeave (made_contents words scratch (contents_of old)) new.blocks
crash_leaves choice old new words scratch crash whole = record { count = crash.count; whole = whole; kept = λ b firm. by b firm (cases_lt b (length old.blocks)) }
  where
    by : (b : ℕ) → is_pending old.pending b ≡ false → ((b < length old.blocks) × (nat_lt b (length old.blocks) ≡ true)) ⊎ ((length old.blocks ≤ b) × (nat_lt b (length old.blocks) ≡ false)) → block_at new.blocks b ≡ block_at old.blocks b
    by b firm (inl within) = crash.blocks b within.0 ∙ ap (λ p. crashed_block p choice (block_at old.blocks b) (block_at old.synced b)) firm
    by b firm (inr past) = get_or_past new.blocks b [] (let p = past.0 in omega (arith, p, crash.count)) ∙ sym (get_or_past old.blocks b [] past.0)

crash_none : (choice : DiskChoice) (old new : MemDiskState) (b : ℕ) → Crashed choice old new → is_pending new.pending b ≡ false
crash_none choice old new b crash = ap (λ (x : MemDiskState). is_pending x.pending b) crash.rest ∙ none_pending (length old.blocks) b

stands_crashed : (choice : DiskChoice) (old new : MemDiskState) (words : List ℕ) (scratch n : ℕ) (s : State) → Crashed choice old new → AreWhole new.blocks → StandsFor (made_contents words scratch (contents_of old)) n s → StandsFor (made_contents words scratch (contents_of new)) n s
stands_crashed choice old new words scratch n s crash whole h = stands_for_stopped (made_contents words scratch (contents_of old)) (made_contents words scratch (contents_of new)) n n s refl (crash_leaves choice old new words scratch crash whole) (λ b. crash_none choice old new b crash) refl h

stands_unfailing : (old : MemDiskState) (words : List ℕ) (scratch n : ℕ) (s : State) → StandsFor (made_contents words scratch (contents_of old)) n s → StandsFor (made_contents words scratch (contents_of (unfailing old))) n s
stands_unfailing old words scratch n s h = stands_same (made_contents words scratch (contents_of old)) (made_contents words scratch (contents_of (unfailing old))) n n s refl refl refl refl h

-- after a boot
disk_stands : (end : BootEnd) (choice : DiskChoice) (old new : MemDiskState) (words : List ℕ) (scratch n : ℕ) (s : State) → IsDiskAfter end choice old new → AreWhole new.blocks → StandsFor (made_contents words scratch (contents_of old)) n s → StandsFor (made_contents words scratch (contents_of new)) n s
disk_stands Stopped choice old new words scratch n s after whole h = stands_crashed choice (unfailing old) new words scratch n s after whole (stands_unfailing old words scratch n s h)
disk_stands Served choice old new words scratch n s after whole h = subst (λ (x : MemDiskState). StandsFor (made_contents words scratch (contents_of x)) n s) (sym after) (stands_unfailing old words scratch n s h)
disk_stands BootFault choice old new words scratch n s after whole h = subst (λ (x : MemDiskState). StandsFor (made_contents words scratch (contents_of x)) n s) (sym after) (stands_unfailing old words scratch n s h)

never_by : (old new : MemDiskState) → new ≡ unfailing old → FailsNever new
never_by old new same = (ap (λ (x : MemDiskState). x.failing) same, ap (λ (x : MemDiskState). x.failing_reads) same)

disk_never : (end : BootEnd) (choice : DiskChoice) (old new : MemDiskState) → IsDiskAfter end choice old new → FailsNever new
disk_never Stopped choice old new after = (ap (λ (x : MemDiskState). x.failing) after.rest, ap (λ (x : MemDiskState). x.failing_reads) after.rest)
disk_never Served choice old new after = never_by old new after
disk_never BootFault choice old new after = never_by old new after

disk_faults : (end : BootEnd) (choice : DiskChoice) (old new : MemDiskState) → IsDiskAfter end choice old new → new.faults ≡ old.faults
disk_faults Stopped choice old new after = ap (λ (x : MemDiskState). x.faults) after.rest
disk_faults Served choice old new after = ap (λ (x : MemDiskState). x.faults) after
disk_faults BootFault choice old new after = ap (λ (x : MemDiskState). x.faults) after

-- ---- how many calls fail

-- calls that are to fail from now on
pub planned_faults : (old new : MemDiskState) (n : ℕ) → FailsNever old → new ≡ record old { failing = new.failing } → upcoming new.calls new.failing ≤ upcoming old.calls old.failing + n → most_faults new ≤ old.faults + n
planned_faults old new n never rest more =
    let none = none_upcoming old.calls old.failing never.0 in
    let faults = ap (λ (x : MemDiskState). x.faults) rest in
    let reads = ap (λ (x : MemDiskState). x.failing_reads) rest ∙ never.1 in
    omega (arith, none, faults, reads, more)

some_is : (x y : ℕ) → Some x ≡ Some y → x ≡ y
some_is x y e = cc

-- no more failed than were to
pub faults_within : (disk : MemDiskState) (limit : Option ℕ) (most : ℕ) → LimitLasts (Some most) limit → limit ≡ Some (most_faults disk) → disk.faults ≤ most
faults_within disk limit most lasts is =
    let next = lasts.limit most refl in
    let same = some_is next.0 (most_faults disk) (sym next.1 ∙ is) in
    let less = next.2 in
    omega (arith, same, less)

pub few_faults : (n before after len : ℕ) → RoseBy n before after → after ≤ before + len → before + len + 1 < 2 ^ 64 → n ≤ len
few_faults n before after len (inl rose) most few = omega (arith, rose, most)
few_faults n before after len (inr top) most few = absurd (omega (arith, top, most, few))

-- ---- one boot

planned_scratch : (arm : Option (ℕ × ℕ × ℕ)) (r : Running) → (armed_run arm r).scratch ≡ r.scratch
planned_scratch None r = refl
planned_scratch (Some arm) r = refl

planned_long : (plan : BootPlan) (words : List ℕ) (scratch : ℕ) (r : Running) → r ≡ planned_run plan words scratch → 512 * scratch < length words → length r.scratch ≡ 512 * scratch
planned_long plan words scratch r planned room = ap (λ (x : Running). length x.scratch) planned ∙ ap (λ (ws : List ℕ). length ws) (planned_scratch plan.arm (made_run words scratch plan.stop_after)) ∙ scratch_count words scratch room

-- the machine of a boot stands for what the parts stand for
pub boot_stands : (plan : BootPlan) (words : List ℕ) (disk failing_disk : MemDiskState) (scratch failing : ℕ) (before : Contents) (run_before : Running) (s : State) → failing_disk ≡ record disk { failing = failing_disk.failing } → AreWhole failing_disk.blocks → before ≡ made_contents words scratch (contents_of failing_disk) → run_before ≡ planned_run plan words scratch → PartsStand words disk scratch failing s → StandsFor before (length run_before.scratch) s
boot_stands plan words disk failing_disk scratch failing before run_before s rest whole made planned h = stands_same (made_contents words scratch (contents_of disk)) before (512 * scratch) (length run_before.scratch) s
    (ap (λ (c : Contents). c.words) made)
    (ap (λ (c : Contents). c.disk) made ∙ ap (λ (x : MemDiskState). x.blocks) rest)
    (ap (λ (c : Contents). c.pending) made ∙ ap (λ (x : MemDiskState). x.pending) rest)
    (planned_long plan words scratch run_before planned h.room)
    (h.stands (subst AreWhole (ap (λ (x : MemDiskState). x.blocks) rest) whole))

-- what a boot on a planned machine did, and what its parts are then
pub record BootDone (plan : BootPlan) (words : List ℕ) (disk : MemDiskState) (scratch : ℕ) (run : BootRun) (words_after : List ℕ) (disk_after : MemDiskState) : Type 0 where
  -- the disk of the machine
  pub failing_disk : MemDiskState
  pub rest : failing_disk ≡ record disk { failing = failing_disk.failing }
  pub more : upcoming failing_disk.calls failing_disk.failing ≤ upcoming disk.calls disk.failing + length plan.fail
  pub whole : AreWhole failing_disk.blocks
  -- the machine before it and after it
  pub before : Contents
  pub run_before : Running
  pub after : Contents
  pub health_after : Health
  pub below_after : Below
  pub scratch_after : List ℕ
  pub made : before ≡ made_contents words scratch (contents_of failing_disk)
  pub planned : run_before ≡ planned_run plan words scratch
  pub size : length after.words ≡ length before.words
  pub leads : (s : State) → StandsFor before (length run_before.scratch) s → (t : State) × RunsBoot s plan.requests run t (cache_health before run_before) (cache_below before run_before) health_after below_after × StandsFor after (length scratch_after) t
  pub counts : health_after.faults ≡ after.faults.count
  pub limits : below_after.limit ≡ after.faults.limit
  pub behind : below_after.memory.scratch ≡ length scratch_after
  -- what it is taken apart into
  pub left_disk : MemDiskState
  pub words_are : words_after ≡ after.words ++ scratch_after
  pub disk_is : contents_of left_disk ≡ record { blocks = after.disk; pending = after.pending; faults = after.faults; writes = after.writes; around = after.around }
  pub settled : IsDiskAfter run.end plan.choice left_disk disk_after

pub boot_done : (plan : BootPlan) (words : List ℕ) (disk : MemDiskState) (scratch failing total : ℕ) (run : BootRun) (words_after : List ℕ) (disk_after : MemDiskState) (s : State)
    → BootDone plan words disk scratch run words_after disk_after → total ≡ failing + length plan.fail → total + 1 < 2 ^ 64 → PartsStand words disk scratch failing s
    → (t : State) × BootLeads s plan run t × PartsStand words_after disk_after scratch total t × (length words_after ≡ length words)
boot_done plan words disk scratch failing total run words_after disk_after s b sum few h = (
  led.0,
  record { ends = ends; faults = faults },
  record {
    stands = λ whole. disk_stands run.end plan.choice b.left_disk disk_after words_after scratch (512 * scratch) led.0 b.settled whole (stands_parted words_after b.after b.scratch_after (contents_of b.left_disk) scratch led.0 b.words_are behind (ap (λ (d : DiskContents). d.blocks) b.disk_is) (ap (λ (d : DiskContents). d.pending) b.disk_is) led.2);
    whole_pages = subst (λ n. n % 512 ≡ 0) (sym long) h.whole_pages;
    room = subst (λ n. 512 * scratch < n) (sym long) h.room;
    never = disk_never run.end plan.choice b.left_disk disk_after b.settled;
    counted = let same = disk_faults run.end plan.choice b.left_disk disk_after b.settled in let were = h.counted in omega (arith, same, most, sum, were);
    few = few;
  },
  long,
)
  where
    start : StandsFor (made_contents words scratch (contents_of disk)) (512 * scratch) s
    start = h.stands (subst AreWhole (ap (λ (x : MemDiskState). x.blocks) b.rest) b.whole)

    scratch_before : length b.run_before.scratch ≡ 512 * scratch
    scratch_before = planned_long plan words scratch b.run_before b.planned h.room

    led : (t : State) × RunsBoot s plan.requests run t (cache_health b.before b.run_before) (cache_below b.before b.run_before) b.health_after b.below_after × StandsFor b.after (length b.scratch_after) t
    led = b.leads s (boot_stands plan words disk b.failing_disk scratch failing b.before b.run_before s b.rest b.whole b.made b.planned h)

    behind : length b.scratch_after ≡ 512 * scratch
    behind = sym b.behind ∙ ap (λ (m : MemorySizes). m.scratch) led.1.memory ∙ scratch_before

    before_long : length b.before.words ≡ length words - 512 * scratch
    before_long = ap (λ (c : Contents). length c.words) b.made ∙ (let e : length (protected_of words scratch) ≡ length words - 512 * scratch = omega (arith, length-take (protected_count words scratch) words) in e)

    long : length words_after ≡ length words
    long = ap (λ (ws : List ℕ). length ws) b.words_are ∙ (let e : length (b.after.words ++ b.scratch_after) ≡ length words = let size = b.size in let room = h.room in omega (arith, length-append b.after.words b.scratch_after, behind, before_long, size, room) in e)

    count : protected_count words scratch ≡ 512 * (s.pages - s.scratch)
    count = let pages = start.pages in let own = start.scratch_pages in let room = h.room in omega (arith, pages, own, room, length-take (protected_count words scratch) words)

    ends : BootEnds run.end run.stopped_on (SetsStop s plan) s plan.requests run.answered led.0
    ends = ends_as run.end run.stopped_on _ (SetsStop s plan) s plan.requests run.answered led.0 (λ (may : MayStop (cache_below b.before b.run_before).causes). planned_stop plan words scratch s count (subst (λ (r : Running). MayStop (cache_below b.before r).causes) b.planned may)) led.1.ends

    limit : LimitLasts (Some (most_faults b.failing_disk)) b.after.faults.limit
    limit = subst (λ (c : Contents). LimitLasts c.faults.limit b.after.faults.limit) b.made (subst (LimitLasts b.before.faults.limit) b.limits led.1.limit)

    within : b.left_disk.faults ≤ most_faults b.failing_disk
    within = faults_within b.left_disk b.after.faults.limit (most_faults b.failing_disk) limit (sym (ap (λ (d : DiskContents). d.faults.limit) b.disk_is))

    most : b.left_disk.faults ≤ disk.faults + length plan.fail
    most = let planned = planned_faults disk b.failing_disk (length plan.fail) h.never b.rest b.more in let w = within in omega (arith, planned, w)

    was : b.before.faults.count ≡ disk.faults
    was = ap (λ (c : Contents). c.faults.count) b.made ∙ ap (λ (x : MemDiskState). x.faults) b.rest

    now : b.health_after.faults ≡ b.left_disk.faults
    now = b.counts ∙ sym (ap (λ (d : DiskContents). d.faults.count) b.disk_is)

    faults : boot_faults run ≤ length plan.fail
    faults = few_faults (boot_faults run) disk.faults b.left_disk.faults (length plan.fail) (subst (λ n. RoseBy (boot_faults run) n b.left_disk.faults) was (subst (RoseBy (boot_faults run) b.before.faults.count) now led.1.counted)) most (let were = h.counted in omega (arith, were, sum, few))
