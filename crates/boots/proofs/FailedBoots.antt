-- A boot whose reboot failed, and sizes that stay.
use Rattle.std.proofs.Common.{◌≡◌, ◌≤◌, ◌+◌, ℕ, false, List, length, refl, sym, ap, subst, ◌∙◌, inl, inr, arith}
use Rattle.rio_base.specs.Failures.{Rose, RoseBy}
use Rattle.rio_base.specs.Machine.{Contents, Running}
use Rattle.rio_base.specs.Volume.{MemorySizes, Runs}
use Rattle.rio_model.specs.declared.state.State.{State}
use Rattle.rio_model.specs.Cover.{causes_of}
use Rattle.rio_model.specs.Standing.{StandsFor}
use Rattle.rio_requests.specs.declared.request.Request.{Request}
use Rattle.cached_pages.specs.Caches.{cache_below, cache_health}
use Rattle.warm_reboot.specs.Reboots.{Unbooted}
use Rattle.warm_reboot.specs.declared.report.BootFail.{BootFail}
use Rattle.warm_reboot.specs.declared.report.BootFail.TheVariants.{BadImage, BadVolume, Fault, Memory, Stopped}
use Rattle.boots.specs.declared.transcript.BootRun.{BootRun}
use Rattle.boots.specs.Boots.{EndsUnbooted, RunsBoot}
use Rattle.boots.proofs.Causes.{may_stop}

-- a fault is one more
rose_one : (a b : ℕ) → Rose a b → RoseBy (0 + 1) a b
rose_one a b (inl less) = inl (omega (arith, less))
rose_one a b (inr top) = inr top

rose_none : (a b : ℕ) → a ≤ b → RoseBy (0 + 0) a b
rose_none a b less = inl (omega (arith, less))

-- the boot led nowhere
pub failed_boot : (old new : Contents) (r q : Running) (fail : BootFail) (run : BootRun) (requests : List Request) (s : State) → EndsUnbooted fail run → Unbooted old r new q fail → Runs (cache_health old r) (cache_below old r) (cache_health new q) (cache_below new q) → r.stopped ≡ false → StandsFor old (length r.scratch) s
    → (t : State) × RunsBoot s requests run t (cache_health old r) (cache_below old r) (cache_health new q) (cache_below new q) × StandsFor new (length q.scratch) t
failed_boot old new r q Fault run requests s is (rose, survives, ran_on) runs ran st = (
  s,
  subst (λ (x : BootRun). RunsBoot s requests x s (cache_health old r) (cache_below old r) (cache_health new q) (cache_below new q)) (sym is) (record {
    ends = record { none = refl; same = refl };
    counted = rose_one old.faults.count new.faults.count rose;
    limit = runs.limit;
    memory = runs.memory;
  }),
  survives.state s st,
)
failed_boot old new r q Stopped run requests s is (stopped, survives) runs ran st = (
  s,
  subst (λ (x : BootRun). RunsBoot s requests x s (cache_health old r) (cache_below old r) (cache_health new q) (cache_below new q)) (sym is) (record {
    ends = (record { none = refl; same = refl }, may_stop (causes_of r) (causes_of q) r.stopped q.stopped ran stopped runs.cause);
    counted = rose_none old.faults.count new.faults.count runs.later;
    limit = runs.limit;
    memory = runs.memory;
  }),
  survives.state s st,
)
failed_boot old new r q Memory run requests s is unbooted runs ran st = absurd is
failed_boot old new r q (BadImage rule) run requests s is unbooted runs ran st = absurd is
failed_boot old new r q (BadVolume rule b) run requests s is unbooted runs ran st = absurd is

-- as many words are protected as before
pub words_kept : (c d : Contents) (r q : Running) → r.protected ≡ length c.words → q.protected ≡ length d.words → (cache_below d q).memory ≡ (cache_below c r).memory → length d.words ≡ length c.words
words_kept c d r q here there same = sym there ∙ ap (λ (m : MemorySizes). m.protected) same ∙ here
