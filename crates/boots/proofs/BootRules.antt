-- How a boot on a machine ends: what its reboot did comes first, and why it stopped is told by the plan.
use Rattle.std.proofs.Common.{◌≡◌, ◌≤◌, ◌*◌, ◌-◌, ℕ, true, false, nat_lt, List, [], ◌∷◌, ◌++◌, refl, sym, ap, ◌∙◌, inl, inr, arith}
use Rattle.std.specs.Prelude.{is_some, Any, Option, Some, None, ◌⊎◌}
use Rattle.rio_base.specs.Blocks.{Health}
use Rattle.rio_base.specs.Failures.{RoseBy}
use Rattle.rio_base.specs.Machine.{Running}
use Rattle.rio_base.specs.Volume.{Below, Runs}
use Rattle.rio_base.specs.Rules.{limit_trans}
use Rattle.rio_model.specs.Cover.{causes_of}
use Rattle.rio_model.specs.declared.state.State.{State}
use Rattle.rio_requests.specs.declared.reply.Reply.{Reply}
use Rattle.rio_requests.specs.declared.request.Request.{Request}
use Rattle.board.specs.Boards.{protected_count}
use Rattle.machine_bench.specs.Benches.{made_run}
use Rattle.boots.specs.declared.plan.BootPlan.{BootPlan}
use Rattle.boots.specs.declared.transcript.BootEnd.{BootEnd}
use Rattle.boots.specs.declared.transcript.BootEnd.TheVariants.{Served, Stopped, BootFault}
use Rattle.boots.specs.declared.transcript.BootRun.{BootRun}
use Rattle.boots.specs.Boots.{MayStop, RunsBoot}
use Rattle.boots.specs.Legal.{BootEnds, SetsStop, boot_faults, requests_of}
use Rattle.line_loop.specs.Strikes.{IsStrike}
use Rattle.boots.specs.Parts.{armed_run}
use Rattle.boots.proofs.Causes.{guarded_word, may_stop_before}

-- ---- causes

either : (A B C : Type 0) → (A → B) → A ⊎ C → B ⊎ C
either A B C f (inl a) = inl (f a)
either A B C f (inr c) = inr c

-- what set a stop is told by something else
pub ends_as : (end : BootEnd) (stopped : Option Request) (set told : Type 0) (s : State) (requests : List Request) (answered : List (Request × Reply)) (t : State) → (set → told) → BootEnds end stopped set s requests answered t → BootEnds end stopped told s requests answered t
ends_as Served None set told s requests answered t f h = h
ends_as Stopped (Some r) set told s requests answered t f h = record { first = h.first; mid = h.mid; leads = h.leads; last = h.last; part = h.part; left = h.left; cause = either set told (Any (IsStrike s) (requests_of answered ++ r ∷ [])) f h.cause }
ends_as Stopped None set told s requests answered t f h = (h.0, f h.1)
ends_as BootFault None set told s requests answered t f h = h
ends_as Served (Some r) set told s requests answered t f h = absurd h
ends_as BootFault (Some r) set told s requests answered t f h = absurd h

-- ---- the reboot before it

rose_before : (n a b c : ℕ) → a ≤ b → RoseBy n b c → RoseBy n a c
rose_before n a b c less (inl more) = inl (omega (arith, less, more))
rose_before n a b c less (inr most) = inr most

-- calls of a machine, and then the boot
pub runs_then : (s : State) (requests : List Request) (run : BootRun) (t : State) (h : Health) (b : Below) (g : Health) (d : Below) (i : Health) (c : Below) → Runs h b g d → RunsBoot s requests run t g d i c → RunsBoot s requests run t h b i c
runs_then s requests run t h b g d i c runs boot = record {
  ends = ends_as run.end run.stopped_on (MayStop d.causes) (MayStop b.causes) s requests run.answered t (may_stop_before h b g d runs) boot.ends;
  counted = rose_before (boot_faults run) h.faults g.faults i.faults runs.later boot.counted;
  limit = limit_trans b.limit d.limit c.limit runs.limit boot.limit;
  memory = boot.memory ∙ runs.memory;
}

-- ---- the plan

some_of : (o : Option ℕ) → is_some o ≡ true → (most : ℕ) × (o ≡ Some most)
some_of (Some most) e = (most, refl)
some_of None e = cc

no_place : (at : ℕ) → None ≡ Some at → ⊥
no_place at e = cc

same_place : (x at : ℕ) → Some x ≡ Some at → x ≡ at
same_place x at e = cc

abbrev pub planned_run : BootPlan → List ℕ → ℕ → Running
planned_run plan words scratch = armed_run plan.arm (made_run words scratch plan.stop_after)

-- the stop of a planned machine
stop_of : (arm : Option (ℕ × ℕ × ℕ)) (r : Running) → (armed_run arm r).stop_set ≡ r.stop_set
stop_of None r = refl
stop_of (Some arm) r = refl

protected_by : (arm : Option (ℕ × ℕ × ℕ)) (r : Running) → (armed_run arm r).protected ≡ r.protected
protected_by None r = refl
protected_by (Some arm) r = refl

-- it runs
runs_by : (arm : Option (ℕ × ℕ × ℕ)) (r : Running) → (armed_run arm r).stopped ≡ r.stopped
runs_by None r = refl
runs_by (Some arm) r = refl

pub planned_stopped : (plan : BootPlan) (words : List ℕ) (scratch : ℕ) → (planned_run plan words scratch).stopped ≡ false
planned_stopped plan words scratch = runs_by plan.arm (made_run words scratch plan.stop_after)

-- the wild store that is armed on it
armed_of : (arm : Option (ℕ × ℕ × ℕ)) (r : Running) (at : ℕ) → r.armed ≡ None → (armed_run arm r).armed ≡ Some at → (step : ℕ) × (value : ℕ) × (arm ≡ Some (step, at, value))
armed_of None r at none e = absurd (no_place at (sym none ∙ e))
armed_of (Some (step, place, value)) r at none e = (step, value, ap (λ x. Some (step, x, value)) (same_place place at e))

pub planned_stop : (plan : BootPlan) (words : List ℕ) (scratch : ℕ) (s : State) → protected_count words scratch ≡ 512 * (s.pages - s.scratch) → MayStop (causes_of (planned_run plan words scratch)) → SetsStop s plan
planned_stop plan words scratch s count (inl set) = inl (some_of plan.stop_after (sym (stop_of plan.arm (made_run words scratch plan.stop_after)) ∙ set))
planned_stop plan words scratch s count (inr (at, armed, low)) =
    let of_plan = armed_of plan.arm (made_run words scratch plan.stop_after) at refl armed in
    inr (of_plan.0, at, of_plan.1, of_plan.2, guarded_word s (causes_of (planned_run plan words scratch)) at (record { pages = λ p. ap (nat_lt (512 * p)) (protected_by plan.arm (made_run words scratch plan.stop_after) ∙ count) }) low)
