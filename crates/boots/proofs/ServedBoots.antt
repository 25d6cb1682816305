-- A boot that was served over a core: its machine stands for what the boot leads to.
use Rattle.std.proofs.Common.{◌≡◌, ◌≤◌, ◌+◌, ◌-◌, ◌*◌, ℕ, nat_lt, List, [], ◌∷◌, length, refl, ap, subst, ◌∙◌, inl, inr, arith}
use Rattle.std.specs.Prelude.{map, Option, Some, None}
use Rattle.rio_base.specs.Blocks.{Health, Seen}
use Rattle.rio_base.specs.Failures.{RoseBy}
use Rattle.rio_base.specs.Machine.{Contents, Running}
use Rattle.rio_base.specs.Rules.{limit_trans}
use Rattle.rio_base.specs.Volume.{Below, Kept, Settled}
use Rattle.rio_base.specs.declared.places.VolumeShape.{VolumeShape}
use Rattle.rio_model.specs.declared.state.State.{State}
use Rattle.rio_model.specs.Standing.{StandsFor}
use Rattle.rio_requests.proofs.AnswerRules.{KeepsSizes, step_keeps}
use Rattle.rio_requests.specs.Crash.{crashed}
use Rattle.rio_requests.specs.Run.{Run}
use Rattle.rio_requests.specs.Went.{faults_in}
use Rattle.rio_requests.specs.declared.reply.Reply.{Reply}
use Rattle.rio_requests.specs.declared.request.Request.{Request}
use Rattle.request_ends.specs.Ends.{Stands}
use Rattle.vista_region.specs.Marks.{Marks}
use Rattle.cached_pages.specs.Caches.{Tells, cache_below, cache_health, cache_kept, cache_seen}
use Rattle.cached_pages.specs.declared.tables.CacheTables.{CacheTables}
use Rattle.pair_files.specs.Scenes.{IsBooted}
use Rattle.rio_core.specs.Serving.{Holds}
use Rattle.rio_core.proofs.Machines.{recovered_holds, stands_held, stands_stopped}
use Rattle.rio_core.proofs.Sizes.{FitsMemory, fits_then, keeps_then, part_keeps}
use Rattle.boots.specs.Boots.{RunsBoot, ServesThese, run_served}
use Rattle.boots.specs.Legal.{replies_of, requests_of}
use Rattle.boots.proofs.Causes.{Guards, stop_cause}

-- ---- a core over the cache that a reboot left

pub booted_holds : (shape : VolumeShape) (c : Contents) (r : Running) (t : CacheTables) (s : State) → IsBooted shape c r t s → Holds shape (cache_seen c) (cache_kept c t) (cache_health c r) (cache_below c r) [] s
booted_holds shape c r t s h = recovered_holds shape c r t s h.reads h.ready h.recovered h.running h.pages h.scratch

-- ---- sizes

lead_keeps : (s : State) (requests : List Request) (replies : List Reply) (t : State) → Run s (map Some requests) replies t → KeepsSizes s t
lead_keeps s [] [] t same = record { shape = ap (λ (x : State). x.shape) same; pages = ap (λ (x : State). x.pages) same; scratch = ap (λ (x : State). x.scratch) same }
lead_keeps s (r ∷ requests) (reply ∷ replies) t (mid, step, run) = keeps_then s mid t (step_keeps s r reply mid step) (lead_keeps mid requests replies t run)
lead_keeps s [] (reply ∷ replies) t none = absurd none
lead_keeps s (r ∷ requests) [] t none = absurd none

-- the protected pages of a machine are those of a state that fits it
pub guards_machine : (s : State) (c : Contents) (r : Running) → FitsMemory s (cache_below c r) → Guards s (cache_below c r).causes
guards_machine s c r fits =
    let count : r.protected ≡ 512 * (s.pages - s.scratch) = let pages = fits.pages in let own = fits.scratch in omega (arith, pages, own) in
    record { pages = λ p. ap (nat_lt (512 * p)) count }

-- ---- counts

rose_then : (n a b c : ℕ) → RoseBy n a b → b ≤ c → RoseBy n a c
rose_then n a b c (inl more) less = inl (omega (arith, more, less))
rose_then n a b c (inr top) less = inr (omega (arith, top, less))

-- the end tells of no fault
none_more : (n a b : ℕ) → RoseBy n a b → RoseBy (n + 0) a b
none_more n a b h = let e : n ≡ n + 0 = omega arith in subst (λ k. RoseBy k a b) e h

-- ---- the machine

-- the boot as it is on the machine below
on_machine : (m : Contents) (r : Running) (x : Seen) (k : Kept) (s : State) (requests : List Request) (answered : List (Request × Reply)) (stopped : Option Request) (t : State) (h : Health) (b : Below) (i : Health) (c : Below) → Tells m r x i c k → RunsBoot s requests (run_served answered stopped) t h b i c → RunsBoot s requests (run_served answered stopped) t h b (cache_health m r) (cache_below m r)
on_machine m r x k s requests answered stopped t h b i c tells run = subst (λ (d : Below). RunsBoot s requests (run_served answered stopped) t h b (cache_health m r) d) tells.below (subst (λ (g : Health). RunsBoot s requests (run_served answered stopped) t h b g c) tells.health run)

-- x and k are the volume afterwards, and marks its table of transactions; m and r are its machine
pub served_boot : (m : Contents) (r : Running) (shape : VolumeShape) (x : Seen) (k : Kept) (marks : Marks) (s : State) (requests : List Request) (answered : List (Request × Reply)) (stopped : Option Request) (h : Health) (b : Below) (i : Health) (c : Below)
    → Settled x k → r.protected ≡ length m.words → Tells m r x i c k → FitsMemory s b → Guards s b.causes
    → ServesThese (Holds shape x k i c marks) (λ t. Stands shape x k (crashed t)) s requests answered stopped h b i c
    → (t : State) × RunsBoot s requests (run_served answered stopped) t h b (cache_health m r) (cache_below m r) × StandsFor m (length r.scratch) t
served_boot m r shape x k marks s requests answered None h b i c settled size tells fits guards (u, holds, whole, so) = (
  crashed u,
  on_machine m r x k s requests answered None (crashed u) h b i c tells (record {
    ends = record { whole = whole; last = u; leads = so.leads; left = refl };
    counted = none_more (faults_in (replies_of answered)) h.faults i.faults so.went.counted;
    limit = so.went.lasts.limit;
    memory = so.went.lasts.memory;
  }),
  stands_held m r shape x i c k marks u settled size tells (fits_then s u b c fits (lead_keeps s (requests_of answered) (replies_of answered) u so.leads) so.went.lasts.memory) holds,
)
served_boot m r shape x k marks s requests answered (Some q) h b i c settled size tells fits guards (u, stands, meets) = (
  crashed u,
  on_machine m r x k s requests answered (Some q) (crashed u) h b i c tells (record {
    ends = record {
      first = meets.first;
      mid = meets.mid;
      leads = meets.before.leads;
      last = u;
      part = meets.part;
      left = refl;
      cause = stop_cause s meets.mid answered q h b meets.health meets.below i c guards meets.before meets.stopped;
    };
    counted = none_more (faults_in (replies_of answered)) h.faults i.faults (rose_then (faults_in (replies_of answered)) h.faults meets.health.faults i.faults meets.before.went.counted meets.stopped.later);
    limit = limit_trans b.limit meets.below.limit c.limit meets.before.went.lasts.limit meets.stopped.lasts.limit;
    memory = meets.stopped.lasts.memory ∙ meets.before.went.lasts.memory;
  }),
  stands_stopped m r shape x i c k u size tells (fits_then s u b c fits (keeps_then s meets.mid u (lead_keeps s (requests_of answered) (replies_of answered) meets.mid meets.before.leads) (part_keeps meets.mid q u meets.part)) (meets.stopped.lasts.memory ∙ meets.before.went.lasts.memory)) stands,
)
