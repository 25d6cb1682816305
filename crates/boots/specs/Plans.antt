-- The plan of a drill: what its boots serve and how each ends, drawn from its seed on.
use Rattle.std.specs.Prelude.{ℕ, zero, suc, ◌+◌, ◌-◌, ◌^◌, ◌/◌, ◌%◌, ◌==◌, List, [], ◌∷◌, Some, None, if◌then◌else◌, nat_le}
use Rattle.block_disk.specs.declared.disk_choice.DiskChoice.TheVariants.{AsRead}
use Rattle.boots.specs.declared.plan.BootPlan.{BootPlan}
use Rattle.boots.specs.declared.plan.LivePlan.{LivePlan}
use Rattle.rio_requests.specs.declared.request.Request.{Request}
use Rattle.work_gen.specs.Draws.{Drawn, boot}
use Rattle.work_gen.specs.Requests.{request}

-- a word with all bits set
abbrev pub all_bits : ℕ
all_bits = 2 ^ 64 - 1

-- how many of the requests boot j has, from 1: as many as the others, and one more where the division leaves some
abbrev pub share : (boots requests j : ℕ) → ℕ
share boots requests j = requests / boots + (if nat_le j (requests % boots) then 1 else 0)

-- so many requests, from the number x on
abbrev pub some_requests : (count x : ℕ) → Drawn (List Request)
some_requests zero x = (x, [])
some_requests (suc count) x =
    let first = request x in
    let rest = some_requests count first.0 in
    (rest.0, first.1 ∷ rest.1)

-- the last boot: nothing befalls it
abbrev pub last_boot : (count x : ℕ) → Drawn BootPlan
last_boot count x =
    let drawn = some_requests count x in
    (drawn.0, record { requests = drawn.1; stop_after = None; arm = None; fail = []; choice = AsRead })

-- a boot that another one follows: it is drawn how it ends, and then its requests
abbrev pub cut_boot : (count x : ℕ) → Drawn BootPlan
cut_boot count x =
    let end = boot x in
    let drawn = some_requests count end.0 in (
      drawn.0,
      record {
        requests = drawn.1;
        stop_after = Some end.1.stop_after;
        arm = Some (end.1.arm_step, end.1.arm_at, all_bits);
        fail = [];
        choice = end.1.choice;
      },
    )

-- a boot that so many follow
abbrev pub boot_plan : (following count x : ℕ) → Drawn BootPlan
boot_plan following count x = if following == 0 then last_boot count x else cut_boot count x

-- the last so many of a drill's boots, from the number x on
abbrev pub last_boots : (boots requests left x : ℕ) → List BootPlan
last_boots boots requests zero x = []
last_boots boots requests (suc left) x =
    let plan = boot_plan left (share boots requests (boots - left)) x in
    plan.1 ∷ last_boots boots requests left plan.0

-- a drill of so many boots and requests: 280 pages of memory, and a disk of 32 MiB
abbrev pub plan_of : (seed boots requests : ℕ) → LivePlan
plan_of seed boots requests = record { frames = 256; blocks = 8192; inodes = 1024; scratch = 4; boots = last_boots boots requests boots seed }
