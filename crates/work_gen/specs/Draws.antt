-- Draws from one number, and how a boot of a drill ends, as it is drawn.
use Rattle.std.specs.Prelude.{ℕ, ◌+◌, ◌*◌, ◌/◌, ◌%◌, ◌==◌, if◌then◌else◌}
use Rattle.block_disk.specs.declared.disk_choice.DiskChoice.{DiskChoice}
use Rattle.block_disk.specs.declared.disk_choice.DiskChoice.TheVariants.{AsRead, AsSynced, Filled}
use Rattle.work_gen.specs.declared.boot_draw.BootDraw.{BootDraw}

-- what is drawn: the number that the generator has afterwards, and what it gives
abbrev pub Drawn : Type 0 → Type 0
Drawn T = ℕ × T

-- the number after a draw
abbrev pub next : ℕ → ℕ
next x = (1103515245 * x + 12345) % 2147483648

unfoldable pub draw : ℕ → Drawn ℕ
draw x = (next x, next x / 65536)

-- ---- how a boot ends

-- what pending blocks hold after the stop, chosen by a number below 3
abbrev pub choice_of : ℕ → DiskChoice
choice_of k = if k == 0 then AsRead else if k == 1 then AsSynced else Filled 165

-- six draws from the number x on. A drill's memory has 143,360 words
abbrev pub boot : ℕ → Drawn BootDraw
boot x =
    let d1 = draw x in
    let d2 = draw d1.0 in
    let d3 = draw d2.0 in
    let d4 = draw d3.0 in
    let d5 = draw d4.0 in
    let d6 = draw d5.0 in (
      d6.0,
      record {
        stop_after = 16 * d1.1 + d2.1 % 16;
        arm_step = 16 * d3.1;
        arm_at = (32768 * d4.1 + d5.1) % 143360;
        choice = choice_of (d6.1 % 3);
      },
    )
