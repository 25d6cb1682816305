-- How serving lines on a machine ends: as the loop of lines tells it, or with a wild store that trapped.
use Rattle.std.specs.Prelude.{ℕ, Option, Some, None}
use Rattle.rio_base.specs.declared.places.WordAt.{WordAt}
use Rattle.line_loop.specs.declared.ends.LinesEnd.{LinesEnd}
use Rattle.line_loop.specs.declared.ends.LinesEnd.TheVariants.{Ended, Trapped}
use Rattle.line_loop.specs.declared.ends.ServeEnd.{ServeEnd}
use Rattle.line_loop.specs.declared.ends.ServeEnd.TheVariants.{Stopped}

-- the end of the loop of lines
abbrev pub loop_end : LinesEnd → ServeEnd
loop_end (Ended end) = end
loop_end (Trapped at) = Stopped

-- the place of the wild store that is told to have trapped
abbrev pub trap_of : LinesEnd → Option ℕ
trap_of (Ended end) = None
trap_of (Trapped at) = Some at.0

-- how an end of the loop is told, and the place of the store that trapped, if one did
abbrev pub told_end : ServeEnd → Option WordAt → LinesEnd
told_end Stopped (Some at) = Trapped at
told_end end trapped = Ended end
