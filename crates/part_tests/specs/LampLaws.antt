-- Laws of a lamp's lines.
use Rattle.std.proofs.Common.{◌≡◌, ◌≤◌, ◌<◌, ℕ, List, length, refl, ap, ◌∙◌, arith}
use Rattle.std.specs.Prelude.{Some, None}
use Rattle.line_loop.specs.Gathering.{GoesLess, RunsOn, StaysCalm, StaysStill}
use Rattle.line_loop.specs.Protocol.{GoesMore, GoesNone}
use Rattle.part_tests.specs.declared.lamp.Switch.TheVariants.{Turn, Look, Halt}
use Rattle.part_tests.specs.Lamps.{IsCalm, Means, effect_of, lamp_below, lamp_protocol}

pub lamp_long : (line : List ℕ) → 4194304 < length line → Means line None
lamp_long line long = (
  λ turn. let e : length line ≡ 4 = ap length turn in absurd (omega (arith, e, long)),
  λ look. let e : length line ≡ 4 = ap length look in absurd (omega (arith, e, long)),
  λ halt. let e : length line ≡ 4 = ap length halt in absurd (omega (arith, e, long)),
)

pub lamp_none : GoesNone lamp_protocol
lamp_none h b = (refl, refl)

pub lamp_more : GoesMore lamp_protocol
lamp_more switches told switch light h b i c j d one two = (two.0 ∙ one.0, two.1 ∙ one.1)

pub lamp_less : GoesLess lamp_protocol effect_of
lamp_less n switches told h b i c quiet went = went

pub lamp_still : StaysStill lamp_protocol effect_of
lamp_still s t None light quiet step = step.1
lamp_still s t (Some Turn) light quiet step = cc
lamp_still s t (Some Look) light quiet step = step.0
lamp_still s t (Some Halt) light quiet step = absurd step

pub lamp_calm : StaysCalm lamp_protocol effect_of IsCalm
lamp_calm switch light h b i c other calm went = tt

pub lamp_runs : RunsOn lamp_protocol effect_of IsCalm
lamp_runs Turn h b i c quiet calm stopped = cc
lamp_runs Look h b i c quiet calm stopped = let e = stopped.0 in cc
lamp_runs Halt h b i c quiet calm stopped = cc

pub lamp_limited : (most : ℕ) → lamp_below.limit ≡ Some most → 0 ≤ most
lamp_limited most is = omega arith
