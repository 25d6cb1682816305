-- A lamp that lines turn on and off and look at: what they ask for, and what comes of it.
use Rattle.std.specs.Prelude.{◌≡◌, ◌≢◌, ℕ, Bool, true, false, not, List, codes, Option, Some, None}
use Rattle.rio_base.specs.Blocks.{Health}
use Rattle.rio_base.specs.Volume.{Below}
use Rattle.line_loop.specs.declared.effects.Effect.{Effect}
use Rattle.line_loop.specs.declared.effects.Effect.TheVariants.{Nothing, Changes}
use Rattle.line_loop.specs.Protocol.{Protocol}
use Rattle.part_tests.specs.declared.lamp.Switch.{Switch}
use Rattle.part_tests.specs.declared.lamp.Switch.TheVariants.{Turn, Look, Halt}
use Rattle.part_tests.specs.declared.lamp.Light.{Light}
use Rattle.part_tests.specs.declared.lamp.Light.TheVariants.{On, Off, Unknown}

abbrev pub Means : List ℕ → Option Switch → Type 0
Means line (Some Turn) = line ≡ codes "turn"
Means line (Some Look) = line ≡ codes "look"
Means line (Some Halt) = line ≡ codes "halt"
Means line None = (line ≢ codes "turn") × (line ≢ codes "look") × (line ≢ codes "halt")

abbrev pub text_of : Light → List ℕ
text_of On = codes "on\n"
text_of Off = codes "off\n"
text_of Unknown = codes "?\n"

-- what is told of a lamp
abbrev pub light_of : Bool → Light
light_of true = On
light_of false = Off

abbrev pub Step : Bool → Option Switch → Light → Bool → Type 0
Step s (Some Turn) told t = (t ≡ not s) × (told ≡ light_of t)
Step s (Some Look) told t = (t ≡ s) × (told ≡ light_of t)
Step s (Some Halt) told t = ⊥
Step s None told t = (told ≡ Unknown) × (t ≡ s)

abbrev pub Part : Bool → Switch → Bool → Type 0
Part s switch t = t ≡ s

-- answered requests do nothing to the machine below, and one alone stops it
abbrev pub Went : List (Option Switch) → List Light → Health → Below → Health → Below → Type 0
Went switches told h b i c = (i ≡ h) × (c ≡ b)

abbrev pub StoppedOn : Switch → Health → Below → Health → Below → Type 0
StoppedOn switch h b i c = (switch ≡ Halt) × (i.stopped ≡ true) × (c ≡ b)

abbrev pub lamp_protocol : Protocol Switch Light Bool
lamp_protocol = record { means = Means; text = text_of; step = Step; part = Part; went = Went; stopped_on = StoppedOn }

-- a look alone does nothing
abbrev pub effect_of : Switch → Effect
effect_of Turn = Changes
effect_of Look = Nothing
effect_of Halt = Changes

-- no machine stops a look
abbrev pub IsCalm : Below → Type 0
IsCalm b = Unit {0}

-- a machine with no disk
abbrev pub lamp_below : Below
lamp_below = record {
  roomy = true;
  home = None;
  writes = 0;
  around = None;
  causes = record { stop_set = false; armed = None; trapped = None; protected = λ _. false };
  memory = record { protected = 0; scratch = 0 };
  limit = Some 0;
}
