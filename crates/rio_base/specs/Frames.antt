-- What a call supposes of its object and what it leaves of it, as one record for each kind of call. The members of a trait are
-- given as functions of the object: x is the object before the call, y the same object after it. `fault` is that the call tells a
-- fault, and `stop` that it tells a stop.
use Rattle.std.specs.Prelude.{◌≡◌, ℕ, None, Result, IsErrOf}
use Rattle.rio_base.specs.declared.places.VolumeShape.{VolumeShape}
use Rattle.rio_base.specs.declared.failures.VolFail.{VolFail}
use Rattle.rio_base.specs.declared.failures.VolFail.TheVariants.{Fault, Stopped}
use Rattle.rio_base.specs.declared.failures.ReadFail.{ReadFail}
use Rattle.rio_base.specs.declared.failures.ReadFail.TheVariants.{Fault as ReadFault, Stopped as ReadStopped}
use Rattle.rio_base.specs.Blocks.{EndsBy, Health, Looks, Seen}
use Rattle.rio_base.specs.Machine.{Contents, FaultCause, Lasts, Running, StepEnds}
use Rattle.rio_base.specs.Shapes.{HasShape}
use Rattle.rio_base.specs.Volume.{Below, Firm, Goes, Kept, SameUpdate}

-- ---- calls that only read, over `Blocks`

-- the object is sound, and its blocks are as the call asks
pub record CanRead {V : Type 0} (seen : V → Seen) (sound : V → Type 0) (asks : Seen → Type 0) (v : V) : Type 0 where
  pub keeps : sound v
  pub meets : asks (seen v)

-- the object was only read: `look` is so of its blocks before and after, a fault and a stop have their causes, and it is sound
pub record HasRead {V : Type 0} (seen : V → Seen) (health : V → Health) (sound : V → Type 0) (passes : V → V → Type 0) (look : Seen → Seen → Type 0) (x y : V) (fault stop : Type 0) : Type 0 where
  pub looks : look (seen x) (seen y)
  pub passed : passes x y
  pub ends : EndsBy (health x) (health y) fault stop
  pub keeps : sound y

-- the same of a call that has this answer
abbrev pub ReadBy : {V T : Type 0} → (V → Seen) → (V → Health) → (V → Type 0) → (V → V → Type 0) → (Seen → Seen → Type 0) → V → V → Result T VolFail → Type 0
ReadBy seen health sound passes look x y r = HasRead seen health sound passes look x y (IsErrOf r Fault) (IsErrOf r Stopped)

-- and of a call that takes memory too
abbrev pub FilledBy : {V T : Type 0} → (V → Seen) → (V → Health) → (V → Type 0) → (V → V → Type 0) → (Seen → Seen → Type 0) → V → V → Result T ReadFail → Type 0
FilledBy seen health sound passes look x y r = HasRead seen health sound passes look x y (IsErrOf r ReadFault) (IsErrOf r ReadStopped)

-- nothing reads otherwise, and the volume still has this shape
pub record LooksShaped (shape : VolumeShape) (s t : Seen) : Type 0 where
  pub looks : Looks s t
  pub has_shape : HasShape shape t

-- ---- the same, told of a volume

-- what stands and the open update are as before, no block becomes loose, and the machine below goes on as in every call but flush
pub record HasServed {V : Type 0} (seen : V → Seen) (health : V → Health) (below : V → Below) (kept : V → Kept) (sound : V → Type 0) (look : Seen → Seen → Type 0) (x y : V) (fault stop : Type 0) : Type 0 where
  pub looks : look (seen x) (seen y)
  pub standing : (kept y).standing ≡ (kept x).standing
  pub firm : Firm (kept x) (kept y)
  pub update : SameUpdate (kept x) (kept y)
  pub goes : Goes (health x) (below x) (health y) (below y)
  pub ends : EndsBy (health x) (health y) fault stop
  pub keeps : sound y

-- ---- calls that change a volume

-- `step` is so of the volume before and after, no block becomes loose, the machine below goes on as in every call but flush, a
-- fault and a stop have their causes, and the volume is sound
pub record HasChanged {V : Type 0} (health : V → Health) (below : V → Below) (kept : V → Kept) (sound : V → Type 0) (step : V → V → Type 0) (x y : V) (fault stop : Type 0) : Type 0 where
  pub made : step x y
  pub firm : Firm (kept x) (kept y)
  pub goes : Goes (health x) (below x) (health y) (below y)
  pub ends : EndsBy (health x) (health y) fault stop
  pub keeps : sound y

-- ---- calls on a machine

-- no page is open, lengths stay and counts do not fall, and a fault and a stop have their causes
pub record MachineStep {M : Type 0} (contents : M → Contents) (run : M → Running) (x y : M) (fault stop : Type 0) : Type 0 where
  pub closed : (contents y).open_page ≡ None
  pub lasts : Lasts (contents x) (contents y)
  pub cause : FaultCause (contents x) (contents y) fault
  pub ends : StepEnds (run x) (run y) stop

-- ---- calls on a region's words

-- what every call on a region's words leaves so: all beside these words, that it stands on a region, how many words that
-- has, and how the machine below goes on
pub record Stays {S : Type 0} (keeps : S → S → Type 0) (stands : S → Type 0) (size : S → ℕ) (health : S → Health) (below : S → Below) (x y : S) : Type 0 where
  pub rest : keeps x y
  pub ready : stands y
  pub count : size y ≡ size x
  pub goes : Goes (health x) (below x) (health y) (below y)
