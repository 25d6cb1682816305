-- What the next line of an input asks for, or why there is none.
use Rattle.std.specs.Prelude.{◌≡◌, ◌≢◌, ◌≤◌, ◌^◌, ◌⊎◌, ℕ, true, false, List, [], Option}
use Rattle.request_codec.specs.declared.lines.NextLine.TheVariants.{End as NoLine}
use Rattle.request_codec.specs.declared.lines.LineFail.TheVariants.{Fault, Limit}
use Rattle.request_codec.specs.Lines.{Fails, Gives, HasEnded, Passes, Reading, TakesLine}
use Rattle.request_codec.specs.Sending.{IsCutOff, Sent}
use Rattle.line_loop.specs.declared.ends.ServeEnd.{ServeEnd}
use Rattle.line_loop.specs.declared.ends.ServeEnd.TheVariants.{End, SourceFault, SinkFault, InputLimit, Memory, Stopped}

-- a line was taken, and it asks for this
pub record AsksFor {Request : Type 0} (means : List ℕ → Option Request → Type 0) (old : Reading) (left : Option (List ℕ)) (request : Option Request) (new : Reading) (left_after : Option (List ℕ)) : Type 0 where
  pub line : List ℕ
  pub takes : TakesLine old left line new left_after
  pub asks : means line request
  pub unended : old.ended ≡ false
  pub within : new.taken ≤ 2 ^ 40
  pub closed : new.ended ≡ true → HasEnded new left_after

-- there was no memory for the line, of which this part was taken
pub record LacksLine (old : Reading) (left : Option (List ℕ)) (new : Reading) (left_after : Option (List ℕ)) : Type 0 where
  pub part : List ℕ
  pub passed : Passes old left part new left_after
  pub unended : old.ended ≡ false
  pub within : new.taken ≤ 2 ^ 40

-- why no line was taken
abbrev pub Stops : Reading → Option (List ℕ) → ServeEnd → Reading → Option (List ℕ) → Type 0
Stops old left End new left_after = Gives old left NoLine new left_after × (new.taken ≤ 2 ^ 40)
Stops old left SourceFault new left_after = Fails old left Fault new left_after × (old.ended ≡ false)
Stops old left InputLimit new left_after = Fails old left Limit new left_after × (old.ended ≡ false)
Stops old left Memory new left_after = LacksLine old left new left_after
Stops old left SinkFault new left_after = ⊥
Stops old left Stopped new left_after = ⊥

-- the sink refused what waited, of which it took a front
pub record Refuses (written : Option (List ℕ)) (faults : ℕ) (waiting : List ℕ) (written_after : Option (List ℕ)) (faults_after : ℕ) : Type 0 where
  pub some : waiting ≢ []
  pub cut : IsCutOff written faults waiting [] written_after faults_after

-- how asking ends where no line is given: the sink refused what waited, and the source was not asked; or what waited is written
abbrev pub AskEnds : Reading → Option (List ℕ) → ServeEnd → Reading → Option (List ℕ) → Option (List ℕ) → ℕ → List ℕ → Option (List ℕ) → ℕ → Type 0
AskEnds old left end new left_after written faults waiting written_after faults_after =
    ((end ≡ SinkFault) × (new ≡ old) × (left_after ≡ left) × Refuses written faults waiting written_after faults_after)
    ⊎ (Stops old left end new left_after × Sent written faults waiting [] written_after faults_after [])
