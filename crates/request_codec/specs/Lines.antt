-- The lines of an input, and how a reader takes them one by one.
use Rattle.std.specs.Prelude.{ℕ, ◌≡◌, ◌≢◌, ◌<◌, ◌≤◌, ◌+◌, ◌∷◌, ◌++◌, ◌^◌, ◌⊎◌, Bool, List, [], true, false, length, Option}
use Rattle.std.specs.Bool.{MatchBool}
use Rattle.rio_base.specs.Bytes.{pieces, Lacks}
use Rattle.rio_base.specs.Streams.{prepended, IsSpent}
use Rattle.request_codec.specs.declared.lines.NextLine.{NextLine}
use Rattle.request_codec.specs.declared.lines.NextLine.TheVariants.{Line, TooLong, End}
use Rattle.request_codec.specs.declared.lines.LineFail.{LineFail}
use Rattle.request_codec.specs.declared.lines.LineFail.TheVariants.{Fault, Limit, Memory}

-- the bytes that it holds, how many it took in all, and whether the source told it that the input has ended
pub record Reading : Type 0 where
  pub held : List ℕ
  pub taken : ℕ
  pub ended : Bool

-- ---- the lines of an input

-- the pieces between bytes 0x0a, the last one only where it isn't empty
abbrev pub lines : List ℕ → List (List ℕ)
lines bytes = pieces 10 bytes

-- a line with its end
abbrev pub ended : List ℕ → List ℕ
ended line = line ++ 10 ∷ []

-- no line ends in these bytes
abbrev pub HasNoEnd : List ℕ → Type 0
HasNoEnd bytes = Lacks 10 bytes

-- Between these two readings the source gave bytes, and the reader passed over `eaten`: what it held and what it was
-- given is `eaten` and then what it holds now.
pub record Passes (old : Reading) (old_left : Option (List ℕ)) (eaten : List ℕ) (new : Reading) (new_left : Option (List ℕ)) : Type 0 where
  pub given : List ℕ
  pub gave : old_left ≡ prepended given new_left
  pub split : old.held ++ given ≡ eaten ++ new.held
  pub count : new.taken ≡ old.taken + length given

-- the input has ended: nothing is held and nothing is left
pub record HasEnded (reading : Reading) (left : Option (List ℕ)) : Type 0 where
  pub told : reading.ended ≡ true
  pub empty : reading.held ≡ []
  pub spent : IsSpent left

-- The reader passed over one line: with its end, or, where the input ends without one, what was left of it.
pub record TakesLine (old : Reading) (old_left : Option (List ℕ)) (line : List ℕ) (new : Reading) (new_left : Option (List ℕ)) : Type 0 where
  pub whole : HasNoEnd line
  pub passed : Passes old old_left (ended line) new new_left
      ⊎ (Passes old old_left line new new_left × (line ≢ []) × HasEnded new new_left)

-- The reader holds the next line up to its end.
pub record HoldsLine (reading : Reading) (line : List ℕ) : Type 0 where
  pub whole : HasNoEnd line
  pub short : length line ≤ 131072
  pub rest : List ℕ
  pub held : reading.held ≡ ended line ++ rest
  pub unended : reading.ended ≡ false

-- The reader passed over bytes in which no line ends.
pub record TakesPart (old : Reading) (old_left : Option (List ℕ)) (part : List ℕ) (new : Reading) (new_left : Option (List ℕ)) : Type 0 where
  pub whole : HasNoEnd part
  pub passed : Passes old old_left part new new_left

-- What next_line gave, by what the reader passed over.
abbrev pub Gives : Reading → Option (List ℕ) → NextLine → Reading → Option (List ℕ) → Type 0
Gives old old_left (Line line) new new_left = TakesLine old old_left line new new_left × (length line ≤ 4194304)
Gives old old_left TooLong new new_left = (line : List ℕ) × TakesLine old old_left line new new_left × (4194304 < length line)
Gives old old_left End new new_left = Passes old old_left [] new new_left × HasEnded new new_left

-- Past the limit: what was left of a line, and one byte more. 2^40 bytes and that one were taken, and none is held.
pub record RunsOver (old : Reading) (old_left : Option (List ℕ)) (new : Reading) (new_left : Option (List ℕ)) : Type 0 where
  pub part : List ℕ
  pub extra : ℕ
  pub whole : HasNoEnd part
  pub passed : Passes old old_left (part ++ extra ∷ []) new new_left
  pub empty : new.held ≡ []
  pub taken : new.taken ≡ 2 ^ 40 + 1

-- What the reader passed over where it gave no line: bytes in which none ends. Nothing is held after a fault.
abbrev pub Fails : Reading → Option (List ℕ) → LineFail → Reading → Option (List ℕ) → Type 0
Fails old old_left Fault new new_left = (part : List ℕ) × TakesPart old old_left part new new_left × (new.held ≡ []) × (new.taken ≤ 2 ^ 40)
Fails old old_left Limit new new_left = RunsOver old old_left new new_left
Fails old old_left Memory new new_left = (part : List ℕ) × TakesPart old old_left part new new_left × (new.taken ≤ 2 ^ 40)

-- A further piece was read, or the input has ended.
abbrev pub Refills : Reading → Option (List ℕ) → Bool → Reading → Option (List ℕ) → Type 0
Refills old old_left more new new_left = Passes old old_left [] new new_left × (new.taken ≤ 2 ^ 40)
    × MatchBool more ((old.taken < new.taken) × (new.ended ≡ false)) (HasEnded new new_left)
