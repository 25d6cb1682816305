-- A text on its way to a sink: part of it may be written already while the rest is still held.
use Rattle.std.specs.Prelude.{◌≡◌, ◌≤◌, ℕ, List, ◌++◌, Option, Result, IfOk, OnOk, OnErr, length, take}
use Rattle.rio_base.specs.Failures.{Rose}
use Rattle.rio_base.specs.Streams.{appended}

-- The sink took the front of these bytes, and this rest of them is left.
pub record Took (before : Option (List ℕ)) (bytes : List ℕ) (after : Option (List ℕ)) (rest : List ℕ) : Type 0 where
  pub front : List ℕ
  pub wrote : after ≡ appended before front
  pub whole : front ++ rest ≡ bytes

-- Of what was held and the text behind it, the sink took the front, and the rest is held. No call failed.
pub record Sent (before : Option (List ℕ)) (faults_before : ℕ) (held_before text : List ℕ) (after : Option (List ℕ)) (faults_after : ℕ) (held_after : List ℕ) : Type 0 where
  pub took : Took before (held_before ++ text) after held_after
  pub steady : faults_after ≡ faults_before

-- Of what was held and the text behind it, the sink took a front, and then a call failed.
pub record IsCutOff (before : Option (List ℕ)) (faults_before : ℕ) (held_before text : List ℕ) (after : Option (List ℕ)) (faults_after : ℕ) : Type 0 where
  pub lost : List ℕ
  pub took : Took before (held_before ++ text) after lost
  pub later : faults_before ≤ faults_after
  pub rose : Rose faults_before faults_after

-- A text is sent on: all of it where the call answers Ok, a front of it at an Err.
pub record Sends {T E : Type 0} (answer : Result T E) (before : Option (List ℕ)) (faults_before : ℕ) (held_before text : List ℕ) (after : Option (List ℕ)) (faults_after : ℕ) (held_after : List ℕ) : Type 0 where
  pub ok : OnOk answer (Sent before faults_before held_before text after faults_after held_after)
  pub err : OnErr answer (IsCutOff before faults_before held_before text after faults_after)

-- so many bytes in front of the room are held
pub record Holds (before : Option (List ℕ)) (faults_before : ℕ) (held_before text : List ℕ) (after : Option (List ℕ)) (faults_after : ℕ) (room : List ℕ) (held : ℕ) : Type 0 where
  pub fits : held ≤ length room
  pub sent : Sent before faults_before held_before text after faults_after (take held room)

-- A text is put behind what was held: at an Ok the answer says how much of the room is held now. An Err is as in Sends.
pub record Puts {E : Type 0} (answer : Result ℕ E) (before : Option (List ℕ)) (faults_before : ℕ) (held_before text : List ℕ) (after : Option (List ℕ)) (faults_after : ℕ) (room : List ℕ) : Type 0 where
  pub ok : IfOk answer (Holds before faults_before held_before text after faults_after room)
  pub err : OnErr answer (IsCutOff before faults_before held_before text after faults_after)
