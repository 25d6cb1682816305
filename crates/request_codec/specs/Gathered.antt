-- A line while it is gathered: its bytes, or only that they are more than a request may have.
use Rattle.std.specs.Prelude.{◌≡◌, ◌≢◌, ◌<◌, ◌≤◌, ◌++◌, ℕ, Bool, List, [], length}
use Rattle.std.specs.Bool.{MatchBool}
use Rattle.request_codec.specs.Lines.{HasNoEnd, ended}
use Rattle.request_codec.specs.declared.gathered.Gathered.{Gathered}
use Rattle.request_codec.specs.declared.lines.NextLine.{NextLine}
use Rattle.request_codec.specs.declared.lines.NextLine.TheVariants.{Line, TooLong, End}

-- what is kept of this line
abbrev pub Keeps : Gathered → List ℕ → Type 0
Keeps kept line = MatchBool kept.too_long (4194304 < length line) ((kept.bytes.items ≡ line) × (length line ≤ 4194304))

-- the line is given as it is, or as one that is too long
abbrev pub IsKept : List ℕ → NextLine → Type 0
IsKept line (Line bytes) = (bytes ≡ line) × (length line ≤ 4194304)
IsKept line TooLong = 4194304 < length line
IsKept line End = ⊥

-- where the input ended the last line is given so too, but a line of no bytes is none
abbrev pub IsKeptLast : List ℕ → NextLine → Type 0
IsKeptLast line (Line bytes) = IsKept line (Line bytes) × (line ≢ [])
IsKeptLast line TooLong = IsKept line TooLong × (line ≢ [])
IsKeptLast line End = line ≡ []

-- Of the bytes held, `part` was gathered: up to a line end, which is passed over too, or all of them.
pub record GathersPart (old new part : List ℕ) (before after : Gathered) (found : Bool) : Type 0 where
  pub whole : HasNoEnd part
  pub held : MatchBool found (old ≡ ended part ++ new) ((old ≡ part) × (new ≡ []))
  pub kept : (line : List ℕ) → Keeps before line → Keeps after (line ++ part)

abbrev pub Gathers : List ℕ → Gathered → Bool → List ℕ → Gathered → Type 0
Gathers old before found new after = (part : List ℕ) × GathersPart old new part before after found
