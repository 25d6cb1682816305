-- The command that is found for words, where `found` is what stands for each key and each file.
use Rattle.std.specs.Prelude.{Option, Result, Ok, Err, codes, ⊤}
use Rattle.rio_words.specs.Words.{AreFiles, HasDrill, HasSizes, IsFile, MayHaveNumber}
use Rattle.rio_words.specs.Tokens.{Text}
use Rattle.rio_words.specs.declared.command.RioCommand.{RioCommand}
use Rattle.rio_words.specs.declared.command.RioCommand.TheVariants.{Format, Serve, Registry, Check, Drill}
use Rattle.rio_words.specs.declared.fail.WordsFail.{WordsFail}
use Rattle.rio_words.specs.declared.fail.WordsFail.TheVariants.{Usage, Memory}

abbrev pub IsFormat : (Text → Option Text) → RioCommand → Type 0
IsFormat found (Format image disk frames blocks inodes scratch) = AreFiles found image disk × HasSizes found frames blocks inodes scratch
IsFormat found _ = ⊥

abbrev pub IsServe : (Text → Option Text) → RioCommand → Type 0
IsServe found (Serve image disk stop) = AreFiles found image disk × MayHaveNumber found (codes "stop") stop
IsServe found _ = ⊥

abbrev pub IsRegistry : (Text → Option Text) → RioCommand → Type 0
IsRegistry found (Registry image) = IsFile found (codes "image") image
IsRegistry found _ = ⊥

abbrev pub IsCheck : (Text → Option Text) → RioCommand → Type 0
IsCheck found (Check image disk) = AreFiles found image disk
IsCheck found _ = ⊥

abbrev pub IsDrill : (Text → Option Text) → RioCommand → Type 0
IsDrill found (Drill seed boots requests) = HasDrill found seed boots requests
IsDrill found _ = ⊥

-- the answer: a command that is found, or usage only where none is
abbrev pub IsFound : (RioCommand → Type 0) → Result RioCommand WordsFail → Type 0
IsFound Found (Ok command) = Found command
IsFound Found (Err Usage) = (command : RioCommand) → Found command → ⊥
IsFound Found (Err Memory) = ⊤
