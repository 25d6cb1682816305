-- Commands that are found for words, which are then a form of these.
use Rattle.std.proofs.Common.{◌≡◌, ℕ, List, [], drop, Option, Result, Ok, Err, IsErrAnd, codes}
use Rattle.rio_words.specs.Clap.{Sorts}
use Rattle.rio_words.specs.Matched.{IsCheck, IsDrill, IsFormat, IsFound, IsRegistry, IsServe}
use Rattle.rio_words.specs.Tokens.{Text}
use Rattle.rio_words.specs.Words.{Begins, IsReading, Reads, drill_keys, format_keys, serve_keys}
use Rattle.rio_words.specs.declared.command.RioCommand.{RioCommand}
use Rattle.rio_words.specs.declared.command.RioCommand.TheVariants.{Format, Serve, Registry, Check, Drill}
use Rattle.rio_words.specs.declared.fail.WordsFail.{WordsFail}
use Rattle.rio_words.specs.declared.fail.WordsFail.TheVariants.{Usage, Memory}
use Rattle.rio_words.proofs.Readings.{check_read, drill_alone, drill_read, format_alone, format_read, image_ids, only_check, only_drill, only_format, only_registry, only_serve, pair_alone, pair_ids, registry_alone, registry_read, serve_alone, serve_read}

-- ---- where one part of a command is not found

pub none_format : (found : Text → Option Text) → ((image disk : Text) (frames blocks inodes scratch : ℕ) → IsFormat found (Format image disk frames blocks inodes scratch) → ⊥) → (c : RioCommand) → IsFormat found c → ⊥
none_format found none (Format image disk frames blocks inodes scratch) is = none image disk frames blocks inodes scratch is
none_format found none (Serve image disk stop) is = is
none_format found none (Registry image) is = is
none_format found none (Check image disk) is = is
none_format found none (Drill seed boots requests) is = is

pub none_serve : (found : Text → Option Text) → ((image disk : Text) (stop : Option ℕ) → IsServe found (Serve image disk stop) → ⊥) → (c : RioCommand) → IsServe found c → ⊥
none_serve found none (Format image disk frames blocks inodes scratch) is = is
none_serve found none (Serve image disk stop) is = none image disk stop is
none_serve found none (Registry image) is = is
none_serve found none (Check image disk) is = is
none_serve found none (Drill seed boots requests) is = is

pub none_registry : (found : Text → Option Text) → ((image : Text) → IsRegistry found (Registry image) → ⊥) → (c : RioCommand) → IsRegistry found c → ⊥
none_registry found none (Format image disk frames blocks inodes scratch) is = is
none_registry found none (Serve image disk stop) is = is
none_registry found none (Registry image) is = none image is
none_registry found none (Check image disk) is = is
none_registry found none (Drill seed boots requests) is = is

pub none_check : (found : Text → Option Text) → ((image disk : Text) → IsCheck found (Check image disk) → ⊥) → (c : RioCommand) → IsCheck found c → ⊥
none_check found none (Format image disk frames blocks inodes scratch) is = is
none_check found none (Serve image disk stop) is = is
none_check found none (Registry image) is = is
none_check found none (Check image disk) is = none image disk is
none_check found none (Drill seed boots requests) is = is

pub none_drill : (found : Text → Option Text) → ((seed boots requests : ℕ) → IsDrill found (Drill seed boots requests) → ⊥) → (c : RioCommand) → IsDrill found c → ⊥
none_drill found none (Format image disk frames blocks inodes scratch) is = is
none_drill found none (Serve image disk stop) is = is
none_drill found none (Registry image) is = is
none_drill found none (Check image disk) is = is
none_drill found none (Drill seed boots requests) is = none seed boots requests is

pub no_memory : (Found : RioCommand → Type 0) (r : Result RioCommand WordsFail) → IsErrAnd r (λ e. e ≡ Memory) → IsFound Found r
no_memory Found (Ok c) is = absurd is
no_memory Found (Err Usage) is = absurd (cc is)
no_memory Found (Err Memory) is = tt

-- ---- what is found is what the words read as

handed : (words : List Text) (Found : RioCommand → Type 0) → ((c : RioCommand) → Found c → Reads words c) → ((c : RioCommand) → Reads words c → Found c) → (r : Result RioCommand WordsFail)
    → IsFound Found r → IsReading words r
handed words Found reads finds (Ok c) is = reads c is
handed words Found reads finds (Err Usage) none = λ c r. none c (finds c r)
handed words Found reads finds (Err Memory) is = tt

pub format_handed : (words : List Text) (found : Text → Option Text) → Begins (codes "format") words → Sorts format_keys pair_ids (drop 1 words) found → (r : Result RioCommand WordsFail) → IsFound (IsFormat found) r → IsReading words r
format_handed words found begins s = handed words (IsFormat found) reads (only_format words begins (IsFormat found) (λ image disk frames blocks inodes scratch r. format_alone words found image disk frames blocks inodes scratch s r))
  where
    reads : (c : RioCommand) → IsFormat found c → Reads words c
    reads (Format image disk frames blocks inodes scratch) is = format_read words found image disk frames blocks inodes scratch begins s is.0 is.1
    reads (Serve image disk stop) is = absurd is
    reads (Registry image) is = absurd is
    reads (Check image disk) is = absurd is
    reads (Drill seed boots requests) is = absurd is

pub serve_handed : (words : List Text) (found : Text → Option Text) → Begins (codes "serve") words → Sorts serve_keys pair_ids (drop 1 words) found → (r : Result RioCommand WordsFail) → IsFound (IsServe found) r → IsReading words r
serve_handed words found begins s = handed words (IsServe found) reads (only_serve words begins (IsServe found) (λ image disk stop r. serve_alone words found image disk stop s r))
  where
    reads : (c : RioCommand) → IsServe found c → Reads words c
    reads (Format image disk frames blocks inodes scratch) is = absurd is
    reads (Serve image disk stop) is = serve_read words found image disk stop begins s is.0 is.1
    reads (Registry image) is = absurd is
    reads (Check image disk) is = absurd is
    reads (Drill seed boots requests) is = absurd is

pub registry_handed : (words : List Text) (found : Text → Option Text) → Begins (codes "registry") words → Sorts [] image_ids (drop 1 words) found → (r : Result RioCommand WordsFail) → IsFound (IsRegistry found) r → IsReading words r
registry_handed words found begins s = handed words (IsRegistry found) reads (only_registry words begins (IsRegistry found) (λ image r. registry_alone words found image s r))
  where
    reads : (c : RioCommand) → IsRegistry found c → Reads words c
    reads (Format image disk frames blocks inodes scratch) is = absurd is
    reads (Serve image disk stop) is = absurd is
    reads (Registry image) is = registry_read words found image begins s is
    reads (Check image disk) is = absurd is
    reads (Drill seed boots requests) is = absurd is

pub check_handed : (words : List Text) (found : Text → Option Text) → Begins (codes "check") words → Sorts [] pair_ids (drop 1 words) found → (r : Result RioCommand WordsFail) → IsFound (IsCheck found) r → IsReading words r
check_handed words found begins s = handed words (IsCheck found) reads (only_check words begins (IsCheck found) (λ image disk r. pair_alone (codes "check") words found r.0 image disk s r.1))
  where
    reads : (c : RioCommand) → IsCheck found c → Reads words c
    reads (Format image disk frames blocks inodes scratch) is = absurd is
    reads (Serve image disk stop) is = absurd is
    reads (Registry image) is = absurd is
    reads (Check image disk) is = check_read words found image disk begins s is
    reads (Drill seed boots requests) is = absurd is

pub drill_handed : (words : List Text) (found : Text → Option Text) → Begins (codes "drill") words → Sorts drill_keys [] (drop 1 words) found → (r : Result RioCommand WordsFail) → IsFound (IsDrill found) r → IsReading words r
drill_handed words found begins s = handed words (IsDrill found) reads (only_drill words begins (IsDrill found) (λ seed boots requests r. drill_alone words found seed boots requests s r))
  where
    reads : (c : RioCommand) → IsDrill found c → Reads words c
    reads (Format image disk frames blocks inodes scratch) is = absurd is
    reads (Serve image disk stop) is = absurd is
    reads (Registry image) is = absurd is
    reads (Check image disk) is = absurd is
    reads (Drill seed boots requests) is = drill_read words found seed boots requests begins s is
