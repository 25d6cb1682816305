-- What a run of a command comes to, and what its status says.
use Rattle.std.proofs.Common.{◌≡◌, ◌≢◌, ◌<◌, ◌≤◌, ◌^◌, ◌∙◌, ◌&&◌, ◌||◌, ℕ, Bool, true, false, not, List, [], ◌∷◌, length, sym, subst, inl, inr, arith}
use Rattle.std.specs.Prelude.{Option, Some, None, Err, ◌⊎◌}
use Rattle.std.specs.Str.{bytes_eq}
use Rattle.std.proofs.lemmas.Slice.Eq.{bytes_eq-Decides}
use Rattle.rio_base.specs.Hosts.{IsAbsent}
use Rattle.rio_base.specs.Image.{AreImageSizes}
use Rattle.rio_base.specs.Shapes.{IsServed}
use Rattle.rio_words.specs.Tokens.{Text, are_different}
use Rattle.rio_words.specs.Words.{IsReading, Reads}
use Rattle.rio_words.specs.declared.command.RioCommand.{RioCommand}
use Rattle.rio_words.specs.declared.command.RioCommand.TheVariants.{Format, Serve, Registry, Check, Drill}
use Rattle.rio_words.specs.declared.fail.WordsFail.{WordsFail}
use Rattle.rio_words.specs.declared.fail.WordsFail.TheVariants.{Usage}
use Rattle.rio_base.specs.Streams.{appended}
use Rattle.rio_server.specs.Commands.{CheckRuns, DrillRuns, Drills, FormatRuns, IsServe, NamesAbsent, Obeyed, Obeys, RegistryRuns}
use Rattle.boots.specs.Told.{WroteFront, memory_line as told_line}
use Rattle.rio_commands.specs.declared.formatting.FormatEnd.{FormatEnd}
use Rattle.rio_commands.specs.declared.formatting.FormatEnd.TheVariants.{Formatted, DiskFault, ImageFault, Memory as NoRoom}
use Rattle.rio_commands.specs.declared.ends.CheckEnd.TheVariants.{Memory as NotLooked}
use Rattle.rio_commands.specs.declared.ends.RegistryEnd.TheVariants.{Memory as NotRead}
use Rattle.rio_commands.specs.declared.formatting.FormatSizes.{FormatSizes}
use Rattle.rio_commands.specs.Check.{Checks}
use Rattle.rio_commands.specs.Command.{WritesLine, memory_line}
use Rattle.rio_commands.specs.Format.{Formats, format_sizes, format_status}
use Rattle.rio_commands.specs.Outside.{Benched, HostRose, Outside, SinkRose, SourceRose}
use Rattle.rio_commands.specs.Registry.{Lists}
use Rattle.rio_commands.specs.Serve.{ServeRuns}
use Rattle.rio_commands.proofs.FreshPairs.{formatted_pair}
use Rattle.rio_commands.proofs.Checking.{check_complete, check_fault, check_sound, check_statuses}
use Rattle.rio_commands.proofs.Listings.{fault_of, listing_complete, listing_cut, no_status}
use Rattle.rio_commands.proofs.ServeEndings.{none_served, serve_not_2}

-- equal commands have equal runs
pub obeys_as : (command other : RioCommand) (status : ℕ) (old new : Outside) (bench : Benched) → command ≡ other → Obeyed other status old new bench → Obeys command status old new bench
obeys_as command other status old new bench same h = subst (λ (c : RioCommand). Obeys c status old new bench) (sym same) h.runs

obeyed : (command other : RioCommand) (status : ℕ) (old new : Outside) (bench : Benched) → command ≡ other → Obeys other status old new bench → Obeyed command status old new bench
obeyed command other status old new bench same runs = record { runs = subst (λ (c : RioCommand). Obeys c status old new bench) (sym same) runs }

-- words that are refused are no form
pub no_form : (words : List Text) (fail : WordsFail) → fail ≡ Usage → IsReading words (Err fail) → (command : RioCommand) → Reads words command → ⊥
no_form words fail is reading = subst (λ (f : WordsFail). IsReading words (Err f)) is reading

-- ---- which statuses there are

format_statuses : (end : FormatEnd) (status : ℕ) → status ≡ format_status end → (status ≡ 0) ⊎ (status ≡ 6) ⊎ (status ≡ 7)
format_statuses Formatted status is = inl is
format_statuses NoRoom status is = inr (inl is)
format_statuses DiskFault status is = inr (inr is)
format_statuses ImageFault status is = inr (inr is)

pub format_complete : (image disk : List ℕ) (sizes : FormatSizes) (status : ℕ) (old new : Outside) → FormatRuns image disk sizes status old new → (status ≡ 0) ⊎ (status ≡ 6) ⊎ (status ≡ 7)
format_complete image disk sizes status old new runs = format_statuses runs.formats.end status runs.formats.status_is

none_of : (n status : ℕ) → (status ≡ 0) ⊎ (status ≡ 6) ⊎ (status ≡ 7) → n ≢ 0 → n ≢ 6 → n ≢ 7 → status ≢ n
none_of n status (inl is) a b c told = a (omega (arith, is, told))
none_of n status (inr (inl is)) a b c told = b (omega (arith, is, told))
none_of n status (inr (inr is)) a b c told = c (omega (arith, is, told))

drill_statuses : (seed boots requests status : ℕ) (rose : Type 0) (written written_after : Option (List ℕ)) → Drills seed boots requests status rose written written_after → (status ≡ 0) ⊎ (status ≡ 6) ⊎ ((status ≡ 9) × rose)
drill_statuses seed boots requests status rose written written_after (inl (t, legal, inl (is, wrote))) = inl is
drill_statuses seed boots requests status rose written written_after (inl (t, legal, inr (is, front))) = inr (inr (is, front.cause))
drill_statuses seed boots requests status rose written written_after (inr lacks) = inr (inl lacks.status_is)

-- any other status
no_drill : (n status : ℕ) (rose : Type 0) → (status ≡ 0) ⊎ (status ≡ 6) ⊎ ((status ≡ 9) × rose) → n ≢ 0 → n ≢ 6 → n ≢ 9 → status ≢ n
no_drill n status rose (inl is) a b c told = a (omega (arith, is, told))
no_drill n status rose (inr (inl is)) a b c told = b (omega (arith, is, told))
no_drill n status rose (inr (inr (is, cause))) a b c told = c (omega (arith, is, told))

drill_not : (n seed boots requests status : ℕ) (old new : Outside) → DrillRuns seed boots requests status old new → n ≢ 0 → n ≢ 6 → n ≢ 9 → status ≢ n
drill_not n seed boots requests status old new runs = no_drill n status (SinkRose old new) (drill_statuses seed boots requests status (SinkRose old new) old.written new.written runs.drills)

-- ---- words that are no command

-- no command is refused
command_status : (command : RioCommand) (status : ℕ) (old new : Outside) (bench : Benched) → Obeys command status old new bench → status ≢ 2
command_status (Format image disk frames blocks inodes scratch) status old new bench runs = none_of 2 status (format_complete image disk _ status old new runs) (λ e. omega (arith, e)) (λ e. omega (arith, e)) (λ e. omega (arith, e))
command_status (Serve image disk stop) status old new bench runs = serve_not_2 runs.end status runs.status_is
command_status (Registry image) status old new bench runs = (no_status _ _ _ _ _ _ _ runs.lists).0
command_status (Check image disk) status old new bench runs = (check_statuses runs.checks.end status runs.checks.status_is).0
command_status (Drill seed boots requests) status old new bench runs = drill_not 2 seed boots requests status old new runs (λ e. omega (arith, e)) (λ e. omega (arith, e)) (λ e. omega (arith, e))

-- ---- causes

-- the words name a file to be read that is not there, or the host failed
host_cause : (words : List Text) (command : RioCommand) (status : ℕ) (old new : Outside) (bench : Benched) → Reads words command → Obeys command status old new bench → status ≡ 7
    → HostRose old new ⊎ NamesAbsent words old.files
host_cause words (Format image disk frames blocks inodes scratch) status old new bench reads runs is = inl (runs.host_fault is)
host_cause words (Serve image disk stop) status old new bench reads runs is = missing (runs.causes.host_fault is)
  where
    missing : HostRose old new ⊎ (IsAbsent old.files image ⊎ IsAbsent old.files disk) → HostRose old new ⊎ NamesAbsent words old.files
    missing (inl rose) = inl rose
    missing (inr none) = inr (inr (inr (image, disk, stop, reads, none)))
host_cause words (Registry image) status old new bench reads runs is = absent (runs.host_fault is)
  where
    absent : HostRose old new ⊎ IsAbsent old.files image → HostRose old new ⊎ NamesAbsent words old.files
    absent (inl rose) = inl rose
    absent (inr none) = inr (inl (image, reads, none))
host_cause words (Check image disk) status old new bench reads runs is = missing (runs.host_fault is)
  where
    missing : HostRose old new ⊎ (IsAbsent old.files image ⊎ IsAbsent old.files disk) → HostRose old new ⊎ NamesAbsent words old.files
    missing (inl rose) = inl rose
    missing (inr none) = inr (inr (inl (image, disk, reads, none)))
host_cause words (Drill seed boots requests) status old new bench reads runs is =
    absurd (drill_not 7 seed boots requests status old new runs (λ e. omega (arith, e)) (λ e. omega (arith, e)) (λ e. omega (arith, e)) is)

source_cause : (command : RioCommand) (status : ℕ) (old new : Outside) (bench : Benched) → Obeys command status old new bench → status ≡ 8 → SourceRose old new
source_cause (Format image disk frames blocks inodes scratch) status old new bench runs is =
    absurd (none_of 8 status (format_complete image disk _ status old new runs) (λ e. omega (arith, e)) (λ e. omega (arith, e)) (λ e. omega (arith, e)) is)
source_cause (Serve image disk stop) status old new bench runs is = runs.causes.source_fault is
source_cause (Registry image) status old new bench runs is = absurd ((no_status _ _ _ _ _ _ _ runs.lists).1 is)
source_cause (Check image disk) status old new bench runs is = absurd ((check_statuses runs.checks.end status runs.checks.status_is).1 is)
source_cause (Drill seed boots requests) status old new bench runs is =
    absurd (drill_not 8 seed boots requests status old new runs (λ e. omega (arith, e)) (λ e. omega (arith, e)) (λ e. omega (arith, e)) is)

sink_cause : (command : RioCommand) (status : ℕ) (old new : Outside) (bench : Benched) → Obeys command status old new bench → status ≡ 9 → SinkRose old new
sink_cause (Format image disk frames blocks inodes scratch) status old new bench runs is =
    absurd (none_of 9 status (format_complete image disk _ status old new runs) (λ e. omega (arith, e)) (λ e. omega (arith, e)) (λ e. omega (arith, e)) is)
sink_cause (Serve image disk stop) status old new bench runs is = runs.causes.sink_fault is
sink_cause (Registry image) status old new bench runs is = runs.sink_fault is
sink_cause (Check image disk) status old new bench runs is = absurd ((check_statuses runs.checks.end status runs.checks.status_is).2 is)
sink_cause (Drill seed boots requests) status old new bench runs is = runs.sink_fault is

limit_cause : (command : RioCommand) (status : ℕ) (old new : Outside) (bench : Benched) → Obeys command status old new bench → (input : List ℕ) → old.left ≡ Some input → status ≡ 11 → 2 ^ 40 < length input
limit_cause (Format image disk frames blocks inodes scratch) status old new bench runs input has is =
    absurd (none_of 11 status (format_complete image disk _ status old new runs) (λ e. omega (arith, e)) (λ e. omega (arith, e)) (λ e. omega (arith, e)) is)
limit_cause (Serve image disk stop) status old new bench runs input has is = runs.causes.limit input has is
limit_cause (Registry image) status old new bench runs input has is = absurd ((no_status _ _ _ _ _ _ _ runs.lists).2 is)
limit_cause (Check image disk) status old new bench runs input has is = absurd ((check_statuses runs.checks.end status runs.checks.status_is).3 is)
limit_cause (Drill seed boots requests) status old new bench runs input has is =
    absurd (drill_not 11 seed boots requests status old new runs (λ e. omega (arith, e)) (λ e. omega (arith, e)) (λ e. omega (arith, e)) is)

-- only `serve` reads the source
source_unread : (words : List Text) (command : RioCommand) (status : ℕ) (old new : Outside) (bench : Benched) → Reads words command → Obeys command status old new bench
    → ((image disk : List ℕ) (stop : Option ℕ) → Reads words (Serve image disk stop) → ⊥) → new.left ≡ old.left
source_unread words (Format image disk frames blocks inodes scratch) status old new bench reads runs no_serve = runs.unread
source_unread words (Serve image disk stop) status old new bench reads runs no_serve = absurd (no_serve image disk stop reads)
source_unread words (Registry image) status old new bench reads runs no_serve = runs.unread
source_unread words (Check image disk) status old new bench reads runs no_serve = runs.unread
source_unread words (Drill seed boots requests) status old new bench reads runs no_serve = runs.unread

-- a command that no `serve` is read as is none
pub no_serve_read : (words : List Text) (command : RioCommand) → Reads words command → ((image disk : List ℕ) (stop : Option ℕ) → Reads words (Serve image disk stop) → ⊥) → IsServe command → ⊥
no_serve_read words (Serve image disk stop) reads none serve = none image disk stop reads
no_serve_read words (Format image disk frames blocks inodes scratch) reads none serve = serve
no_serve_read words (Registry image) reads none serve = serve
no_serve_read words (Check image disk) reads none serve = serve
no_serve_read words (Drill seed boots requests) reads none serve = serve

-- ---- the same of what `obey` says

pub usage_told : (command : RioCommand) (status : ℕ) (old new : Outside) (bench : Benched) → Obeyed command status old new bench → status ≢ 2
usage_told command status old new bench h = command_status command status old new bench h.runs

pub host_told : (words : List Text) (command : RioCommand) (status : ℕ) (old new : Outside) (bench : Benched) → Reads words command → Obeyed command status old new bench → status ≡ 7
    → HostRose old new ⊎ NamesAbsent words old.files
host_told words command status old new bench reads h = host_cause words command status old new bench reads h.runs

pub source_told : (command : RioCommand) (status : ℕ) (old new : Outside) (bench : Benched) → Obeyed command status old new bench → status ≡ 8 → SourceRose old new
source_told command status old new bench h = source_cause command status old new bench h.runs

pub sink_told : (command : RioCommand) (status : ℕ) (old new : Outside) (bench : Benched) → Obeyed command status old new bench → status ≡ 9 → SinkRose old new
sink_told command status old new bench h = sink_cause command status old new bench h.runs

pub limit_told : (command : RioCommand) (status : ℕ) (old new : Outside) (bench : Benched) → Obeyed command status old new bench → (input : List ℕ) → old.left ≡ Some input → status ≡ 11 → 2 ^ 40 < length input
limit_told command status old new bench h = limit_cause command status old new bench h.runs

pub unread_told : (words : List Text) (command : RioCommand) (status : ℕ) (old new : Outside) (bench : Benched) → Reads words command → Obeyed command status old new bench
    → ((image disk : List ℕ) (stop : Option ℕ) → Reads words (Serve image disk stop) → ⊥) → new.left ≡ old.left
unread_told words command status old new bench reads h = source_unread words command status old new bench reads h.runs

-- ---- words that found no memory

-- nothing is done but that this is told
pub record Starves (status : ℕ) (old new : Outside) (bench : Benched) : Type 0 where
  pub is : status ≡ 6
  pub kept : new.files ≡ old.files
  pub unread : new.left ≡ old.left
  pub source : new.source_faults ≡ old.source_faults
  pub host : new.host_faults ≡ old.host_faults
  pub later : old.sink_faults ≤ new.sink_faults
  pub unmade : bench.pages ≡ None
  pub told : WritesLine (SinkRose old new) old.written memory_line new.written

starved_serve : (image disk : List ℕ) (stop : Option ℕ) (status : ℕ) (old new : Outside) (bench : Benched) → Starves status old new bench → ServeRuns image disk stop status old new bench
starved_serve image disk stop status old new bench h = none_served image disk stop status old new bench h.is h.kept h.unread h.source h.host h.later h.unmade h.told

starved_format : (image disk : List ℕ) (sizes : FormatSizes) (status : ℕ) (old new : Outside) (bench : Benched) → Starves status old new bench → FormatRuns image disk sizes status old new
starved_format image disk sizes status old new bench h = record {
  formats = record { end = NoRoom; status_is = h.is; left = h.kept; told = h.told };
  unread = h.unread;
  host_fault = λ e. absurd (omega (arith, h.is, e));
  complete = λ no_host. inr h.is;
  fresh = λ e. absurd (omega (arith, h.is, e));
}

starved_registry : (image : List ℕ) (status : ℕ) (old new : Outside) (bench : Benched) → Starves status old new bench → RegistryRuns image status old new
starved_registry image status old new bench h = record {
  lists = record { end = NotRead; status_is = h.is; ends = (tt, h.told) };
  kept = h.kept;
  unread = h.unread;
  host_fault = λ e. absurd (omega (arith, h.is, e));
  sink_fault = λ e. absurd (omega (arith, h.is, e));
  steady = λ e. absurd (omega (arith, h.is, e));
  complete = λ no_host no_sink. inr (inr (inl h.is));
}

starved_check : (image disk : List ℕ) (status : ℕ) (old new : Outside) (bench : Benched) → Starves status old new bench → CheckRuns image disk status old new
starved_check image disk status old new bench h = record {
  checks = record { end = NotLooked; status_is = h.is; found = record { finds = tt }; sure = λ image_bytes disk_bytes s has. tt; told = h.told };
  kept = h.kept;
  unread = h.unread;
  host_fault = λ e. absurd (omega (arith, h.is, e));
  complete = λ no_host. inr (inr (inr (inl h.is)));
  sound = λ image_bytes disk_bytes s has no_host. inr h.is;
}

starved_drill : (seed boots requests status : ℕ) (old new : Outside) (bench : Benched) → Starves status old new bench → DrillRuns seed boots requests status old new
starved_drill seed boots requests status old new bench h = record {
  drills = inr (record { status_is = h.is; line = by h.told });
  kept = h.kept;
  unread = h.unread;
  sink_fault = λ e. absurd (omega (arith, h.is, e));
  steady = λ e. absurd (omega (arith, h.is, e));
  complete = λ no_sink. inr h.is;
}
  where
    by : WritesLine (SinkRose old new) old.written memory_line new.written → (new.written ≡ appended old.written told_line) ⊎ WroteFront (SinkRose old new) told_line old.written new.written
    by (inl e) = inl e
    by (inr (cause, count, most, front)) = inr (record { cause = cause; count = count; most = most; front = front })

-- a command that there was no memory to read
pub starved_obeys : (command : RioCommand) (status : ℕ) (old new : Outside) (bench : Benched) → Starves status old new bench → Obeys command status old new bench
starved_obeys (Format image disk frames blocks inodes scratch) status old new bench h = starved_format image disk _ status old new bench h
starved_obeys (Serve image disk stop) status old new bench h = starved_serve image disk stop status old new bench h
starved_obeys (Registry image) status old new bench h = starved_registry image status old new bench h
starved_obeys (Check image disk) status old new bench h = starved_check image disk status old new bench h
starved_obeys (Drill seed boots requests) status old new bench h = starved_drill seed boots requests status old new bench h

-- ---- each command, from what its own function says

registry_runs : (image : List ℕ) (status : ℕ) (old new : Outside) → Lists image status (HostRose old new) (SinkRose old new) old.files old.written new.written → new.files ≡ old.files → new.left ≡ old.left
    → (status ≡ 0 → new.sink_faults ≡ old.sink_faults) → RegistryRuns image status old new
registry_runs image status old new lists kept unread steady = record {
  lists = lists;
  kept = kept;
  unread = unread;
  host_fault = fault_of image status (HostRose old new) (SinkRose old new) old.files old.written new.written lists;
  sink_fault = listing_cut image status (HostRose old new) (SinkRose old new) old.files old.written new.written lists;
  steady = steady;
  complete = listing_complete image status (HostRose old new) (SinkRose old new) old.files old.written new.written lists;
}

pub obeyed_registry : (command : RioCommand) (image : List ℕ) (status : ℕ) (old new : Outside) (bench : Benched) → command ≡ Registry image
    → Lists image status (HostRose old new) (SinkRose old new) old.files old.written new.written → new.files ≡ old.files → new.left ≡ old.left → (status ≡ 0 → new.sink_faults ≡ old.sink_faults) → Obeyed command status old new bench
obeyed_registry command image status old new bench is lists kept unread steady = obeyed command (Registry image) status old new bench is (registry_runs image status old new lists kept unread steady)

pub obeyed_serve : (command : RioCommand) (image disk : List ℕ) (stop : Option ℕ) (status : ℕ) (old new : Outside) (bench : Benched) → command ≡ Serve image disk stop → (image_name disk_name : List ℕ) → image_name ≡ image → disk_name ≡ disk
    → ServeRuns image_name disk_name stop status old new bench → Obeyed command status old new bench
obeyed_serve command image disk stop status old new bench is image_name disk_name image_is disk_is runs =
    obeyed command (Serve image disk stop) status old new bench is
    (subst (λ (name : List ℕ). ServeRuns image name stop status old new bench) disk_is
    (subst (λ (name : List ℕ). ServeRuns name disk_name stop status old new bench) image_is runs))

pub obeyed_drill : (command : RioCommand) (seed boots requests status : ℕ) (old new : Outside) (bench : Benched) → command ≡ Drill seed boots requests → Drills seed boots requests status (SinkRose old new) old.written new.written
    → new.files ≡ old.files → new.left ≡ old.left → (status ≡ 0 → new.sink_faults ≡ old.sink_faults) → Obeyed command status old new bench
obeyed_drill command seed boots requests status old new bench is drills kept unread steady =
    obeyed command (Drill seed boots requests) status old new bench is
    (record {
      drills = drills;
      kept = kept;
      unread = unread;
      sink_fault = λ e. cut e came;
      steady = steady;
      complete = λ no_sink. whole no_sink came;
    })
  where
    came : (status ≡ 0) ⊎ (status ≡ 6) ⊎ ((status ≡ 9) × SinkRose old new)
    came = drill_statuses seed boots requests status (SinkRose old new) old.written new.written drills

    cut : status ≡ 9 → (status ≡ 0) ⊎ (status ≡ 6) ⊎ ((status ≡ 9) × SinkRose old new) → SinkRose old new
    cut e (inl is) = absurd (omega (arith, is, e))
    cut e (inr (inl is)) = absurd (omega (arith, is, e))
    cut e (inr (inr (is, cause))) = cause

    whole : ¬ SinkRose old new → (status ≡ 0) ⊎ (status ≡ 6) ⊎ ((status ≡ 9) × SinkRose old new) → (status ≡ 0) ⊎ (status ≡ 6)
    whole no_sink (inl is) = inl is
    whole no_sink (inr (inl is)) = inr is
    whole no_sink (inr (inr (is, cause))) = absurd (no_sink cause)

-- a drill has a boot
pub drill_boots : (words : List Text) (command : RioCommand) (seed boots requests : ℕ) → Reads words command → command ≡ Drill seed boots requests → 1 ≤ boots
drill_boots words command seed boots requests reads is =
    let form : Reads words (Drill seed boots requests) = subst (Reads words) is reads in
    form.2.some_boots

-- the words name two files
two_named : (a b : List ℕ) → are_different (a ∷ b ∷ []) ≡ true → a ≢ b
two_named a b e same = differ (bytes_eq b a) ((bytes_eq-Decides b a).1 (sym same)) e
  where
    differ : (t : Bool) → t ≡ true → (not (t || false) && not false) ≡ true → ⊥
    differ true is e = cc e
    differ false is e = cc is

pub serve_names : (words : List Text) (command : RioCommand) (image disk : List ℕ) (stop : Option ℕ) (image_name disk_name : List ℕ) → Reads words command → command ≡ Serve image disk stop → image_name ≡ image → disk_name ≡ disk → image_name ≢ disk_name
serve_names words command image disk stop image_name disk_name reads is image_is disk_is same =
    let form : Reads words (Serve image disk stop) = subst (Reads words) is reads in
    two_named image disk form.1.different (sym image_is ∙ same ∙ disk_is)

pub obeyed_check : (command : RioCommand) (image disk : List ℕ) (status : ℕ) (old new : Outside) (bench : Benched) → command ≡ Check image disk → (image_name disk_name : List ℕ) → image_name ≡ image → disk_name ≡ disk
    → Checks image_name disk_name status (HostRose old new) (SinkRose old new) old.files old.written new.written → new.files ≡ old.files → new.left ≡ old.left → Obeyed command status old new bench
obeyed_check command image disk status old new bench is image_name disk_name image_is disk_is checks kept unread =
    let named : Checks image disk status (HostRose old new) (SinkRose old new) old.files old.written new.written =
    (subst (λ (name : List ℕ). Checks name disk status (HostRose old new) (SinkRose old new) old.files old.written new.written) image_is
    (subst (λ (name : List ℕ). Checks image_name name status (HostRose old new) (SinkRose old new) old.files old.written new.written) disk_is checks)) in
    obeyed command (Check image disk) status old new bench is
    record {
      checks = named;
      kept = kept;
      unread = unread;
      host_fault = check_fault image disk status (HostRose old new) (SinkRose old new) old.files old.written new.written named;
      complete = check_complete image disk status (HostRose old new) (SinkRose old new) old.files old.written new.written named;
      sound = check_sound image disk status (HostRose old new) (SinkRose old new) old.files old.written new.written named;
    }

format_runs : (image disk : List ℕ) (sizes : FormatSizes) (status : ℕ) (old new : Outside) → image ≢ disk → AreImageSizes sizes.frames sizes.scratch → IsServed sizes.shape
    → Formats image disk sizes status (SinkRose old new) old.files new.files old.written new.written → new.left ≡ old.left
    → (status ≡ 7 → HostRose old new) → FormatRuns image disk sizes status old new
format_runs image disk sizes status old new apart of_image of_volume formats unread cause = record {
  formats = formats;
  unread = unread;
  host_fault = cause;
  complete = λ no_host. done no_host (format_statuses formats.end status formats.status_is);
  fresh = formatted_pair formats.end image disk sizes status old.files new.files formats.status_is formats.left apart of_image of_volume;
}
  where
    done : ¬ HostRose old new → (status ≡ 0) ⊎ (status ≡ 6) ⊎ (status ≡ 7) → (status ≡ 0) ⊎ (status ≡ 6)
    done no_host (inl is) = inl is
    done no_host (inr (inl is)) = inr is
    done no_host (inr (inr is)) = absurd (no_host (cause is))

pub obeyed_format : (command : RioCommand) (image disk : List ℕ) (frames blocks inodes scratch : ℕ) (status : ℕ) (old new : Outside) (bench : Benched) → command ≡ Format image disk frames blocks inodes scratch
    → (words : List Text) → Reads words command → (image_name disk_name : List ℕ) (sizes : FormatSizes) → image_name ≡ image → disk_name ≡ disk → sizes ≡ format_sizes frames blocks inodes scratch
    → Formats image_name disk_name sizes status (SinkRose old new) old.files new.files old.written new.written → new.left ≡ old.left → (status ≡ 7 → HostRose old new) → Obeyed command status old new bench
obeyed_format command image disk frames blocks inodes scratch status old new bench is words reads image_name disk_name sizes image_is disk_is sizes_are formats unread cause =
    let form : Reads words (Format image disk frames blocks inodes scratch) = subst (Reads words) is reads in
    obeyed command (Format image disk frames blocks inodes scratch) status old new bench is
    (format_runs image disk (format_sizes frames blocks inodes scratch) status old new (two_named image disk form.1.different) form.2.of_image form.2.of_volume
    (subst (λ (name : List ℕ). Formats name disk (format_sizes frames blocks inodes scratch) status (SinkRose old new) old.files new.files old.written new.written) image_is
    (subst (λ (name : List ℕ). Formats image_name name (format_sizes frames blocks inodes scratch) status (SinkRose old new) old.files new.files old.written new.written) disk_is
    (subst (λ (s : FormatSizes). Formats image_name disk_name s status (SinkRose old new) old.files new.files old.written new.written) sizes_are formats)))
    unread cause)

-- what a pair can have, by the words that ask for it
pub format_image : (words : List Text) (command : RioCommand) (image disk : List ℕ) (frames blocks inodes scratch : ℕ) (sizes : FormatSizes) → Reads words command → command ≡ Format image disk frames blocks inodes scratch
    → sizes ≡ format_sizes frames blocks inodes scratch → AreImageSizes sizes.frames sizes.scratch
format_image words command image disk frames blocks inodes scratch sizes reads is sizes_are =
    let form : Reads words (Format image disk frames blocks inodes scratch) = subst (Reads words) is reads in
    subst (λ (s : FormatSizes). AreImageSizes s.frames s.scratch) (sym sizes_are) form.2.of_image

pub format_volume : (words : List Text) (command : RioCommand) (image disk : List ℕ) (frames blocks inodes scratch : ℕ) (sizes : FormatSizes) → Reads words command → command ≡ Format image disk frames blocks inodes scratch
    → sizes ≡ format_sizes frames blocks inodes scratch → IsServed sizes.shape
format_volume words command image disk frames blocks inodes scratch sizes reads is sizes_are =
    let form : Reads words (Format image disk frames blocks inodes scratch) = subst (Reads words) is reads in
    subst (λ (s : FormatSizes). IsServed s.shape) (sym sizes_are) form.2.of_volume
