-- Words are a form of one command at most.
use Rattle.std.proofs.Common.{◌≡◌, ◌∙◌, ℕ, sym, subst, List, [], drop, Option, Result, Ok, Err, codes}
use Rattle.std.specs.Prelude.{String}
use Rattle.std.specs.Global.{Global}
use Rattle.rio_words.specs.Clap.{Sorts}
use Rattle.rio_words.specs.Words.{IsFile, IsOnlyReading, IsReading, Reads, drill_keys, format_keys, serve_keys, texts_of}
use Rattle.rio_words.specs.Plans.{ArePlanned}
use Rattle.rio_words.specs.Tokens.{Text}
use Rattle.rio_words.specs.declared.command.RioCommand.{RioCommand}
use Rattle.rio_words.specs.declared.command.RioCommand.TheVariants.{Format, Serve, Registry, Check, Drill}
use Rattle.rio_words.specs.declared.fail.WordsFail.{WordsFail}
use Rattle.rio_words.proofs.ClapAnswers.{found_by, given_finds}
use Rattle.rio_words.proofs.Ranges.{same_number, same_stop}
use Rattle.rio_words.proofs.Readings.{GivenAs, drill_alone, drill_given, drill_planned, format_alone, format_given, format_planned, image_ids, image_planned, only_check, only_drill, only_format, only_registry, only_serve, pair_alone, pair_given, pair_ids, pair_planned, reads_begins, registry_alone, registry_given, serve_alone, serve_given, serve_planned}

-- words that are given once are sorted by what a walk over them finds, so whoever else is given them is given the same
sorts_given : (keys ids : List Text) (planned : ArePlanned keys ids) (words : List Text) → GivenAs keys ids words → Sorts keys ids (drop 1 words) (found_by keys ids planned (drop 1 words))
sorts_given keys ids planned words given = record {
  options = given.options;
  names = given.names;
  gives = given.gives;
  finds = given_finds keys ids planned (drop 1 words) given.options given.names given.gives given.values given.no_flags;
  alone = λ more others gives values flags. given_finds keys ids planned (drop 1 words) more others gives values flags;
}

one_file : (found : Text → Option Text) (argument a b : Text) → IsFile found argument a → IsFile found argument b → a ≡ b
one_file found argument a b h k = cc (sym h.given ∙ k.given)

one_format : (words : List Text) (image disk : Text) (frames blocks inodes scratch : ℕ) → Reads words (Format image disk frames blocks inodes scratch)
    → (image2 disk2 : Text) (frames2 blocks2 inodes2 scratch2 : ℕ) → Reads words (Format image2 disk2 frames2 blocks2 inodes2 scratch2)
    → Format image2 disk2 frames2 blocks2 inodes2 scratch2 ≡ Format image disk frames blocks inodes scratch
one_format words image disk frames blocks inodes scratch r image2 disk2 frames2 blocks2 inodes2 scratch2 r2 =
    let found = found_by format_keys pair_ids format_planned (drop 1 words) in
    let s : Sorts format_keys pair_ids (drop 1 words) found = sorts_given format_keys pair_ids format_planned words (format_given words image disk frames blocks inodes scratch r) in
    let a = format_alone words found image disk frames blocks inodes scratch s r in
    let b = format_alone words found image2 disk2 frames2 blocks2 inodes2 scratch2 s r2 in
    let images = one_file found (codes "image") image2 image b.0.image_is a.0.image_is in
    let disks = one_file found (codes "disk") disk2 disk b.0.disk_is a.0.disk_is in
    let frames_same = same_number found (codes "frames") frames2 frames b.1.frames_are a.1.frames_are in
    let blocks_same = same_number found (codes "blocks") blocks2 blocks b.1.blocks_are a.1.blocks_are in
    let inodes_same = same_number found (codes "inodes") inodes2 inodes b.1.inodes_are a.1.inodes_are in
    let scratch_same = same_number found (codes "scratch") scratch2 scratch b.1.scratch_is a.1.scratch_is in
    cc (images, disks, frames_same, blocks_same, inodes_same, scratch_same)

one_serve : (words : List Text) (image disk : Text) (stop : Option ℕ) → Reads words (Serve image disk stop) → (image2 disk2 : Text) (stop2 : Option ℕ) → Reads words (Serve image2 disk2 stop2)
    → Serve image2 disk2 stop2 ≡ Serve image disk stop
one_serve words image disk stop r image2 disk2 stop2 r2 =
    let found = found_by serve_keys pair_ids serve_planned (drop 1 words) in
    let s : Sorts serve_keys pair_ids (drop 1 words) found = sorts_given serve_keys pair_ids serve_planned words (serve_given words image disk stop r) in
    let a = serve_alone words found image disk stop s r in
    let b = serve_alone words found image2 disk2 stop2 s r2 in
    let images = one_file found (codes "image") image2 image b.0.image_is a.0.image_is in
    let disks = one_file found (codes "disk") disk2 disk b.0.disk_is a.0.disk_is in
    let stops = same_stop found (codes "stop") stop2 stop b.1 a.1 in
    cc (images, disks, stops)

one_check : (words : List Text) (image disk : Text) → Reads words (Check image disk) → (image2 disk2 : Text) → Reads words (Check image2 disk2) → Check image2 disk2 ≡ Check image disk
one_check words image disk r image2 disk2 r2 =
    let found = found_by [] pair_ids pair_planned (drop 1 words) in
    let s : Sorts [] pair_ids (drop 1 words) found = sorts_given [] pair_ids pair_planned words (pair_given (codes "check") words r.0 image disk r.1) in
    let a = pair_alone (codes "check") words found r.0 image disk s r.1 in
    let b = pair_alone (codes "check") words found r2.0 image2 disk2 s r2.1 in
    let images = one_file found (codes "image") image2 image b.image_is a.image_is in
    let disks = one_file found (codes "disk") disk2 disk b.disk_is a.disk_is in
    cc (images, disks)

one_registry : (words : List Text) (image : Text) → Reads words (Registry image) → (image2 : Text) → Reads words (Registry image2) → Registry image2 ≡ Registry image
one_registry words image r image2 r2 =
    let found = found_by [] image_ids image_planned (drop 1 words) in
    let s : Sorts [] image_ids (drop 1 words) found = sorts_given [] image_ids image_planned words (registry_given words image r) in
    let images = one_file found (codes "image") image2 image (registry_alone words found image2 s r2) (registry_alone words found image s r) in
    cc images

one_drill : (words : List Text) (seed boots requests : ℕ) → Reads words (Drill seed boots requests) → (seed2 boots2 requests2 : ℕ) → Reads words (Drill seed2 boots2 requests2)
    → Drill seed2 boots2 requests2 ≡ Drill seed boots requests
one_drill words seed boots requests r seed2 boots2 requests2 r2 =
    let found = found_by drill_keys [] drill_planned (drop 1 words) in
    let s : Sorts drill_keys [] (drop 1 words) found = sorts_given drill_keys [] drill_planned words (drill_given words seed boots requests r) in
    let a = drill_alone words found seed boots requests s r in
    let b = drill_alone words found seed2 boots2 requests2 s r2 in
    let seeds = same_number found (codes "seed") seed2 seed b.seed_is a.seed_is in
    let boots_same = same_number found (codes "boots") boots2 boots b.boots_are a.boots_are in
    let requests_same = same_number found (codes "requests") requests2 requests b.requests_are a.requests_are in
    cc (seeds, boots_same, requests_same)

-- words of which one command is a form are a form of no other
pub one_reading : (words : List Text) (c : RioCommand) → Reads words c → (other : RioCommand) → Reads words other → other ≡ c
one_reading words (Format image disk frames blocks inodes scratch) r other r2 =
    only_format words (reads_begins words (Format image disk frames blocks inodes scratch) r) (λ d. d ≡ Format image disk frames blocks inodes scratch)
    (λ image2 disk2 frames2 blocks2 inodes2 scratch2 same. one_format words image disk frames blocks inodes scratch r image2 disk2 frames2 blocks2 inodes2 scratch2 same) other r2
one_reading words (Serve image disk stop) r other r2 =
    only_serve words (reads_begins words (Serve image disk stop) r) (λ d. d ≡ Serve image disk stop) (λ image2 disk2 stop2 same. one_serve words image disk stop r image2 disk2 stop2 same) other r2
one_reading words (Registry image) r other r2 =
    only_registry words (reads_begins words (Registry image) r) (λ d. d ≡ Registry image) (λ image2 same. one_registry words image r image2 same) other r2
one_reading words (Check image disk) r other r2 =
    only_check words (reads_begins words (Check image disk) r) (λ d. d ≡ Check image disk) (λ image2 disk2 same. one_check words image disk r image2 disk2 same) other r2
one_reading words (Drill seed boots requests) r other r2 =
    only_drill words (reads_begins words (Drill seed boots requests) r) (λ d. d ≡ Drill seed boots requests)
    (λ seed2 boots2 requests2 same. one_drill words seed boots requests r seed2 boots2 requests2 same) other r2

-- so a reading is the only one
only_reading : (words : List Text) (r : Result RioCommand WordsFail) → IsReading words r → IsOnlyReading words r
only_reading words (Ok c) reads = one_reading words c reads
only_reading words (Err e) none = tt

-- the same of words that were lent
pub read_as : (lent words : List (String Global)) → lent ≡ words → (r : Result RioCommand WordsFail) → IsReading (texts_of lent) r → IsReading (texts_of words) r
read_as lent words same r reads = subst (λ (ws : List (String Global)). IsReading (texts_of ws) r) same reads

pub only_read_as : (lent words : List (String Global)) → lent ≡ words → (r : Result RioCommand WordsFail) → IsReading (texts_of lent) r → IsOnlyReading (texts_of words) r
only_read_as lent words same r reads = only_reading (texts_of words) r (read_as lent words same r reads)
