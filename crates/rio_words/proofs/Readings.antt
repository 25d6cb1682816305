-- Commands, and what `clap` finds in their words.
use Rattle.std.proofs.Common.{◌≡◌, ◌≢◌, ◌∙◌, ◌<◌, ◌≤◌, ◌||◌, ℕ, Bool, cond, true, false, not, zero, suc, refl, sym, ap, subst, arith, List, [], ◌∷◌, map, length, drop, All, Option, Some, None, Result, Ok, Err, IsErrAnd, option_map, codes, true≢false}
use Rattle.std.specs.Prelude.{String, slice_get, slice_index, string_bytes}
use Rattle.std.specs.Global.{Global}
use Rattle.std.specs.List.{find, list_all, slice_index_or}
use Rattle.std.specs.Char.{digit_value}
use Rattle.std.specs.Str.{bytes_eq}
use Rattle.std.specs.Str.Parse.{AllDigits}
use Rattle.std.proofs.lemmas.Slice.Eq.{bytes_eq-Decides}
use Rattle.rio_base.proofs.DecimalDigits.{number_digits, number_some}
use Rattle.rio_base.specs.Bytes.{IsNumber}
use Rattle.rio_words.specs.Clap.{IsMatched, Sorts}
use Rattle.rio_words.specs.Words.{AreFiles, Begins, HasDrill, HasNumber, HasSizes, IsFile, IsFileName, IsLine, IsReading, MayHaveNumber, Options, Reads, drill_keys, format_keys, given_by, serve_keys, texts_of}
use Rattle.rio_words.specs.Plans.{AreNoFlags, ArePlanned, Finds, Gives}
use Rattle.rio_words.specs.Tokens.{AreTokens, Text, are_different, is_among, keys_of, value_of}
use Rattle.rio_words.specs.declared.command.RioCommand.{RioCommand}
use Rattle.rio_words.specs.declared.command.RioCommand.TheVariants.{Format, Serve, Registry, Check, Drill}
use Rattle.rio_words.specs.declared.fail.WordsFail.{WordsFail}
use Rattle.rio_words.specs.declared.fail.WordsFail.TheVariants.{Usage, Memory}
use Rattle.rio_words.proofs.ClapRuns.{and_both, is_option, not_false, or_none}

abbrev pub pair_ids : List Text
pair_ids = codes "image" ∷ codes "disk" ∷ []

abbrev pub image_ids : List Text
image_ids = codes "image" ∷ []

-- ---- the commands can be told apart, and so can what belongs to each

pub format_planned : ArePlanned format_keys pair_ids
format_planned = record { apart = refl; alone = refl; lacks = refl; some = refl; few = omega arith }

pub serve_planned : ArePlanned serve_keys pair_ids
serve_planned = record { apart = refl; alone = refl; lacks = refl; some = refl; few = omega arith }

pub drill_planned : ArePlanned drill_keys []
drill_planned = record { apart = refl; alone = refl; lacks = refl; some = refl; few = omega arith }

pub pair_planned : ArePlanned [] pair_ids
pair_planned = record { apart = refl; alone = refl; lacks = refl; some = refl; few = omega arith }

pub image_planned : ArePlanned [] image_ids
image_planned = record { apart = refl; alone = refl; lacks = refl; some = refl; few = omega arith }

abbrev pub name_of : RioCommand → Text
name_of (Format image disk frames blocks inodes scratch) = codes "format"
name_of (Serve image disk stop) = codes "serve"
name_of (Registry image) = codes "registry"
name_of (Check image disk) = codes "check"
name_of (Drill seed boots requests) = codes "drill"

pub reads_begins : (words : List Text) (c : RioCommand) → Reads words c → Begins (name_of c) words
reads_begins words (Format image disk frames blocks inodes scratch) r = (r.1.rest, r.1.begins)
reads_begins words (Serve image disk stop) r = (r.1.rest, r.1.begins)
reads_begins words (Registry image) r = (r.1.rest, r.1.begins)
reads_begins words (Check image disk) r = (r.1.rest, r.1.begins)
reads_begins words (Drill seed boots requests) r = (r.1.rest, r.1.begins)

pub one_name : (words : List Text) (a b : Text) → Begins a words → Begins b words → bytes_eq a b ≡ true
one_name words a b h k = (bytes_eq-Decides a b).1 (cc (sym h.1 ∙ k.1))

other_name : (words : List Text) (a : Text) (c : RioCommand) → Begins a words → bytes_eq a (name_of c) ≡ false → Reads words c → ⊥
other_name words a c h differ r = true≢false (sym (one_name words a (name_of c) h (reads_begins words c r)) ∙ differ)

pub only_format : (words : List Text) → Begins (codes "format") words → (P : RioCommand → Type 0)
    → ((image disk : Text) (frames blocks inodes scratch : ℕ) → Reads words (Format image disk frames blocks inodes scratch) → P (Format image disk frames blocks inodes scratch)) → (c : RioCommand) → Reads words c → P c
only_format words h P each (Format image disk frames blocks inodes scratch) r = each image disk frames blocks inodes scratch r
only_format words h P each (Serve image disk stop) r = absurd (other_name words (codes "format") (Serve image disk stop) h refl r)
only_format words h P each (Registry image) r = absurd (other_name words (codes "format") (Registry image) h refl r)
only_format words h P each (Check image disk) r = absurd (other_name words (codes "format") (Check image disk) h refl r)
only_format words h P each (Drill seed boots requests) r = absurd (other_name words (codes "format") (Drill seed boots requests) h refl r)

pub only_serve : (words : List Text) → Begins (codes "serve") words → (P : RioCommand → Type 0)
    → ((image disk : Text) (stop : Option ℕ) → Reads words (Serve image disk stop) → P (Serve image disk stop)) → (c : RioCommand) → Reads words c → P c
only_serve words h P each (Serve image disk stop) r = each image disk stop r
only_serve words h P each (Format image disk frames blocks inodes scratch) r = absurd (other_name words (codes "serve") (Format image disk frames blocks inodes scratch) h refl r)
only_serve words h P each (Registry image) r = absurd (other_name words (codes "serve") (Registry image) h refl r)
only_serve words h P each (Check image disk) r = absurd (other_name words (codes "serve") (Check image disk) h refl r)
only_serve words h P each (Drill seed boots requests) r = absurd (other_name words (codes "serve") (Drill seed boots requests) h refl r)

pub only_registry : (words : List Text) → Begins (codes "registry") words → (P : RioCommand → Type 0) → ((image : Text) → Reads words (Registry image) → P (Registry image))
    → (c : RioCommand) → Reads words c → P c
only_registry words h P each (Registry image) r = each image r
only_registry words h P each (Format image disk frames blocks inodes scratch) r = absurd (other_name words (codes "registry") (Format image disk frames blocks inodes scratch) h refl r)
only_registry words h P each (Serve image disk stop) r = absurd (other_name words (codes "registry") (Serve image disk stop) h refl r)
only_registry words h P each (Check image disk) r = absurd (other_name words (codes "registry") (Check image disk) h refl r)
only_registry words h P each (Drill seed boots requests) r = absurd (other_name words (codes "registry") (Drill seed boots requests) h refl r)

pub only_check : (words : List Text) → Begins (codes "check") words → (P : RioCommand → Type 0) → ((image disk : Text) → Reads words (Check image disk) → P (Check image disk))
    → (c : RioCommand) → Reads words c → P c
only_check words h P each (Check image disk) r = each image disk r
only_check words h P each (Format image disk frames blocks inodes scratch) r = absurd (other_name words (codes "check") (Format image disk frames blocks inodes scratch) h refl r)
only_check words h P each (Serve image disk stop) r = absurd (other_name words (codes "check") (Serve image disk stop) h refl r)
only_check words h P each (Registry image) r = absurd (other_name words (codes "check") (Registry image) h refl r)
only_check words h P each (Drill seed boots requests) r = absurd (other_name words (codes "check") (Drill seed boots requests) h refl r)

pub only_drill : (words : List Text) → Begins (codes "drill") words → (P : RioCommand → Type 0)
    → ((seed boots requests : ℕ) → Reads words (Drill seed boots requests) → P (Drill seed boots requests)) → (c : RioCommand) → Reads words c → P c
only_drill words h P each (Drill seed boots requests) r = each seed boots requests r
only_drill words h P each (Format image disk frames blocks inodes scratch) r = absurd (other_name words (codes "drill") (Format image disk frames blocks inodes scratch) h refl r)
only_drill words h P each (Serve image disk stop) r = absurd (other_name words (codes "drill") (Serve image disk stop) h refl r)
only_drill words h P each (Registry image) r = absurd (other_name words (codes "drill") (Registry image) h refl r)
only_drill words h P each (Check image disk) r = absurd (other_name words (codes "drill") (Check image disk) h refl r)

-- ---- texts that begin with no `-`

pub number_no_flag : (text : Text) (n : ℕ) → IsNumber text n → slice_index text 0 ≢ 45
number_no_flag [] n h = absurd (omega (arith, number_some [] n h))
number_no_flag (c ∷ text) n h =
    let digits : AllDigits 10 (c ∷ text) = number_digits (c ∷ text) n h in
    let first : digit_value c < 10 = digits.0 in
    λ same. let minus : digit_value 45 < 10 = subst (λ (b : ℕ). digit_value b < 10) same first in absurd (omega (arith, minus))

at_place : (xs : List Text) (k : ℕ) (x d : Text) → slice_get xs k ≡ Some x → (k < length xs) × (slice_index_or xs k d ≡ x)
at_place [] k x d e = absurd (cc e)
at_place (y ∷ xs) zero x d e = (omega arith, cc e)
at_place (y ∷ xs) (suc k) x d e = let rest = at_place xs k x d e in (omega (arith, rest.0), rest.1)

pub names_no_flags : (names : List Text) → All IsFileName names → AreNoFlags names
names_no_flags names all k text e =
    let place = at_place names k text [] e in
    subst (λ (t : Text). slice_index t 0 ≢ 45) place.1 (all k [] place.0).no_option

found_among : (options : Options) (key v : Text) → value_of key options ≡ Some v → is_among (keys_of options) key ≡ true
found_among [] key v e = absurd (cc e)
found_among (o ∷ options) key v e = go (bytes_eq o.0 key) e (found_among options key v)
  where
    go : (b : Bool) → option_map (λ (p : Text × Text). p.1) (cond b (Some o) (find (is_option key) options)) ≡ Some v → (value_of key options ≡ Some v → is_among (keys_of options) key ≡ true)
        → (b || is_among (keys_of options) key) ≡ true
    go true f rest = refl
    go false f rest = rest f

-- a key is found behind an option of another key as well
value_behind : (o : Text × Text) (options : Options) (key v : Text) → is_among (keys_of options) o.0 ≡ false → value_of key options ≡ Some v → value_of key (o ∷ options) ≡ Some v
value_behind o options key v new e = go (bytes_eq o.0 key) refl
  where
    go : (b : Bool) → bytes_eq o.0 key ≡ b → value_of key (o ∷ options) ≡ Some v
    go false differs = rw differs e
    go true same =
        let is : o.0 ≡ key = (bytes_eq-Decides o.0 key).0 same in
        absurd (true≢false (sym (found_among options key v e) ∙ ap (is_among (keys_of options)) (sym is) ∙ new))

-- what holds of the value of each key holds of all values
values_no_flags : (keys : List Text) (options : Options) → list_all (λ o. is_among keys o.0) options ≡ true → are_different (keys_of options) ≡ true
    → ((key v : Text) → is_among keys key ≡ true → value_of key options ≡ Some v → slice_index v 0 ≢ 45) → AreNoFlags (map (λ o. o.1) options)
values_no_flags keys [] known once each k text e = absurd (cc e)
values_no_flags keys (o ∷ options) known once each zero text e =
    let parts = and_both (is_among keys o.0) (list_all (λ p. is_among keys p.0) options) known in
    let here : value_of o.0 (o ∷ options) ≡ Some o.1 = rw ((bytes_eq-Decides o.0 o.0).1 refl) refl in
    let same : o.1 ≡ text = cc e in
    subst (λ (t : Text). slice_index t 0 ≢ 45) same (each o.0 o.1 parts.0 here)
values_no_flags keys (o ∷ options) known once each (suc k) text e =
    let parts = and_both (is_among keys o.0) (list_all (λ p. is_among keys p.0) options) known in
    let new = and_both (not (is_among (keys_of options) o.0)) (are_different (keys_of options)) once in
    values_no_flags keys options parts.1 new.1 (λ key v among f. each key v among (value_behind o options key v (not_false _ new.0) f)) k text e

-- each key has a number
abbrev pub EachNumber : (Text → Option Text) → List Text → Type 0
EachNumber found [] = Unit {0}
EachNumber found (key ∷ keys) = ((n : ℕ) × HasNumber found key n) × EachNumber found keys

number_of_key : (found : Text → Option Text) (keys : List Text) (key v : Text) → EachNumber found keys → is_among keys key ≡ true → found key ≡ Some v → slice_index v 0 ≢ 45
number_of_key found [] key v each among e = absurd (true≢false (sym among))
number_of_key found (t ∷ keys) key v each among e = go (bytes_eq t key) refl among (number_of_key found keys key v each.1)
  where
    go : (b : Bool) → bytes_eq t key ≡ b → (b || is_among keys key) ≡ true → (is_among keys key ≡ true → found key ≡ Some v → slice_index v 0 ≢ 45) → slice_index v 0 ≢ 45
    go false differs f rest = rest f e
    go true same f rest =
        let is : t ≡ key = (bytes_eq-Decides t key).0 same in
        let has = each.0.1 in
        let text_is : has.text ≡ v = cc (sym has.given ∙ ap found is ∙ e) in
        subst (λ (x : Text). slice_index x 0 ≢ 45) text_is (number_no_flag has.text each.0.0 has.number)

-- ---- a line gives its options and files

pub line_gives : (command : Text) (keys ids words : List Text) (options : Options) (files : List Text) → IsLine command keys words options files → length files ≤ length ids
    → Gives keys ids (drop 1 words) options files
line_gives command keys ids words options files line few = record {
  tokens = subst (λ (ws : List Text). AreTokens ws options files) (sym (ap (drop 1) line.begins)) line.tokens;
  known = line.known;
  once = line.once;
  few = few;
}

pub line_values : (command : Text) (keys words : List Text) (options : Options) (files : List Text) → IsLine command keys words options files → EachNumber (given_by options) keys
    → AreNoFlags (map (λ o. o.1) options)
line_values command keys words options files line each =
    values_no_flags keys options line.known line.once (λ key v among e. number_of_key (given_by options) keys key v each among e)

-- ---- what is found and what is given

pub number_moved : (a b : Text → Option Text) (key : Text) (n : ℕ) → b key ≡ a key → HasNumber a key n → HasNumber b key n
number_moved a b key n same has = record { text = has.text; given = same ∙ has.given; number = has.number }

pub sizes_moved : (a b : Text → Option Text) (frames blocks inodes scratch : ℕ) → ((key : Text) → is_among format_keys key ≡ true → b key ≡ a key) → HasSizes a frames blocks inodes scratch
    → HasSizes b frames blocks inodes scratch
sizes_moved a b frames blocks inodes scratch same has = record {
  frames_are = number_moved a b (codes "frames") frames (same (codes "frames") refl) has.frames_are;
  blocks_are = number_moved a b (codes "blocks") blocks (same (codes "blocks") refl) has.blocks_are;
  inodes_are = number_moved a b (codes "inodes") inodes (same (codes "inodes") refl) has.inodes_are;
  scratch_is = number_moved a b (codes "scratch") scratch (same (codes "scratch") refl) has.scratch_is;
  of_image = has.of_image;
  of_volume = has.of_volume;
}

pub drill_moved : (a b : Text → Option Text) (seed boots requests : ℕ) → ((key : Text) → is_among drill_keys key ≡ true → b key ≡ a key) → HasDrill a seed boots requests → HasDrill b seed boots requests
drill_moved a b seed boots requests same has = record {
  seed_is = number_moved a b (codes "seed") seed (same (codes "seed") refl) has.seed_is;
  boots_are = number_moved a b (codes "boots") boots (same (codes "boots") refl) has.boots_are;
  requests_are = number_moved a b (codes "requests") requests (same (codes "requests") refl) has.requests_are;
  most_seed = has.most_seed;
  some_boots = has.some_boots;
  few_boots = has.few_boots;
  some_requests = has.some_requests;
  few_requests = has.few_requests;
}

sizes_each : (found : Text → Option Text) (frames blocks inodes scratch : ℕ) → HasSizes found frames blocks inodes scratch → EachNumber found format_keys
sizes_each found frames blocks inodes scratch has = ((frames, has.frames_are), ((blocks, has.blocks_are), ((inodes, has.inodes_are), ((scratch, has.scratch_is), tt))))

drill_each : (found : Text → Option Text) (seed boots requests : ℕ) → HasDrill found seed boots requests → EachNumber found drill_keys
drill_each found seed boots requests has = ((seed, has.seed_is), ((boots, has.boots_are), ((requests, has.requests_are), tt)))

pub stop_moved : (a b : Text → Option Text) (stop : Option ℕ) → b (codes "stop") ≡ a (codes "stop") → MayHaveNumber a (codes "stop") stop → MayHaveNumber b (codes "stop") stop
stop_moved a b None same none = same ∙ none
stop_moved a b (Some n) same has = number_moved a b (codes "stop") n same has

-- a stop that is given is a number
stop_no_flag : (found : Text → Option Text) (stop : Option ℕ) (v : Text) → MayHaveNumber found (codes "stop") stop → found (codes "stop") ≡ Some v → slice_index v 0 ≢ 45
stop_no_flag found None v none e = absurd (cc (sym none ∙ e))
stop_no_flag found (Some n) v has e =
    let same : has.text ≡ v = cc (sym has.given ∙ e) in
    subst (λ (t : Text). slice_index t 0 ≢ 45) same (number_no_flag has.text n has.number)

stop_of_key : (found : Text → Option Text) (stop : Option ℕ) (key v : Text) → MayHaveNumber found (codes "stop") stop → is_among serve_keys key ≡ true → found key ≡ Some v → slice_index v 0 ≢ 45
stop_of_key found stop key v has among e = go (bytes_eq (codes "stop") key) refl among
  where
    go : (b : Bool) → bytes_eq (codes "stop") key ≡ b → (b || false) ≡ true → slice_index v 0 ≢ 45
    go false differs f = absurd (true≢false (sym f))
    go true same f =
        let is : codes "stop" ≡ key = (bytes_eq-Decides (codes "stop") key).0 same in
        stop_no_flag found stop v has (ap found is ∙ e)

-- ---- the files

two_names : (names : List Text) (a b : Text) → slice_get names 0 ≡ Some a → slice_get names 1 ≡ Some b → length names ≤ 2 → names ≡ a ∷ b ∷ []
two_names [] a b d e few = absurd (cc d)
two_names (x ∷ []) a b d e few = absurd (cc e)
two_names (x ∷ y ∷ []) a b d e few = cc (d, e)
two_names (x ∷ y ∷ z ∷ names) a b d e few = absurd (omega (arith, few))

one_of_them : (names : List Text) (a : Text) → slice_get names 0 ≡ Some a → length names ≤ 1 → names ≡ a ∷ []
one_of_them [] a d few = absurd (cc d)
one_of_them (x ∷ []) a d few = cc d
one_of_them (x ∷ y ∷ names) a d few = absurd (omega (arith, few))

no_names : (names : List Text) → length names ≤ 0 → names ≡ []
no_names [] few = refl
no_names (x ∷ names) few = absurd (omega (arith, few))

differing : (a b : Text) → a ≢ b → bytes_eq b a ≡ false
differing a b other = go (bytes_eq b a) refl
  where
    go : (t : Bool) → bytes_eq b a ≡ t → bytes_eq b a ≡ false
    go false e = e
    go true e = absurd (other (sym ((bytes_eq-Decides b a).0 e)))

different_names : (a b : Text) → are_different (a ∷ b ∷ []) ≡ true → a ≢ b
different_names a b e same =
    let none = not_false _ (and_both (not (bytes_eq b a || false)) _ e).0 in
    true≢false (sym ((bytes_eq-Decides b a).1 (sym same)) ∙ (or_none (bytes_eq b a) false none).0)

pub pair_line : (command : Text) (keys words : List Text) (found : Text → Option Text) (image disk : Text) → Begins command words → (s : Sorts keys pair_ids (drop 1 words) found)
    → AreFiles found image disk → IsLine command keys words s.options (image ∷ disk ∷ [])
pair_line command keys words found image disk begins s files =
    let first : slice_get s.names 0 ≡ Some image = sym (s.finds.of_file 0 (codes "image") refl) ∙ files.image_is.given in
    let second : slice_get s.names 1 ≡ Some disk = sym (s.finds.of_file 1 (codes "disk") refl) ∙ files.disk_is.given in
    let names : s.names ≡ image ∷ disk ∷ [] = two_names s.names image disk first second s.gives.few in
    record {
      rest = begins.0;
      begins = begins.1;
      tokens = subst (λ (ws : List Text). AreTokens ws s.options (image ∷ disk ∷ [])) (ap (drop 1) begins.1) (subst (λ (ns : List Text). AreTokens (drop 1 words) s.options ns) names s.gives.tokens);
      known = s.gives.known;
      once = s.gives.once;
      named = both_named image disk files.image_is.named files.disk_is.named;
      different = rw (differing image disk files.two) refl;
    }
  where
    both_named : (a b : Text) → IsFileName a → IsFileName b → All IsFileName (a ∷ b ∷ [])
    both_named a b h k zero d below = h
    both_named a b h k (suc zero) d below = k
    both_named a b h k (suc (suc n)) d below = absurd (omega (arith, below))

pub image_line : (command : Text) (words : List Text) (found : Text → Option Text) (image : Text) → Begins command words → (s : Sorts [] image_ids (drop 1 words) found)
    → IsFile found (codes "image") image → IsLine command [] words s.options (image ∷ [])
image_line command words found image begins s file =
    let first : slice_get s.names 0 ≡ Some image = sym (s.finds.of_file 0 (codes "image") refl) ∙ file.given in
    let names : s.names ≡ image ∷ [] = one_of_them s.names image first s.gives.few in
    record {
      rest = begins.0;
      begins = begins.1;
      tokens = subst (λ (ws : List Text). AreTokens ws s.options (image ∷ [])) (ap (drop 1) begins.1) (subst (λ (ns : List Text). AreTokens (drop 1 words) s.options ns) names s.gives.tokens);
      known = s.gives.known;
      once = s.gives.once;
      named = one_named image file.named;
      different = refl;
    }
  where
    one_named : (a : Text) → IsFileName a → All IsFileName (a ∷ [])
    one_named a h zero d below = h
    one_named a h (suc n) d below = absurd (omega (arith, below))

pub bare_line : (command : Text) (keys words : List Text) (found : Text → Option Text) → Begins command words → (s : Sorts keys [] (drop 1 words) found) → IsLine command keys words s.options []
bare_line command keys words found begins s =
    let names : s.names ≡ [] = no_names s.names s.gives.few in
    record {
      rest = begins.0;
      begins = begins.1;
      tokens = subst (λ (ws : List Text). AreTokens ws s.options []) (ap (drop 1) begins.1) (subst (λ (ns : List Text). AreTokens (drop 1 words) s.options ns) names s.gives.tokens);
      known = s.gives.known;
      once = s.gives.once;
      named = λ k d below. absurd (omega (arith, below));
      different = refl;
    }

-- files of a line are what is found for them
pub line_pair : (command : Text) (keys words : List Text) (options : Options) (image disk : Text) (found : Text → Option Text) → IsLine command keys words options (image ∷ disk ∷ [])
    → Finds keys pair_ids options (image ∷ disk ∷ []) found → AreFiles found image disk
line_pair command keys words options image disk found line finds = record {
  image_is = record { given = finds.of_file 0 (codes "image") refl; named = line.named 0 [] (omega arith) };
  disk_is = record { given = finds.of_file 1 (codes "disk") refl; named = line.named 1 [] (omega arith) };
  two = different_names image disk line.different;
}

pub line_image : (command : Text) (words : List Text) (options : Options) (image : Text) (found : Text → Option Text) → IsLine command [] words options (image ∷ [])
    → Finds [] image_ids options (image ∷ []) found → IsFile found (codes "image") image
line_image command words options image found line finds = record { given = finds.of_file 0 (codes "image") refl; named = line.named 0 [] (omega arith) }

-- ---- each command, as `clap` is asked for it

pub format_read : (words : List Text) (found : Text → Option Text) (image disk : Text) (frames blocks inodes scratch : ℕ) → Begins (codes "format") words
    → Sorts format_keys pair_ids (drop 1 words) found → AreFiles found image disk → HasSizes found frames blocks inodes scratch → Reads words (Format image disk frames blocks inodes scratch)
format_read words found image disk frames blocks inodes scratch begins s files sizes = (
  s.options,
  pair_line (codes "format") format_keys words found image disk begins s files,
  sizes_moved found (given_by s.options) frames blocks inodes scratch (λ key known. sym (s.finds.of_key key known)) sizes,
)

-- words that are read as a command are given to `clap` as such
pub record GivenAs (keys ids words : List Text) : Type 0 where
  pub options : Options
  pub names : List Text
  pub gives : Gives keys ids (drop 1 words) options names
  pub values : AreNoFlags (map (λ o. o.1) options)
  pub no_flags : AreNoFlags names

pub format_given : (words : List Text) (image disk : Text) (frames blocks inodes scratch : ℕ) → Reads words (Format image disk frames blocks inodes scratch) → GivenAs format_keys pair_ids words
format_given words image disk frames blocks inodes scratch r = record {
  options = r.0;
  names = image ∷ disk ∷ [];
  gives = line_gives (codes "format") format_keys pair_ids words r.0 (image ∷ disk ∷ []) r.1 (omega arith);
  values = line_values (codes "format") format_keys words r.0 (image ∷ disk ∷ []) r.1 (sizes_each (given_by r.0) frames blocks inodes scratch r.2);
  no_flags = names_no_flags (image ∷ disk ∷ []) r.1.named;
}

pub format_alone : (words : List Text) (found : Text → Option Text) (image disk : Text) (frames blocks inodes scratch : ℕ) → Sorts format_keys pair_ids (drop 1 words) found
    → Reads words (Format image disk frames blocks inodes scratch) → AreFiles found image disk × HasSizes found frames blocks inodes scratch
unfolding format_given
format_alone words found image disk frames blocks inodes scratch s r =
    let given = format_given words image disk frames blocks inodes scratch r in
    let finds = s.alone given.options given.names given.gives given.values given.no_flags in (
      line_pair (codes "format") format_keys words r.0 image disk found r.1 finds,
      sizes_moved (given_by r.0) found frames blocks inodes scratch finds.of_key r.2,
    )

abbrev pub GivesNone : List Text → List Text → List Text → Type 0
GivesNone keys ids words = (options : Options) (names : List Text) → Gives keys ids (drop 1 words) options names → AreNoFlags (map (λ o. o.1) options) → AreNoFlags names → ⊥

pub not_format : (words : List Text) → Begins (codes "format") words → GivesNone format_keys pair_ids words → (c : RioCommand) → Reads words c → ⊥
not_format words begins none = only_format words begins (λ c. ⊥) (λ image disk frames blocks inodes scratch r.
    let given = format_given words image disk frames blocks inodes scratch r in
    none given.options given.names given.gives given.values given.no_flags)

pub serve_read : (words : List Text) (found : Text → Option Text) (image disk : Text) (stop : Option ℕ) → Begins (codes "serve") words → Sorts serve_keys pair_ids (drop 1 words) found → AreFiles found image disk
    → MayHaveNumber found (codes "stop") stop → Reads words (Serve image disk stop)
serve_read words found image disk stop begins s files has = (
  s.options,
  pair_line (codes "serve") serve_keys words found image disk begins s files,
  stop_moved found (given_by s.options) stop (sym (s.finds.of_key (codes "stop") refl)) has,
)

pub serve_given : (words : List Text) (image disk : Text) (stop : Option ℕ) → Reads words (Serve image disk stop) → GivenAs serve_keys pair_ids words
serve_given words image disk stop r = record {
  options = r.0;
  names = image ∷ disk ∷ [];
  gives = line_gives (codes "serve") serve_keys pair_ids words r.0 (image ∷ disk ∷ []) r.1 (omega arith);
  values = values_no_flags serve_keys r.0 r.1.known r.1.once (λ key v among e. stop_of_key (given_by r.0) stop key v r.2 among e);
  no_flags = names_no_flags (image ∷ disk ∷ []) r.1.named;
}

pub serve_alone : (words : List Text) (found : Text → Option Text) (image disk : Text) (stop : Option ℕ) → Sorts serve_keys pair_ids (drop 1 words) found
    → Reads words (Serve image disk stop) → AreFiles found image disk × MayHaveNumber found (codes "stop") stop
unfolding serve_given
serve_alone words found image disk stop s r =
    let given = serve_given words image disk stop r in
    let finds = s.alone given.options given.names given.gives given.values given.no_flags in (
      line_pair (codes "serve") serve_keys words r.0 image disk found r.1 finds,
      stop_moved (given_by r.0) found stop (finds.of_key (codes "stop") refl) r.2,
    )

pub pair_given : (command : Text) (words : List Text) (options : Options) (image disk : Text) → IsLine command [] words options (image ∷ disk ∷ []) → GivenAs [] pair_ids words
pair_given command words options image disk line = record {
  options = options;
  names = image ∷ disk ∷ [];
  gives = line_gives command [] pair_ids words options (image ∷ disk ∷ []) line (omega arith);
  values = line_values command [] words options (image ∷ disk ∷ []) line tt;
  no_flags = names_no_flags (image ∷ disk ∷ []) line.named;
}

pub pair_alone : (command : Text) (words : List Text) (found : Text → Option Text) (options : Options) (image disk : Text) → Sorts [] pair_ids (drop 1 words) found
    → IsLine command [] words options (image ∷ disk ∷ []) → AreFiles found image disk
unfolding pair_given
pair_alone command words found options image disk s line =
    let given = pair_given command words options image disk line in
    line_pair command [] words options image disk found line (s.alone given.options given.names given.gives given.values given.no_flags)

pub not_serve : (words : List Text) → Begins (codes "serve") words → GivesNone serve_keys pair_ids words → (c : RioCommand) → Reads words c → ⊥
not_serve words begins none = only_serve words begins (λ c. ⊥) (λ image disk stop r.
    let given = serve_given words image disk stop r in
    none given.options given.names given.gives given.values given.no_flags)

pub check_read : (words : List Text) (found : Text → Option Text) (image disk : Text) → Begins (codes "check") words → Sorts [] pair_ids (drop 1 words) found → AreFiles found image disk
    → Reads words (Check image disk)
check_read words found image disk begins s files = (s.options, pair_line (codes "check") [] words found image disk begins s files)

pub not_check : (words : List Text) → Begins (codes "check") words → GivesNone [] pair_ids words → (c : RioCommand) → Reads words c → ⊥
not_check words begins none = only_check words begins (λ c. ⊥) (λ image disk r.
    let given = pair_given (codes "check") words r.0 image disk r.1 in
    none given.options given.names given.gives given.values given.no_flags)

pub registry_read : (words : List Text) (found : Text → Option Text) (image : Text) → Begins (codes "registry") words → Sorts [] image_ids (drop 1 words) found → IsFile found (codes "image") image
    → Reads words (Registry image)
registry_read words found image begins s file = (s.options, image_line (codes "registry") words found image begins s file)

pub registry_given : (words : List Text) (image : Text) → Reads words (Registry image) → GivenAs [] image_ids words
registry_given words image r = record {
  options = r.0;
  names = image ∷ [];
  gives = line_gives (codes "registry") [] image_ids words r.0 (image ∷ []) r.1 (omega arith);
  values = line_values (codes "registry") [] words r.0 (image ∷ []) r.1 tt;
  no_flags = names_no_flags (image ∷ []) r.1.named;
}

pub registry_alone : (words : List Text) (found : Text → Option Text) (image : Text) → Sorts [] image_ids (drop 1 words) found → Reads words (Registry image) → IsFile found (codes "image") image
unfolding registry_given
registry_alone words found image s r =
    let given = registry_given words image r in
    line_image (codes "registry") words r.0 image found r.1 (s.alone given.options given.names given.gives given.values given.no_flags)

pub not_registry : (words : List Text) → Begins (codes "registry") words → GivesNone [] image_ids words → (c : RioCommand) → Reads words c → ⊥
not_registry words begins none = only_registry words begins (λ c. ⊥) (λ image r.
    let given = registry_given words image r in
    none given.options given.names given.gives given.values given.no_flags)

pub drill_read : (words : List Text) (found : Text → Option Text) (seed boots requests : ℕ) → Begins (codes "drill") words → Sorts drill_keys [] (drop 1 words) found → HasDrill found seed boots requests
    → Reads words (Drill seed boots requests)
drill_read words found seed boots requests begins s numbers = (
  s.options,
  bare_line (codes "drill") drill_keys words found begins s,
  drill_moved found (given_by s.options) seed boots requests (λ key known. sym (s.finds.of_key key known)) numbers,
)

pub drill_given : (words : List Text) (seed boots requests : ℕ) → Reads words (Drill seed boots requests) → GivenAs drill_keys [] words
drill_given words seed boots requests r = record {
  options = r.0;
  names = [];
  gives = line_gives (codes "drill") drill_keys [] words r.0 [] r.1 (omega arith);
  values = line_values (codes "drill") drill_keys words r.0 [] r.1 (drill_each (given_by r.0) seed boots requests r.2);
  no_flags = names_no_flags [] r.1.named;
}

pub drill_alone : (words : List Text) (found : Text → Option Text) (seed boots requests : ℕ) → Sorts drill_keys [] (drop 1 words) found → Reads words (Drill seed boots requests)
    → HasDrill found seed boots requests
unfolding drill_given
drill_alone words found seed boots requests s r =
    let given = drill_given words seed boots requests r in
    let finds = s.alone given.options given.names given.gives given.values given.no_flags in
    drill_moved (given_by r.0) found seed boots requests finds.of_key r.2

pub not_drill : (words : List Text) → Begins (codes "drill") words → GivesNone drill_keys [] words → (c : RioCommand) → Reads words c → ⊥
not_drill words begins none = only_drill words begins (λ c. ⊥) (λ seed boots requests r.
    let given = drill_given words seed boots requests r in
    none given.options given.names given.gives given.values given.no_flags)

-- ---- answers that are passed on

-- names that were copied
pub files_moved : (found : Text → Option Text) (a b x y : Text) → x ≡ a → y ≡ b → AreFiles found a b → AreFiles found x y
files_moved found a b x y first second files = subst (λ (t : Text). AreFiles found x t) (sym second) (subst (λ (t : Text). AreFiles found t b) (sym first) files)

pub file_moved : (found : Text → Option Text) (argument a x : Text) → x ≡ a → IsFile found argument a → IsFile found argument x
file_moved found argument a x same file = subst (λ (t : Text). IsFile found argument t) (sym same) file

-- what `clap` refuses is no form
pub passed : (keys ids words : List Text) (r : Result RioCommand WordsFail) (e : WordsFail) → IsErrAnd r (λ y. y ≡ e) → IsMatched keys ids (drop 1 words) (Err e)
    → (GivesNone keys ids words → (c : RioCommand) → Reads words c → ⊥) → IsReading words r
passed keys ids words (Ok c) e is matched none = absurd is
passed keys ids words (Err Usage) Usage is matched none = none matched
passed keys ids words (Err Usage) Memory is matched none = absurd (cc is)
passed keys ids words (Err Memory) e is matched none = tt

pub out_of_memory : (words : List Text) (r : Result RioCommand WordsFail) → IsErrAnd r (λ y. y ≡ Memory) → IsReading words r
out_of_memory words (Ok c) is = absurd is
out_of_memory words (Err Usage) is = absurd (cc is)
out_of_memory words (Err Memory) is = tt

-- words of which the first is no command
pub no_command : (words : List Text) (first : Text) → Begins first words → bytes_eq first (codes "format") ≡ false → bytes_eq first (codes "serve") ≡ false → bytes_eq first (codes "registry") ≡ false
    → bytes_eq first (codes "check") ≡ false → bytes_eq first (codes "drill") ≡ false → (c : RioCommand) → Reads words c → ⊥
no_command words first h f s r k d (Format image disk frames blocks inodes scratch) = other_name words first (Format image disk frames blocks inodes scratch) h f
no_command words first h f s r k d (Serve image disk stop) = other_name words first (Serve image disk stop) h s
no_command words first h f s r k d (Registry image) = other_name words first (Registry image) h r
no_command words first h f s r k d (Check image disk) = other_name words first (Check image disk) h k
no_command words first h f s r k d (Drill seed boots requests) = other_name words first (Drill seed boots requests) h d

pub no_words : (c : RioCommand) → Reads [] c → ⊥
no_words c r = cc (reads_begins [] c r).1

-- the words begin with the text of the first one
pub begins_with : (words : List (String Global)) (first : String Global) (text name : Text) → Some first ≡ slice_get words 0 → text ≡ string_bytes first → text ≡ name → Begins name (texts_of words)
begins_with [] first text name e a b = absurd (cc e)
begins_with (w ∷ words) first text name e a b =
    let same : first ≡ w = cc e in
    (texts_of words, ap (λ (t : Text). t ∷ texts_of words) (ap string_bytes (sym same) ∙ sym a ∙ b))
