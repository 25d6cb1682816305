-- How the words of tokens look to `clap`.
use Rattle.std.proofs.Common.{◌≡◌, ◌≢◌, ◌∙◌, ◌<◌, ◌==◌, ◌||◌, ℕ, Bool, cond, true, false, zero, suc, refl, sym, ap, arith, [], ◌∷◌, ◌++◌, length, get_or, Option, Some, None, inl, inr}
use Rattle.std.specs.Prelude.{slice_get, slice_index, option_and_then}
use Rattle.std.specs.List.{before_first, after_first, position_or_len}
use Rattle.std.specs.Str.{bytes_eq, chars}
use Rattle.std.proofs.lemmas.Bool.Decides.{nat_tests}
use Rattle.std.proofs.lemmas.List.Sums.{passes_at_first, split_at_first}
use Rattle.clap.specs.Lexer.{has_byte, long_of, long_of_rest, name_and_value, short_of, strip_byte}
use Rattle.clap.proofs.CutLemmas.{Lacks, before_first-Lacks}
use Rattle.clap.proofs.LexerLemmas.{name_and_value-at, name_and_value-without}
use Rattle.rio_words.specs.Tokens.{Text}
use Rattle.rio_words.proofs.ClapSteps.{IsPlain, dashes}

-- ---- the words of an option

pub joined_long : (key v : Text) → Lacks 61 key → long_of (dashes ++ (key ++ 61 ∷ v)) ≡ Some (key, Some v)
joined_long [] v lacks = ap Some (name_and_value-at [] v lacks)
joined_long (x ∷ xs) v lacks = ap Some (name_and_value-at (x ∷ xs) v lacks)

pub spaced_long : (key : Text) → 0 < length key → Lacks 61 key → long_of (dashes ++ key) ≡ Some (key, None)
spaced_long [] some lacks = absurd (omega arith)
spaced_long (x ∷ xs) some lacks = ap Some (name_and_value-without (x ∷ xs) lacks)

pub joined_goes_on : (key v : Text) → bytes_eq (dashes ++ (key ++ 61 ∷ v)) dashes ≡ false
joined_goes_on [] v = refl
joined_goes_on (x ∷ xs) v = refl

pub spaced_goes_on : (key : Text) → 0 < length key → bytes_eq (dashes ++ key) dashes ≡ false
spaced_goes_on [] some = absurd (omega arith)
spaced_goes_on (x ∷ xs) some = refl

-- ---- the option of a word

stripped : (c : ℕ) (text rest : Text) → strip_byte c text ≡ Some rest → text ≡ c ∷ rest
stripped c [] rest e = absurd (cc e)
stripped c (x ∷ xs) rest e = go (x == c) refl e
  where
    go : (b : Bool) → (x == c) ≡ b → cond b (Some xs) None ≡ Some rest → x ∷ xs ≡ c ∷ rest
    go true same f = let first : x ≡ c = grind (arith, nat_tests, same) in cc (first, f)
    go false same f = absurd (cc f)

cut_word : (word : Text) (p : Text × Option Text) → long_of word ≡ Some p → (text : Text) × (word ≡ dashes ++ text) × (name_and_value text ≡ p)
cut_word word p e = go (strip_byte 45 word) refl e
  where
    behind : (text : Text) → word ≡ 45 ∷ 45 ∷ text → long_of_rest text ≡ Some p → (rest : Text) × (word ≡ dashes ++ rest) × (name_and_value rest ≡ p)
    behind [] is f = absurd (cc f)
    behind (x ∷ xs) is f = (x ∷ xs, is, cc f)

    next : (first : Text) (o : Option Text) → word ≡ 45 ∷ first → strip_byte 45 first ≡ o → option_and_then long_of_rest o ≡ Some p
        → (rest : Text) × (word ≡ dashes ++ rest) × (name_and_value rest ≡ p)
    next first None is cut f = absurd (cc f)
    next first (Some text) is cut f = behind text (is ∙ ap (λ xs. 45 ∷ xs) (stripped 45 first text cut)) f

    go : (o : Option Text) → strip_byte 45 word ≡ o → option_and_then long_of_rest (option_and_then (strip_byte 45) o) ≡ Some p
        → (rest : Text) × (word ≡ dashes ++ rest) × (name_and_value rest ≡ p)
    go None cut f = absurd (cc f)
    go (Some first) cut f = next first (strip_byte 45 first) (stripped 45 word first cut) refl f

pub lacks_all : (text : Text) → has_byte 61 text ≡ false → Lacks 61 text
lacks_all [] none i inside = absurd (omega arith)
lacks_all (x ∷ xs) none i inside = go (x == 61) refl none (lacks_all xs) i inside
  where
    go : (b : Bool) → (x == 61) ≡ b → (b || has_byte 61 xs) ≡ false → (has_byte 61 xs ≡ false → Lacks 61 xs) → (j : ℕ) → j < length (x ∷ xs) → get_or (x ∷ xs) j 0 ≢ 61
    go true same f rest j below = absurd (cc f)
    go false same f rest zero below = grind (arith, nat_tests, same)
    go false same f rest (suc j) below = rest f j (omega arith)

some_place : (text : Text) → has_byte 61 text ≡ true → position_or_len (λ x. x == 61) text < length text
some_place [] some = absurd (cc some)
some_place (x ∷ xs) some = go (x == 61) refl some (some_place xs)
  where
    go : (b : Bool) → (x == 61) ≡ b → (b || has_byte 61 xs) ≡ true → (has_byte 61 xs ≡ true → position_or_len (λ y. y == 61) xs < length xs)
        → position_or_len (λ y. y == 61) (x ∷ xs) < length (x ∷ xs)
    go true same f rest = rw same (omega arith)
    go false same f rest = let later = rest f in rw same (omega (arith, later))

-- the text around its first `=`
around : (text : Text) → has_byte 61 text ≡ true → text ≡ before_first (λ x. x == 61) text ++ 61 ∷ after_first (λ x. x == 61) text
around text some =
    let inside = some_place text some in
    let here = passes_at_first (λ x. x == 61) text 0 inside in
    let sign : get_or text (position_or_len (λ x. x == 61) text) 0 ≡ 61 = grind (arith, nat_tests, here) in
    split_at_first (λ x. x == 61) text 0 inside ∙ ap (λ b. before_first (λ x. x == 61) text ++ b ∷ after_first (λ x. x == 61) text) sign

pub joined_is : (word key v : Text) → long_of word ≡ Some (key, Some v) → word ≡ dashes ++ (key ++ 61 ∷ v)
joined_is word key v e =
    let cut = cut_word word (key, Some v) e in
    cut.1 ∙ ap (λ xs. dashes ++ xs) (go (has_byte 61 cut.0) refl cut.2)
  where
    go : (b : Bool) → has_byte 61 (cut_word word (key, Some v) e).0 ≡ b
        → ◌≡◌ {A = Text × Option Text} (before_first (λ x. x == 61) (cut_word word (key, Some v) e).0, cond b (Some (after_first (λ x. x == 61) (cut_word word (key, Some v) e).0)) None) (key, Some v)
        → (cut_word word (key, Some v) e).0 ≡ key ++ 61 ∷ v
    go true some f = let text = (cut_word word (key, Some v) e).0 in
        let front : before_first (λ x. x == 61) text ≡ key = ap (λ p. p.0) f in
        let back : after_first (λ x. x == 61) text ≡ v = cc (ap (λ p. p.1) f) in
        around text some ∙ rw (front, back) refl
    go false none f = absurd (cc (ap (λ p. p.1) f))

pub spaced_is : (word key : Text) → long_of word ≡ Some (key, None) → word ≡ dashes ++ key
spaced_is word key e =
    let cut = cut_word word (key, None) e in
    cut.1 ∙ ap (λ xs. dashes ++ xs) (go (has_byte 61 cut.0) refl cut.2)
  where
    go : (b : Bool) → has_byte 61 (cut_word word (key, None) e).0 ≡ b
        → ◌≡◌ {A = Text × Option Text} (before_first (λ x. x == 61) (cut_word word (key, None) e).0, cond b (Some (after_first (λ x. x == 61) (cut_word word (key, None) e).0)) None) (key, None)
        → (cut_word word (key, None) e).0 ≡ key
    go true some f = absurd (cc (ap (λ p. p.1) f))
    go false none f = let text = (cut_word word (key, None) e).0 in sym (before_first-Lacks 61 text (lacks_all text none)) ∙ ap (λ p. p.0) f

-- ---- every word is one of these

pub data Kind (word : Text) : Type 0 where
  ends : bytes_eq word dashes ≡ true → Kind word
  long : (key : Text) (v : Option Text) → bytes_eq word dashes ≡ false → long_of word ≡ Some (key, v) → Kind word
  short : (flags : Text) (x : ℕ) → bytes_eq word dashes ≡ false → long_of word ≡ None → short_of word ≡ Some flags → slice_get (chars flags) 0 ≡ Some x → Kind word
  plain : IsPlain word → Kind word

pub kind : (word : Text) → Kind word
kind word = ended (bytes_eq word dashes) refl
  where
    first : (flags : Text) (o : Option ℕ) → bytes_eq word dashes ≡ false → long_of word ≡ None → short_of word ≡ Some flags → slice_get (chars flags) 0 ≡ o → Kind word
    first flags None not_end not_long is none = plain (record { not_end = not_end; not_long = not_long; not_short = inr (flags, is, none) })
    first flags (Some x) not_end not_long is some = short flags x not_end not_long is some

    flagged : (o : Option Text) → bytes_eq word dashes ≡ false → long_of word ≡ None → short_of word ≡ o → Kind word
    flagged None not_end not_long none = plain (record { not_end = not_end; not_long = not_long; not_short = inl none })
    flagged (Some flags) not_end not_long is = first flags (slice_get (chars flags) 0) not_end not_long is refl

    optioned : (o : Option (Text × Option Text)) → bytes_eq word dashes ≡ false → long_of word ≡ o → Kind word
    optioned None not_end none = flagged (short_of word) not_end none refl
    optioned (Some p) not_end is = long p.0 p.1 not_end is

    ended : (b : Bool) → bytes_eq word dashes ≡ b → Kind word
    ended true is = ends is
    ended false is = optioned (long_of word) is refl

-- a word that doesn't begin with `-` is no flag
pub plain_word : (word : Text) → slice_index word 0 ≢ 45 → IsPlain word
plain_word [] other = record { not_end = refl; not_long = refl; not_short = inl refl }
plain_word (x ∷ xs) other =
    let differs : (x == 45) ≡ false = grind (arith, nat_tests, other) in
    record {
      not_end = rw differs refl;
      not_long = rw differs refl;
      not_short = inl (rw differs refl);
    }
