-- A command of `clap` that gets one argument after the other, and what a caller knows of its answer.
use Rattle.std.proofs.Common.{◌≡◌, ◌∙◌, ◌<◌, ◌+◌, ℕ, true, false, sym, ap, subst, arith, List, [], ◌∷◌, map, length, drop, get_or, Result, Ok, Err, IfOk, inl, inr, append_assoc}
use Rattle.std.specs.Borrow.{Bor}
use Rattle.std.proofs.lemmas.List.{drop_more}
use Rattle.clap.specs.Built.{AddsArg}
use Rattle.clap.specs.Matches.{found_of}
use Rattle.clap.specs.Values.{kind_of}
use Rattle.clap.specs.Walk.{Rule, Text, rows_of, rule_of, texts}
use Rattle.clap.specs.Simple.{App, HasMatchesOf, app_of, is_simple, matches_of, with_rule}
use Rattle.clap.specs.Kinds.{FailsBy, HasKind, Kinds}
use Rattle.clap.specs.Faults.{fault_of, is_simple_and_free}
use Rattle.clap.specs.declared.builder.arg.Arg.{Arg}
use Rattle.clap.specs.declared.builder.command.Command.{Command}
use Rattle.clap.specs.declared.error.Error.{Error}
use Rattle.clap.specs.declared.parser.matches.ArgMatches.{ArgMatches}
use Rattle.rio_words.specs.Clap.{IsMatched, Sorts, fail_of, found_in}
use Rattle.rio_words.specs.Plans.{ArePlanned, plan_app, with_rules}
use Rattle.rio_words.specs.declared.fail.WordsFail.{WordsFail}
use Rattle.rio_words.specs.declared.fail.WordsFail.TheVariants.{Usage, Memory}
use Rattle.rio_words.proofs.ClapAnswers.{plan_simple, taken, taken_alone, takes_given}
use Rattle.rio_words.proofs.ClapRuns.{and_both}

-- a command that got one argument, and gets others
pub one_more : (a b : App) (r : Rule) (rest : List Rule) → b ≡ with_rule a r → with_rules b rest ≡ with_rules a (r ∷ rest)
one_more a b r rest e =
    ap (λ (x : App). with_rules x rest) e ∙ ap (λ (rs : List Rule). record a { top = record a.top { rules = rs } }) (append_assoc a.top.rules (r ∷ []) rest)

-- a command that may have got an argument
pub arg_added : {E : Type 0} (old : Command) (a : Arg) (r : Result Command E) (rule : Rule) → rule_of a ≡ rule → a.global ≡ false → IfOk r (λ c. AddsArg old a c)
    → IfOk r (λ c. app_of c ≡ with_rule (app_of old) rule)
arg_added old a (Ok c) rule is local added = added.shape local ∙ ap (with_rule (app_of old)) is
arg_added old a (Err e) rule is local added = tt

-- the arguments that are left
pub left_at : (given : Text → Rule) (names : List (Bor Text)) (i : ℕ) (d : Bor Text) → i < length names
    → map given (texts (drop i names)) ≡ given (get_or names i d).now ∷ map given (texts (drop (i + 1) names))
left_at given names i d inside = ap (λ (xs : List (Bor Text)). map given (texts xs)) (drop_more names i d inside)

-- ---- what comes of a parse

module _ (keys ids : List Text) (planned : ArePlanned keys ids) (a : App) (words : List Text) (is : a ≡ plan_app keys ids) where
  simple : is_simple_and_free a ≡ true
  simple = ap is_simple_and_free is ∙ plan_simple keys ids (omega (arith, planned.few))

  pub sorts_of : (m : ArgMatches) → HasMatchesOf a words m → (is_simple_and_free a ≡ true → FailsBy {T = ArgMatches} (fault_of a words) (Ok m)) → Sorts keys ids (drop 1 words) (found_in m)
  sorts_of m has fails =
      let none : fault_of (plan_app keys ids) words ≡ [] = ap (λ (x : App). fault_of x words) (sym is) ∙ fails simple in
      let rows : rows_of (found_of m) ≡ matches_of (plan_app keys ids) words = (has (and_both (is_simple a) _ simple).0).0 ∙ ap (λ (x : App). matches_of x words) is in
      let t = taken keys ids planned (found_of m) words none rows in
      record {
        options = t.0;
        names = t.1.0;
        gives = t.1.1.0;
        finds = t.1.1.1;
        alone = λ more others gives values flags. taken_alone keys ids planned (found_of m) words more others rows gives values flags;
      }

  not_memory : (e : Error) → HasKind [] e → Usage ≡ fail_of (kind_of e) → ⊥
  not_memory e (inl memory) f = cc (f ∙ ap fail_of memory)
  not_memory e (inr none) f = absurd none

  pub usage_of : (e : Error) (f : WordsFail) → (is_simple_and_free a ≡ true → FailsBy {T = ArgMatches} (fault_of a words) (Err e)) → f ≡ fail_of (kind_of e) → IsMatched keys ids (drop 1 words) (Err f)
  usage_of e Memory fails told = tt
  usage_of e Usage fails told = λ options names gives values flags.
      let none : fault_of a words ≡ [] = ap (λ (x : App). fault_of x words) is ∙ takes_given keys ids planned words options names gives values flags in
      not_memory e (subst (λ (ks : Kinds). HasKind ks e) none (fails simple)) told
