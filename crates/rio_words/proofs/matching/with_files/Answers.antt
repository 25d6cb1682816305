use Rattle.std.proofs.Common.{rules, ◌≡◌, ◌∙◌, ℕ, ◌+◌, List, [], sym, ap, map, drop, get_or}
use Rattle.std.specs.Borrow.{Bor}
use Rattle.clap.specs.Simple.{app_of, with_rule}
use Rattle.clap.specs.Walk.{texts}
use Rattle.rio_words.specs.Plans.{file_given, with_rules}
use Rattle.rio_words.proofs.ClapCommands.{left_at, one_more}
use Rattle.rio_words.proofs.matching.with_files.Goals as goal

pub loop-name-preserved : goal.loop-name-preserved
loop-name-preserved c =
    let at = c.loop-name in
    let names = c.args.names.now in
    let d : Bor (List ℕ) = record { ref_ptr = (0, 0); now = [] } in
    let name = get_or names at.name-index d in
    let added : app_of c.in_ok-command.command ≡ with_rule (app_of at.command) (file_given name.now) = search rules in
    let rest = map file_given (texts (drop (at.name-index + 1) names)) in
    one_more (app_of at.command) (app_of c.in_ok-command.command) (file_given name.now) rest added
    ∙ sym (ap (with_rules (app_of at.command)) (left_at file_given names at.name-index d c.loop-name-test.true)) ∙ at.invariant
