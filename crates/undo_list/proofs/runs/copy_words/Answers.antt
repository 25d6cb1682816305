use Rattle.std.proofs.Common.{OnOk, arith, subst, sym, ◌+◌, ◌≡◌, ◌≤◌}
use Rattle.std.proofs.lemmas.List.{length-take-le}
use Rattle.undo_list.specs.Stages.{CopiedFront, copied}
use Rattle.undo_list.proofs.runs.copy_words.Goals as goal

pub copy_run-requires-clause-source : goal.copy_run-requires-clause-source
copy_run-requires-clause-source g c = subst (λ n. c.args.from + n ≤ g.R.RegionWords.count c.args.r.now) (sym (length-take-le _ _ (omega (arith, c.if-n-le-SHORT_WORDS.true)))) c.requires.source

pub copy_run-requires-clause-target : goal.copy_run-requires-clause-target
copy_run-requires-clause-target g c = subst (λ n. c.args.to + n ≤ g.R.RegionWords.count c.args.r.now) (sym (length-take-le _ _ (omega (arith, c.if-n-le-SHORT_WORDS.true)))) c.requires.target

pub returns-then-n-le-SHORT_WORDS-clause-ok : goal.returns-then-n-le-SHORT_WORDS-clause-ok
returns-then-n-le-SHORT_WORDS-clause-ok g c = subst (λ n. OnOk c.copy_run.result (g.R.RegionWords.words c.copy_run.new.r ≡ copied (g.R.RegionWords.words c.args.r.now) c.args.from c.args.to n)) (length-take-le _ _ (omega (arith, c.if-n-le-SHORT_WORDS.true))) c.copy_run.ensures.ok

pub returns-then-n-le-SHORT_WORDS-clause-front : goal.returns-then-n-le-SHORT_WORDS-clause-front
returns-then-n-le-SHORT_WORDS-clause-front g c = subst (λ n. CopiedFront (g.R.RegionWords.words c.args.r.now) (g.R.RegionWords.words c.copy_run.new.r) c.args.from c.args.to n) (length-take-le _ _ (omega (arith, c.if-n-le-SHORT_WORDS.true))) c.copy_run.ensures.front

pub copy_middle-requires-clause-few : goal.copy_middle-requires-clause-few
copy_middle-requires-clause-few g c = c.if-n-le-MIDDLE_WORDS.true
