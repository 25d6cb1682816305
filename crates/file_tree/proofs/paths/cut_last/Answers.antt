use Rattle.request_ends.proofs.Common.{◌+◌, ◌∙◌, subst, sym, IsName}
use Rattle.std.proofs.lemmas.List.{take_rest}
use Rattle.file_tree.proofs.PathNames.{cut_front, cut_name, cut_place, last_named}
use Rattle.file_tree.proofs.paths.cut_last.Goals as goal

pub returns-clause-front : goal.returns-clause-front
returns-clause-front c = cut_front c.args.path.now c.unwrap_or-at.result c.requires.path c.requires.some (c.unwrap_or-at.ensures ∙ cut_place c.args.path.now c.memrchr.result c.requires.path c.requires.some c.memrchr.ensures)

pub returns-clause-last : goal.returns-clause-last
returns-clause-last c = cut_name c.args.path.now c.unwrap_or-at.result c.requires.path c.requires.some (c.unwrap_or-at.ensures ∙ cut_place c.args.path.now c.memrchr.result c.requires.path c.requires.some c.memrchr.ensures) ∙ sym (take_rest c.args.path.now (c.unwrap_or-at.result + 1))

pub returns-clause-name : goal.returns-clause-name
returns-clause-name c = subst IsName (cut_name c.args.path.now c.unwrap_or-at.result c.requires.path c.requires.some (c.unwrap_or-at.ensures ∙ cut_place c.args.path.now c.memrchr.result c.requires.path c.requires.some c.memrchr.ensures) ∙ sym (take_rest c.args.path.now (c.unwrap_or-at.result + 1))) (last_named c.args.path.now c.requires.path c.requires.some)
