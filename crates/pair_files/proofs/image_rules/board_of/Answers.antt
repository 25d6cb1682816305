use Rattle.std.proofs.lemmas.Result.{IfOk-from_err}
use Rattle.pair_files.proofs.ImageLayouts.{image_layout}
use Rattle.pair_files.proofs.image_rules.board_of.Goals as goal

pub returns-in_err-disk-clause-words : goal.returns-in_err-disk-clause-words
returns-in_err-disk-clause-words c = IfOk-from_err c.from_residual.result _ c.from_residual.ensures.0

pub returns-in_err-disk-clause-scratch : goal.returns-in_err-disk-clause-scratch
returns-in_err-disk-clause-scratch c = IfOk-from_err c.from_residual.result _ c.from_residual.ensures.0

pub returns-in_err-disk-clause-layout : goal.returns-in_err-disk-clause-layout
returns-in_err-disk-clause-layout c = image_layout _ _ c.requires.image c.requires.scratch

pub returns-in_err-mem-clause-words : goal.returns-in_err-mem-clause-words
returns-in_err-mem-clause-words c = IfOk-from_err c.from_residual-in_err-mem.result _ c.from_residual-in_err-mem.ensures.0

pub returns-in_err-mem-clause-scratch : goal.returns-in_err-mem-clause-scratch
returns-in_err-mem-clause-scratch c = IfOk-from_err c.from_residual-in_err-mem.result _ c.from_residual-in_err-mem.ensures.0

pub returns-in_err-mem-clause-layout : goal.returns-in_err-mem-clause-layout
returns-in_err-mem-clause-layout c = image_layout _ _ c.requires.image c.requires.scratch

pub returns-clause-layout : goal.returns-clause-layout
returns-clause-layout c = image_layout _ _ c.requires.image c.requires.scratch
