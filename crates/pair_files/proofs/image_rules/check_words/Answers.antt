use Rattle.std.proofs.Common.{subst}
use Rattle.rio_model.specs.Registry.{KeepsRegistry}
use Rattle.pair_files.proofs.LoadRules.{layout_by, rule_fails}
use Rattle.pair_files.proofs.image_rules.check_words.Goals as goal

pub check_image-requires : goal.check_image-requires
check_image-requires c = record { layout = layout_by _ _ _ _ c.in-Ok.ensures.words c.in-Ok.ensures.scratch c.board_of.ensures.layout }

pub returns-in-Ok-check_image-clause-keeps : goal.returns-in-Ok-check_image-clause-keeps
returns-in-Ok-check_image-clause-keeps c = subst KeepsRegistry c.in-Ok.ensures.words c.in-Ok-check_image.ensures

pub returns-clause-fails : goal.returns-clause-fails
returns-clause-fails c = λ bytes are. rule_fails bytes _ _ _ _ c.in-Ok.ensures.words c.board_of.ensures.layout c.in-Err.ensures are
