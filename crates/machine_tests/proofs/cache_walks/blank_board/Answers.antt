use Rattle.std.proofs.Common.{◌∙◌}
use Rattle.machine_tests.proofs.BlankImages.{blank_on}
use Rattle.machine_tests.proofs.cache_walks.blank_board.Goals as goal

pub returns-clause-blank : goal.returns-clause-blank
returns-clause-blank g c =
    let e = c.blank_image-words.ensures in
    blank_on _ _ _ _ _ c.from_words.ensures.words e.image e.frames e.scratch e.gate e.empty c.requires.sizes c.board_on.ensures.protected c.board_on.ensures.rest c.board_on.ensures.closed (c.board_on.ensures.blocks ∙ c.disk_of-disk.ensures)
