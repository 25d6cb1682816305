use Rattle.std.proofs.Common.{◌∙◌, ap, length}
use Rattle.machine_tests.proofs.BlankImages.{blank_on}
use Rattle.machine_tests.proofs.raw_walks.blank_board.Goals as goal

pub returns-clause-blank : goal.returns-clause-blank
returns-clause-blank g c =
    let e = c.blank_image-words.ensures in
    blank_on _ _ _ _ _ (c.raw_memory-mem.ensures ∙ c.deref.ensures.value) e.image e.frames e.scratch e.gate e.empty c.requires.sizes c.board_on.ensures.protected c.board_on.ensures.rest c.board_on.ensures.closed (ap (λ blocks. length blocks) c.board_on.ensures.disk ∙ c.disk_of-disk.ensures)
