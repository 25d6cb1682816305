use Rattle.std.proofs.Common.{◌∙◌}
use Rattle.boots.proofs.FreshMemory.{fresh_long, fresh_parts}
use Rattle.boots.proofs.formatting.format_parts.Goals as goal

pub returns-clause-stand : goal.returns-clause-stand
returns-clause-stand c =
    let image = c.in_ok-words.ensures in
    let disk = c.in_ok-disk.ensures in
    fresh_parts _ _ _ _ _ _ c.requires.memory c.requires.volume image.image image.value image.empty (c.in_ok-memory.ensures.words ∙ c.deref.ensures.value) disk.fresh disk.made

pub returns-clause-words : goal.returns-clause-words
returns-clause-words c = fresh_long _ _ _ _ c.in_ok-words.ensures.value (c.in_ok-memory.ensures.words ∙ c.deref.ensures.value)
