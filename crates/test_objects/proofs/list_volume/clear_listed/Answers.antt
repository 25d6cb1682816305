use Rattle.test_objects.proofs.Clears.{listed_words, same_but_cleared}
use Rattle.test_objects.proofs.list_volume.clear_listed.Goals as goal

pub returns-clause-words : goal.returns-clause-words
returns-clause-words c = listed_words _ _ _ _ _ c.deref_mut.ensures.value c.deref_mut.ensures.len c.clear_block.ensures c.requires

pub returns-clause-others : goal.returns-clause-others
returns-clause-others c = same_but_cleared _ _ _ (listed_words _ _ _ _ _ c.deref_mut.ensures.value c.deref_mut.ensures.len c.clear_block.ensures c.requires)
