use Rattle.std.proofs.Common.{arith, ◌∙◌}
use Rattle.std.proofs.lemmas.List.{take_at}
use Rattle.std.proofs.lemmas.Result.{IfOk-from_err}
use Rattle.image_codec.proofs.Fresh.{marked_in, superblock_in, volume_text}
use Rattle.image_codec.proofs.volume.fresh_volume.Goals as goal

pub returns-clause-superblock : goal.returns-clause-superblock
returns-clause-superblock c = superblock_in _ c.args.shape.now (take_at c.write_volume.new.words _ c.in_ok-words.words.len (c.write_volume.auto.words ∙ c.deref_mut.ensures.len) ∙ c.write_volume.ensures) c.requires.version (omega arith)

pub returns-clause-text : goal.returns-clause-text
returns-clause-text c = volume_text _ c.args.shape.now.blocks c.args.shape.now.inodes (take_at c.write_volume.new.words _ c.in_ok-words.words.len (c.write_volume.auto.words ∙ c.deref_mut.ensures.len) ∙ c.write_volume.ensures) (omega arith)

pub returns-clause-marked : goal.returns-clause-marked
returns-clause-marked c = λ b lt. marked_in _ c.args.shape.now b (take_at c.write_volume.new.words _ c.in_ok-words.words.len (c.write_volume.auto.words ∙ c.deref_mut.ensures.len) ∙ c.write_volume.ensures) c.requires.version (omega arith) lt

pub returns-in_err-words-clause-value : goal.returns-in_err-words-clause-value
returns-in_err-words-clause-value c = IfOk-from_err c.from_residual.result _ c.from_residual.ensures.0

pub returns-in_err-words-clause-superblock : goal.returns-in_err-words-clause-superblock
returns-in_err-words-clause-superblock c = IfOk-from_err c.from_residual.result _ c.from_residual.ensures.0

pub returns-in_err-words-clause-text : goal.returns-in_err-words-clause-text
returns-in_err-words-clause-text c = IfOk-from_err c.from_residual.result _ c.from_residual.ensures.0

pub returns-in_err-words-clause-marked : goal.returns-in_err-words-clause-marked
returns-in_err-words-clause-marked c = IfOk-from_err c.from_residual.result _ c.from_residual.ensures.0

pub returns-clause-value : goal.returns-clause-value
returns-clause-value c = take_at c.write_volume.new.words _ c.in_ok-words.words.len (c.write_volume.auto.words ∙ c.deref_mut.ensures.len) ∙ c.write_volume.ensures

pub write_volume-requires-clause-zeros : goal.write_volume-requires-clause-zeros
write_volume-requires-clause-zeros c = c.deref_mut.ensures.value ∙ c.in_ok-words.ensures.items_if_clones_equal (λ y e. e)
