use Rattle.std.proofs.Common.{◌∙◌}
use Rattle.rio_base.proofs.BlockRules.{still_unnamed}
use Rattle.block_alloc.proofs.Ends.{halts_ok, halts_stopped, same_update}
use Rattle.rio_base.proofs.BlockRules.{metadata}
use Rattle.std.proofs.Common.{arith}
use Rattle.block_alloc.proofs.marking.touched_word.Goals as goal

pub returns-in-Ok-clause-shape : goal.returns-in-Ok-clause-shape
returns-in-Ok-clause-shape g c = still_unnamed c.args.shape.now _ _ 1 c.requires.shape c.word.ensures.looks.count c.word.ensures.caches

pub returns-in-Ok-clause-standing : goal.returns-in-Ok-clause-standing
returns-in-Ok-clause-standing g c = (g.met.V.Volume.passes_keeps _ _ c.word.ensures.passes).standing

pub returns-in-Ok-clause-firm : goal.returns-in-Ok-clause-firm
returns-in-Ok-clause-firm g c = (g.met.V.Volume.passes_keeps _ _ c.word.ensures.passes).firm

pub returns-in-Ok-clause-update : goal.returns-in-Ok-clause-update
returns-in-Ok-clause-update g c = same_update _ _ _ _ _ _ (g.met.V.Volume.passes_keeps _ _ c.word.ensures.passes)

pub returns-in-Ok-clause-in_update : goal.returns-in-Ok-clause-in_update
returns-in-Ok-clause-in_update g c = (g.met.V.Volume.passes_keeps _ _ c.word.ensures.passes).updating ∙ ((g.met.V.Volume.settled c.args.v.now c.requires.sound).touched 1 c.requires.touched)

pub returns-in-Ok-clause-goes : goal.returns-in-Ok-clause-goes
returns-in-Ok-clause-goes g c = (g.met.V.Volume.passes_keeps _ _ c.word.ensures.passes).goes

pub returns-in-Ok-clause-ends : goal.returns-in-Ok-clause-ends
returns-in-Ok-clause-ends g c = halts_ok _ _ c.in-Ok.word _ c.in-Ok.ensures.ends

pub returns-in-Err-Stopped-clause-shape : goal.returns-in-Err-Stopped-clause-shape
returns-in-Err-Stopped-clause-shape g c = still_unnamed c.args.shape.now _ _ 1 c.requires.shape c.word.ensures.looks.count c.word.ensures.caches

pub returns-in-Err-Stopped-clause-standing : goal.returns-in-Err-Stopped-clause-standing
returns-in-Err-Stopped-clause-standing g c = (g.met.V.Volume.passes_keeps _ _ c.word.ensures.passes).standing

pub returns-in-Err-Stopped-clause-firm : goal.returns-in-Err-Stopped-clause-firm
returns-in-Err-Stopped-clause-firm g c = (g.met.V.Volume.passes_keeps _ _ c.word.ensures.passes).firm

pub returns-in-Err-Stopped-clause-update : goal.returns-in-Err-Stopped-clause-update
returns-in-Err-Stopped-clause-update g c = same_update _ _ _ _ _ _ (g.met.V.Volume.passes_keeps _ _ c.word.ensures.passes)

pub returns-in-Err-Stopped-clause-in_update : goal.returns-in-Err-Stopped-clause-in_update
returns-in-Err-Stopped-clause-in_update g c = (g.met.V.Volume.passes_keeps _ _ c.word.ensures.passes).updating ∙ ((g.met.V.Volume.settled c.args.v.now c.requires.sound).touched 1 c.requires.touched)

pub returns-in-Err-Stopped-clause-goes : goal.returns-in-Err-Stopped-clause-goes
returns-in-Err-Stopped-clause-goes g c = (g.met.V.Volume.passes_keeps _ _ c.word.ensures.passes).goes

pub returns-in-Err-Stopped-clause-ends : goal.returns-in-Err-Stopped-clause-ends
returns-in-Err-Stopped-clause-ends g c = halts_stopped _ _ c.in-Err-Stopped.field-0 _ c.in-Err-Stopped.field-0-is c.in-Err-Stopped.ensures.ends

pub word-requires-clause-name : goal.word-requires-clause-name
word-requires-clause-name g c = metadata c.args.shape.now _ 1 c.requires.shape (omega arith)

pub word-requires-clause-place : goal.word-requires-clause-place
word-requires-clause-place g c = record { block = omega (arith, c.requires.shape.count, c.requires.shape.sizes.blocks_from); word = c.requires.place }
