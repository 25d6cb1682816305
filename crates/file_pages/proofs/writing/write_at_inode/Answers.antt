use Rattle.file_pages.proofs.Common.{◌≡◌, ◌+◌, ◌<◌, ◌∙◌, length, sym, subst, arith, err_from_is_err_and, free_blocks, IsIno, placed_at, inr}
use Rattle.node_pages.specs.Changes.{wanted_blocks}
use Rattle.file_pages.specs.Files.{HasSpace, file_bytes}
use Rattle.node_pages.specs.declared.failures.WriteFail.TheVariants.{NoSpace, TooLarge}
use Rattle.file_pages.proofs.Resized.{file_ino, file_placed, file_size}
use Rattle.file_pages.proofs.Touched.{some_length}
use Rattle.file_pages.proofs.Written.{ends_same, ends_write_ok, leaves_same, no_length, none_both, was_err, write_fault, write_ready, write_refused, write_stopped, large_fault, large_space, large_still, large_stopped, well_fault, well_refused, well_stopped, write_still, write_unrefused}
use Rattle.node_pages.proofs.EndsOn.{if_err}
use Rattle.node_pages.proofs.OrderRules.{leaves_refl}
use Rattle.rio_base.specs.Rules.{goes_refl}
use Rattle.file_pages.proofs.writing.write_at_inode.Goals as goal

pub returns-then-is_empty-clause-ok : goal.returns-then-is_empty-clause-ok
returns-then-is_empty-clause-ok g c =
    none_both c.args.shape.now (g.V.Blocks.seen c.args.v.now) (g.V.Volume.kept c.args.v.now) c.args.i.0 c.args.off c.args.bytes.now c.requires.ready (g.met.V.Volume.settled _ c.requires.sound) c.requires.file (no_length _ (sym c.is_empty.ensures ∙ c.if-is_empty.true))

pub write_at-requires-clause-ino : goal.write_at-requires-clause-ino
write_at-requires-clause-ino g c = file_ino c.args.shape.now (g.V.Blocks.seen c.args.v.now).words c.args.i.0 c.requires.file

pub write_at-requires-clause-file : goal.write_at-requires-clause-file
write_at-requires-clause-file g c =
    file_placed c.args.shape.now (g.V.Blocks.seen c.args.v.now).words c.args.i.0 (file_ino c.args.shape.now (g.V.Blocks.seen c.args.v.now).words c.args.i.0 c.requires.file) c.requires.file

pub returns-in_err-write_at-clause-no_space : goal.returns-in_err-write_at-clause-no_space
returns-in_err-write_at-clause-no_space g c =
    let shape = c.args.shape.now in
    let x = g.V.Blocks.seen c.args.v.now in
    let i = c.args.i.0 in
    let len = c.args.off + length c.args.bytes.now in
    let ino : IsIno shape i = file_ino shape x.words i c.requires.file in
    let size : length (file_bytes shape x.words i) ≡ (placed_at x.words i).size = file_size shape x.words i ino (file_placed shape x.words i ino c.requires.file) in
    let p = err_from_is_err_and c.from_residual.result c.from_residual.ensures.1 in
    λ is. (
      some_length _ (sym c.is_empty.ensures ∙ c.if-is_empty.false),
      omega (arith, c.if-off-gt-LARGEST_SIZE.false, c.if-count-off.false),
      subst (λ n. length (free_blocks shape x.words) < wanted_blocks n len) (sym size) (c.write_at.ensures.no_space (was_err c.write_at.result c.from_residual.result _ _ NoSpace c.in_err-write_at.was p.1 p.2 is)),
    )

pub returns-in_err-write_at-clause-refused : goal.returns-in_err-write_at-clause-refused
returns-in_err-write_at-clause-refused g c =
    let p = err_from_is_err_and c.from_residual.result c.from_residual.ensures.1 in
    write_refused c.args.shape.now _ _ _ _ c.args.i.0 c.args.off c.args.bytes.now c.from_residual.result (leaves_same c.args.shape.now _ _ _ _ c.args.i.0 c.args.off c.args.bytes.now c.write_at.result c.from_residual.result _ _ c.in_err-write_at.was p.1 p.2 c.write_at.ensures.leaves)

pub returns-in_err-write_at-clause-fault : goal.returns-in_err-write_at-clause-fault
returns-in_err-write_at-clause-fault g c =
    let p = err_from_is_err_and c.from_residual.result c.from_residual.ensures.1 in
    write_fault c.args.shape.now _ _ _ _ c.args.i.0 c.args.off c.args.bytes.now c.from_residual.result (leaves_same c.args.shape.now _ _ _ _ c.args.i.0 c.args.off c.args.bytes.now c.write_at.result c.from_residual.result _ _ c.in_err-write_at.was p.1 p.2 c.write_at.ensures.leaves)

pub returns-in_err-write_at-clause-stopped : goal.returns-in_err-write_at-clause-stopped
returns-in_err-write_at-clause-stopped g c =
    let p = err_from_is_err_and c.from_residual.result c.from_residual.ensures.1 in
    write_stopped c.args.shape.now _ _ _ _ c.args.i.0 c.args.off c.args.bytes.now c.from_residual.result (leaves_same c.args.shape.now _ _ _ _ c.args.i.0 c.args.off c.args.bytes.now c.write_at.result c.from_residual.result _ _ c.in_err-write_at.was p.1 p.2 c.write_at.ensures.leaves)

pub returns-in_err-write_at-clause-ready : goal.returns-in_err-write_at-clause-ready
returns-in_err-write_at-clause-ready g c =
    let p = err_from_is_err_and c.from_residual.result c.from_residual.ensures.1 in
    write_ready c.args.shape.now _ _ _ _ c.args.i.0 c.args.off c.args.bytes.now c.from_residual.result c.requires.ready (leaves_same c.args.shape.now _ _ _ _ c.args.i.0 c.args.off c.args.bytes.now c.write_at.result c.from_residual.result _ _ c.in_err-write_at.was p.1 p.2 c.write_at.ensures.leaves)

pub returns-in_err-write_at-clause-ends : goal.returns-in_err-write_at-clause-ends
returns-in_err-write_at-clause-ends g c =
    let p = err_from_is_err_and c.from_residual.result c.from_residual.ensures.1 in
    ends_same _ _ c.write_at.result c.from_residual.result _ _ c.in_err-write_at.was p.1 p.2 c.write_at.ensures.ends

pub returns-clause-space : goal.returns-clause-space
returns-clause-space g c =
    let shape = c.args.shape.now in
    let x = g.V.Blocks.seen c.args.v.now in
    let i = c.args.i.0 in
    let ino : IsIno shape i = file_ino shape x.words i c.requires.file in
    let size : length (file_bytes shape x.words i) ≡ (placed_at x.words i).size = file_size shape x.words i ino (file_placed shape x.words i ino c.requires.file) in
    λ some. subst (λ n. HasSpace shape x.words n (c.args.off + length c.args.bytes.now)) (sym size) c.in_ok-write_at.ensures.room

pub returns-clause-ends : goal.returns-clause-ends
returns-clause-ends g c = ends_write_ok _ _ c.write_at.result _ _ c.in_ok-write_at.was c.write_at.ensures.ends

pub returns-clause-too_large : goal.returns-clause-too_large
returns-clause-too_large g c = λ is. absurd ((write_unrefused _).1 is)

pub returns-clause-no_space : goal.returns-clause-no_space
returns-clause-no_space g c = λ is. absurd ((write_unrefused _).0 is)

pub returns-clause-stopped : goal.returns-clause-stopped
returns-clause-stopped g c = λ is. absurd (well_stopped _ is)

pub returns-clause-fault : goal.returns-clause-fault
returns-clause-fault g c = λ k is. absurd (well_fault _ k is)

pub returns-in_err-write_at-clause-too_large : goal.returns-in_err-write_at-clause-too_large
returns-in_err-write_at-clause-too_large g c = let p = err_from_is_err_and c.from_residual.result c.from_residual.ensures.1 in λ is. absurd (c.write_at.ensures.small (was_err c.write_at.result c.from_residual.result _ _ TooLarge c.in_err-write_at.was p.1 p.2 is))

pub returns-then-is_empty-clause-ends : goal.returns-then-is_empty-clause-ends
returns-then-is_empty-clause-ends g c = write_still _ _

pub returns-then-is_empty-clause-goes : goal.returns-then-is_empty-clause-goes
returns-then-is_empty-clause-goes g c = goes_refl _ _

pub returns-then-is_empty-clause-fault : goal.returns-then-is_empty-clause-fault
returns-then-is_empty-clause-fault g c = λ k is. absurd (well_fault _ k is)

pub returns-then-is_empty-clause-no_space : goal.returns-then-is_empty-clause-no_space
returns-then-is_empty-clause-no_space g c = λ is. absurd ((write_unrefused _).0 is)

pub returns-then-is_empty-clause-too_large : goal.returns-then-is_empty-clause-too_large
returns-then-is_empty-clause-too_large g c = λ is. absurd ((write_unrefused _).1 is)

pub returns-then-is_empty-clause-ready : goal.returns-then-is_empty-clause-ready
returns-then-is_empty-clause-ready g c = inr c.requires.ready

pub returns-then-is_empty-clause-refused : goal.returns-then-is_empty-clause-refused
returns-then-is_empty-clause-refused g c = λ is. absurd (well_refused _ is)

pub returns-then-is_empty-clause-stopped : goal.returns-then-is_empty-clause-stopped
returns-then-is_empty-clause-stopped g c = λ is. absurd (well_stopped _ is)

pub returns-then-is_empty-clause-value : goal.returns-then-is_empty-clause-value
returns-then-is_empty-clause-value g c = sym (no_length _ (sym c.is_empty.ensures ∙ c.if-is_empty.true))

pub returns-then-is_empty-clause-space : goal.returns-then-is_empty-clause-space
returns-then-is_empty-clause-space g c = let none = no_length _ (sym c.is_empty.ensures ∙ c.if-is_empty.true) in λ some. absurd (omega (arith, some, none))

pub returns-then-off-gt-LARGEST_SIZE-clause-ends : goal.returns-then-off-gt-LARGEST_SIZE-clause-ends
returns-then-off-gt-LARGEST_SIZE-clause-ends g c = large_still _

pub returns-then-off-gt-LARGEST_SIZE-clause-goes : goal.returns-then-off-gt-LARGEST_SIZE-clause-goes
returns-then-off-gt-LARGEST_SIZE-clause-goes g c = goes_refl _ _

pub returns-then-off-gt-LARGEST_SIZE-clause-ready : goal.returns-then-off-gt-LARGEST_SIZE-clause-ready
returns-then-off-gt-LARGEST_SIZE-clause-ready g c = inr c.requires.ready

pub returns-then-off-gt-LARGEST_SIZE-clause-fault : goal.returns-then-off-gt-LARGEST_SIZE-clause-fault
returns-then-off-gt-LARGEST_SIZE-clause-fault g c = λ k is. absurd (large_fault k is)

pub returns-then-off-gt-LARGEST_SIZE-clause-no_space : goal.returns-then-off-gt-LARGEST_SIZE-clause-no_space
returns-then-off-gt-LARGEST_SIZE-clause-no_space g c = λ is. absurd (large_space is)

pub returns-then-off-gt-LARGEST_SIZE-clause-stopped : goal.returns-then-off-gt-LARGEST_SIZE-clause-stopped
returns-then-off-gt-LARGEST_SIZE-clause-stopped g c = λ is. absurd (large_stopped is)

pub returns-then-off-gt-LARGEST_SIZE-clause-refused : goal.returns-then-off-gt-LARGEST_SIZE-clause-refused
returns-then-off-gt-LARGEST_SIZE-clause-refused g c = λ is. leaves_refl c.args.shape.now _ _ c.requires.ready

pub returns-clause-ready : goal.returns-clause-ready
returns-clause-ready g c = inr c.in_ok-write_at.ensures.leaves.1

pub returns-clause-refused : goal.returns-clause-refused
returns-clause-refused g c = λ is. absurd (well_refused _ is)

pub returns-in_err-write_at-clause-ok : goal.returns-in_err-write_at-clause-ok
returns-in_err-write_at-clause-ok g c = if_err c.from_residual.result _ c.from_residual.ensures.0

pub returns-in_err-write_at-clause-space : goal.returns-in_err-write_at-clause-space
returns-in_err-write_at-clause-space g c = if_err c.from_residual.result _ c.from_residual.ensures.0

pub returns-in_err-write_at-clause-value : goal.returns-in_err-write_at-clause-value
returns-in_err-write_at-clause-value g c = if_err c.from_residual.result _ c.from_residual.ensures.0

pub write_at-requires-clause-some : goal.write_at-requires-clause-some
write_at-requires-clause-some g c = some_length _ (sym c.is_empty.ensures ∙ c.if-is_empty.false)

pub write_at-requires-clause-most : goal.write_at-requires-clause-most
write_at-requires-clause-most g c = omega (arith, c.if-off-gt-LARGEST_SIZE.false, c.if-count-off.false)
