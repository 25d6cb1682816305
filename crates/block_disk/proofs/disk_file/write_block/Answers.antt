use Rattle.std.proofs.Common.{le_refl}
use Rattle.block_disk.proofs.Ends.{failed_on, none_owed}
use Rattle.block_disk.proofs.FileBlocks.{torn_fits, torn_others, written_fits, written_here, written_others}
use Rattle.block_disk.proofs.HostFiles.{around_torn, around_written}
use Rattle.block_disk.proofs.disk_file.write_block.Goals as goal

pub returns-in_err-write_at-clause-fits : goal.returns-in_err-write_at-clause-fits
returns-in_err-write_at-clause-fits g c = torn_fits _ _ _ _ c.args.b c.requires.block c.requires.fits (rw c.fill_room.ensures.room at c.in_err-write_at.ensures.err)

pub returns-in_err-write_at-clause-here : goal.returns-in_err-write_at-clause-here
returns-in_err-write_at-clause-here g c = none_owed c.from_residual.result _ c.from_residual.ensures.0

pub returns-in_err-write_at-clause-others : goal.returns-in_err-write_at-clause-others
returns-in_err-write_at-clause-others g c = λ d ne has. torn_others _ _ _ _ c.args.b d (rw c.fill_room.ensures.room at c.in_err-write_at.ensures.err) ne has

pub returns-in_err-write_at-clause-around : goal.returns-in_err-write_at-clause-around
returns-in_err-write_at-clause-around g c = around_torn _ _ _ _ _ _ _ c.in_err-write_at.ensures.err c.write_at.ensures.asked

pub returns-in_err-write_at-clause-cause : goal.returns-in_err-write_at-clause-cause
returns-in_err-write_at-clause-cause g c = failed_on c.from_residual.result _ _ _ c.from_residual.ensures.0 (le_refl _) c.in_err-write_at.ensures.cause.later c.in_err-write_at.ensures.cause.cause

pub returns-clause-fits : goal.returns-clause-fits
returns-clause-fits g c = written_fits _ _ _ _ _ c.args.b c.fill_room.ensures.room c.requires.block c.requires.fits c.in_ok-write_at.ensures.ok

pub returns-clause-here : goal.returns-clause-here
returns-clause-here g c = written_here _ _ _ _ _ c.args.b c.fill_room.ensures.bytes c.requires.block c.requires.fits c.in_ok-write_at.ensures.ok

pub returns-clause-others : goal.returns-clause-others
returns-clause-others g c = λ d ne has. written_others _ _ _ _ _ c.args.b d c.fill_room.ensures.room c.requires.block c.requires.fits c.in_ok-write_at.ensures.ok ne has

pub returns-clause-around : goal.returns-clause-around
returns-clause-around g c = around_written _ _ _ _ _ _ _ c.in_ok-write_at.ensures.ok c.write_at.ensures.asked

pub returns-clause-cause : goal.returns-clause-cause
returns-clause-cause g c = record { later = c.in_ok-write_at.ensures.cause.later; cause = tt }
