use Rattle.std.proofs.Common.{arith}
use Rattle.std.proofs.lemmas.Result.{err_from_is_err_and}
use Rattle.block_disk.proofs.Ends.{fails_as, none_owed}
use Rattle.block_disk.proofs.HostFiles.{long_less}
use Rattle.block_disk.proofs.disk_file.read_piece.Goals as goal

pub fill_piece-requires-clause-within : goal.fill_piece-requires-clause-within
fill_piece-requires-clause-within g c = omega (arith, c.requires.room, c.requires.within, c.requires.most)

pub fill_piece-requires-clause-file : goal.fill_piece-requires-clause-file
fill_piece-requires-clause-file g c = long_less _ _ _ _ c.requires.file (omega (arith, c.requires.room, c.requires.within))

pub overflow_add-done : goal.overflow_add-done
overflow_add-done g c = omega (arith, c.requires.within, c.requires.most)

pub overflow_mul-done : goal.overflow_mul-done
overflow_mul-done g c = omega (arith, c.requires.within, c.requires.most)

pub returns-in_err-fill_piece-clause-bytes : goal.returns-in_err-fill_piece-clause-bytes
returns-in_err-fill_piece-clause-bytes g c = none_owed c.from_residual.result _ c.from_residual.ensures.0

pub returns-in_err-fill_piece-clause-fails : goal.returns-in_err-fill_piece-clause-fails
returns-in_err-fill_piece-clause-fails g c =
    let told = err_from_is_err_and c.from_residual.result c.from_residual.ensures.1 in
    fails_as c.from_residual.result _ _ _ _ _ told.1 told.2 c.in_err-fill_piece.ensures.fails
