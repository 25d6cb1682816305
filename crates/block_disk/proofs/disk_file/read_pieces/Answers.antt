use Rattle.std.proofs.Common.{refl, arith, ◌∙◌, le_refl, le_trans}
use Rattle.std.proofs.lemmas.Result.{err_from_is_err_and}
use Rattle.block_disk.proofs.Ends.{fails_as, fails_later, none_owed, same_size}
use Rattle.block_disk.proofs.FileReads.{front_all, front_none}
use Rattle.block_disk.proofs.HostFiles.{long_enough}
use Rattle.block_disk.proofs.disk_file.read_pieces.Goals as goal

pub pieces-init : goal.pieces-init
pieces-init g c = record { kept = refl; asks = refl; front = front_none _ _ _; count = refl; within = omega arith; room = refl; later = le_refl _ }

pub read_piece-requires-clause-file : goal.read_piece-requires-clause-file
read_piece-requires-clause-file g c = long_enough _ _ _ _ (same_size _ _ _ _ c.pieces.invariant.kept c.requires.size) (omega (arith, c.pieces.invariant.count))

pub read_piece-requires-clause-most : goal.read_piece-requires-clause-most
read_piece-requires-clause-most g c = omega (arith, c.requires.most, c.pieces.invariant.count)

pub returns-in_err-read_piece-clause-files : goal.returns-in_err-read_piece-clause-files
returns-in_err-read_piece-clause-files g c = c.read_piece.ensures.files ∙ c.pieces.invariant.kept

pub returns-in_err-read_piece-clause-bytes : goal.returns-in_err-read_piece-clause-bytes
returns-in_err-read_piece-clause-bytes g c = none_owed c.from_residual.result _ c.from_residual.ensures.0

pub returns-in_err-read_piece-clause-count : goal.returns-in_err-read_piece-clause-count
returns-in_err-read_piece-clause-count g c = c.read_piece.ensures.count ∙ c.pieces.invariant.count

pub returns-in_err-read_piece-clause-fails : goal.returns-in_err-read_piece-clause-fails
returns-in_err-read_piece-clause-fails g c =
    let told = err_from_is_err_and c.from_residual.result c.from_residual.ensures.1 in
    fails_as c.from_residual.result _ _ _ _ _ told.1 told.2 (fails_later _ _ _ _ _ _ _ c.pieces.invariant.kept c.pieces.invariant.later c.in_err-read_piece.ensures.fails)

pub returns-in_err-read_piece-clause-later : goal.returns-in_err-read_piece-clause-later
returns-in_err-read_piece-clause-later g c = le_trans c.pieces.invariant.later c.read_piece.ensures.later

pub returns-clause-bytes : goal.returns-clause-bytes
returns-clause-bytes g c = front_all _ _ _ _ _ c.requires.size c.pieces.invariant.count (omega (arith, c.pieces.invariant.within, c.pieces.invariant.count, c.pieces-test.false)) c.pieces.invariant.front

pub returns-in_err-read_piece-clause-asked : goal.returns-in_err-read_piece-clause-asked
returns-in_err-read_piece-clause-asked g c = c.read_piece.ensures.asked ∙ c.pieces.invariant.asks
