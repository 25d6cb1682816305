use Rattle.std.proofs.Common.{◌*◌, arith, le_refl}
use Rattle.std.proofs.lemmas.Result.{err_from_is_err_and}
use Rattle.block_disk.proofs.Ends.{fails_as, none_made}
use Rattle.block_disk.proofs.disk_file.read_words.Goals as goal

pub rooms-requires : goal.rooms-requires
rooms-requires g c = (omega (arith, c.requires.long.least), omega (arith, c.requires.long.most))

pub returns-in_default-clause-later : goal.returns-in_default-clause-later
returns-in_default-clause-later g c = le_refl _

pub returns-in_default-clause-fails : goal.returns-in_default-clause-fails
returns-in_default-clause-fails g c = (8 * c.args.count, c.requires.size, c.requires.long)

pub returns-in_err-read_pieces-clause-words : goal.returns-in_err-read_pieces-clause-words
returns-in_err-read_pieces-clause-words g c = none_made c.from_residual.result _ c.from_residual.ensures.0

pub returns-in_err-read_pieces-clause-count : goal.returns-in_err-read_pieces-clause-count
returns-in_err-read_pieces-clause-count g c = none_made c.from_residual.result _ c.from_residual.ensures.0

pub returns-in_err-read_pieces-clause-fails : goal.returns-in_err-read_pieces-clause-fails
returns-in_err-read_pieces-clause-fails g c =
    let told = err_from_is_err_and c.from_residual.result c.from_residual.ensures.1 in
    fails_as c.from_residual.result _ _ _ _ _ told.1 told.2 c.in_err-read_pieces.ensures.fails
