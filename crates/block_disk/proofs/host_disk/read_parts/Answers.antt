use Rattle.std.proofs.Common.{ℕ, replicate, false, sym, ap, ◌∙◌, ◌/◌, le_trans}
use Rattle.std.proofs.lemmas.Result.{err_from_is_err_and}
use Rattle.block_disk.proofs.Ends.{fails_as, fails_later, none_made, same_size, same_words}
use Rattle.block_disk.proofs.HostDiskRules.{fresh_marks}
use Rattle.block_disk.proofs.host_disk.read_parts.Goals as goal

pub read_words-requires-clause-size : goal.read_words-requires-clause-size
read_words-requires-clause-size g c = same_size _ _ _ _ c.count_words.ensures.files c.in_ok-count.ensures.size

pub returns-in_err-count-clause-words : goal.returns-in_err-count-clause-words
returns-in_err-count-clause-words g c = none_made c.from_residual.result _ c.from_residual.ensures.0

pub returns-in_err-count-clause-count : goal.returns-in_err-count-clause-count
returns-in_err-count-clause-count g c = none_made c.from_residual.result _ c.from_residual.ensures.0

pub returns-in_err-count-clause-pending : goal.returns-in_err-count-clause-pending
returns-in_err-count-clause-pending g c = none_made c.from_residual.result _ c.from_residual.ensures.0

pub returns-in_err-count-clause-unwritten : goal.returns-in_err-count-clause-unwritten
returns-in_err-count-clause-unwritten g c = none_made c.from_residual.result _ c.from_residual.ensures.0

pub returns-in_err-count-clause-room : goal.returns-in_err-count-clause-room
returns-in_err-count-clause-room g c = none_made c.from_residual.result _ c.from_residual.ensures.0

pub returns-in_err-words-clause-words : goal.returns-in_err-words-clause-words
returns-in_err-words-clause-words g c = none_made c.from_residual-in_err-words.result _ c.from_residual-in_err-words.ensures.0

pub returns-in_err-words-clause-count : goal.returns-in_err-words-clause-count
returns-in_err-words-clause-count g c = none_made c.from_residual-in_err-words.result _ c.from_residual-in_err-words.ensures.0

pub returns-in_err-words-clause-pending : goal.returns-in_err-words-clause-pending
returns-in_err-words-clause-pending g c = none_made c.from_residual-in_err-words.result _ c.from_residual-in_err-words.ensures.0

pub returns-in_err-words-clause-unwritten : goal.returns-in_err-words-clause-unwritten
returns-in_err-words-clause-unwritten g c = none_made c.from_residual-in_err-words.result _ c.from_residual-in_err-words.ensures.0

pub returns-in_err-words-clause-room : goal.returns-in_err-words-clause-room
returns-in_err-words-clause-room g c = none_made c.from_residual-in_err-words.result _ c.from_residual-in_err-words.ensures.0

pub returns-in_err-count-clause-fails : goal.returns-in_err-count-clause-fails
returns-in_err-count-clause-fails g c =
    let told = err_from_is_err_and c.from_residual.result c.from_residual.ensures.1 in
    fails_as c.from_residual.result _ _ _ _ _ told.1 told.2 c.in_err-count.ensures.fails

pub returns-in_default-clause-fails : goal.returns-in_default-clause-fails
returns-in_default-clause-fails g c = (_, c.in_ok-count.ensures.size, c.in_ok-count.ensures.long)

pub returns-in_err-words-clause-files : goal.returns-in_err-words-clause-files
returns-in_err-words-clause-files g c = c.read_words.ensures.files ∙ c.count_words.ensures.files

pub returns-in_err-words-clause-later : goal.returns-in_err-words-clause-later
returns-in_err-words-clause-later g c = le_trans c.count_words.ensures.later c.read_words.ensures.later

pub returns-in_err-words-clause-fails : goal.returns-in_err-words-clause-fails
returns-in_err-words-clause-fails g c =
    let told = err_from_is_err_and c.from_residual-in_err-words.result c.from_residual-in_err-words.ensures.1 in
    fails_as c.from_residual-in_err-words.result _ _ _ _ _ told.1 told.2 (fails_later _ _ _ _ _ _ _ c.count_words.ensures.files c.count_words.ensures.later c.in_err-words.ensures.fails)

pub returns-clause-files : goal.returns-clause-files
returns-clause-files g c = c.read_words.ensures.files ∙ c.count_words.ensures.files

pub returns-clause-later : goal.returns-clause-later
returns-clause-later g c = le_trans c.count_words.ensures.later c.read_words.ensures.later

pub returns-clause-words : goal.returns-clause-words
returns-clause-words g c = same_words _ _ _ _ c.count_words.ensures.files c.in_ok-words.ensures.words

pub returns-clause-pending : goal.returns-clause-pending
returns-clause-pending g c = c.in-Ok.ensures.pending ∙ ap (λ (n : ℕ). replicate (n / 512) false) (sym c.in_ok-words.ensures.count)

pub returns-clause-unwritten : goal.returns-clause-unwritten
returns-clause-unwritten g c = c.in-Ok.ensures.unwritten ∙ ap (λ (n : ℕ). replicate (n / 512) false) (sym c.in_ok-words.ensures.count)

pub returns-clause-count : goal.returns-clause-count
returns-clause-count g c = sym (fresh_marks _ _ c.in_ok-words.ensures.words.long (c.in-Ok.ensures.pending ∙ ap (λ (n : ℕ). replicate (n / 512) false) (sym c.in_ok-words.ensures.count)))

pub returns-in_err-words-clause-asked : goal.returns-in_err-words-clause-asked
returns-in_err-words-clause-asked g c = c.read_words.ensures.asked ∙ c.count_words.ensures.asked

pub returns-clause-asked : goal.returns-clause-asked
returns-clause-asked g c = c.read_words.ensures.asked ∙ c.count_words.ensures.asked
