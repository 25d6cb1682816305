use Rattle.std.proofs.Common.{ℕ, List, ◌++◌, ◌∙◌, drop, ap, sym}
use Rattle.block_disk.proofs.Rows.{half_length}
use Rattle.block_disk.proofs.block_lists.put_half.Goals as goal

pub returns : goal.returns
returns c = ap (λ (xs : List ℕ). xs ++ drop 256 c.args.words.now) c.copy_from_slice.ensures.after

pub copy_from_slice-requires : goal.copy_from_slice-requires
copy_from_slice-requires c = half_length c.args.words.now c.requires.words ∙ sym (half_length c.args.from.now c.requires.from)
