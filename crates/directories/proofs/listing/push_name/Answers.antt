use Rattle.directories.proofs.Common.{List, [], ◌∷◌, ℕ, ap, arith, slice_index}
use Rattle.directories.specs.Entries.{name_in}
use Rattle.directories.proofs.Listed.{name_made, names_on}
use Rattle.directories.proofs.listing.push_name.Goals as goal

pub returns : goal.returns
returns c =
    let name = name_made c.args.words.now c.write_bytes.new.line c.args.k _ c.name_length-len.result c.write_bytes.ensures (omega arith) (omega (arith, c.requires.len, c.requires.entry)) c.name_length-len.ensures (omega (arith, c.requires.few, c.name_length-len.ensures)) in
    names_on c.args.names.now c.push_line.new.self _ (name_in (slice_index c.args.words.now) c.args.k ∷ []) c.push_line.result (ap (λ (n : List ℕ). n ∷ []) name) c.push_line.ensures.ok
