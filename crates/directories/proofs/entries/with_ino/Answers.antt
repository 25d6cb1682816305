use Rattle.directories.proofs.Common.{◌∷◌, ◌∙◌, arith, drop, sym, subst, slice_index, append-nil}
use Rattle.std.proofs.Common.{length-drop}
use Rattle.std.proofs.lemmas.List.{take_all}
use Rattle.directories.specs.Entries.{IsEntryOf, name_in}
use Rattle.directories.proofs.NameWords.{with_ino_of}
use Rattle.directories.proofs.entries.with_ino.Goals as goal

pub returns : goal.returns
returns c = subst (λ ws. IsEntryOf (name_in (slice_index c.args.entry.now) 0) c.args.i.0 (c.first_with_ino.result ∷ ws)) (sym (append-nil c.copy_from_slice.new.self)) (with_ino_of c.args.entry.now c.copy_from_slice.new.self c.args.i.0 c.first_with_ino.result (c.copy_from_slice.ensures.after ∙ take_all 7 (drop 1 c.args.entry.now) (omega (arith, length-drop 1 c.args.entry.now))) (omega arith) c.first_with_ino.ensures)
