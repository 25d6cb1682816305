use Rattle.directories.proofs.Common.{ap, arith, length, sym}
use Rattle.std.proofs.Common.{replicate}
use Rattle.directories.proofs.NameWords.{words_of_name, zeros_at}
use Rattle.directories.proofs.entries.name_words.Goals as goal

pub returns : goal.returns
returns c = words_of_name c.args.name.now c.copy_from_slice.new.self (replicate 56 0) c.read_u64_into.new.dst (length c.args.name.now) c.copy_from_slice.ensures.after (sym (ap length c.copy_from_slice.ensures.after)) c.requires (omega arith) (zeros_at 56) (λ i. omega (arith, c.type_inv.name i)) c.read_u64_into.auto.dst c.read_u64_into.ensures
