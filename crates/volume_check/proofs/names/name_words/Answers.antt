use Rattle.std.proofs.Common.{slice_index}
use Rattle.volume_check.specs.Entries.{name_in}
use Rattle.volume_check.proofs.NameSorts.{words_read}
use Rattle.volume_check.proofs.names.name_words.Goals as goal

pub returns : goal.returns
returns c = words_read (name_in (slice_index c.args.words.now) c.args.j) c.padded_name.result c.read_u64_into.new.dst c.padded_name.ensures c.read_u64_into.auto.dst c.read_u64_into.ensures
