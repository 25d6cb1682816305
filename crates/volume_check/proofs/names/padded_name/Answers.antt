use Rattle.std.proofs.Common.{◌∙◌, ◌≤◌, ap, arith, replicate, rules, slice_index}
use Rattle.volume_check.specs.Entries.{name_in}
use Rattle.volume_check.proofs.EntryBytes.{bytes_long, name_made}
use Rattle.volume_check.proofs.NameSorts.{padded_made}
use Rattle.volume_check.proofs.names.padded_name.Goals as goal

pub returns : goal.returns
returns c =
    let len = c.name_length.result in
    let few : len ≤ 56 = omega (arith, c.name_length.ensures, c.requires.few) in
    padded_made c.name_bytes-name.result c.fill.new.self (name_in (slice_index c.args.words.now) c.args.j) len (bytes_long c.args.words.now c.name_bytes-name.result c.args.j c.name_bytes-name.ensures c.requires.entry) few (c.fill.ensures.after (λ y h. h) ∙ ap (λ n. replicate n 0) (search rules)) (name_made c.args.words.now c.name_bytes-name.result c.args.j len c.name_bytes-name.ensures c.requires.entry c.name_length.ensures few)
