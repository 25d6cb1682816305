use Rattle.std.specs.String.{string_bytes}
use Rattle.block_disk.specs.HostDisks.{file_contents}
use Rattle.pair_files.proofs.LoadRules.{machine_pages, seen_same}
use Rattle.pair_files.proofs.running.make_machine.Goals as goal

pub returns-in-Ok-clause-pages : goal.returns-in-Ok-clause-pages
returns-in-Ok-clause-pages g c = machine_pages _ _ _ _ _ _ _ c.requires.bytes c.in-Ok.ensures.contents c.in-Ok.ensures.run c.in-Ok.ensures.pages

pub returns-clause-back : goal.returns-clause-back
returns-clause-back g c = seen_same c.in-Err.disk c.args.disk c.in-Err.ensures.back (λ d. file_contents (g.H.Host.files d.host) (g.H.Host.asked d.host) (g.H.Host.faults d.host) (string_bytes d.name) d.words.items d.pending.marks.items d.writes)
