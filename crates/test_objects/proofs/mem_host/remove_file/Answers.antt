use Rattle.std.proofs.Common.{rules, ap, not, ◌∙◌}
use Rattle.std.proofs.lemmas.Fn.{filter_same}
use Rattle.std.specs.Str.{bytes_eq}
use Rattle.std.specs.String.{string_bytes}
use Rattle.test_objects.specs.MemHosts.{files_of}
use Rattle.test_objects.specs.declared.mem_host.MemFile.{MemFile}
use Rattle.test_objects.proofs.Files.{filter_is}
use Rattle.test_objects.proofs.mem_host.remove_file.Goals as goal

pub returns : goal.returns
returns c =
    ap files_of (filter_same _ (λ (f : MemFile). not (bytes_eq (string_bytes f.name) (string_bytes c.args.name.now))) _ (λ x b f' k. search rules) _ _ c.retain.ensures.filtered)
    ∙ filter_is c.args.files.now.items (string_bytes c.args.name.now)
