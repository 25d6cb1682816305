-- How formatting ends.
use Rattle.std.proofs.Common.{◌≡◌, ℕ, List, ap, subst, ◌∙◌, Option}
use Rattle.rio_base.specs.Hosts.{Files}
use Rattle.rio_commands.specs.declared.formatting.FormatEnd.{FormatEnd}
use Rattle.rio_commands.specs.declared.formatting.FreshPair.{FreshPair}
use Rattle.rio_commands.specs.declared.formatting.FormatSizes.{FormatSizes}
use Rattle.rio_commands.specs.Command.{WritesLine}
use Rattle.rio_commands.specs.Format.{Formats, IsPrepared, files_after, format_line, format_status, image_bytes}

pub formats_at : (end : FormatEnd) (image disk : List ℕ) (sizes : FormatSizes) (pair : FreshPair) (status : ℕ) (rose : Type 0)
    (files files_now : Option Files) (written written_now : Option (List ℕ)) (line : List ℕ)
    → IsPrepared pair image disk sizes → status ≡ format_status end
    → files_now ≡ files_after end image disk pair.image.items pair.disk.items files
    → line ≡ format_line end image disk sizes → WritesLine rose written line written_now
    → Formats image disk sizes status rose files files_now written written_now
formats_at end image disk sizes pair status rose files files_now written written_now line prepared status_is left is told = record {
  end = end;
  status_is = status_is;
  left = left
      ∙ ap (λ (bytes : List ℕ). files_after end image disk bytes pair.disk.items files) prepared.image_is
      ∙ ap (λ (bytes : List ℕ). files_after end image disk (image_bytes sizes) bytes files) prepared.disk_is;
  told = subst (λ (text : List ℕ). WritesLine rose written text written_now) is told;
}
