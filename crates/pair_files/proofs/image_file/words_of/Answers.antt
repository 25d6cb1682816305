use Rattle.std.proofs.Common.{ap, refl, inl, inr, subst, ◌∙◌, ◌<◌, ◌^◌, ℕ, List, Err, slice_index}
use Rattle.image_codec.specs.declared.fault.ImageFault.TheVariants.{BadLength, BadMagic, BadVersion, BadGeometry}
use Rattle.pair_files.proofs.WholeFiles.{geometry_fault, length_fault, magic_fault, version_fault}
use Rattle.pair_files.proofs.image_file.words_of.Goals as goal

pub returns-in-Ok-clause-words : goal.returns-in-Ok-clause-words
returns-in-Ok-clause-words c = record {
  fits = subst (λ (words : List ℕ). (i : ℕ) → slice_index words i < 2 ^ 64) c.as_slice.ensures.value c.words_fit.ensures;
  bytes_are = c.in-Ok.ensures.words.0;
  image = c.in-Ok.ensures.words.1;
}

pub returns-in-Err-BadLength-clause-fails : goal.returns-in-Err-BadLength-clause-fails
returns-in-Err-BadLength-clause-fails c = inl (refl, (c.read_image.ensures.faults BadLength length_fault).0 (c.in-Err-BadLength.is ∙ ap Err c.in-Err-BadLength.field-0-is))

pub returns-in-Err-BadMagic-clause-fails : goal.returns-in-Err-BadMagic-clause-fails
returns-in-Err-BadMagic-clause-fails c = inr (inl (refl, (c.read_image.ensures.faults BadMagic magic_fault).0 (c.in-Err-BadMagic.is ∙ ap Err c.in-Err-BadMagic.field-0-is)))

pub returns-in-Err-BadVersion-clause-fails : goal.returns-in-Err-BadVersion-clause-fails
returns-in-Err-BadVersion-clause-fails c = inr (inr (inl (refl, (c.read_image.ensures.faults BadVersion version_fault).0 (c.in-Err-BadVersion.is ∙ ap Err c.in-Err-BadVersion.field-0-is))))

pub returns-in-Err-BadGeometry-clause-fails : goal.returns-in-Err-BadGeometry-clause-fails
returns-in-Err-BadGeometry-clause-fails c = inr (inr (inr (inl (refl, (c.read_image.ensures.faults BadGeometry geometry_fault).0 (c.in-Err-BadGeometry.is ∙ ap Err c.in-Err-BadGeometry.field-0-is)))))
