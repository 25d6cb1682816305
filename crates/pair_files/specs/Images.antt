-- The file of an image, and the first rule that it breaks.
use Rattle.std.specs.Prelude.{◌≡◌, ◌<◌, ◌^◌, ℕ, List, ◌++◌, slice_index, Option, ◌⊎◌}
use Rattle.rio_base.specs.Bytes.{bytes_of}
use Rattle.rio_base.specs.Hosts.{Files, IsFile}
use Rattle.rio_model.specs.Registry.{FailsRegistry, HasLayout, KeepsRegistry}
use Rattle.rio_model.specs.RuleNumbers.{image_rule}
use Rattle.rio_model.specs.declared.rules.ImageRule.TheVariants.{Length, Magic, Version, Geometry}
use Rattle.image_codec.specs.Image.{FailsFirst, IsImage}
use Rattle.image_codec.specs.declared.fault.ImageFault.TheVariants.{BadLength, BadMagic, BadVersion, BadGeometry}

-- words of 64 bits that stand in these bytes and keep rules 1 to 4
pub record IsImageOf (bytes words : List ℕ) : Type 0 where
  pub fits : (i : ℕ) → slice_index words i < 2 ^ 64
  pub bytes_are : bytes ≡ bytes_of words
  pub image : IsImage words

-- the first rule of 1 to 12 that these bytes break. Rules from 5 on are of the words of the protected pages, behind which
-- those of the scratch pages lie
abbrev pub FailsRule : List ℕ → ℕ → Type 0
FailsRule bytes rule =
    ((rule ≡ image_rule Length) × FailsFirst bytes BadLength) ⊎ ((rule ≡ image_rule Magic) × FailsFirst bytes BadMagic)
    ⊎ ((rule ≡ image_rule Version) × FailsFirst bytes BadVersion) ⊎ ((rule ≡ image_rule Geometry) × FailsFirst bytes BadGeometry)
    ⊎ ((words scratch : List ℕ) × IsImageOf bytes (words ++ scratch) × HasLayout words scratch × FailsRegistry words rule)

-- the file breaks this rule first
pub record Breaks (files : Option Files) (image : List ℕ) (rule : ℕ) : Type 0 where
  pub bytes : List ℕ
  pub file : IsFile files image bytes
  pub fails : FailsRule bytes rule

-- the file keeps rules 1 to 4, and has these words
pub record HoldsWords (files : Option Files) (image words : List ℕ) : Type 0 where
  pub bytes : List ℕ
  pub file : IsFile files image bytes
  pub are : IsImageOf bytes words

-- the file keeps all rules, and these are the words of its protected pages
pub record HoldsImage (files : Option Files) (image words : List ℕ) : Type 0 where
  pub scratch : List ℕ
  pub holds : HoldsWords files image (words ++ scratch)
  pub layout : HasLayout words scratch
  pub keeps : KeepsRegistry words
