-- Entries that get another tag.
use Rattle.std.specs.Prelude.{◌≡◌, ℕ, List}
use Rattle.std.proofs.Common.{ap}
use Rattle.rio_model.specs.Registry.{OneEntry}
use Rattle.rio_model.proofs.CoverSteps.{Retagged}
use Rattle.registry.specs.Entries.{entry_of}
use Rattle.registry.specs.declared.entry.Entry.{Entry}

pub retagged : (k t : ℕ) (old new : List ℕ) → OneEntry k old new → entry_of new k ≡ record (entry_of old k) { tag = t } → Retagged k t old new
retagged k t old new one e = record {
  one = one;
  tag = ap (λ (x : Entry). x.tag) e;
  file = ap (λ (x : Entry). x.file) e;
  index = ap (λ (x : Entry). x.index) e;
  size = ap (λ (x : Entry). x.size) e;
  shadow = ap (λ (x : Entry). x.shadow) e;
}
