-- Laws of a machine that was only read.
use Rattle.std.specs.Prelude.{◌≡◌, ℕ, true, is_some, refl}
use Rattle.std.proofs.Common.{◌∙◌, ap, sym, subst, le_refl, le_trans}
use Rattle.rio_base.specs.Blocks.{NamesFit}
use Rattle.rio_base.specs.Disks.{FaultCount, FaultsLast}
use Rattle.rio_base.specs.Machine.{Contents, Running}
use Rattle.rio_model.specs.Cover.{entry_of_block}
use Rattle.registry.specs.Views.{Viewed, view_seen}

faults_on : (a b c : FaultCount) → FaultsLast a b → FaultsLast b c → FaultsLast a c
faults_on a b c h k = record {
  later = le_trans h.later k.later;
  limit = λ most e. let one = h.limit most e in let two = k.limit one.0 one.1 in (two.0, two.1, le_trans two.2 one.2);
}

pub viewed_refl : (c : Contents) (r : Running) → Viewed c c r r
viewed_refl c r = record { rest = refl; faults = record { later = le_refl c.faults.count; limit = λ most e. (most, e, le_refl most) }; run = refl }

pub viewed_trans : (a b c : Contents) (r s t : Running) → Viewed a b r s → Viewed b c s t → Viewed a c r t
viewed_trans a b c r s t h k = record {
  rest = k.rest ∙ ap (λ (m : Contents). record m { faults = c.faults }) h.rest;
  faults = faults_on a.faults b.faults c.faults h.faults k.faults;
  run = k.run ∙ h.run;
}

pub view_fits : (c : Contents) (r : Running) → NamesFit (view_seen c r)
view_fits c r = record { cached = λ b e. refl; in_range = λ b. tt }

pub sure_on : (c d : Contents) (r s : Running) (b : ℕ) → Viewed c d r s → is_some (entry_of_block c.words b) ≡ true → is_some (entry_of_block d.words b) ≡ true
sure_on c d r s b h e = subst (λ (m : Contents). is_some (entry_of_block m.words b) ≡ true) (sym h.rest) e
