-- How calls of a machine end, one after another.
use Rattle.std.specs.Prelude.{◌≡◌, ℕ, Option}
use Rattle.std.proofs.Common.{refl, sym, subst, true}
use Rattle.rio_base.specs.Machine.{Contents, Lasts, Running, StepEnds}
use Rattle.rio_base.proofs.MachineRules.{lasts_refl, lasts_trans, steps_refl}

-- a store between two calls that are no steps
pub ends_within : (a b c d : Running) (stop : Type 0) → b ≡ a → StepEnds b c stop → d ≡ c → StepEnds a d stop
ends_within a b c d stop e h k = subst (λ x. StepEnds x d stop) e (subst (λ y. StepEnds b y stop) (sym k) h)

-- a call that is no step
pub ends_still : (a b : Running) (stop : Type 0) → b ≡ a → (stop → a.stopped ≡ true) → StepEnds a b stop
ends_still a b stop e h = subst (λ x. StepEnds a x stop) (sym e) (record { steps = steps_refl a; told = h; runs = λ n. refl })

-- a call that opens or closes a page
pub lasts_opened : (a b : Contents) (o : Option ℕ) → b ≡ record a { open_page = o } → Lasts a b
lasts_opened a b o e = subst (Lasts a) (sym e) (record { size = h.size; blocks = h.blocks; around = h.around; faults = h.faults; writes = h.writes })
  where
    h : Lasts a a
    h = lasts_refl a

-- a store within an open page
pub lasts_within : (a b c d : Contents) (o q : Option ℕ) → b ≡ record a { open_page = o } → Lasts b c → d ≡ record c { open_page = q } → Lasts a d
lasts_within a b c d o q e h k = lasts_trans a b d (lasts_opened a b o e) (lasts_trans b c d h (lasts_opened c d q k))
