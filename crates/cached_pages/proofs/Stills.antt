-- Calls that write nothing to the disk.
use Rattle.cached_pages.proofs.Common.{◌≡◌, ℕ, ◌≤◌, refl, ◌∙◌, ap, sym, subst, arith, Contents}
use Rattle.rio_base.specs.Disks.{FaultCount, raised}
use Rattle.write_back.specs.Flushing.{SameDisk}
use Rattle.cached_pages.specs.declared.tables.CacheTables.{CacheTables}
use Rattle.cached_pages.specs.Caches.{FewWrites}

pub still_refl : (c : Contents) → SameDisk c c
still_refl c = record { disk = refl; pending = refl; writes = refl }

pub still_trans : (a b c : Contents) → SameDisk a b → SameDisk b c → SameDisk a c
still_trans a b c h k = record { disk = k.disk ∙ h.disk; pending = k.pending ∙ h.pending; writes = k.writes ∙ h.writes }

pub still_rest : (old new : Contents) → new ≡ record old { words = new.words } → SameDisk old new
still_rest old new e = record { disk = ap (λ (m : Contents). m.disk) e; pending = ap (λ (m : Contents). m.pending) e; writes = ap (λ (m : Contents). m.writes) e }

pub still_same : (old new : Contents) → new ≡ old → SameDisk old new
still_same old new e = rw e (still_refl old)

pub still_faults : (old new : Contents) (f : FaultCount) → new ≡ record old { faults = f } → SameDisk old new
still_faults old new f e = record { disk = ap (λ (m : Contents). m.disk) e; pending = ap (λ (m : Contents). m.pending) e; writes = ap (λ (m : Contents). m.writes) e }

raised_least : (n : ℕ) → n ≤ raised n 1
raised_least n = omega arith

pub few_still : (b : ℕ) (t : CacheTables) (old new : Contents) → SameDisk old new → FewWrites b t old new
few_still b t old new h = record { one = subst (λ n. n ≤ raised old.writes 1) (sym h.writes) (raised_least old.writes); cached = λ e. h; free = λ k less e. h; roomy = λ r. h; clean = λ k e c. h }

pub few_then : (x : ℕ) (t : CacheTables) (a b c : Contents) → FewWrites x t a b → SameDisk b c → FewWrites x t a c
few_then x t a b c h k = record { one = subst (λ n. n ≤ raised a.writes 1) (sym k.writes) h.one; cached = λ e. still_trans a b c (h.cached e) k; free = λ j less e. still_trans a b c (h.free j less e) k; roomy = λ r. still_trans a b c (h.roomy r) k; clean = λ j e o. still_trans a b c (h.clean j e o) k }
