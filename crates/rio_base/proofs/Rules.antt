-- Laws of what specs/Rules.antt defines.
use Rattle.std.specs.Prelude.{◌≡◌, ℕ, ◌+◌, ◌≤◌, Result, Ok, Err, IsErrOf, refl}
use Rattle.std.proofs.Common.{le_trans, ◌∙◌, inl, inr, arith}
use Rattle.rio_base.specs.declared.failures.VolFail.{VolFail}
use Rattle.rio_base.specs.declared.failures.VolFail.TheVariants.{Fault, Stopped}
use Rattle.rio_base.specs.Failures.{Rose, RoseBy}
use Rattle.rio_base.specs.Blocks.{Seen, Health, Looks, Drops, Ends, EndsBy}

-- ---- what is only read

pub looks_refl : (s : Seen) → Looks s s
looks_refl s = record { count = refl; words = refl; base = refl }

pub looks_trans : (s t u : Seen) → Looks s t → Looks t u → Looks s u
looks_trans s t u h k = record { count = k.count ∙ h.count; words = k.words ∙ h.words; base = k.base ∙ h.base }

pub drops_refl : (s : Seen) → Drops s s
drops_refl s = record { kept = λ c cached. (cached, refl) }

pub drops_trans : (s t u : Seen) → Drops s t → Drops t u → Drops s u
drops_trans s t u h k = record { kept = λ c z. let now = k.kept c z in let before = h.kept c now.0 in (before.0, now.1 ∙ before.1) }

-- ---- how calls end

pub rose_later : (a b c : ℕ) → a ≤ b → Rose b c → Rose a c
rose_later a b c h (inl k) = inl (omega arith)
rose_later a b c h (inr k) = inr k

-- calls that ended well, and then one that ends so
pub ends_by_after : (s t u : Health) (fault stop : Type 0) → s.faults ≤ t.faults → t.stopped ≡ s.stopped → EndsBy t u fault stop → EndsBy s u fault stop
ends_by_after s t u fault stop later same h = record {
  later = le_trans later h.later;
  stays = λ e. h.stays (same ∙ e);
  cause = λ f. rose_later s.faults t.faults u.faults later (h.cause f);
  told = h.told;
  runs = λ n. h.runs n ∙ same;
}

-- calls that ended well
pub ends_by_well : (s t : Health) (fault stop : Type 0) → s.faults ≤ t.faults → t.stopped ≡ s.stopped → (fault → ⊥) → (stop → ⊥) → EndsBy s t fault stop
ends_by_well s t fault stop later same no_fault no_stop = record {
  later = later;
  stays = λ e. same ∙ e;
  cause = λ f. absurd (no_fault f);
  told = λ p. absurd (no_stop p);
  runs = λ n. same;
}

-- a call that ended with a fault, and then calls that ended well
pub rose_stays : (a b c : ℕ) → Rose a b → b ≤ c → Rose a c
rose_stays a b c (inl h) k = inl (omega arith)
rose_stays a b c (inr h) k = inr (omega arith)

-- the same call, by what another answer says of it
pub ends_by_as : (s t : Health) (fault stop fault_as stop_as : Type 0) → (fault_as → fault) → (stop_as → stop) → (stop → stop_as) → EndsBy s t fault stop → EndsBy s t fault_as stop_as
ends_by_as s t fault stop fault_as stop_as f g h e = record {
  later = e.later;
  stays = e.stays;
  cause = λ a. e.cause (f a);
  told = λ a. e.told (g a);
  runs = λ n. e.runs (λ p. n (h p));
}

-- a call of a volume
pub ends_by : {T : Type 0} (s t : Health) (answer : Result T VolFail) → Ends s t answer → EndsBy s t (IsErrOf answer Fault) (IsErrOf answer Stopped)
ends_by s t (Ok x) h = record { later = h.later; stays = h.stays; cause = λ f. cc; told = λ p. cc; runs = λ n. h.cause }
ends_by s t (Err Fault) h = record { later = h.later; stays = h.stays; cause = λ f. h.cause.0; told = λ p. cc; runs = λ n. h.cause.1 }
ends_by s t (Err Stopped) h = record { later = h.later; stays = h.stays; cause = λ f. cc; told = λ p. h.cause; runs = λ n. absurd (n refl) }

pub rose_by_more : (n a b c : ℕ) → RoseBy n a b → Rose b c → RoseBy (n + 1) a c
rose_by_more n a b c (inl h) (inl k) = inl (omega arith)
rose_by_more n a b c (inl h) (inr k) = inr k
rose_by_more n a b c (inr h) (inl k) = inr (omega arith)
rose_by_more n a b c (inr h) (inr k) = inr k
