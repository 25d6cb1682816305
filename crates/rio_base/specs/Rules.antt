-- The rules of every call compose.
use Rattle.std.specs.Prelude.{◌≡◌, ℕ, ◌/◌, Bool, true, false, ◌⊎◌, Option, Some, None, refl}
use Rattle.std.proofs.Common.{le_trans, le_refl, ◌∙◌, sym, subst, inl, inr}
use Rattle.rio_base.specs.Blocks.{Health, Causes}
use Rattle.rio_base.specs.Volume.{Below, Kept, LimitLasts, StopCause, Runs, Goes, Firm, Passes}

pub firm_refl : (k : Kept) → Firm k k
firm_refl k = record { loose = λ c l. l }

pub firm_trans : (k l m : Kept) → Firm k l → Firm l m → Firm k m
firm_trans k l m h i = record { loose = λ c z. h.loose c (i.loose c z) }

-- ---- the cause of a stop

is_none : Option ℕ → Type 0
is_none None = Unit {0}
is_none (Some a) = ⊥

pub none_some : (a : ℕ) (o : Option ℕ) → o ≡ None → o ≡ Some a → ⊥
unfolding is_none
none_some a o n s = subst is_none (sym n ∙ s) tt

is_true : Bool → Type 0
is_true true = Unit {0}
is_true false = ⊥

pub true_false : true ≡ false → ⊥
unfolding is_true
true_false e = subst is_true e tt

Trap : Causes → Causes → Type 0
Trap old new = (a : ℕ) × (old.armed ≡ Some a) × (old.protected (a / 512) ≡ true) × (new.trapped ≡ Some a)

-- an armed store that falls in the second of two calls was armed before the first
trap_earlier : (old mid new : Causes) → mid.protected ≡ old.protected → (mid.armed ≡ old.armed) ⊎ (mid.armed ≡ None) → Trap mid new → Trap old new
unfolding Trap
trap_earlier old mid new same (inl armed) t = (t.0, sym armed ∙ t.1, subst (λ f. f (t.0 / 512) ≡ true) same t.2, t.3)
trap_earlier old mid new same (inr none) t = absurd (none_some t.0 mid.armed none t.1)

stop_earlier : (old mid new : Causes) → mid.protected ≡ old.protected → (mid.armed ≡ old.armed) ⊎ (mid.armed ≡ None) → mid.stop_set ≡ old.stop_set → mid.trapped ≡ old.trapped → StopCause mid new false true → StopCause old new false true
unfolding Trap
stop_earlier old mid new same armed set trapped (inl t) = inl (trap_earlier old mid new same armed t)
stop_earlier old mid new same armed set trapped (inr s) = inr (s.0 ∙ trapped, sym set ∙ s.1)

stop_later : (old mid new : Causes) → new.trapped ≡ mid.trapped → StopCause old mid false true → StopCause old new false true
stop_later old mid new trapped (inl t) = inl (t.0, t.1, t.2, trapped ∙ t.3)
stop_later old mid new trapped (inr s) = inr (trapped ∙ s.0, s.1)

pub cause_trans : (old mid new : Causes) (a b c : Bool) → mid.protected ≡ old.protected → (mid.armed ≡ old.armed) ⊎ (mid.armed ≡ None) → mid.stop_set ≡ old.stop_set → (a ≡ true → b ≡ true) → (b ≡ true → c ≡ true) → StopCause old mid a b → StopCause mid new b c → StopCause old new a c
cause_trans old mid new true true true same armed set ab bc h k = k ∙ h
cause_trans old mid new true true false same armed set ab bc h k = k ∙ h
cause_trans old mid new true false c same armed set ab bc h k = absurd (true_false (sym (ab refl)))
cause_trans old mid new false true true same armed set ab bc h k = stop_later old mid new k h
cause_trans old mid new false true false same armed set ab bc h k = absurd (true_false (sym (bc refl)))
cause_trans old mid new false false true same armed set ab bc h k = stop_earlier old mid new same armed set h k
cause_trans old mid new false false false same armed set ab bc h k = k ∙ h

armed_trans : (a b c : Option ℕ) → (b ≡ a) ⊎ (b ≡ None) → (c ≡ b) ⊎ (c ≡ None) → (c ≡ a) ⊎ (c ≡ None)
armed_trans a b c (inl h) (inl k) = inl (k ∙ h)
armed_trans a b c (inr h) (inl k) = inr (k ∙ h)
armed_trans a b c _ (inr k) = inr k

-- ---- rules of every call

pub limit_refl : (o : Option ℕ) → LimitLasts o o
limit_refl o = record { limit = λ most e. (most, e, le_refl most) }

pub limit_trans : (a b c : Option ℕ) → LimitLasts a b → LimitLasts b c → LimitLasts a c
limit_trans a b c h k = record { limit = λ most e. let one = h.limit most e in let two = k.limit one.0 one.1 in (two.0, two.1, le_trans two.2 one.2) }

pub runs_trans : (s : Health) (old : Below) (t : Health) (mid : Below) (u : Health) (new : Below) → Runs s old t mid → Runs t mid u new → Runs s old u new
runs_trans s old t mid u new h k = record {
  later = le_trans h.later k.later;
  stays = λ e. k.stays (h.stays e);
  written = le_trans h.written k.written;
  roomy = k.roomy ∙ h.roomy;
  around = k.around ∙ h.around;
  stop_set = k.stop_set ∙ h.stop_set;
  protected = k.protected ∙ h.protected;
  armed = armed_trans _ _ _ h.armed k.armed;
  cause = cause_trans old.causes mid.causes new.causes s.stopped t.stopped u.stopped h.protected h.armed h.stop_set h.stays k.stays h.cause k.cause;
  memory = k.memory ∙ h.memory;
  limit = limit_trans old.limit mid.limit new.limit h.limit k.limit;
}

pub cause_refl : (c : Causes) (a : Bool) → StopCause c c a a
cause_refl c true = refl
cause_refl c false = refl

pub goes_refl : (s : Health) (old : Below) → Goes s old s old
goes_refl s old = record {
  runs = record { later = le_refl s.faults; stays = λ e. e; written = le_refl old.writes; roomy = refl; around = refl; stop_set = refl; protected = refl; armed = inl refl; cause = cause_refl old.causes s.stopped; memory = refl; limit = limit_refl old.limit };
  quiet = record { home = λ r. refl; writes = λ r. refl };
}

pub goes_trans : (s : Health) (old : Below) (t : Health) (mid : Below) (u : Health) (new : Below) → Goes s old t mid → Goes t mid u new → Goes s old u new
goes_trans s old t mid u new h k = record {
  runs = runs_trans s old t mid u new h.runs k.runs;
  quiet = record {
    home = λ r. k.quiet.home (h.runs.roomy ∙ r) ∙ h.quiet.home r;
    writes = λ r. k.quiet.writes (h.runs.roomy ∙ r) ∙ h.quiet.writes r;
  };
}

-- one call and then another: a chain of calls is written `h then k then l`
infixr 10 ◌then◌
pub ◌then◌ : {s : Health} {old : Below} {t : Health} {mid : Below} {u : Health} {new : Below} → Goes s old t mid → Goes t mid u new → Goes s old u new
◌then◌ h k = goes_trans _ _ _ _ _ _ h k

-- ---- a volume that is only read

pub passes_same : (s : Health) (old : Below) (k : Kept) → Passes s old k s old k
passes_same s old k = record { goes = goes_refl s old; standing = refl; firm = firm_refl k; updating = refl; touched = refl; touches = refl }

pub passes_on : (s : Health) (old : Below) (k : Kept) (t : Health) (mid : Below) (l : Kept) (u : Health) (new : Below) (m : Kept) → Passes s old k t mid l → Passes t mid l u new m → Passes s old k u new m
passes_on s old k t mid l u new m h i = record {
  goes = h.goes then i.goes;
  standing = i.standing ∙ h.standing;
  firm = firm_trans k l m h.firm i.firm;
  updating = i.updating ∙ h.updating;
  touched = i.touched ∙ h.touched;
  touches = i.touches ∙ h.touches;
}
