-- What calls on blocks leave so composes: how they end, which names blocks bear, and what differs in one block.
use Rattle.std.specs.Prelude.{◌≡◌, ◌≢◌, ℕ, ◌<◌, ◌≤◌, ◌⊎◌, true, Option, Some, None, Result, Ok, Err, refl}
use Rattle.std.proofs.Common.{le_trans, ◌∙◌, sym, subst, inl, inr, ap, arith}
use Rattle.std.proofs.lemmas.Bool.{cases_eq}
use Rattle.rio_base.specs.declared.places.PageName.{PageName}
use Rattle.rio_base.specs.declared.places.VolumeShape.{VolumeShape}
use Rattle.rio_base.specs.declared.failures.VolFail.{VolFail}
use Rattle.rio_base.specs.declared.failures.VolFail.TheVariants.{Fault, Stopped}
use Rattle.rio_base.specs.Blocks.{BlockWords, Caches, CanName, Drops, Ends, FailCause, Health, SamePage, Seen}
use Rattle.rio_base.proofs.Rules.{rose_later}
use Rattle.rio_base.specs.Shapes.{HasShape, reserved}
use Rattle.rio_base.specs.Volume.{CachesStored, SameBut, widened}

-- ---- how a call ends, told from its last part

-- a part that ended well, and then a failure
pub cause_later : {T : Type 0} (s t u : Health) (answer : Result T VolFail) → s.faults ≤ t.faults → t.stopped ≡ s.stopped → FailCause t u answer → FailCause s u answer
cause_later s t u (Ok x) h k c = c ∙ k
cause_later s t u (Err Fault) h k c = (rose_later s.faults t.faults u.faults h c.0, c.1 ∙ k)
cause_later s t u (Err Stopped) h k c = c

pub ends_later : {T : Type 0} (s t u : Health) (answer : Result T VolFail) → s.faults ≤ t.faults → t.stopped ≡ s.stopped → Ends t u answer → Ends s u answer
ends_later s t u answer h k e = record {
  later = le_trans h e.later;
  stays = λ stopped. e.stays (k ∙ stopped);
  cause = cause_later s t u answer h k e.cause;
}

-- ---- metadata has no name

pub metadata : (shape : VolumeShape) (s : Seen) (b : ℕ) → HasShape shape s → b < reserved shape → CanName s b None
metadata shape s b h within = record {
  in_range = tt;
  agrees = λ cached. subst (λ name. SamePage name None) (sym (h.unnamed b within cached)) tt;
}

unnamed_by : (shape : VolumeShape) (s t : Seen) (c : ℕ) → HasShape shape s → c < reserved shape → ((s.cached c ≡ true) × (t.names c ≡ s.names c)) ⊎ (t.names c ≡ None) → t.names c ≡ None
unnamed_by shape s t c h within (inl kept) = kept.1 ∙ h.unnamed c within kept.0
unnamed_by shape s t c h within (inr none) = none

unnamed_at : (shape : VolumeShape) (s t : Seen) (b c : ℕ) → HasShape shape s → Caches s t b None → c < reserved shape → t.cached c ≡ true → (c ≡ b) ⊎ (c ≢ b) → t.names c ≡ None
unnamed_at shape s t b c h k within cached (inr away) = let before = k.others c away cached in before.1 ∙ h.unnamed c within before.0
unnamed_at shape s t b c h k within cached (inl same) = unnamed_by shape s t c h within (subst (λ x. (t.cached x ≡ true → ((s.cached x ≡ true) × (t.names x ≡ s.names x)) ⊎ (t.names x ≡ None))) (sym same) k.named cached)

pub still_unnamed : (shape : VolumeShape) (s t : Seen) (b : ℕ) → HasShape shape s → t.count ≡ s.count → Caches s t b None → HasShape shape t
still_unnamed shape s t b h count k = record {
  sizes = h.sizes;
  count = count ∙ h.count;
  unnamed = λ c within cached. unnamed_at shape s t b c h k within cached (cases_eq c b);
}

nameless : (s t : Seen) (b : ℕ) → CanName s b None → ((s.cached b ≡ true) × (t.names b ≡ s.names b)) ⊎ (t.names b ≡ None) → SamePage (t.names b) None
nameless s t b h (inl kept) = subst (λ name. SamePage name None) (sym kept.1) (h.agrees kept.0)
nameless s t b h (inr none) = subst (λ name. SamePage name None) (sym none) tt

nameless_at : (s t : Seen) (a b : ℕ) → CanName s b None → Caches s t a None → t.cached b ≡ true → (b ≡ a) ⊎ (b ≢ a) → SamePage (t.names b) None
nameless_at s t a b h k cached (inr away) = nameless s t b h (inl (k.others b away cached))
nameless_at s t a b h k cached (inl same) = nameless s t b h (subst (λ x. (t.cached x ≡ true → ((s.cached x ≡ true) × (t.names x ≡ s.names x)) ⊎ (t.names x ≡ None))) (sym same) k.named cached)

-- a block that may be asked for as metadata still may, after another was cached as metadata, or some were dropped
pub still_metadata : (s t : Seen) (a b : ℕ) → CanName s b None → Caches s t a None → CanName t b None
still_metadata s t a b h k = record { in_range = tt; agrees = λ cached. nameless_at s t a b h k cached (cases_eq b a) }

pub dropped_metadata : (s t : Seen) (b : ℕ) → CanName s b None → Drops s t → CanName t b None
dropped_metadata s t b h k = record { in_range = tt; agrees = λ cached. nameless s t b h (inl (k.kept b cached)) }

-- ---- one block under one name, several times

pub caches_refl : (s : Seen) (b : ℕ) (name : Option PageName) → Caches s s b name
caches_refl s b name = record { others = λ c away cached. (cached, refl); named = λ cached. inl (cached, refl) }

named_before : (s t u : Seen) (b : ℕ) (name : Option PageName) → u.names b ≡ t.names b → ((s.cached b ≡ true) × (t.names b ≡ s.names b)) ⊎ (t.names b ≡ name) → ((s.cached b ≡ true) × (u.names b ≡ s.names b)) ⊎ (u.names b ≡ name)
named_before s t u b name same (inl kept) = inl (kept.0, same ∙ kept.1)
named_before s t u b name same (inr given) = inr (same ∙ given)

named_trans : (s t u : Seen) (b : ℕ) (name : Option PageName) → Caches s t b name → ((t.cached b ≡ true) × (u.names b ≡ t.names b)) ⊎ (u.names b ≡ name) → ((s.cached b ≡ true) × (u.names b ≡ s.names b)) ⊎ (u.names b ≡ name)
named_trans s t u b name h (inr given) = inr given
named_trans s t u b name h (inl kept) = named_before s t u b name kept.1 (h.named kept.0)

pub caches_trans : (s t u : Seen) (b : ℕ) (name : Option PageName) → Caches s t b name → Caches t u b name → Caches s u b name
caches_trans s t u b name h k = record {
  others = λ c away cached. let now = k.others c away cached in let before = h.others c away now.0 in (before.0, now.1 ∙ before.1);
  named = λ cached. named_trans s t u b name h (k.named cached);
}

pub same_page : (name : Option PageName) → SamePage name name
same_page None = tt
same_page (Some a) = (refl, refl)

-- a name that could be given before a call under it can be given after it
pub can_name_on : (s t : Seen) (b : ℕ) (name : Option PageName) → CanName s b name → Caches s t b name → CanName t b name
can_name_on s t b name h k = record { in_range = h.in_range; agrees = λ e. from (k.named e) }
  where
    from : ((s.cached b ≡ true) × (t.names b ≡ s.names b)) ⊎ (t.names b ≡ name) → SamePage (t.names b) name
    from (inl e) = subst (λ o. SamePage o name) (sym e.1) (h.agrees e.0)
    from (inr e) = subst (λ o. SamePage o name) (sym e) (same_page name)

-- ---- the same of stores, which may widen the name

pub widen_self : (name : Option PageName) → widened name name ≡ name
widen_self None = refl
widen_self (Some a) = ap (λ n. Some (record a { size = n })) (omega arith)

pub widen_twice : (own given : Option PageName) → widened (widened own given) given ≡ widened own given
widen_twice None given = refl
widen_twice (Some a) None = refl
widen_twice (Some a) (Some b) = ap (λ n. Some (record a { size = n })) (omega arith)

same_widened : (own given : Option PageName) → SamePage own given → SamePage (widened own given) given
same_widened None None h = h
same_widened None (Some b) h = h
same_widened (Some a) None h = h
same_widened (Some a) (Some b) h = h

pub can_name_stored : (s t : Seen) (b : ℕ) (name : Option PageName) → CanName s b name → CachesStored s t b name → CanName t b name
can_name_stored s t b name h k = record { in_range = h.in_range; agrees = λ e. from (k.named e) }
  where
    from : ((s.cached b ≡ true) × (t.names b ≡ s.names b)) ⊎ (t.names b ≡ name) ⊎ ((s.cached b ≡ true) × (t.names b ≡ widened (s.names b) name)) → SamePage (t.names b) name
    from (inl e) = subst (λ o. SamePage o name) (sym e.1) (h.agrees e.0)
    from (inr (inl e)) = subst (λ o. SamePage o name) (sym e) (same_page name)
    from (inr (inr e)) = subst (λ o. SamePage o name) (sym e.1) (same_widened _ _ (h.agrees e.0))

pub stored_refl : (s : Seen) (b : ℕ) (name : Option PageName) → CachesStored s s b name
stored_refl s b name = record { others = λ c away cached. (cached, refl); named = λ cached. inl (cached, refl) }

abbrev Named : Seen → Seen → ℕ → Option PageName → Type 0
Named s t b name = ((s.cached b ≡ true) × (t.names b ≡ s.names b)) ⊎ (t.names b ≡ name) ⊎ ((s.cached b ≡ true) × (t.names b ≡ widened (s.names b) name))

pub stored_trans : (s t u : Seen) (b : ℕ) (name : Option PageName) → CachesStored s t b name → CachesStored t u b name → CachesStored s u b name
stored_trans s t u b name h k = record {
  others = λ c n e. let now = k.others c n e in let before = h.others c n now.0 in (before.0, now.1 ∙ before.1);
  named = λ e. through (k.named e);
}
  where
    kept : u.names b ≡ t.names b → Named s t b name → Named s u b name
    kept same (inl e) = inl (e.0, same ∙ e.1)
    kept same (inr (inl e)) = inr (inl (same ∙ e))
    kept same (inr (inr e)) = inr (inr (e.0, same ∙ e.1))

    wider : u.names b ≡ widened (t.names b) name → Named s t b name → Named s u b name
    wider same (inl e) = inr (inr (e.0, same ∙ ap (λ o. widened o name) e.1))
    wider same (inr (inl e)) = inr (inl (same ∙ ap (λ o. widened o name) e ∙ widen_self name))
    wider same (inr (inr e)) = inr (inr (e.0, same ∙ ap (λ o. widened o name) e.1 ∙ widen_twice (s.names b) name))

    through : Named t u b name → Named s u b name
    through (inl e) = kept e.1 (h.named e.0)
    through (inr (inl e)) = inr (inl e)
    through (inr (inr e)) = wider e.1 (h.named e.0)

-- ---- the shape, after a call on a block that isn't reserved

pub shape_beside : (shape : VolumeShape) (s t : Seen) (b : ℕ) (name : Option PageName) → HasShape shape s → t.count ≡ s.count → reserved shape ≤ b → Caches s t b name → HasShape shape t
shape_beside shape s t b name h count past k = record {
  sizes = h.sizes;
  count = count ∙ h.count;
  unnamed = λ c within cached. let before = k.others c (λ e. absurd (omega (arith, e, within, past))) cached in before.1 ∙ h.unnamed c within before.0;
}

pub shape_beside_stored : (shape : VolumeShape) (s t : Seen) (b : ℕ) (name : Option PageName) → HasShape shape s → t.count ≡ s.count → reserved shape ≤ b → CachesStored s t b name → HasShape shape t
shape_beside_stored shape s t b name h count past k = record {
  sizes = h.sizes;
  count = count ∙ h.count;
  unnamed = λ c within cached. let before = k.others c (λ e. absurd (omega (arith, e, within, past))) cached in before.1 ∙ h.unnamed c within before.0;
}

pub shape_dropped : (shape : VolumeShape) (s t : Seen) → HasShape shape s → t.count ≡ s.count → Drops s t → HasShape shape t
shape_dropped shape s t h count k = record {
  sizes = h.sizes;
  count = count ∙ h.count;
  unnamed = λ c within cached. let before = k.kept c cached in before.1 ∙ h.unnamed c within before.0;
}

-- ---- what differs in one block

pub same_refl : (b : ℕ) (f : BlockWords) → SameBut b f f
same_refl b f = record { others = λ c w n. refl }

pub same_trans : (b : ℕ) (f g h : BlockWords) → SameBut b f g → SameBut b g h → SameBut b f h
same_trans b f g h x y = record { others = λ c w n. y.others c w n ∙ x.others c w n }
