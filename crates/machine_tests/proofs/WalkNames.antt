-- The names of a walk: each block may be asked for under its own, and stays cached under it.
use Rattle.std.specs.Prelude.{◌≡◌, ◌≢◌, ℕ, ◌+◌, ◌<◌, ◌≤◌, ◌⊎◌, nat_lt, Bool, true, false, if◌then◌else◌, Option, None, Some, refl}
use Rattle.std.proofs.Common.{◌∙◌, sym, subst, arith, inl, inr}
use Rattle.std.proofs.lemmas.Bool.{cases_eq, lt-ltb}
use Rattle.rio_base.specs.declared.places.PageName.{PageName}
use Rattle.rio_base.specs.Blocks.{Caches, CanName, Drops, Health, InRange, IsPlace, IsSpan, Looks, SamePage, Seen}
use Rattle.rio_base.proofs.BlockRules.{can_name_on, can_name_stored}
use Rattle.rio_base.specs.Volume.{Below, CachesStored, Kept, Passes, SameUpdate}
use Rattle.machine_tests.specs.Walks.{Walks, walk_name}

name_fits : (b : ℕ) (test : Bool) → b < 64 → InRange (if test then None else Some (record { file = record { 0 = 2 }; index = b; size = 4096 }))
name_fits b true less = tt
name_fits b false less = record { file_from = omega arith; file_to = omega arith; index = omega (arith, less); size = omega arith }

pub can_walk : (s : Seen) (b : ℕ) → Walks s → b < 64 → CanName s b (walk_name b)
can_walk s b h less = record { in_range = name_fits b (nat_lt b 40) less; agrees = h.named b }

-- under the name that the code makes
pub can_walk_as : (s : Seen) (b : ℕ) (name : Option PageName) → name ≡ walk_name b → Walks s → b < 64 → CanName s b name
can_walk_as s b name is h less = subst (CanName s b) (sym is) (can_walk s b h less)

pub nameless : (b : ℕ) → b < 40 → walk_name b ≡ None
nameless b less = rw (lt-ltb b 40 less) refl

pub can_touch : (s : Seen) (b : ℕ) → Walks s → b < 40 → CanName s b None
can_touch s b h less = subst (CanName s b) (nameless b less) (can_walk s b h (omega (arith, less)))

pub walk_place : (s : Seen) (b w : ℕ) → Walks s → b < 64 → w < 512 → IsPlace s b w
walk_place s b w h less within = record { block = subst (λ n. b < n) (sym h.count) less; word = within }

pub walk_span : (s : Seen) (b w n : ℕ) → Walks s → b < 64 → w + n ≤ 512 → IsSpan s b w n
walk_span s b w n h less within = record { block = subst (λ c. b < c) (sym h.count) less; within = within }

-- a block that bears the name that it had
kept : (s t : Seen) (c : ℕ) → Walks s → (s.cached c ≡ true) × (t.names c ≡ s.names c) → SamePage (t.names c) (walk_name c)
kept s t c h k = subst (λ name. SamePage name (walk_name c)) (sym k.1) (h.named c k.0)

each_named : (s t : Seen) (b c : ℕ) → Walks s → (c ≢ b → (s.cached c ≡ true) × (t.names c ≡ s.names c)) → CanName t b (walk_name b) → t.cached c ≡ true → (c ≡ b) ⊎ (c ≢ b) → SamePage (t.names c) (walk_name c)
each_named s t b c h others here cached (inl same) = subst (λ x. t.cached x ≡ true → SamePage (t.names x) (walk_name x)) (sym same) here.agrees cached
each_named s t b c h others here cached (inr away) = kept s t c h (others away)

pub walks_cached : (s t : Seen) (b : ℕ) (name : Option PageName) → Caches s t b name → name ≡ walk_name b → Walks s → b < 64 → t.count ≡ s.count → Walks t
walks_cached s t b name k is h less count = record {
  count = count ∙ h.count;
  named = λ c cached. each_named s t b c h (λ away. k.others c away cached) (can_name_on s t b (walk_name b) (can_walk s b h less) (subst (Caches s t b) is k)) cached (cases_eq c b);
}

-- after a call that changes no word
pub walks_looked : (s t : Seen) (b : ℕ) (name : Option PageName) → Looks s t → Caches s t b name → name ≡ walk_name b → Walks s → b < 64 → Walks t
walks_looked s t b name looks k is h less = walks_cached s t b name k is h less looks.count

pub walks_touched : (s t : Seen) (b : ℕ) → Looks s t → Caches s t b None → Walks s → b < 40 → Walks t
walks_touched s t b looks k h less = walks_looked s t b None looks k (sym (nameless b less)) h (omega (arith, less))

pub walks_stored : (s t : Seen) (b : ℕ) (name : Option PageName) → CachesStored s t b name → name ≡ walk_name b → Walks s → b < 64 → t.count ≡ s.count → Walks t
walks_stored s t b name k is h less count = record {
  count = count ∙ h.count;
  named = λ c cached. each_named s t b c h (λ away. k.others c away cached) (can_name_stored s t b (walk_name b) (can_walk s b h less) (subst (CachesStored s t b) is k)) cached (cases_eq c b);
}

pub walks_put : (s t : Seen) (b : ℕ) → CachesStored s t b None → Walks s → b < 40 → t.count ≡ s.count → Walks t
walks_put s t b k h less count = walks_stored s t b None k (sym (nameless b less)) h (omega (arith, less)) count

pub walks_dropped : (s t : Seen) → Drops s t → Walks s → t.count ≡ s.count → Walks t
walks_dropped s t k h count = record { count = count ∙ h.count; named = λ c cached. kept s t c h (k.kept c cached) }

-- ---- the open update

-- a volume that is only read
pub same_update_passed : (s t : Health) (old new : Below) (k l : Kept) → Passes s old k t new l → SameUpdate k l
same_update_passed s t old new k l h = record { updating = h.updating; touched = h.touched; touches = h.touches }

pub same_update_trans : (k l m : Kept) → SameUpdate k l → SameUpdate l m → SameUpdate k m
same_update_trans k l m h i = record { updating = i.updating ∙ h.updating; touched = i.touched ∙ h.touched; touches = i.touches ∙ h.touches }
