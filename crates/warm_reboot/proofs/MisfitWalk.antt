-- The walk that finds the least block whose entry does not fit.
use Rattle.page_restore.proofs.Common.{List, None, Option, Some, ℕ, ◌+◌, ◌<◌, ◌≡◌, ◌≢◌, ◌≤◌, ◌⊎◌, arith, inl, inr, subst, sym, cases_eq, Contents, IsValid, frames_of, tag_at, tag_block}
use Rattle.std.specs.Prelude.{min}
use Rattle.rio_base.specs.declared.places.Block.{Block}
use Rattle.rio_base.specs.declared.places.VolumeShape.{VolumeShape}
use Rattle.rio_model.specs.Cover.{stands}
use Rattle.rio_model.specs.Placed.{Layout, volume_layout}
use Rattle.rio_model.specs.Standing.{EntryFits}
use Rattle.warm_reboot.specs.Examining.{IsLeastMisfit, IsMisfit, lesser}

-- of the first n entries one does not fit, and none of a lesser block
pub record FailsBefore (l : Layout) (words : List ℕ) (n b : ℕ) : Type 0 where
  pub entry : ℕ
  pub valid : IsValid words entry
  pub is : tag_block (tag_at words entry) ≡ b
  pub fails : ¬ EntryFits l words entry
  pub before : (k : ℕ) → k < n → IsValid words k → tag_block (tag_at words k) < b → EntryFits l words k

abbrev pub LeastBefore : Layout → List ℕ → ℕ → Option Block → Type 0
LeastBefore l words n None = (k : ℕ) → k < n → IsValid words k → EntryFits l words k
LeastBefore l words n (Some b) = FailsBefore l words n b.0

below : (k n : ℕ) → k < n + 1 → (k < n) ⊎ (k ≡ n)
below k n less = by (cases_eq k n)
  where
    by : (k ≡ n) ⊎ (k ≢ n) → (k < n) ⊎ (k ≡ n)
    by (inl e) = inr e
    by (inr ne) = inl (omega (arith, less, ne))

-- what comes before the next entry, where the entry itself fits or is of no lesser block
before_next : (l : Layout) (words : List ℕ) (n b : ℕ) → ((k : ℕ) → k < n → IsValid words k → tag_block (tag_at words k) < b → EntryFits l words k) → (IsValid words n → tag_block (tag_at words n) < b → EntryFits l words n) → (k : ℕ) → k < n + 1 → IsValid words k → tag_block (tag_at words k) < b → EntryFits l words k
before_next l words n b h m k less v low = by (below k n less)
  where
    by : (k < n) ⊎ (k ≡ n) → EntryFits l words k
    by (inl small) = h k small v low
    by (inr e) = subst (EntryFits l words) (sym e) (m (subst (IsValid words) e v) (subst (λ x. tag_block (tag_at words x) < b) e low))

-- the next entry does not fit, and each before it fits or is of no lesser block
fails_here : (l : Layout) (words : List ℕ) (n b : ℕ) → IsValid words n → tag_block (tag_at words n) ≡ b → ¬ EntryFits l words n → ((k : ℕ) → k < n → IsValid words k → tag_block (tag_at words k) < b → EntryFits l words k) → FailsBefore l words (n + 1) b
fails_here l words n b v is fails h = record {
  entry = n;
  valid = v;
  is = is;
  fails = fails;
  before = before_next l words n b h (λ w low. absurd (omega (arith, is, low)));
}

fails_still : (l : Layout) (words : List ℕ) (n b : ℕ) → FailsBefore l words n b → (IsValid words n → tag_block (tag_at words n) < b → EntryFits l words n) → FailsBefore l words (n + 1) b
fails_still l words n b h m = record { entry = h.entry; valid = h.valid; is = h.is; fails = h.fails; before = before_next l words n b h.before m }

order : (a b : ℕ) → ((a ≤ b) × (min a b ≡ a)) ⊎ ((b < a) × (min a b ≡ b))
order a b = grind arith

pub least_next : (l : Layout) (words : List ℕ) (n : ℕ) (least misfit : Option Block) → LeastBefore l words n least → IsMisfit l words n misfit → LeastBefore l words (n + 1) (lesser least misfit)
least_next l words n None None h m = λ k less v. by k v (below k n less)
  where
    by : (k : ℕ) → IsValid words k → (k < n) ⊎ (k ≡ n) → EntryFits l words k
    by k v (inl small) = h k small v
    by k v (inr e) = subst (EntryFits l words) (sym e) (m (subst (IsValid words) e v))
least_next l words n None (Some b) h m = fails_here l words n b.0 m.0 m.1 m.2 (λ k small v low. h k small v)
least_next l words n (Some a) None h m = fails_still l words n a.0 h (λ v low. m v)
least_next l words n (Some a) (Some b) h m = by (order a.0 b.0)
  where
    by : ((a.0 ≤ b.0) × (min a.0 b.0 ≡ a.0)) ⊎ ((b.0 < a.0) × (min a.0 b.0 ≡ b.0)) → FailsBefore l words (n + 1) (min a.0 b.0)
    by (inl (less, same)) = subst (FailsBefore l words (n + 1)) (sym same) (fails_still l words n a.0 h (λ v low. absurd (let is = m.1 in omega (arith, is, low, less))))
    by (inr (less, same)) = subst (FailsBefore l words (n + 1)) (sym same) (fails_here l words n b.0 m.0 m.1 m.2 (λ k small v low. h.before k small v (omega (arith, low, less))))

-- the same by the machine as it is in the middle of the walk
pub least_read : (old mid : Contents) (shape : VolumeShape) (k : ℕ) (least misfit made : Option Block) → mid ≡ record old { faults = mid.faults } → LeastBefore (volume_layout shape (stands old)) old.words k least → IsMisfit (volume_layout shape (stands mid)) mid.words k misfit → made ≡ lesser least misfit → LeastBefore (volume_layout shape (stands old)) old.words (k + 1) made
least_read old mid shape k least misfit made rest h m is = subst (LeastBefore (volume_layout shape (stands old)) old.words (k + 1)) (sym is) (least_next (volume_layout shape (stands old)) old.words k least misfit h (subst (λ (c : Contents). IsMisfit (volume_layout shape (stands c)) c.words k misfit) rest m))

pub least_all : (l : Layout) (words : List ℕ) (n : ℕ) (least : Option Block) → frames_of words ≤ n → LeastBefore l words n least → IsLeastMisfit l words least
least_all l words n None end h = record { each = λ k v. h k (let within = v.within in omega (arith, within, end)) v }
least_all l words n (Some b) end h = record { entry = h.entry; valid = h.valid; is = h.is; fails = h.fails; before = λ k v low. h.before k (let within = v.within in omega (arith, within, end)) v low }
