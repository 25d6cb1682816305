-- The numbers of a range that pass a test: each passes, they rise, and none is left out.
use Rattle.std.specs.Prelude.{◌≡◌, ◌≢◌, ◌⊎◌, ℕ, zero, suc, ◌+◌, ◌<◌, ◌≤◌, Bool, true, false, None, List, [], ◌∷◌, ◌++◌, cond, filter, length, refl, slice_index}
use Rattle.std.specs.List.{range_with_len}
use Rattle.std.proofs.Common.{◌∙◌, ap, arith, inl, inr, subst, sym}
use Rattle.std.proofs.lemmas.Bool.{cases_Bool, cases_eq}
use Rattle.std.proofs.lemmas.List.{append-nil, map-append, map-id}
use Rattle.std.proofs.lemmas.List.FromFn.{filter_of_map_range_with_len_more}
use Rattle.rio_base.specs.declared.places.Ino.{Ino}
use Rattle.rio_base.specs.declared.places.VolumeShape.{VolumeShape}
use Rattle.rio_base.specs.Blocks.{BlockWords, Caches, Seen}
use Rattle.rio_base.specs.Layout.{IsIno, inode_block, inode_kind}
use Rattle.rio_base.specs.Shapes.{IsShape}
use Rattle.rio_base.specs.BlockSets.{CachesBy}
use Rattle.rio_base.proofs.BlockSets.{caches_by_one}
use Rattle.rio_model.proofs.PlacedRules.{inode_low}
use Rattle.inode_table.specs.Inodes.{IsMetadata}
use Rattle.rio_model.specs.Placed.{volume_layout}
use Rattle.rio_model.specs.VolumeRules.{KindRule}
use Rattle.region_recovery.specs.RegionLists.{ino_numbers, is_region, region_inos}

-- the numbers that pass among n + 1 from a on, by whether a does
abbrev first_or_not : ℕ → List ℕ → Bool → List ℕ
first_or_not a rest b = cond b (a ∷ rest) rest

-- ---- each passes

-- each number of the list passes, and lies from a to below m
abbrev Passes : (ℕ → Bool) → ℕ → ℕ → List ℕ → Type 0
Passes t a m l = (k : ℕ) → k < length l → (t (slice_index l k) ≡ true) × (a ≤ slice_index l k) × (slice_index l k < m)

passes_cons : (t : ℕ → Bool) (a m : ℕ) (l : List ℕ) → t a ≡ true → a < m → Passes t (a + 1) m l → Passes t a m (a ∷ l)
passes_cons t a m l e less h zero few = (e, omega arith, less)
passes_cons t a m l e less h (suc k) few = let one = h k (omega (arith, few)) in (one.0, omega (arith, one.1), one.2)

passes_later : (t : ℕ → Bool) (a m : ℕ) (l : List ℕ) → Passes t (a + 1) m l → Passes t a m l
passes_later t a m l h k few = let one = h k few in (one.0, omega (arith, one.1), one.2)

passes_by : (t : ℕ → Bool) (a m : ℕ) (l : List ℕ) → a < m → Passes t (a + 1) m l → (t a ≡ true) ⊎ (t a ≡ false) → Passes t a m (first_or_not a l (t a))
passes_by t a m l less h (inl e) = subst (λ b. Passes t a m (first_or_not a l b)) (sym e) (passes_cons t a m l e less h)
passes_by t a m l less h (inr e) = subst (λ b. Passes t a m (first_or_not a l b)) (sym e) (passes_later t a m l h)

pub passes : (t : ℕ → Bool) (n a : ℕ) → Passes t a (a + n) (filter t (range_with_len a n))
passes t zero a = λ k few. absurd (omega (arith, few))
passes t (suc n) a =
    let rest = filter t (range_with_len (a + 1) n) in
    passes_by t a (a + suc n) rest (omega arith) (subst (λ m. Passes t (a + 1) m rest) (omega arith) (passes t n (a + 1))) (cases_Bool (t a))

-- ---- they rise

abbrev Rises : List ℕ → Type 0
Rises l = (j k : ℕ) → j < k → k < length l → slice_index l j < slice_index l k

rises_cons : (t : ℕ → Bool) (a m : ℕ) (l : List ℕ) → Passes t (a + 1) m l → Rises l → Rises (a ∷ l)
rises_cons t a m l h r j zero less few = absurd (omega (arith, less))
rises_cons t a m l h r zero (suc k) less few = let one = h k (omega (arith, few)) in omega (arith, one.1)
rises_cons t a m l h r (suc j) (suc k) less few = r j k (omega (arith, less)) (omega (arith, few))

rises_by : (t : ℕ → Bool) (a m : ℕ) (l : List ℕ) → Passes t (a + 1) m l → Rises l → (b : Bool) → Rises (first_or_not a l b)
rises_by t a m l h r true = rises_cons t a m l h r
rises_by t a m l h r false = r

pub rises : (t : ℕ → Bool) (n a : ℕ) → Rises (filter t (range_with_len a n))
rises t zero a = λ j k less few. absurd (omega (arith, few))
rises t (suc n) a = rises_by t a (a + 1 + n) (filter t (range_with_len (a + 1) n)) (passes t n (a + 1)) (rises t n (a + 1)) (t a)

-- ---- none is left out

-- i stands in the list
abbrev Stands : List ℕ → ℕ → Type 0
Stands l i = (k : ℕ) × (k < length l) × (slice_index l k ≡ i)

stands_behind : (a i : ℕ) (l : List ℕ) → Stands l i → Stands (a ∷ l) i
stands_behind a i l at = (suc at.0, (let few = at.1 in omega (arith, few)), at.2)

stands_by : (t : ℕ → Bool) (a i : ℕ) (l : List ℕ) → t i ≡ true → (i ≢ a → Stands l i) → (i ≡ a) ⊎ (i ≢ a) → Stands (first_or_not a l (t a)) i
stands_by t a i l e later (inl same) = subst (λ b. Stands (first_or_not a l b) i) (sym e ∙ ap t same) (0, omega arith, sym same)
stands_by t a i l e later (inr ne) = by (t a)
  where
    by : (b : Bool) → Stands (first_or_not a l b) i
    by true = stands_behind a i l (later ne)
    by false = later ne

pub all_stand : (t : ℕ → Bool) (n a i : ℕ) → a ≤ i → i < a + n → t i ≡ true → Stands (filter t (range_with_len a n)) i
all_stand t zero a i from to e = absurd (omega (arith, from, to))
all_stand t (suc n) a i from to e = stands_by t a i (filter t (range_with_len (a + 1) n)) e (λ ne. all_stand t n (a + 1) i (omega (arith, from, ne)) (omega (arith, to)) e) (cases_eq i a)

-- ---- how many there are

at_most_by : (a n : ℕ) (l : List ℕ) → length l ≤ n → (b : Bool) → length (first_or_not a l b) ≤ suc n
at_most_by a n l h true = omega (arith, h)
at_most_by a n l h false = omega (arith, h)

pub at_most : (t : ℕ → Bool) (n a : ℕ) → length (filter t (range_with_len a n)) ≤ n
at_most t zero a = omega arith
at_most t (suc n) a = at_most_by a n (filter t (range_with_len (a + 1) n)) (at_most t n (a + 1)) (t a)

-- ---- one number more

more : (t : ℕ → Bool) (n : ℕ) → filter t (range_with_len 1 (n + 1)) ≡ filter t (range_with_len 1 n) ++ cond (t (n + 1)) ((n + 1) ∷ []) []
more t n =
    ap (filter t) (sym (map-id (range_with_len 1 (n + 1)))) ∙ filter_of_map_range_with_len_more t (λ x. x) 1 n (n + 1) (omega arith) ∙ ap (λ xs. filter t xs ++ cond (t (n + 1)) ((n + 1) ∷ []) []) (map-id (range_with_len 1 n))

pub listed_with : (t : ℕ → Bool) (n : ℕ) (inodes : List Ino) (i : Ino) → i.0 ≡ n + 1 → t (n + 1) ≡ true → ino_numbers inodes ≡ filter t (range_with_len 1 n) → ino_numbers (inodes ++ i ∷ []) ≡ filter t (range_with_len 1 (n + 1))
listed_with t n inodes i is e h = map-append (λ (j : Ino). j.0) inodes (i ∷ []) ∙ rw (h, is) refl ∙ ap (λ b. filter t (range_with_len 1 n) ++ cond b ((n + 1) ∷ []) []) (sym e) ∙ sym (more t n)

pub listed_without : (t : ℕ → Bool) (n : ℕ) (inodes : List Ino) → t (n + 1) ≡ false → ino_numbers inodes ≡ filter t (range_with_len 1 n) → ino_numbers inodes ≡ filter t (range_with_len 1 (n + 1))
listed_without t n inodes e h = h ∙ sym (append-nil (filter t (range_with_len 1 n))) ∙ ap (λ b. filter t (range_with_len 1 n) ++ cond b ((n + 1) ∷ []) []) (sym e) ∙ sym (more t n)

-- after the last inode
pub listed_all : (shape : VolumeShape) (f : BlockWords) (n : ℕ) (inodes : List Ino) → n ≤ shape.inodes → shape.inodes ≤ n → ino_numbers inodes ≡ filter (is_region shape f) (range_with_len 1 n) → ino_numbers inodes ≡ region_inos shape f
unfolding region_inos
listed_all shape f n inodes to from h = h ∙ ap (λ m. filter (is_region shape f) (range_with_len 1 m)) (omega arith)

-- before the first
pub listed_none : (t : ℕ → Bool) (inodes : List Ino) → inodes ≡ [] → ino_numbers inodes ≡ filter t (range_with_len 1 0)
listed_none t inodes none = ap (λ is. ino_numbers is) none

-- an inode that is asked for has a kind that there is
pub nth_ino : (shape : VolumeShape) (n : ℕ) → n < shape.inodes → IsIno shape (n + 1)
nth_ino shape n less = record { from = omega arith; to = omega (arith, less) }

pub kind_on : (shape : VolumeShape) (f g : BlockWords) (i : ℕ) → KindRule (volume_layout shape f) → IsIno shape i → g ≡ f → inode_kind g i ≤ 3
kind_on shape f g i kinds ino same = subst (λ h. inode_kind h i ≤ 3) (sym same) (kinds.each i ino).0

-- the block of an inode is one of metadata
pub inode_cached : (shape : VolumeShape) (x y : Seen) (i : ℕ) → IsShape shape → IsIno shape i → Caches x y (inode_block i) None → CachesBy (IsMetadata shape) x y
inode_cached shape x y i sizes ino caches = caches_by_one _ x y (inode_block i) None caches (inode_low shape i sizes ino, refl)
