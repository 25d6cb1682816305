-- The lowest free blocks: free, rising, and so none of them twice.
use Rattle.node_pages.proofs.Common.{◌≡◌, ℕ, zero, suc, ◌+◌, ◌<◌, ◌≤◌, Bool, true, false, cond, List, ◌∷◌, length, take, refl, sym, ap, subst, ◌∙◌, arith, inl, inr, slice_index, Result, Ok, Err, IsErrOf, filter, range_with_len, cases_lt, nat_tests, get_or-take, Block, VolumeShape, free_blocks, used_bit, BlockWords, EndsBy, Health, ends_by_as, reserved, IsFree, volume_layout, IsMapped, numbers}
use Rattle.std.proofs.Common.{length-take-le}
use Rattle.rio_base.specs.Bitmap.{is_free}
use Rattle.block_alloc.specs.declared.taking.TakeFail.{TakeFail}
use Rattle.block_alloc.specs.declared.taking.TakeFail.TheVariants.{NoSpace as TakeNoSpace, Fault as TakeFault, Stopped as TakeStopped, Memory as TakeMemory}
use Rattle.node_pages.specs.Changes.{Apart}
use Rattle.node_pages.specs.Failures.{size_of_take}
use Rattle.node_pages.specs.declared.failures.SizeFail.{SizeFail}
use Rattle.node_pages.specs.declared.failures.SizeFail.TheVariants.{NoSpace, TooLarge, Fault, Stopped, Memory}
use Rattle.node_pages.proofs.Listed.{as_many}

-- ---- what is filtered out of a run of numbers

pub record Picked (p : ℕ → Bool) (a n b : ℕ) : Type 0 where
  pub from : a ≤ b
  pub to : b < a + n
  pub is : p b ≡ true

pub picked : (p : ℕ → Bool) (n a t : ℕ) → t < length (filter p (range_with_len a n)) → Picked p a n (slice_index (filter p (range_with_len a n)) t)
picked p zero a t few = absurd (omega (arith, few))
picked p (suc n) a t few = by (p a) refl t few (picked p n (a + 1))
  where
    later : (b : ℕ) → Picked p (a + 1) n b → Picked p a (suc n) b
    later b h = let from = h.from in let to = h.to in record { from = omega (arith, from); to = omega (arith, to); is = h.is }

    by : (q : Bool) → p a ≡ q → (t : ℕ) → t < length (cond q (a ∷ filter p (range_with_len (a + 1) n)) (filter p (range_with_len (a + 1) n))) → ((t : ℕ) → t < length (filter p (range_with_len (a + 1) n)) → Picked p (a + 1) n (slice_index (filter p (range_with_len (a + 1) n)) t)) → Picked p a (suc n) (slice_index (cond q (a ∷ filter p (range_with_len (a + 1) n)) (filter p (range_with_len (a + 1) n))) t)
    by true e zero few rest = record { from = omega arith; to = omega arith; is = e }
    by true e (suc t) few rest = later _ (rest t (omega (arith, few)))
    by false e t few rest = later _ (rest t few)

pub rising : (p : ℕ → Bool) (n a s t : ℕ) → s < t → t < length (filter p (range_with_len a n)) → slice_index (filter p (range_with_len a n)) s < slice_index (filter p (range_with_len a n)) t
rising p zero a s t before few = absurd (omega (arith, few))
rising p (suc n) a s t before few = by (p a) s t before few (rising p n (a + 1))
  where
    by : (q : Bool) (s t : ℕ) → s < t → t < length (cond q (a ∷ filter p (range_with_len (a + 1) n)) (filter p (range_with_len (a + 1) n))) → ((s t : ℕ) → s < t → t < length (filter p (range_with_len (a + 1) n)) → slice_index (filter p (range_with_len (a + 1) n)) s < slice_index (filter p (range_with_len (a + 1) n)) t) → slice_index (cond q (a ∷ filter p (range_with_len (a + 1) n)) (filter p (range_with_len (a + 1) n))) s < slice_index (cond q (a ∷ filter p (range_with_len (a + 1) n)) (filter p (range_with_len (a + 1) n))) t
    by true s zero before few rest = absurd (omega (arith, before))
    by true zero (suc t) before few rest = let from = (picked p n (a + 1) t (omega (arith, few))).from in omega (arith, from)
    by true (suc s) (suc t) before few rest = rest s t (omega (arith, before)) (omega (arith, few))
    by false s t before few rest = rest s t before few

-- ---- free blocks

bit_free : (shape : VolumeShape) (f : BlockWords) (b : ℕ) → is_free shape f b ≡ true → used_bit shape f b ≡ 0
bit_free shape f b h = grind (arith, nat_tests, h)

pub is_free_block : (shape : VolumeShape) (f : BlockWords) (b : ℕ) → IsMapped shape f → b < shape.blocks → is_free shape f b ≡ true → IsFree (volume_layout shape f) b
is_free_block shape f b h within free = record {
  from = elim (cases_lt b (reserved shape)) [ inl low ↦ absurd (let one = h.reserved_marked.marked b low in let none = bit_free shape f b free in omega (arith, one, none)) | inr from ↦ from ];
  to = within;
  free = λ owned. let one = h.marks.counts b owned in let none = bit_free shape f b free in omega (arith, one, none);
}

pub listed_free : (shape : VolumeShape) (f : BlockWords) (t : ℕ) → IsMapped shape f → t < length (free_blocks shape f) → IsFree (volume_layout shape f) (slice_index (free_blocks shape f) t)
listed_free shape f t h few = let at = picked (is_free shape f) shape.blocks 0 t few in is_free_block shape f _ h (let to = at.to in omega (arith, to)) at.is

pub lists_apart : (shape : VolumeShape) (f : BlockWords) → Apart (free_blocks shape f)
lists_apart shape f s t few_s few_t same = elim (cases_lt s t) [
  | inl below ↦ absurd (let up = rising (is_free shape f) shape.blocks 0 s t below few_t in omega (arith, up, same))
  | inr above ↦ elim (cases_lt t s) [
    | inl over ↦ absurd (let up = rising (is_free shape f) shape.blocks 0 t s over few_s in omega (arith, up, same))
    | inr under ↦ omega (arith, above, under)
  ]
]

-- ---- the first of them

pub first_count : (n : ℕ) (xs : List ℕ) (bs : List Block) → numbers bs ≡ take n xs → n ≤ length xs → length bs ≡ n
first_count n xs bs is room = sym (as_many bs) ∙ ap length is ∙ length-take-le n xs room

pub first_free : (shape : VolumeShape) (f : BlockWords) (n : ℕ) (bs : List Block) → IsMapped shape f → numbers bs ≡ take n (free_blocks shape f) → n ≤ length (free_blocks shape f) → (t : ℕ) → t < length bs → IsFree (volume_layout shape f) (slice_index (numbers bs) t)
first_free shape f n bs h is room t few =
    let below : t < n = subst (λ (k : ℕ). t < k) (first_count n (free_blocks shape f) bs is room) few in
    subst (λ b. IsFree (volume_layout shape f) b) (sym (ap (λ xs. slice_index xs t) is ∙ get_or-take n (free_blocks shape f) t 0 below)) (listed_free shape f t h (omega (arith, below, room)))

pub first_apart : (n : ℕ) (xs : List ℕ) → n ≤ length xs → Apart xs → Apart (take n xs)
first_apart n xs room h s t few_s few_t same =
    let long = length-take-le n xs room in
    let s_below : s < n = omega (arith, few_s, long) in
    let t_below : t < n = omega (arith, few_t, long) in
    h s t (omega (arith, s_below, room)) (omega (arith, t_below, room)) (sym (get_or-take n xs s 0 s_below) ∙ same ∙ get_or-take n xs t 0 t_below)

-- ---- how it ends

abbrev EndsTake : {T : Type 0} → Health → Health → Result T TakeFail → Type 0
EndsTake s t r = EndsBy s t (IsErrOf r TakeFault) (IsErrOf r TakeStopped)

take_as : {T U : Type 0} (s t : Health) (e : TakeFail) → EndsTake {T = T} s t (Err e) → EndsBy s t (IsErrOf {T = U} (Err (size_of_take e)) Fault) (IsErrOf {T = U} (Err (size_of_take e)) Stopped)
take_as s t TakeNoSpace h = ends_by_as s t _ _ _ _ (λ a. cc) (λ a. cc) (λ a. cc) h
take_as s t TakeFault h = ends_by_as s t _ _ _ _ (λ a. refl) (λ a. cc) (λ a. cc) h
take_as s t TakeStopped h = ends_by_as s t _ _ _ _ (λ a. cc) (λ a. refl) (λ a. refl) h
take_as s t TakeMemory h = ends_by_as s t _ _ _ _ (λ a. cc) (λ a. cc) (λ a. cc) h

pub ends_take : {T U : Type 0} (s t : Health) (r : Result T TakeFail) (q : Result U SizeFail) (e : TakeFail) (d : SizeFail) → r ≡ Err e → q ≡ Err d → d ≡ size_of_take e → EndsTake s t r → EndsBy s t (IsErrOf q Fault) (IsErrOf q Stopped)
ends_take s t r q e d re qd de h = subst (λ x. EndsBy s t (IsErrOf x Fault) (IsErrOf x Stopped)) (sym (qd ∙ ap Err de)) (take_as s t e (subst (λ x. EndsTake s t x) re h))

pub ends_taken : {T U : Type 0} (s t : Health) (r : Result T TakeFail) (v : T) (u : U) → r ≡ Ok v → EndsTake s t r → EndsBy s t (IsErrOf {E = SizeFail} (Ok u) Fault) (IsErrOf {E = SizeFail} (Ok u) Stopped)
ends_taken {T = T} {U = U} s t r v u rv h = by (subst (λ x. EndsTake s t x) rv h)
  where
    by : EndsTake {T = T} s t (Ok v) → EndsBy s t (IsErrOf {T = U} {E = SizeFail} (Ok u) Fault) (IsErrOf {T = U} {E = SizeFail} (Ok u) Stopped)
    by g = ends_by_as s t _ _ _ _ (λ a. cc) (λ a. cc) (λ a. cc) g

-- too few are free
take_short : {T : Type 0} (e : TakeFail) → IsErrOf {T = T} (Err (size_of_take e)) NoSpace → e ≡ TakeNoSpace
take_short TakeNoSpace h = refl
take_short TakeFault h = absurd (by h)
  where
    by : {T : Type 0} → IsErrOf {T = T} (Err Fault) NoSpace → ⊥
    by h = cc
take_short TakeStopped h = absurd (by h)
  where
    by : {T : Type 0} → IsErrOf {T = T} (Err Stopped) NoSpace → ⊥
    by h = cc
take_short TakeMemory h = absurd (by h)
  where
    by : {T : Type 0} → IsErrOf {T = T} (Err Memory) NoSpace → ⊥
    by h = cc

pub ends_short : {T U : Type 0} (P : Type 0) (r : Result T TakeFail) (q : Result U SizeFail) (e : TakeFail) (d : SizeFail) → r ≡ Err e → q ≡ Err d → d ≡ size_of_take e → (IsErrOf r TakeNoSpace → P) → IsErrOf q NoSpace → P
ends_short {T = T} P r q e d re qd de short is = short (subst (λ x. IsErrOf x TakeNoSpace) (sym (re ∙ ap Err (take_short e (subst (λ x. IsErrOf x NoSpace) (qd ∙ ap Err de) is)))) refl)

take_small : {T : Type 0} (e : TakeFail) → IsErrOf {T = T} (Err (size_of_take e)) TooLarge → ⊥
take_small TakeNoSpace h = cc
take_small TakeFault h = cc
take_small TakeStopped h = cc
take_small TakeMemory h = cc

pub ends_small : {U : Type 0} (q : Result U SizeFail) (e : TakeFail) (d : SizeFail) → q ≡ Err d → d ≡ size_of_take e → IsErrOf q TooLarge → ⊥
ends_small q e d qd de is = take_small e (subst (λ x. IsErrOf x TooLarge) (qd ∙ ap Err de) is)
