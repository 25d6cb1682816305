-- The bitmap by its bits: rules 2 and 7.
use Rattle.volume_check.proofs.Common.{Bool, true, false, List, [], ap, arith, cond, inl, inr, length, refl, slice_index, slice_index_or, subst, sym, cases_Bool, cases_lt, nat_tests, ℕ, ◌%◌, ◌*◌, ◌+◌, ◌/◌, ◌^◌, ◌<◌, ◌==◌, ◌∙◌, ◌≡◌, ◌≢◌, ◌≤◌, ◌⊎◌, BlockWords, IsServed, Layout, Owned, VolumeShape, reserved, volume_layout}
use Rattle.std.specs.Int.{bit_at}
use Rattle.std.specs.Prelude.{bit_and}
use Rattle.std.proofs.lemmas.Bool.{eqb-false, eqb-true, eq-eqb, ne_eqb}
use Rattle.std.proofs.lemmas.List.{get_or_default}
use Rattle.std.proofs.lemmas.Nat.Bits.{bit_at-lt, shr_and_one}
use Rattle.rio_base.proofs.Bitmap.{first_bitmap}
use Rattle.rio_base.specs.Bitmap.{used_bit}
use Rattle.rio_base.specs.Shapes.{more_bitmap}
use Rattle.rio_model.specs.declared.census.Owner.{Owner}
use Rattle.rio_model.specs.declared.census.Owner.TheVariants.{Nobody, PageOf, TableOf}
use Rattle.rio_model.specs.Censuses.{HasOwners, OwnerIs}
use Rattle.rio_model.specs.VolumeRules.{MarkRule, NumberRule, ReservedRule, bitmap_bits}
use Rattle.volume_check.specs.Bitmap.{HasBitmap, held_bit}
use Rattle.volume_check.specs.Claims.{is_owned}
use Rattle.volume_check.specs.NodeBlocks.{PushesBlock}
use Rattle.volume_check.specs.declared.bitmap.Bitmap.{Bitmap}

-- ---- version 1 has one block of bits

no_more : (shape : VolumeShape) → shape.version ≡ 1 → more_bitmap shape ≡ 0
unfolding more_bitmap
no_more shape one = let t : (shape.version == 2) ≡ false = grind (arith, nat_tests, one) in ap (λ b. cond b 7 0) t

pub bits_count : (shape : VolumeShape) → shape.version ≡ 1 → bitmap_bits shape ≡ 32768
bits_count shape one = ap (λ n. 32768 * (1 + n)) (no_more shape one)

pub reserved_count : (shape : VolumeShape) → shape.version ≡ 1 → reserved shape ≡ 2 + shape.inodes / 32
reserved_count shape one = let none = no_more shape one in omega (arith, none)

held_used : (f : BlockWords) (shape : VolumeShape) (words : List ℕ) → shape.version ≡ 1 → ((w : ℕ) → w < 512 → slice_index words w ≡ f 1 w) → (b : ℕ) → b < bitmap_bits shape → bit_at (slice_index words (b / 64)) (b % 64) ≡ used_bit shape f b
held_used f shape words one is b within =
    let all = bits_count shape one in
    let few : b < 32768 = omega (arith, within, all) in
    let first = first_bitmap shape b few in
    let low : b % 32768 / 64 ≡ b / 64 = omega (arith, few) in
    ap (λ w. bit_at w (b % 64)) (is (b / 64) (omega (arith, few)) ∙ sym (λ t. f (first t) (low t)))

pub whole_block : (f : BlockWords) (b : ℕ) (old new : List ℕ) → old ≡ [] → PushesBlock f b old new → (w : ℕ) → w < 512 → slice_index new w ≡ f b w
whole_block f b old new none h w few =
    let e : length old + w ≡ w = (let zero = ap length none in omega (arith, zero)) in
    sym (ap (slice_index new) e) ∙ h.block w few

pub whole_len : (f : BlockWords) (b : ℕ) (old new : List ℕ) → old ≡ [] → PushesBlock f b old new → length new ≡ 512
whole_len f b old new none h = let zero = ap length none in let long = h.len in omega (arith, zero, long)

pub has_bitmap : (f : BlockWords) (shape : VolumeShape) (m : Bitmap) (old : List ℕ) → shape.version ≡ 1 → old ≡ [] → PushesBlock f 1 old m.words.items → HasBitmap shape f m
has_bitmap f shape m old one none h = record { each = held_used f shape m.words.items one (whole_block f 1 old m.words.items none h) }

-- ---- one bit

pub word_is : (words : List ℕ) (k w : ℕ) → w ≡ slice_index_or words k w → k < length words → w ≡ slice_index words k
word_is words k w is within = is ∙ get_or_default words k w 0 within

pub marked_is : (words : List ℕ) (b : ℕ) → (bit_and (slice_index words (b / 64) / 2 ^ (b % 64)) 1 == 1) ≡ (bit_at (slice_index words (b / 64)) (b % 64) == 1)
marked_is words b = ap (λ n. n == 1) (shr_and_one (slice_index words (b / 64)) (b % 64))

bit_zero : (n : ℕ) → n < 2 → (n == 1) ≡ false → n ≡ 0
bit_zero n few other = let away = eqb-false n 1 other in omega (arith, few, away)

held_two : (m : Bitmap) (b : ℕ) → held_bit m b < 2
held_two m b = bit_at-lt (slice_index m.words.items (b / 64)) (b % 64)

-- ---- rule 2

abbrev AllMarked : Bitmap → ℕ → ℕ → Bool → Type 0
AllMarked m from end used = (b : ℕ) → from ≤ b → b < end → (held_bit m b == 1) ≡ used

pub keeps_reserved : (f : BlockWords) (shape : VolumeShape) (m : Bitmap) (r : ℕ) → IsServed shape → HasBitmap shape f m → r ≡ reserved shape → AllMarked m 0 r true → AllMarked m shape.blocks 32768 false → ReservedRule shape f
keeps_reserved f shape m r served h is low high = record {
  marked = λ b less. sym (h.each b (bit b less)) ∙ eqb-true (held_bit m b) 1 (low b (omega arith) (omega (arith, less, is)));
  past = λ b from within. sym (h.each b within) ∙ bit_zero (held_bit m b) (held_two m b) (high b from (let all = bits_count shape served.version in omega (arith, within, all)));
}
  where
    bit : (b : ℕ) → b < reserved shape → b < bitmap_bits shape
    bit b less =
        let all = bits_count shape served.version in
        let count = reserved_count shape served.version in
        let most = served.sizes.inodes_to in
        omega (arith, less, all, count, most)

pub reserved_low : (f : BlockWords) (shape : VolumeShape) (m : Bitmap) (r : ℕ) → IsServed shape → HasBitmap shape f m → r ≡ reserved shape → ReservedRule shape f → AllMarked m 0 r true
reserved_low f shape m r served h is rule = λ b from less.
    let all = bits_count shape served.version in
    let count = reserved_count shape served.version in
    let most = served.sizes.inodes_to in
    eq-eqb (held_bit m b) 1 (h.each b (omega (arith, less, is, all, count, most)) ∙ rule.marked b (omega (arith, less, is)))

pub reserved_high : (f : BlockWords) (shape : VolumeShape) (m : Bitmap) → IsServed shape → HasBitmap shape f m → ReservedRule shape f → AllMarked m shape.blocks 32768 false
reserved_high f shape m served h rule = λ b from less.
    let all = bits_count shape served.version in
    let bit : b < bitmap_bits shape = omega (arith, less, all) in
    let none = h.each b bit ∙ rule.past b from bit in
    ne_eqb (held_bit m b) 1 (λ e. omega (arith, e, none))

-- ---- rule 7

-- the bits of blocks from `from` to `end` say who has one
abbrev pub MarksOwners : Bitmap → List Owner → ℕ → ℕ → Type 0
MarksOwners m owners from end = (b : ℕ) → from ≤ b → b < end → (held_bit m b ≡ 1 → slice_index_or owners b Nobody ≢ Nobody) × (slice_index_or owners b Nobody ≢ Nobody → held_bit m b ≡ 1)

-- the same as a test
abbrev pub TellsOwners : Bitmap → List Owner → ℕ → ℕ → Type 0
TellsOwners m owners from end = (b : ℕ) → from ≤ b → b < end → (held_bit m b == 1) ≡ is_owned (slice_index_or owners b Nobody)

test_true : (o : Owner) → o ≢ Nobody → is_owned o ≡ true
test_true Nobody some = absurd (some refl)
test_true (PageOf i p) some = refl
test_true (TableOf i t) some = refl

some_true : (o : Owner) → is_owned o ≡ true → o ≢ Nobody
some_true Nobody e none = cc
some_true (PageOf i p) e none = cc
some_true (TableOf i t) e none = cc

pub marks_told : (m : Bitmap) (owners : List Owner) (from end : ℕ) → TellsOwners m owners from end → MarksOwners m owners from end
marks_told m owners from end h = λ b low high. (λ one. some_true (slice_index_or owners b Nobody) (sym (h b low high) ∙ eq-eqb (held_bit m b) 1 one), λ some. eqb-true (held_bit m b) 1 (h b low high ∙ test_true (slice_index_or owners b Nobody) some))

pub told_marks : (m : Bitmap) (owners : List Owner) (from end : ℕ) → MarksOwners m owners from end → TellsOwners m owners from end
told_marks m owners from end h = λ b low high. by b low high (cases_Bool (is_owned (slice_index_or owners b Nobody)))
  where
    differ : {t : Bool} → t ≡ true → t ≡ false → ⊥
    differ p q = cc

    by : (b : ℕ) → from ≤ b → b < end → (is_owned (slice_index_or owners b Nobody) ≡ true) ⊎ (is_owned (slice_index_or owners b Nobody) ≡ false) → (held_bit m b == 1) ≡ is_owned (slice_index_or owners b Nobody)
    by b low high (inl yes_one) = eq-eqb (held_bit m b) 1 ((h b low high).1 (some_true (slice_index_or owners b Nobody) yes_one)) ∙ sym yes_one
    by b low high (inr none) = ne_eqb (held_bit m b) 1 (λ one. differ (test_true (slice_index_or owners b Nobody) ((h b low high).0 one)) none) ∙ sym none

-- the owner of a block, whatever stands past the end
pub owner_any : (owners : List Owner) (b : ℕ) (d : Owner) → b < length owners → slice_index_or owners b d ≡ slice_index_or owners b Nobody
owner_any owners b d within = get_or_default owners b d Nobody within

has_owner : (l : Layout) (b : ℕ) (o : Owner) → o ≢ Nobody → OwnerIs l b o → Owned l b
has_owner l b Nobody some h = absurd (some refl)
has_owner l b (PageOf i p) some h = record { node = i.0; slot = _; owns = h.0; is = h.1 }
has_owner l b (TableOf i t) some h = record { node = i.0; slot = _; owns = h.0; is = h.1 }

not_owned : (l : Layout) (b : ℕ) (o : Owner) → o ≡ Nobody → OwnerIs l b o → Owned l b → ⊥
not_owned l b o none h = subst (λ x. OwnerIs l b x) none h

free_or : (o : Owner) → (o ≡ Nobody) ⊎ (o ≢ Nobody)
free_or Nobody = inl refl
free_or (PageOf i p) = inr (λ e. cc)
free_or (TableOf i t) = inr (λ e. cc)

owned_range : (l : Layout) (b : ℕ) → NumberRule l → Owned l b → (reserved l.shape ≤ b) × (b < l.shape.blocks)
owned_range l b h own = (subst (λ x. reserved l.shape ≤ x) own.is (h.each own.node own.owns.ino own.slot own.owns.slot).0, subst (λ x. x < l.shape.blocks) own.is (h.each own.node own.owns.ino own.slot own.owns.slot).1)

pub keeps_marks : (f : BlockWords) (shape : VolumeShape) (m : Bitmap) (owners : List Owner) (r : ℕ) → IsServed shape → HasBitmap shape f m → r ≡ reserved shape → NumberRule (volume_layout shape f) → HasOwners (volume_layout shape f) owners → MarksOwners m owners r shape.blocks → MarkRule (volume_layout shape f) f
keeps_marks f shape m owners r served h is numbers own marks = record {
  counts = λ b has.
      let range = owned_range (volume_layout shape f) b numbers has in
      let from = range.0 in
      let to = range.1 in
      sym (h.each b (bit b to)) ∙ (marks b (omega (arith, from, is)) to).1 (λ none. not_owned (volume_layout shape f) b (slice_index_or owners b Nobody) none (own.each b to) has);
  free = λ b free.
      let from = free.from in
      sym (h.each b (bit b free.to)) ∙ bit_zero (held_bit m b) (held_two m b) (ne_eqb (held_bit m b) 1 (λ one. free.free (has_owner (volume_layout shape f) b (slice_index_or owners b Nobody) ((marks b (omega (arith, from, is)) free.to).0 one) (own.each b free.to))));
}
  where
    bit : (b : ℕ) → b < shape.blocks → b < bitmap_bits shape
    bit b less = let all = bits_count shape served.version in let most = served.sizes.blocks_to in omega (arith, less, all, most)

pub marks_keep : (f : BlockWords) (shape : VolumeShape) (m : Bitmap) (owners : List Owner) (r : ℕ) → IsServed shape → HasBitmap shape f m → r ≡ reserved shape → HasOwners (volume_layout shape f) owners → MarkRule (volume_layout shape f) f → MarksOwners m owners r shape.blocks
marks_keep f shape m owners r served h is own rule = λ b from to. (λ one. marked b from to one (free_or (slice_index_or owners b Nobody)), λ some. h.each b (bit b to) ∙ rule.counts b (has_owner (volume_layout shape f) b (slice_index_or owners b Nobody) some (own.each b to)))
  where
    bit : (b : ℕ) → b < shape.blocks → b < bitmap_bits shape
    bit b less = let all = bits_count shape served.version in let most = served.sizes.blocks_to in omega (arith, less, all, most)

    marked : (b : ℕ) → r ≤ b → b < shape.blocks → held_bit m b ≡ 1 → (slice_index_or owners b Nobody ≡ Nobody) ⊎ (slice_index_or owners b Nobody ≢ Nobody) → slice_index_or owners b Nobody ≢ Nobody
    marked b from to one (inr some) = some
    marked b from to one (inl none) =
        let zero = h.each b (bit b to) ∙ rule.free b (record { from = (omega (arith, from, is)); to = to; free = not_owned (volume_layout shape f) b (slice_index_or owners b Nobody) none (own.each b to) }) in
        absurd (omega (arith, one, zero))

-- one block more
pub tells_next : (m : Bitmap) (owners : List Owner) (from b : ℕ) → TellsOwners m owners from b → (held_bit m b == 1) ≡ is_owned (slice_index_or owners b Nobody) → TellsOwners m owners from (b + 1)
tells_next m owners from b h here = λ x low less. by x low (cases_lt x b) less
  where
    by : (x : ℕ) → from ≤ x → (x < b) ⊎ (b ≤ x) → x < b + 1 → (held_bit m x == 1) ≡ is_owned (slice_index_or owners x Nobody)
    by x low (inl below) less = h x low below
    by x low (inr past) less = let e : x ≡ b = omega (arith, past, less) in subst (λ y. (held_bit m y == 1) ≡ is_owned (slice_index_or owners y Nobody)) (sym e) here
