-- One bit of the bitmap, set by a store of its word.
use Rattle.std.proofs.Common.{◌≡◌, ◌≢◌, ℕ, ◌*◌, ◌/◌, ◌%◌, ◌^◌, ◌<◌, ◌≤◌, ◌+◌, sym, ap, ◌∙◌, arith, ◌⊎◌, inl, inr, subst, bit_and, bit_or}
use Rattle.std.specs.Prelude.{Result, Ok, Err, OnOk, IsErr, Bool, true, false, None}
use Rattle.std.specs.Int.{bit_at, bit_not, w64}
use Rattle.std.proofs.lemmas.Nat.Bits.{bit_at_set_same, bit_at_set_other, bit_at_clear_same, bit_at_clear_other}
use Rattle.std.proofs.lemmas.Bool.{cases_eq, cases_lt}
use Rattle.std.proofs.lemmas.Bool.Decides.{nat_tests}
use Rattle.rio_base.specs.declared.places.VolumeShape.{VolumeShape}
use Rattle.rio_base.specs.Bitmap.{bitmap_block, used_bit}
use Rattle.rio_base.proofs.Bitmap.{first_bitmap}
use Rattle.rio_base.specs.Blocks.{BlockWords, Caches, Drops, Looks, Seen}
use Rattle.rio_base.specs.Volume.{Firm, Kept, OldOrPut, SameUpdate, put}
use Rattle.rio_base.specs.Rules.{firm_trans}
use Rattle.block_alloc.specs.Bitmap.{SetsBit, IsSetOrSame, MarksBit}
use Rattle.block_alloc.specs.Words.{OneBit, bit_of}

pub put_same : (f : BlockWords) (b w v : ℕ) → put f b w v b w ≡ v
put_same f b w v = grind (arith, nat_tests)

pub put_other : (f : BlockWords) (b w v c x : ℕ) → (c ≢ b) ⊎ (x ≢ w) → put f b w v c x ≡ f c x
put_other f b w v c x (inl away) = grind (arith, nat_tests)
put_other f b w v c x (inr away) = grind (arith, nat_tests)

next_bitmap : (shape : VolumeShape) (b : ℕ) → 32768 ≤ b → bitmap_block shape b ≡ 1 + shape.inodes / 32 + b / 32768
unfolding bitmap_block
next_bitmap shape b next = grind (arith, nat_tests)

-- no two blocks have one bit
one_block : (shape : VolumeShape) (b c : ℕ) → bitmap_block shape c ≡ bitmap_block shape b → c % 32768 ≡ b % 32768 → (b < 32768) ⊎ (32768 ≤ b) → (c < 32768) ⊎ (32768 ≤ c) → c ≡ b
one_block shape b c same place (inl h) (inl k) = omega arith
one_block shape b c same place (inl h) (inr k) = absurd (omega (arith, first_bitmap shape b h, next_bitmap shape c k))
one_block shape b c same place (inr h) (inl k) = absurd (omega (arith, next_bitmap shape b h, first_bitmap shape c k))
one_block shape b c same place (inr h) (inr k) = omega (arith, next_bitmap shape b h, next_bitmap shape c k)

bits_apart : (shape : VolumeShape) (b c : ℕ) → c ≢ b → bitmap_block shape c ≡ bitmap_block shape b → c % 32768 / 64 ≡ b % 32768 / 64 → c % 64 ≢ b % 64
bits_apart shape b c away block word bit =
    let place : c % 32768 ≡ b % 32768 = omega arith in
    away (one_block shape b c block place (cases_lt b 32768) (cases_lt c 32768))

other_bit : (shape : VolumeShape) (old : BlockWords) (b v bit c : ℕ) → OneBit (old (bitmap_block shape b) (b % 32768 / 64)) v (b % 64) bit → c ≢ b
    → (bitmap_block shape c ≡ bitmap_block shape b) ⊎ (bitmap_block shape c ≢ bitmap_block shape b)
    → (c % 32768 / 64 ≡ b % 32768 / 64) ⊎ (c % 32768 / 64 ≢ b % 32768 / 64)
    → used_bit shape (put old (bitmap_block shape b) (b % 32768 / 64) v) c ≡ used_bit shape old c
other_bit shape old b v bit c h away (inl block) (inl word) =
    let at : BlockWords → ℕ = λ f. f (bitmap_block shape c) (c % 32768 / 64) in
    let here : at old ≡ old (bitmap_block shape b) (b % 32768 / 64) = ap (λ n. old n (c % 32768 / 64)) block ∙ ap (old (bitmap_block shape b)) word in
    let stored : at (put old (bitmap_block shape b) (b % 32768 / 64) v) ≡ v =
    ap (λ n. put old (bitmap_block shape b) (b % 32768 / 64) v n (c % 32768 / 64)) block ∙ ap (put old (bitmap_block shape b) (b % 32768 / 64) v (bitmap_block shape b)) word ∙ put_same old (bitmap_block shape b) (b % 32768 / 64) v in
    ap (λ a. bit_at a (c % 64)) stored ∙ h.others (c % 64) (omega arith) (bits_apart shape b c away block word) ∙ ap (λ a. bit_at a (c % 64)) (sym here)
other_bit shape old b v bit c h away (inr block) _ = ap (λ a. bit_at a (c % 64)) (put_other old (bitmap_block shape b) (b % 32768 / 64) v (bitmap_block shape c) (c % 32768 / 64) (inl block))
other_bit shape old b v bit c h away (inl block) (inr word) = ap (λ a. bit_at a (c % 64)) (put_other old (bitmap_block shape b) (b % 32768 / 64) v (bitmap_block shape c) (c % 32768 / 64) (inr word))

put_bit : (shape : VolumeShape) (old : BlockWords) (b v bit : ℕ) → OneBit (old (bitmap_block shape b) (b % 32768 / 64)) v (b % 64) bit → SetsBit shape old (put old (bitmap_block shape b) (b % 32768 / 64) v) b bit
put_bit shape old b v bit h = record {
  same = ap (λ a. bit_at a (b % 64)) (put_same old (bitmap_block shape b) (b % 32768 / 64) v) ∙ h.same;
  others = λ c away. other_bit shape old b v bit c h away (cases_eq (bitmap_block shape c) (bitmap_block shape b)) (cases_eq (c % 32768 / 64) (b % 32768 / 64));
  elsewhere = λ c w away. put_other old (bitmap_block shape b) (b % 32768 / 64) v c w away;
}

-- the bit of one of the first blocks is in block 1
put_first : (shape : VolumeShape) (old : BlockWords) (b v bit : ℕ) → b < 32768 → OneBit (old 1 (b / 64)) v (b % 64) bit → SetsBit shape old (put old 1 (b / 64) v) b bit
put_first shape old b v bit first h =
    let word : b / 64 ≡ b % 32768 / 64 = omega arith in
    let block : 1 ≡ bitmap_block shape b = sym (first_bitmap shape b first) in
    let at : (n w : ℕ) → 1 ≡ n → b / 64 ≡ w → OneBit (old n w) v (b % 64) bit = λ n w e k. subst (λ m. OneBit (old m w) v (b % 64) bit) e (subst (λ x. OneBit (old 1 x) v (b % 64) bit) k h) in
    subst (λ n. SetsBit shape old (put old n (b / 64) v) b bit) (sym block) (subst (λ w. SetsBit shape old (put old (bitmap_block shape b) w v) b bit) (sym word) (put_bit shape old b v bit (at _ _ block word)))

sets_bit : (shape : VolumeShape) (old mid new : BlockWords) (b v bit : ℕ) → b < 32768 → mid ≡ old → new ≡ put mid 1 (b / 64) v → OneBit (old 1 (b / 64)) v (b % 64) bit → SetsBit shape old new b bit
sets_bit shape old mid new b v bit first same stored h =
    let is : put old 1 (b / 64) v ≡ new = ap (λ f. put f 1 (b / 64) v) (sym same) ∙ sym stored in
    subst (λ f. SetsBit shape old f b bit) is (put_first shape old b v bit first h)

sets_or_same : (shape : VolumeShape) (old mid new : BlockWords) (b v bit : ℕ) → b < 32768 → mid ≡ old → OldOrPut mid new 1 (b / 64) v → OneBit (old 1 (b / 64)) v (b % 64) bit → IsSetOrSame shape old new b bit
sets_or_same shape old mid new b v bit first same (inl e) h = inl (e ∙ same)
sets_or_same shape old mid new b v bit first same (inr e) h = inr (sets_bit shape old mid new b v bit first same e h)

pub bit_set : (old word place : ℕ) → place < 64 → word ≡ old → OneBit old (bit_or word (1 * 2 ^ place % 2 ^ 64)) place 1
bit_set old word place within is = record {
  same = bit_at_set_same w64 word place within;
  others = λ i small away. bit_at_set_other w64 word place within i away ∙ ap (λ a. bit_at a i) is;
}

pub bit_cleared : (old word place : ℕ) → place < 64 → word ≡ old → OneBit old (bit_and word (bit_not w64 (1 * 2 ^ place % 2 ^ 64))) place 0
bit_cleared old word place within is = record {
  same = bit_at_clear_same w64 word place within;
  others = λ i small away. bit_at_clear_other w64 word place within i small away ∙ ap (λ a. bit_at a i) is;
}

-- the bit of a block that is used, and of one that is free
pub bit_used : (old word place : ℕ) (used : Bool) → used ≡ true → place < 64 → word ≡ old → OneBit old (bit_or word (1 * 2 ^ place % 2 ^ 64)) place (bit_of used)
bit_used old word place used is within same = subst (λ u. OneBit old (bit_or word (1 * 2 ^ place % 2 ^ 64)) place (bit_of u)) (sym is) (bit_set old word place within same)

pub bit_unused : (old word place : ℕ) (used : Bool) → used ≡ false → place < 64 → word ≡ old → OneBit old (bit_and word (bit_not w64 (1 * 2 ^ place % 2 ^ 64))) place (bit_of used)
bit_unused old word place used is within same = subst (λ u. OneBit old (bit_and word (bit_not w64 (1 * 2 ^ place % 2 ^ 64))) place (bit_of u)) (sym is) (bit_cleared old word place within same)

pub one_bit : (old word new place bit : ℕ) → word ≡ old → OneBit word new place bit → OneBit old new place bit
one_bit old word new place bit is h = subst (λ w. OneBit w new place bit) is h

on_ok_map : {T E P Q : Type 0} (answer : Result T E) → (P → Q) → OnOk answer P → OnOk answer Q
on_ok_map (Ok x) f h = f h
on_ok_map (Err e) f h = h

pub touched_first : (shape : VolumeShape) (touched : ℕ → Bool) (b : ℕ) → b < 32768 → touched (bitmap_block shape b) ≡ true → touched 1 ≡ true
touched_first shape touched b first is = subst (λ n. touched n ≡ true) (first_bitmap shape b first) is

caches_dropped : (s m t : Seen) (b : ℕ) → Caches s m b None → Drops m t → Caches s t b None
caches_dropped s m t b h d = record {
  others = λ c away cached. let now = d.kept c cached in let before = h.others c away now.0 in (before.0, now.1 ∙ before.1);
  named = λ cached. let now = d.kept b cached in named now.1 (h.named now.0);
}
  where
    named : t.names b ≡ m.names b → ((s.cached b ≡ true) × (m.names b ≡ s.names b)) ⊎ (m.names b ≡ None) → ((s.cached b ≡ true) × (t.names b ≡ s.names b)) ⊎ (t.names b ≡ None)
    named same (inl kept) = inl (kept.0, same ∙ kept.1)
    named same (inr none) = inr (same ∙ none)

caches_first : (shape : VolumeShape) (s t : Seen) (b : ℕ) → b < 32768 → Caches s t 1 None → Caches s t (bitmap_block shape b) None
caches_first shape s t b first h = subst (λ n. Caches s t n None) (sym (first_bitmap shape b first)) h

same_update_trans : (k j l : Kept) → SameUpdate k j → SameUpdate j l → SameUpdate k l
same_update_trans k j l h i = record { updating = i.updating ∙ h.updating; touched = i.touched ∙ h.touched; touches = i.touches ∙ h.touches }

on_err : {T E : Type 0} (answer : Result T E) (P : Type 0) → IsErr answer → OnOk answer P
on_err (Ok x) P h = cc
on_err (Err e) P h = tt

-- no word was stored
pub marks_none : {T E : Type 0} (shape : VolumeShape) (b bit : ℕ) (s t : Seen) (k l : Kept) (answer : Result T E) → b < 32768 → IsErr answer → Looks s t → Caches s t 1 None → l.updating ≡ true → l.standing ≡ k.standing → Firm k l → MarksBit shape b bit s t k l answer
marks_none shape b bit s t k l answer first failed looks caches updating standing firm = record {
  ok = on_err answer _ failed;
  either = inl looks.words;
  update = on_err answer _ failed;
  in_update = updating;
  standing = standing;
  firm = firm;
  caches = caches_first shape s t b first caches;
}

-- its word was read, and then stored with one bit so
pub marks_one : {T E : Type 0} (shape : VolumeShape) (b v bit : ℕ) (s m t : Seen) (k j l : Kept) (answer : Result T E) → b < 32768 → OneBit (s.words 1 (b / 64)) v (b % 64) bit
    → Looks s m → Caches s m 1 None → SameUpdate k j → j.standing ≡ k.standing → Firm k j
    → OnOk answer (t.words ≡ put m.words 1 (b / 64) v) → OldOrPut m.words t.words 1 (b / 64) v → Drops m t → OnOk answer (SameUpdate j l) → l.updating ≡ true → l.standing ≡ j.standing → Firm j l
    → MarksBit shape b bit s t k l answer
marks_one shape b v bit s m t k j l answer first one looks caches same standing firm ok either drops update updating standing_on firm_on = record {
  ok = on_ok_map answer (λ stored. sets_bit shape s.words m.words t.words b v bit first looks.words stored one) ok;
  either = sets_or_same shape s.words m.words t.words b v bit first looks.words either one;
  update = on_ok_map answer (same_update_trans k j l same) update;
  in_update = updating;
  standing = standing_on ∙ standing;
  firm = firm_trans k j l firm firm_on;
  caches = caches_first shape s t b first (caches_dropped s m t 1 caches drops);
}
