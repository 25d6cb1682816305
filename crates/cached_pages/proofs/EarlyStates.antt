-- What is known of blocks that were written early.
use Rattle.cached_pages.proofs.Common.{◌≡◌, ◌≢◌, ℕ, ◌+◌, ◌-◌, ◌*◌, ◌<◌, ◌≤◌, Bool, true, false, ◌⊎◌, List, length, slice_index, slice_index_or, slice_set, Some, refl, ◌∙◌, ap, sym, subst, inl, inr, arith, cases_eq, none_some, true_false, is_pending, FrontStored}
use Rattle.std.specs.Prelude.{◌++◌, replicate, take, drop}
use Rattle.std.proofs.Common.{get_or-set_same, get_or-set_other, get_or-take, length-append, length-drop, length-take-le}
use Rattle.std.proofs.lemmas.List.{get_or-append_right, get_or_append_left, get_or-drop, get_or-replicate, get_or_past, length-replicate}
use borrow.Rule.Slice.PartMut.{put_mid}
use Rattle.rio_base.specs.Disks.{block_at}
use Rattle.rio_model.specs.Cover.{home_word}
use Rattle.cached_pages.specs.declared.slots.Early.{Early}
use Rattle.cached_pages.specs.declared.slots.Early.TheVariants.{Free, Written}
use Rattle.cached_pages.specs.declared.slots.EarlyWrites.{EarlyWrites}
use Rattle.cached_pages.specs.EarlyBlocks.{HasWords, Knows, LosesSome, SettlesAll, is_settled_slot, owner_of, slot_at}

-- ---- a block's words are put in their place

pub block_stored : (xs ys from : List ℕ) (a k s : ℕ) → ys ≡ from → a ≡ 512 * s → k ≡ 512 → length from ≡ 512 → 512 * s + 512 ≤ length xs → FrontStored (512 * s) 512 from xs (put_mid a k xs ys)
block_stored xs ys from a k b same place size len fits =
    subst (λ (zs : List ℕ). FrontStored (512 * b) 512 from xs (put_mid a k xs zs)) (sym same) (subst (λ (c : ℕ). FrontStored (512 * b) 512 from xs (put_mid c k xs from)) (sym place) (subst (λ (m : ℕ). FrontStored (512 * b) 512 from xs (put_mid (512 * b) m xs from)) (sym size) (stored xs from (512 * b) 512 (sym len) fits)))
  where
    stored : (xs from : List ℕ) (at n : ℕ) → n ≡ length from → at + n ≤ length xs → FrontStored at n from xs (put_mid at n xs from)
    stored xs from at n len fits =
        let front : length (take at xs) ≡ at = length-take-le at xs (omega arith) in
        record {
          count = omega (arith, length-append (take at xs) (from ++ drop n (drop at xs)), length-append from (drop n (drop at xs)), front, length-drop n (drop at xs), length-drop at xs);
          front = λ i less. get_or-append_right (take at xs) (from ++ drop n (drop at xs)) at (at + i) 0 front (omega arith) ∙ ap (λ j. slice_index_or (from ++ drop n (drop at xs)) j 0) (omega arith) ∙ get_or_append_left from (drop n (drop at xs)) 0 i (omega arith);
          below = λ i less. get_or_append_left (take at xs) (from ++ drop n (drop at xs)) 0 i (omega arith) ∙ get_or-take at xs i 0 less;
          above = λ i more. get_or-append_right (take at xs) (from ++ drop n (drop at xs)) at i 0 front (omega arith) ∙ get_or-append_right from (drop n (drop at xs)) n (i - at) 0 (sym len) (omega arith) ∙ get_or-drop n (drop at xs) (i - at - n) 0 ∙ get_or-drop at xs (n + (i - at - n)) 0 ∙ ap (λ j. slice_index_or xs j 0) (omega arith);
        }

-- ---- slots

-- slot s was set
pub set_at : (s : ℕ) (x : Early) (old new : EarlyWrites) → s < length old.slots → new.slots ≡ slice_set old.slots s x → slot_at new s ≡ x
set_at s x old new less e = ap (λ (xs : List Early). slice_index_or xs s Free) e ∙ get_or-set_same old.slots s x Free less

-- and no other
pub set_off : (s t : ℕ) (x : Early) (old new : EarlyWrites) → t ≢ s → new.slots ≡ slice_set old.slots s x → slot_at new t ≡ slot_at old t
set_off s t x old new ne e = ap (λ (xs : List Early). slice_index_or xs t Free) e ∙ get_or-set_other old.slots s t x Free ne

pub loses_refl : (e : EarlyWrites) → LosesSome e e
loses_refl e = record { words = refl; slots = λ s. inl refl }

pub loses_trans : (a b c : EarlyWrites) → LosesSome a b → LosesSome b c → LosesSome a c
loses_trans a b c h k = record { words = k.words ∙ h.words; slots = λ s. from s (k.slots s) (h.slots s) }
  where
    from : (s : ℕ) → (slot_at c s ≡ slot_at b s) ⊎ (slot_at c s ≡ Free) → (slot_at b s ≡ slot_at a s) ⊎ (slot_at b s ≡ Free) → (slot_at c s ≡ slot_at a s) ⊎ (slot_at c s ≡ Free)
    from s (inr free) was = inr free
    from s (inl same) (inl was) = inl (same ∙ was)
    from s (inl same) (inr free) = inr (same ∙ free)

-- slot s is free now
pub loses_set : (s : ℕ) (old new : EarlyWrites) → s < length old.slots → new.slots ≡ slice_set old.slots s Free → new.words ≡ old.words → LosesSome old new
loses_set s old new less e words = record { words = words; slots = λ t. from t (cases_eq t s) }
  where
    from : (t : ℕ) → (t ≡ s) ⊎ (t ≢ s) → (slot_at new t ≡ slot_at old t) ⊎ (slot_at new t ≡ Free)
    from t (inl q) = inr (ap (slot_at new) q ∙ set_at s Free old new less e)
    from t (inr ne) = inl (set_off s t Free old new ne e)

pub free_of_none : (e : EarlyWrites) (s b : ℕ) → slot_at e s ≡ Free → owner_of (slot_at e s) ≢ Some b
free_of_none e s b free = none_some b (owner_of (slot_at e s)) (ap owner_of free)

-- a slot that is not of block b is not of it later
pub off_later : (old new : EarlyWrites) (s b : ℕ) → LosesSome old new → owner_of (slot_at old s) ≢ Some b → owner_of (slot_at new s) ≢ Some b
off_later old new s b h off = from (h.slots s)
  where
    from : (slot_at new s ≡ slot_at old s) ⊎ (slot_at new s ≡ Free) → owner_of (slot_at new s) ≢ Some b
    from (inl same) e = off (ap owner_of (sym same) ∙ e)
    from (inr free) e = free_of_none new s b free e

-- past the last slot
pub past_free : (e : EarlyWrites) (s : ℕ) → length e.slots ≤ s → slot_at e s ≡ Free
past_free e s more = get_or_past e.slots s Free more

pub settles_refl : (e : EarlyWrites) → SettlesAll e e
settles_refl e = record { words = refl; owners = λ s. refl }

pub settles_trans : (a b c : EarlyWrites) → SettlesAll a b → SettlesAll b c → SettlesAll a c
settles_trans a b c h k = record { words = k.words ∙ h.words; owners = λ s. k.owners s ∙ h.owners s }

-- slot s is of the same block
pub settles_set : (s : ℕ) (x : Early) (old new : EarlyWrites) → s < length old.slots → new.slots ≡ slice_set old.slots s x → new.words ≡ old.words → owner_of x ≡ owner_of (slot_at old s) → SettlesAll old new
settles_set s x old new less e words owner = record { words = words; owners = λ t. from t (cases_eq t s) }
  where
    from : (t : ℕ) → (t ≡ s) ⊎ (t ≢ s) → owner_of (slot_at new t) ≡ owner_of (slot_at old t)
    from t (inl q) = ap (λ i. owner_of (slot_at new i)) q ∙ ap owner_of (set_at s x old new less e) ∙ owner ∙ ap (λ i. owner_of (slot_at old i)) (sym q)
    from t (inr ne) = ap owner_of (set_off s t x old new ne e)

-- ---- what is known

-- all slots are free
pub knows_none : (e : EarlyWrites) → ((s : ℕ) → slot_at e s ≡ Free) → (disk : List (List ℕ)) → (pending : List Bool) → Knows disk pending e
knows_none e free disk pending = record { same = λ s b w owner less. absurd (free_of_none e s b (free s) owner); settled = λ s b owner is. absurd (free_of_none e s b (free s) owner) }

pub all_free : (n s : ℕ) → slice_index_or (replicate n Free) s Free ≡ Free
all_free n s = from (small s n)
  where
    small : (b n : ℕ) → (b < n) ⊎ (n ≤ b)
    small b n = grind arith

    from : (s < n) ⊎ (n ≤ s) → slice_index_or (replicate n Free) s Free ≡ Free
    from (inl less) = get_or-replicate n s Free Free less
    from (inr more) = get_or_past (replicate n Free) s Free (subst (λ m. m ≤ s) (sym (length-replicate n Free)) more)

-- less is known of a disk of which blocks that aren't known changed
pub knows_but : (disk now : List (List ℕ)) (pending marks : List Bool) (old new : EarlyWrites) → Knows disk pending old → LosesSome old new → ((s b : ℕ) → owner_of (slot_at new s) ≡ Some b → (block_at now b ≡ block_at disk b) × (is_pending marks b ≡ is_pending pending b)) → Knows now marks new
knows_but disk now pending marks old new k h others = record {
  same = λ s b w owner less. from s (h.slots s) b owner w less;
  settled = λ s b owner is. known s (h.slots s) b owner is;
}
  where
    from : (s : ℕ) → (slot_at new s ≡ slot_at old s) ⊎ (slot_at new s ≡ Free) → (b : ℕ) → owner_of (slot_at new s) ≡ Some b → (w : ℕ) → w < 512 → slice_index new.words.items (512 * s + w) ≡ home_word now b w
    from s (inl same) b owner w less = ap (λ (v : _). slice_index v.items (512 * s + w)) h.words ∙ k.same s b w (ap owner_of (sym same) ∙ owner) less ∙ ap (λ (xs : List ℕ). slice_index xs w) (sym (others s b owner).0)
    from s (inr free) b owner w less = absurd (free_of_none new s b free owner)

    known : (s : ℕ) → (slot_at new s ≡ slot_at old s) ⊎ (slot_at new s ≡ Free) → (b : ℕ) → owner_of (slot_at new s) ≡ Some b → is_settled_slot (slot_at new s) ≡ true → is_pending marks b ≡ false
    known s (inl same) b owner is = (others s b owner).1 ∙ k.settled s b (ap owner_of (sym same) ∙ owner) (ap is_settled_slot (sym same) ∙ is)
    known s (inr free) b owner is = absurd (free_of_none new s b free owner)

pub knows_loses : (disk : List (List ℕ)) (pending : List Bool) (old new : EarlyWrites) → Knows disk pending old → LosesSome old new → Knows disk pending new
knows_loses disk pending old new k h = knows_but disk disk pending pending old new k h (λ s b owner. (refl, refl))

-- nothing is pending
pub knows_settled : (disk : List (List ℕ)) (pending marks : List Bool) (old new : EarlyWrites) → Knows disk pending old → SettlesAll old new → ((b : ℕ) → is_pending marks b ≡ false) → Knows disk marks new
knows_settled disk pending marks old new k h none = record {
  same = λ s b w owner less. ap (λ (v : _). slice_index v.items (512 * s + w)) h.words ∙ k.same s b w (sym (h.owners s) ∙ owner) less;
  settled = λ s b owner is. none b;
}

pub some_is : (b c : ℕ) → Some c ≡ Some b → c ≡ b
some_is b c e = cc

-- the words of slot s are those of block c
pub knows_put : (s c : ℕ) (page : List ℕ) (old new : EarlyWrites) → s < length old.slots → new.slots ≡ slice_set old.slots s (Written (record { 0 = c })) → FrontStored (512 * s) 512 page old.words.items new.words.items → (disk : List (List ℕ)) → (pending : List Bool) → Knows disk pending old → HasWords page disk c → Knows disk pending new
knows_put s c page old new less e stored disk pending k has = record {
  same = λ t b w owner small. from t b w owner small (cases_eq t s);
  settled = λ t b owner is. known t b owner is (cases_eq t s);
}
  where
    here : slot_at new s ≡ Written (record { 0 = c })
    here = set_at s (Written (record { 0 = c })) old new less e

    off : (t w : ℕ) → t ≢ s → w < 512 → (512 * t + w < 512 * s) ⊎ (512 * s + 512 ≤ 512 * t + w)
    off t w ne small = grind (arith, ne, small)

    away : (t w : ℕ) → (512 * t + w < 512 * s) ⊎ (512 * s + 512 ≤ 512 * t + w) → slice_index new.words.items (512 * t + w) ≡ slice_index old.words.items (512 * t + w)
    away t w (inl before) = stored.below (512 * t + w) before
    away t w (inr behind) = stored.above (512 * t + w) behind

    from : (t b w : ℕ) → owner_of (slot_at new t) ≡ Some b → w < 512 → (t ≡ s) ⊎ (t ≢ s) → slice_index new.words.items (512 * t + w) ≡ home_word disk b w
    from t b w owner small (inl q) =
        let is : c ≡ b = some_is b c (sym (ap owner_of (ap (slot_at new) q ∙ here)) ∙ owner) in
        ap (λ i. slice_index new.words.items (512 * i + w)) q ∙ stored.front w small ∙ has w small ∙ ap (λ i. home_word disk i w) is
    from t b w owner small (inr ne) = away t w (off t w ne small) ∙ k.same t b w (ap owner_of (sym (set_off s t (Written (record { 0 = c })) old new ne e)) ∙ owner) small

    known : (t b : ℕ) → owner_of (slot_at new t) ≡ Some b → is_settled_slot (slot_at new t) ≡ true → (t ≡ s) ⊎ (t ≢ s) → is_pending pending b ≡ false
    known t b owner is (inl q) = absurd (true_false (sym is ∙ ap is_settled_slot (ap (slot_at new) q ∙ here)))
    known t b owner is (inr ne) = let same = set_off s t (Written (record { 0 = c })) old new ne e in k.settled t b (ap owner_of (sym same) ∙ owner) (ap is_settled_slot (sym same) ∙ is)

-- a page is the words of a slot of block b
pub words_of_slot : (e : EarlyWrites) (s b : ℕ) (page : List ℕ) (disk : List (List ℕ)) (pending : List Bool) → Knows disk pending e → owner_of (slot_at e s) ≡ Some b → page ≡ take 512 (drop (512 * s) e.words.items) → HasWords page disk b
words_of_slot e s b page disk pending k owner is w less = ap (λ (xs : List ℕ). slice_index xs w) is ∙ get_or-take 512 (drop (512 * s) e.words.items) w 0 less ∙ get_or-drop (512 * s) e.words.items w 0 ∙ k.same s b w owner less
