-- Changes of size that take and free no block, and what is touched for a change.
use Rattle.file_pages.proofs.Common.{◌≡◌, ℕ, ◌+◌, ◌≤◌, ◌==◌, Bool, inl, inr, true, false, List, [], ◌∷◌, length, refl, sym, ap, subst, ◌∙◌, arith, None, Contains, Block, Seen, inode_block, Kept, ◌<◌, slice_index_or, nat_tests, VolumeShape, CachesBy, CanName, HasShape}
use Rattle.std.specs.Prelude.{if◌then◌else◌, ◌⊎◌}
use Rattle.std.proofs.lemmas.Bool.{eqb-true}
use Rattle.rio_base.specs.Volume.{Touches}
use Rattle.node_pages.proofs.Updated.{can_touch, edit_in, touched_now, touched_still, unnamed_kept}
use Rattle.file_pages.specs.Touching.{BitmapTouched, ChangeTouched, KeepsBlocks}
use Rattle.node_pages.specs.Updating.{IsEdited, IsTouched, IsUpdated}
use Rattle.node_pages.specs.declared.changes.Edit.{Edit}
use Rattle.node_pages.specs.declared.changes.SizeChange.{SizeChange}

pub no_blocks : (xs bs : List Block) → xs ≡ bs → (length xs == 0) ≡ true → bs ≡ []
no_blocks xs bs is none = sym is ∙ empty xs none
  where
    empty : (ys : List Block) → (length ys == 0) ≡ true → ys ≡ []
    empty [] e = refl
    empty (y ∷ ys) e = absurd (omega (arith, eqb-true (length (y ∷ ys)) 0 e))

pub some_blocks : (xs bs : List Block) → xs ≡ bs → (length xs == 0) ≡ false → bs ≡ [] → ⊥
some_blocks xs bs is some none = apart (sym (ap (λ (ys : List Block). length ys == 0) (is ∙ none)) ∙ some)
  where
    apart : true ≡ false → ⊥
    apart e = cc

-- one touch counts one at most
pub touches_most : (b : ℕ) (k l : Kept) → Touches b k l → l.touches ≤ k.touches + 1
touches_most b k l t = by (bool_cases (k.touched b))
  where
    bool_cases : (o : Bool) → (o ≡ true) ⊎ (o ≡ false)
    bool_cases true = inl refl
    bool_cases false = inr refl

    counted : (o : Bool) → k.touched b ≡ o → l.touches ≡ (if o then k.touches else k.touches + 1)
    counted o is = t.touches ∙ ap (λ (p : Bool). if p then k.touches else k.touches + 1) is

    by : (k.touched b ≡ true) ⊎ (k.touched b ≡ false) → l.touches ≤ k.touches + 1
    by (inl on) = omega (arith, counted true on)
    by (inr none) = omega (arith, counted false none)

-- a change whose edits the code has as a slice
pub change_is_touched : (k : Kept) (i : ℕ) (c : SizeChange) (es : List Edit) → es ≡ c.edits → (KeepsBlocks c → ⊥) → ChangeTouched k i c → IsTouched k i es
change_is_touched k i c es is marks h = record { bitmap = h.bitmap marks; inode = h.inode; edited = λ e on. h.edited e (subst (λ xs. Contains xs e) is on) }

pub change_touched : (k l m : Kept) (i b : ℕ) (c : SizeChange) (es : List Edit) → b ≡ inode_block i → es ≡ c.edits → BitmapTouched k c → Touches b k l → ((a : ℕ) → l.touched a ≡ true → m.touched a ≡ true) → ((e : Edit) → Contains es e → m.touched e.block.0 ≡ true) → ChangeTouched m i c
change_touched k l m i b c es is same bitmap t more done = record {
  bitmap = λ marks. more 1 (touched_still b 1 k l t (bitmap marks));
  inode = more _ (subst (λ a. l.touched a ≡ true) is (touched_now b k l t));
  edited = λ e on. done e (subst (λ xs. Contains xs e) (sym same) on);
}

-- ---- touching the blocks of an update

-- the reserved blocks stay unnamed where the blocks of an update are cached
pub shape_updated : (shape : VolumeShape) (x y : Seen) (i : ℕ) (es : List Edit) → HasShape shape x → y.count ≡ x.count → CachesBy (IsUpdated i es) x y → HasShape shape y
shape_updated shape x y i es h count caches = record { sizes = h.sizes; count = count ∙ h.count; unnamed = λ b within on. unnamed_kept (IsUpdated i es) x y b (λ name new. new.1) caches (h.unnamed b within) on }

-- the first of edits that are all in one block
pub first_place : (es : List Edit) (n count : ℕ) (d : Edit) → 0 < length es → ((e : Edit) → Contains es e → e.block.0 < n) → count ≡ n → (slice_index_or es 0 d).block.0 < count
first_place es n count d some within is = subst (λ (m : ℕ). (slice_index_or es 0 d).block.0 < m) (sym is) (within _ (edit_in es 0 d some))

pub first_touched : (es : List Edit) (d e : Edit) (k l : Kept) → 0 < length es → ((a b : Edit) → Contains es a → Contains es b → a.block.0 ≡ b.block.0) → Touches (slice_index_or es 0 d).block.0 k l → Contains es e → l.touched e.block.0 ≡ true
first_touched es d e k l some one h on = subst (λ b. l.touched b ≡ true) (one _ e (edit_in es 0 d some) on) (touched_now _ k l h)

pub first_edited : (es us : List Edit) (d : Edit) → es ≡ us → 0 < length es → IsEdited us (slice_index_or es 0 d).block.0
first_edited es us d same some = (slice_index_or es 0 d, subst (λ xs. Contains xs (slice_index_or es 0 d)) same (edit_in es 0 d some), refl)

pub first_unnamed : (es : List Edit) (d : Edit) (y : Seen) → 0 < length es → ((e : Edit) → Contains es e → y.cached e.block.0 ≡ true → y.names e.block.0 ≡ None) → CanName y (slice_index_or es 0 d).block.0 None
first_unnamed es d y some none = can_touch y _ (none _ (edit_in es 0 d some))

pub no_edit : (es : List Edit) (e : Edit) → (length es == 0) ≡ true → Contains es e → ⊥
no_edit es e h (k, few, is) = omega (arith, few, no_length (length es) h)
  where
    no_length : (n : ℕ) → (n == 0) ≡ true → n ≡ 0
    no_length n h = grind (arith, nat_tests, h)

pub some_length : (n : ℕ) → (n == 0) ≡ false → 0 < n
some_length n h = grind (arith, nat_tests, h)
