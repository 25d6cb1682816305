-- What stands after a stop, by blocks that aren't loose; and what stands when the gate is stored.
use Rattle.rio_model.proofs.Common.{if◌then◌else◌, length, slice_index, slice_set, Some, None, ◌∙◌, ap, sym, subst, inl, inr, arith, cases_Bool, bit_at, used_bit, is_pending, Contents, true_false, VolumeShape}
use Rattle.std.specs.Prelude.{◌≡◌, ℕ, ◌+◌, ◌*◌, ◌%◌, ◌/◌, ◌<◌, ◌≤◌, ◌==◌, ◌&&◌, Bool, true, false, ◌⊎◌, List, Option, refl}
use Rattle.std.proofs.Common.{get_or-set_same, get_or-set_other}
use Rattle.rio_base.specs.Bitmap.{bitmap_block}
use Rattle.rio_base.specs.Image.{entry_at}
use Rattle.rio_base.specs.declared.places.PageName.{PageName}
use Rattle.rio_model.specs.Registry.{IsValid, frames_of, gate_of, file_at, index_at, is_data, is_valid, page_of_entry, shadow_at, size_at, tag_at, tag_block}
use Rattle.rio_model.specs.Cover.{Coherent, MayLeave, Narrows, SameNames, entry_of_block, frame_page, has_dirty, is_loose, name_in, reads, stands, stands_on}
use Rattle.rio_model.specs.Standing.{Sound}
use Rattle.rio_model.specs.CoverChanges.{covers_by, place_bare, stands_idle}
use Rattle.rio_model.proofs.CoverChanges.{frame_behind, frame_same}
use Rattle.rio_model.specs.CoverLookups.{cover_same, found_is}
use Rattle.rio_model.proofs.CoverLookups.{found_same}
use Rattle.rio_model.proofs.CoverSteps.{dirty_some, loose_from}

-- ---- blocks that aren't loose

-- a block that isn't loose stands so whatever the pending blocks hold
pub stands_firm : (c : Contents) (disk : List (List ℕ)) (b w : ℕ) → MayLeave c disk → is_loose c b ≡ false → stands_on c disk b w ≡ stands c b w
stands_firm c disk b w leaves firm = from (cases_Bool (is_pending c.pending b)) (cases_Bool (has_dirty c.words b))
  where
    page_counts : (k : ℕ) → entry_of_block c.words b ≡ Some k → stands_on c disk b w ≡ stands c b w
    page_counts k found = cover_same (page_of_entry c.words) c.words c.disk (page_of_entry c.words) c.words disk b w (record {
      entry = refl;
      pages = λ j x e small. refl;
      homes = λ x e small. absurd (some_none k (entry_of_block c.words b) found e);
    })
      where
        some_none : (k : ℕ) (o : Option ℕ) → o ≡ Some k → o ≡ None → ⊥
        some_none k o e d = cc

    block_counts : is_pending c.pending b ≡ false → stands_on c disk b w ≡ stands c b w
    block_counts kept = cover_same (page_of_entry c.words) c.words c.disk (page_of_entry c.words) c.words disk b w (record {
      entry = refl;
      pages = λ j x e small. refl;
      homes = λ x e small. ap (λ (words : List ℕ). slice_index words x) (leaves.kept b kept);
    })

    from : (is_pending c.pending b ≡ true) ⊎ (is_pending c.pending b ≡ false) → (has_dirty c.words b ≡ true) ⊎ (has_dirty c.words b ≡ false) → stands_on c disk b w ≡ stands c b w
    from (inr kept) d = block_counts kept
    from (inl pending) (inl dirty) = let d = dirty_some c.words b dirty in page_counts d.0 d.1
    from (inl pending) (inr clean) = absurd (true_false (sym (loose_from c b pending clean) ∙ firm))

-- no pending block in use is loose, nor the block of the bitmap that has its bit: then memory and disk are sound
pub sound_of : (c : Contents) (scratch : ℕ) (shape : VolumeShape) → Coherent c scratch → ((b : ℕ) → is_pending c.pending b ≡ true → is_loose c (bitmap_block shape b) ≡ false) → ((b : ℕ) → is_pending c.pending b ≡ true → used_bit shape (stands c) b ≡ 1 → is_loose c b ≡ false) → Sound c shape
sound_of c scratch shape h bits used = record {
  written = λ disk leaves b pending marked. from b pending (used b pending (same_bit disk leaves b pending ∙ marked)) (cases_Bool (has_dirty c.words b));
  clean = λ k v clean w small. (h.entries k).unedited v clean w small ∙ (h.entries k).clean v clean w small;
}
  where
    same_bit : (disk : List (List ℕ)) → MayLeave c disk → (b : ℕ) → is_pending c.pending b ≡ true → used_bit shape (stands c) b ≡ used_bit shape (stands_on c disk) b
    same_bit disk leaves b pending = ap (λ word. bit_at word (b % 64)) (sym (stands_firm c disk (bitmap_block shape b) (b % 32768 / 64) leaves (bits b pending)))

    from : (b : ℕ) → is_pending c.pending b ≡ true → is_loose c b ≡ false → (has_dirty c.words b ≡ true) ⊎ (has_dirty c.words b ≡ false) → has_dirty c.words b ≡ true
    from b pending firm (inl dirty) = dirty
    from b pending firm (inr clean) = absurd (true_false (sym (loose_from c b pending clean) ∙ firm))

-- ---- names

pub narrows_refl : (words : List ℕ) → Narrows words words
narrows_refl words = record { found = λ b k e. (e, refl) }

pub narrows_trans : (a b c : List ℕ) → Narrows a b → Narrows b c → Narrows a c
narrows_trans a b c h k = record { found = λ x j e. let now = k.found x j e in let was = h.found x j now.0 in (was.0, now.1 ∙ was.1) }

place_past : (k : ℕ) → 512 ≤ entry_at k
unfolding entry_at
place_past k = omega arith

gate_frames : (words : List ℕ) (g : ℕ) → frames_of (slice_set words 4 g) ≡ frames_of words
gate_frames words g = get_or-set_other words 4 2 g 0 (λ e. absurd (omega (arith, e)))

gate_tag : (words : List ℕ) (g k : ℕ) → tag_at (slice_set words 4 g) k ≡ tag_at words k
gate_tag words g k = get_or-set_other words 4 (entry_at k) g 0 (λ e. absurd (omega (arith, e, place_past k)))

pub gate_found : (words : List ℕ) (g b : ℕ) → entry_of_block (slice_set words 4 g) b ≡ entry_of_block words b
gate_found words g b = found_same words (slice_set words 4 g) b (gate_frames words g) (λ j less. ap (λ t. is_valid t && (tag_block t == b)) (gate_tag words g j))

gate_word : (words : List ℕ) (g k w : ℕ) → slice_index (slice_set words 4 g) (512 * frame_page (slice_set words 4 g) k + w) ≡ slice_index words (512 * frame_page words k + w)
gate_word words g k w = ap (λ p. slice_index (slice_set words 4 g) (512 * p + w)) (frame_same words (slice_set words 4 g) k (gate_frames words g)) ∙ get_or-set_other words 4 (512 * frame_page words k + w) g 0 (λ e. absurd (omega (arith, e, frame_behind words k)))

-- what reads doesn't change
pub gate_reads : (c d : Contents) (g : ℕ) → d ≡ record c { words = slice_set c.words 4 g } → reads d ≡ reads c
gate_reads c d g e = rw e (covers_by (frame_page c.words) c.words c.disk (frame_page (slice_set c.words 4 g)) (slice_set c.words 4 g) c.disk (λ b w less. cover_same (frame_page c.words) c.words c.disk (frame_page (slice_set c.words 4 g)) (slice_set c.words 4 g) c.disk b w (record {
  entry = gate_found c.words g b;
  pages = λ k x f small. gate_word c.words g k x;
  homes = λ x f small. refl;
})))

-- the gate becomes 0: what reads stands
pub commit_stands : (c d : Contents) → 4 < length c.words → d ≡ record c { words = slice_set c.words 4 0 } → stands d ≡ reads c
commit_stands c d room e = stands_idle d (λ one. absurd (omega (arith, one, ap (λ (m : Contents). gate_of m.words) e, get_or-set_same c.words 4 0 0 room))) ∙ gate_reads c d 0 e

-- the gate becomes 1, where no entry has a shadow: what reads stands
pub begin_stands : (c d : Contents) → ((k : ℕ) → IsValid d.words k → shadow_at d.words k ≡ 0) → d ≡ record c { words = slice_set c.words 4 1 } → stands d ≡ reads c
begin_stands c d bare e = covers_by (frame_page d.words) d.words d.disk (page_of_entry d.words) d.words d.disk (λ b w less. cover_same (frame_page d.words) d.words d.disk (page_of_entry d.words) d.words d.disk b w (record {
  entry = refl;
  pages = λ k x f small. ap (λ p. slice_index d.words (512 * p + x)) (place_bare d.words k (inr (bare k (found_is d.words b k f).0)));
  homes = λ x f small. refl;
})) ∙ gate_reads c d 1 e

-- ---- entries that say the same

pub same_names_refl : (words : List ℕ) → SameNames words words
same_names_refl words = record { frames = refl; tag = λ k less. refl; file = λ k less. refl; index = λ k less. refl; size = λ k less. refl }

pub same_names_trans : (a b c : List ℕ) → SameNames a b → SameNames b c → SameNames a c
same_names_trans a b c h i = record {
  frames = i.frames ∙ h.frames;
  tag = λ k less. i.tag k (was k less) ∙ h.tag k less;
  file = λ k less. i.file k (was k less) ∙ h.file k less;
  index = λ k less. i.index k (was k less) ∙ h.index k less;
  size = λ k less. i.size k (was k less) ∙ h.size k less;
}
  where
    was : (k : ℕ) → k < frames_of a → k < frames_of b
    was k less = subst (λ f. k < f) (sym h.frames) less

pub found_named : (old new : List ℕ) (b : ℕ) → SameNames old new → entry_of_block new b ≡ entry_of_block old b
found_named old new b h = found_same old new b h.frames (λ j less. ap (λ t. is_valid t && (tag_block t == b)) (h.tag j less))

name_by : Bool → ℕ → ℕ → ℕ → Option PageName
name_by named file index size = if named then Some (record { file = record { 0 = file }; index = index; size = size }) else None

pub name_same : (old new : List ℕ) (k : ℕ) → SameNames old new → k < frames_of old → name_in new (Some k) ≡ name_in old (Some k)
unfolding name_by
name_same old new k h less = by
  where
    by : name_by (is_data (tag_at new k)) (file_at new k) (index_at new k) (size_at new k) ≡ name_by (is_data (tag_at old k)) (file_at old k) (index_at old k) (size_at old k)
    by = rw (h.tag k less, h.file k less, h.index k less, h.size k less) refl

pub narrows_same : (old new : List ℕ) → SameNames old new → Narrows old new
narrows_same old new h = record { found = λ b k e. let was = sym (found_named old new b h) ∙ e in (was, name_same old new k h (found_is old b k was).0.within) }
