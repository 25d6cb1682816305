-- What the owner of a block says of its entry: whether the page is stale, and whether the entry bears a name that it may.
use Rattle.page_restore.proofs.Common.{Bool, List, None, Option, Some, false, length, not, refl, slice_index_or, true, ℕ, ◌+◌, ◌*◌, ◌<◌, ◌≡◌, ◌≢◌, ◌≤◌, ◌⊎◌, ap, arith, inl, inr, subst, sym, ◌∙◌, cases_Bool, cases_eq, true_false, IsValid, frames_of, is_data, is_valid, tag_at, tag_block}
use Rattle.std.specs.Prelude.{◌↔◌, IsTrue, cond, if◌then◌else◌, slice_set, ◌/◌, ◌==◌}
use Rattle.std.proofs.Common.{get_or-set_same, get_or-set_other}
use Rattle.std.proofs.lemmas.Bool.Decides.{nat_tests}
use Rattle.std.proofs.lemmas.List.{get_or_past, length-set}
use Rattle.rio_base.specs.declared.places.Ino.{Ino}
use Rattle.rio_base.specs.declared.places.PageName.{PageName}
use Rattle.rio_base.specs.declared.places.VolumeShape.{VolumeShape}
use Rattle.rio_base.specs.Shapes.{more_bitmap, reserved}
use Rattle.rio_model.specs.declared.census.Owner.{Owner}
use Rattle.rio_model.specs.declared.census.Owner.TheVariants.{Nobody, PageOf, TableOf}
use Rattle.rio_model.specs.Censuses.{HasOwners, OwnerIs}
use Rattle.rio_model.specs.Cover.{name_at, name_in}
use Rattle.rio_model.specs.Placed.{AtPage, Layout, Owns}
use Rattle.rio_model.specs.Standing.{EntryFits}
use Rattle.rio_model.specs.VolumeReady.{Bears}
use Rattle.rio_model.specs.VolumeRules.{IsLaid}
use Rattle.rio_model.proofs.OwnerRules.{OwnerLets, may_bear_by_owner, owned_by, owner_lets}
use Rattle.page_restore.specs.Stale.{MarksStale, SaysStale}

-- ---- stale pages

pub says_invalid : (l : Layout) (words : List ℕ) (k : ℕ) → is_valid (tag_at words k) ≡ false → SaysStale l words k false
says_invalid l words k e = record { stale = λ x. absurd (true_false (sym x)); owned = λ x v d. absurd (true_false (sym v.valid ∙ e)) }

pub says_metadata : (l : Layout) (words : List ℕ) (k : ℕ) → is_data (tag_at words k) ≡ false → SaysStale l words k false
says_metadata l words k e = record { stale = λ x. absurd (true_false (sym x)); owned = λ x v d. absurd (true_false (sym d ∙ e)) }

says_past : (l : Layout) (words : List ℕ) (k : ℕ) → frames_of words ≤ k → SaysStale l words k false
says_past l words k past = record { stale = λ x. absurd (true_false (sym x)); owned = λ x v d. absurd (let within = v.within in omega (arith, past, within)) }

-- the owner of the entry's block
pub owner_of : (l : Layout) (words : List ℕ) (k : ℕ) (owners : List Owner) → HasOwners l owners → tag_block (tag_at words k) < length owners → OwnerIs l (tag_block (tag_at words k)) (slice_index_or owners (tag_block (tag_at words k)) Nobody)
owner_of l words k owners h less = h.each (tag_block (tag_at words k)) (subst (λ n. tag_block (tag_at words k) < n) h.count less)

pub says_nobody : (l : Layout) (words : List ℕ) (k : ℕ) → IsValid words k → is_data (tag_at words k) ≡ true → OwnerIs l (tag_block (tag_at words k)) Nobody → SaysStale l words k true
says_nobody l words k v file none = record { stale = λ x. record { valid = v; of_data = file; nobodys = none }; owned = λ x w d. absurd (true_false x) }

pub says_owned : (l : Layout) (words : List ℕ) (k : ℕ) (owner : Owner) → OwnerIs l (tag_block (tag_at words k)) owner → owner ≢ Nobody → SaysStale l words k false
says_owned l words k owner is some = record { stale = λ x. absurd (true_false (sym x)); owned = λ x v d. owned_by l (tag_block (tag_at words k)) owner is some }

-- the first i entries are marked
abbrev pub MarkedBefore : Layout → List ℕ → ℕ → List Bool → Type 0
MarkedBefore l words i marks = (j : ℕ) → j < i → SaysStale l words j (slice_index_or marks j false)

-- there is a mark for each entry, and the first i are set, whatever the layout is of which the owners are
pub record Marked (owners : List Owner) (words : List ℕ) (i : ℕ) (marks : List Bool) : Type 0 where
  pub count : length marks ≡ frames_of words
  pub each : (l : Layout) → HasOwners l owners → MarkedBefore l words i marks

marked_next : (l : Layout) (words : List ℕ) (i : ℕ) (marks : List Bool) (mark : Bool) → i < length marks → MarkedBefore l words i marks → SaysStale l words i mark → MarkedBefore l words (i + 1) (slice_set marks i mark)
marked_next l words i marks mark room h says j less = by (cases_eq j i)
  where
    by : (j ≡ i) ⊎ (j ≢ i) → SaysStale l words j (slice_index_or (slice_set marks i mark) j false)
    by (inl e) = subst (λ x. SaysStale l words x (slice_index_or (slice_set marks i mark) x false)) (sym e) (subst (SaysStale l words i) (sym (get_or-set_same marks i mark false room)) says)
    by (inr ne) = subst (SaysStale l words j) (sym (get_or-set_other marks i j mark false ne)) (h j (omega (arith, less, ne)))

pub marks_none : (owners : List Owner) (words : List ℕ) (marks : List Bool) → length marks ≡ frames_of words → Marked owners words 0 marks
marks_none owners words marks count = record { count = count; each = λ l has j less. absurd (omega (arith, less)) }

pub marks_next : (owners : List Owner) (words : List ℕ) (i : ℕ) (marks : List Bool) (mark : Bool) → i < frames_of words → Marked owners words i marks → ((l : Layout) → HasOwners l owners → SaysStale l words i mark) → Marked owners words (i + 1) (slice_set marks i mark)
marks_next owners words i marks mark less h says = record {
  count = length-set marks i mark ∙ h.count;
  each = λ l has. marked_next l words i marks mark (subst (λ n. i < n) (sym h.count) less) (h.each l has) (says l has);
}

marked_all : (l : Layout) (words : List ℕ) (i : ℕ) (marks : List Bool) → length marks ≡ frames_of words → frames_of words ≤ i → MarkedBefore l words i marks → MarksStale l words marks
marked_all l words i marks count end h = record { count = count; each = λ k. by k (order k (frames_of words)) }
  where
    order : (k n : ℕ) → (k < n) ⊎ (n ≤ k)
    order k n = grind arith

    by : (k : ℕ) → (k < frames_of words) ⊎ (frames_of words ≤ k) → SaysStale l words k (slice_index_or marks k false)
    by k (inl less) = h k (omega (arith, less, end))
    by k (inr past) = subst (SaysStale l words k) (sym (get_or_past marks k false (subst (λ n. n ≤ k) (sym count) past))) (says_past l words k past)

pub marks_all : (owners : List Owner) (words : List ℕ) (i : ℕ) (marks : List Bool) → frames_of words ≤ i → Marked owners words i marks → (l : Layout) → HasOwners l owners → MarksStale l words marks
marks_all owners words i marks end h l has = marked_all l words i marks h.count end (h.each l has)

-- ---- blocks past the reserved ones

no_more : (shape : VolumeShape) → shape.version ≡ 1 → more_bitmap shape ≡ 0
unfolding more_bitmap
no_more shape one = let t : (shape.version == 2) ≡ false = grind (arith, nat_tests, one) in ap (λ b. cond b 7 0) t

-- a volume of version 1 has no bitmap beside block 1
pub reserved_count : (shape : VolumeShape) → shape.version ≡ 1 → reserved shape ≡ 2 + shape.inodes / 32
reserved_count shape one = let none = no_more shape one in omega (arith, none)

-- ---- names

pub no_name : (words : List ℕ) (k : ℕ) → is_data (tag_at words k) ≡ false → name_in words (Some k) ≡ None
no_name words k e = ap (λ b. if b then Some (name_at words k) else None) e

pub some_name : (words : List ℕ) (k : ℕ) → is_data (tag_at words k) ≡ true → name_in words (Some k) ≡ Some (name_at words k)
some_name words k e = ap (λ b. if b then Some (name_at words k) else None) e

pub metadata_unnamed : (words : List ℕ) (k : ℕ) → name_in words (Some k) ≡ None → is_data (tag_at words k) ≡ false
metadata_unnamed words k e = by (cases_Bool (is_data (tag_at words k)))
  where
    none_other : (o : Option PageName) (name : PageName) → o ≡ None → o ≡ Some name → ⊥
    none_other o name none some = cc

    by : (is_data (tag_at words k) ≡ true) ⊎ (is_data (tag_at words k) ≡ false) → is_data (tag_at words k) ≡ false
    by (inl file) = absurd (none_other _ _ e (some_name words k file))
    by (inr none) = none

not_true : (b : Bool) → not b ≡ true → b ≡ false
not_true false e = refl
not_true true e = absurd (true_false (sym e))

-- what the owner asks is what the rule asks
pub fits_owner : (l : Layout) (words : List ℕ) (k : ℕ) (owner : Owner) (fits : Bool) → IsLaid l → tag_block (tag_at words k) < l.shape.blocks → OwnerIs l (tag_block (tag_at words k)) owner → (IsTrue fits ↔ OwnerLets l (tag_block (tag_at words k)) owner (name_in words (Some k))) → IsTrue fits ↔ EntryFits l words k
fits_owner l words k owner fits laid within is e = (
  λ f. record { within = within; named = may_bear_by_owner l (tag_block (tag_at words k)) owner (name_in words (Some k)) laid is (e.0 f) },
  λ h. e.1 (owner_lets l (tag_block (tag_at words k)) owner (name_in words (Some k)) is h.named),
)

-- a table's block bears no name
pub table_fits : (l : Layout) (owners : List Owner) (words : List ℕ) (k b t : ℕ) (i : Ino) (file : Bool) → HasOwners l owners → IsLaid l → b ≡ tag_block (tag_at words k) → b < l.shape.blocks → slice_index_or owners b Nobody ≡ TableOf i t → file ≡ is_data (tag_at words k) → IsTrue (not file) ↔ EntryFits l words k
table_fits l owners words k b t i file has laid block within owner named = fits_owner l words k (TableOf i t) (not file) laid (subst (λ x. x < l.shape.blocks) block within) (subst (λ x. OwnerIs l x (TableOf i t)) block (subst (OwnerIs l b) owner (has.each b within))) (
  λ yes. no_name words k (sym named ∙ not_true file yes),
  λ none. ap not (named ∙ metadata_unnamed words k none),
)

-- a page's block bears the page's name
pub page_fits : (l : Layout) (owners : List Owner) (words : List ℕ) (k b page : ℕ) (i : Ino) (fits : Bool) → HasOwners l owners → IsLaid l → b ≡ tag_block (tag_at words k) → b < l.shape.blocks → slice_index_or owners b Nobody ≡ PageOf i page → (IsTrue fits ↔ Bears i.0 (l.node i.0) (AtPage page) (name_in words (Some k))) → IsTrue fits ↔ EntryFits l words k
page_fits l owners words k b page i fits has laid block within owner bears = fits_owner l words k (PageOf i page) fits laid (subst (λ x. x < l.shape.blocks) block within) (subst (λ x. OwnerIs l x (PageOf i page)) block (subst (OwnerIs l b) owner (has.each b within))) bears

-- a block that no node has may bear any name, but for a reserved one
pub free_fits : (l : Layout) (owners : List Owner) (words : List ℕ) (k b : ℕ) (fits : Bool) → HasOwners l owners → IsLaid l → b ≡ tag_block (tag_at words k) → b < l.shape.blocks → slice_index_or owners b Nobody ≡ Nobody → (IsTrue fits ↔ (tag_block (tag_at words k) < reserved l.shape → is_data (tag_at words k) ≡ false)) → IsTrue fits ↔ EntryFits l words k
free_fits l owners words k b fits has laid block within owner e = fits_owner l words k Nobody fits laid (subst (λ x. x < l.shape.blocks) block within) (subst (λ x. OwnerIs l x Nobody) block (subst (OwnerIs l b) owner (has.each b within))) (
  λ yes low. no_name words k (e.0 yes low),
  λ lets. e.1 (λ low. metadata_unnamed words k (lets low)),
)

-- one past the volume's fits none
pub past_fits : (l : Layout) (words : List ℕ) (k b : ℕ) → b ≡ tag_block (tag_at words k) → l.shape.blocks ≤ b → IsTrue false ↔ EntryFits l words k
past_fits l words k b block past = (λ f. absurd (true_false (sym f)), λ h. absurd (let within = h.within in omega (arith, within, past, block)))

-- the node that has a page
pub page_owner : (l : Layout) (owners : List Owner) (b page : ℕ) (i : Ino) → HasOwners l owners → b < l.shape.blocks → slice_index_or owners b Nobody ≡ PageOf i page → Owns l i.0 (AtPage page)
page_owner l owners b page i has within owner = (subst (OwnerIs l b) owner (has.each b within)).0

pub page_starts : (size placed page : ℕ) → size ≡ placed → page < (placed + 4095) / 4096 → 4096 * page < size
page_starts size placed page same within = omega (arith, same, within)
