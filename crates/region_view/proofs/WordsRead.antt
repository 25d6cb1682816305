-- What reads of a region's words owe at their exits.
use Rattle.region_view.proofs.Common.{◌≡◌, ℕ, ◌+◌, ◌*◌, ◌/◌, ◌%◌, ◌<◌, ◌≤◌, List, cond, sym, ap, subst, ◌∙◌, arith, Err, Ok, OnOk, Result, VolumeShape, BlockWords, Seen, Held, held_of, held_ino, counts_of, AtPage, placed_at, volume_layout, Owns}
use Rattle.std.specs.Prelude.{IfOk}
use Rattle.rio_base.specs.Blocks.{IsRun, IsSpan}
use Rattle.rio_base.specs.Regions.{AreWords}
use Rattle.region_view.specs.Views.{CanReadWords, IsWordPage}
use Rattle.region_view.proofs.RegionHeader.{used_size}
use Rattle.region_view.proofs.RegionPlaces.{page_below}

-- the word in its block is that of the region
pub word_at : (shape : VolumeShape) (f : BlockWords) (y : Seen) (i at b : ℕ) → IsWordPage shape y.words i at b → y.words ≡ f → y.words b (at % 512) ≡ (held_of shape f i).word at
word_at shape f y i at b on same =
    ap (λ c. y.words c (at % 512)) on.block
    ∙ sym (ap (λ (k : Held). k.word at) (held_ino (volume_layout shape y.words) y.words i on.own.ino) ∙ ap (λ t. cond t (y.words ((placed_at y.words i).block (AtPage (at / 512))) (at % 512)) 0) (counts_of (placed_at y.words i).kind (placed_at y.words i).size at on.own.slot.used on.within))
    ∙ ap (λ e. (held_of shape e i).word at) same

pub value_as : {E : Type 0} (r : Result ℕ E) (a b : ℕ) → a ≡ b → IfOk r (λ v. v ≡ a) → IfOk r (λ v. v ≡ b)
value_as r a b e h = subst (λ n. IfOk r (λ v. v ≡ n)) e h

-- a later word of the same page
page_on : (shape : VolumeShape) (f : BlockWords) (i at b k : ℕ) → IsWordPage shape f i at b → at % 512 + k < 512 → 8 * (at + k) < (placed_at f i).size → IsWordPage shape f i (at + k) b
page_on shape f i at b k h within less =
    let page : at / 512 ≡ (at + k) / 512 = omega (arith, within) in
    record { kind = h.kind; own = subst (λ p. Owns (volume_layout shape f) i (AtPage p)) page h.own; within = less; block = h.block ∙ ap (λ p. (placed_at f i).block (AtPage p)) page }

-- and so are the words of a run
run_words : (shape : VolumeShape) (f : BlockWords) (y : Seen) (i at b n : ℕ) (words : List ℕ) → IsWordPage shape y.words i at b → y.words ≡ f → at % 512 + n ≤ 512 → 8 * (at + n) ≤ (held_of shape f i).size → IsRun y.words b (at % 512) n words → AreWords (held_of shape f i).word at n words
run_words shape f y i at b n words on same within most run = record { each = λ k less. run.each k less ∙ ap (y.words b) (place k less) ∙ word_at shape f y i (at + k) b (page_on shape y.words i at b k on (omega (arith, within, less)) (small k less)) same }
  where
    size : 8 * (at + n) ≤ (placed_at y.words i).size
    size = subst (λ s. 8 * (at + n) ≤ s) (used_size shape y.words i on.own.ino on.own.slot.used) (subst (λ e. 8 * (at + n) ≤ (held_of shape e i).size) (sym same) most)

    small : (k : ℕ) → k < n → 8 * (at + k) < (placed_at y.words i).size
    small k less = let s = size in omega (arith, s, less)

    place : (k : ℕ) → k < n → at % 512 + k ≡ (at + k) % 512
    place k less = omega (arith, within, less)

pub words_read : {T E : Type 0} (r : Result T E) (shape : VolumeShape) (f : BlockWords) (y : Seen) (i at b n : ℕ) (words : List ℕ) → IsWordPage shape y.words i at b → y.words ≡ f → at % 512 + n ≤ 512 → 8 * (at + n) ≤ (held_of shape f i).size → OnOk r (IsRun y.words b (at % 512) n words) → OnOk r (AreWords (held_of shape f i).word at n words)
words_read (Ok x) shape f y i at b n words on same within most run = run_words shape f y i at b n words on same within most run
words_read (Err e) shape f y i at b n words on same within most run = tt

-- a run lies in its block
pub run_span : (shape : VolumeShape) (y : Seen) (i at b n : ℕ) → CanReadWords shape y → IsWordPage shape y.words i at b → at % 512 + n ≤ 512 → IsSpan y b (at % 512) n
run_span shape y i at b n can on within = record { block = page_below shape y i at b can on; within = within }

-- its first word is one of the region's
pub first_within : (at n size : ℕ) → 0 < n → 8 * (at + n) ≤ size → 8 * at < size
first_within at n size some most = omega (arith, some, most)

-- ---- runs read in parts

-- where the words of all blocks are the same
pub words_as : (shape : VolumeShape) (f g : BlockWords) (i at n : ℕ) (words : List ℕ) → g ≡ f → AreWords (held_of shape g i).word at n words → AreWords (held_of shape f i).word at n words
words_as shape f g i at n words same h = subst (λ e. AreWords (held_of shape e i).word at n words) same h

pub place_on : (shape : VolumeShape) (f g : BlockWords) (i at n m : ℕ) → g ≡ f → m ≡ n → 8 * (at + n) ≤ (held_of shape f i).size → 8 * (at + m) ≤ (held_of shape g i).size
place_on shape f g i at n m same long most = subst (λ k. 8 * (at + k) ≤ (held_of shape g i).size) (sym long) (subst (λ e. 8 * (at + n) ≤ (held_of shape e i).size) (sym same) most)
