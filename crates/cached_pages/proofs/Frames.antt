-- Words of a block's frame, as they are read.
use Rattle.cached_pages.proofs.Common.{◌≡◌, ℕ, ◌+◌, ◌*◌, ◌<◌, ◌≤◌, List, length, slice_index, Some, ◌∙◌, ap, sym, subst, arith, BlockWords, Contents, frames_of, Keeps, entry_of_block, reads, cover_at}
use Rattle.std.specs.Prelude.{take, drop}
use Rattle.std.proofs.lemmas.List.{get_or-take, get_or-drop, length-drop, length-take-le}
use Rattle.rio_base.specs.Blocks.{IsRun}
use Rattle.rio_base.specs.Memory.{page_at}
use Rattle.rio_model.specs.Cover.{frame_page}
use Rattle.cached_pages.specs.declared.tables.CacheTables.{CacheTables}
use Rattle.cached_pages.specs.Caches.{CacheSound}

-- where frame k lies
pub page_is : (k n : ℕ) (c : Contents) (t : CacheTables) → CacheSound c n t → t.first_frame + k ≡ frame_page c.words k
unfolding frame_page
page_is k n c t s = omega (arith, s.first)

pub page_within : (k n : ℕ) (c : Contents) (t : CacheTables) → CacheSound c n t → k < frames_of c.words → 512 * (t.first_frame + k) + 512 ≤ length c.words
page_within k n c t s less = omega (arith, s.first, s.coherent.protected, less)

-- word w of the page of block b
word_at : (words : List ℕ) (p w : ℕ) → w < 512 → slice_index (page_at words p) w ≡ slice_index words (512 * p + w)
word_at words p w less = get_or-take 512 (drop (512 * p) words) w 0 less ∙ get_or-drop (512 * p) words w 0

pub page_word : (k b w p : ℕ) (c : Contents) → entry_of_block c.words b ≡ Some k → w < 512 → p ≡ frame_page c.words k → slice_index (page_at c.words p) w ≡ reads c b w
page_word k b w p c found small page = word_at c.words p w small ∙ ap (λ q. slice_index c.words (512 * q + w)) page ∙ sym (cover_at (frame_page c.words) c.words c.disk b w k found small)

pub page_count : (words : List ℕ) (p : ℕ) → 512 * p + 512 ≤ length words → length (page_at words p) ≡ 512
page_count words p room = length-take-le 512 (drop (512 * p) words) (omega (arith, length-drop (512 * p) words, room))

-- the whole page that is lent
pub page_run : (k b p : ℕ) (c : Contents) (lent : List ℕ) → entry_of_block c.words b ≡ Some k → p ≡ frame_page c.words k → lent ≡ page_at c.words p → IsRun (reads c) b 0 512 lent
page_run k b p c lent found page is = record { each = λ i less. subst (λ x. slice_index lent i ≡ reads c b x) (omega arith) (ap (λ (xs : List ℕ). slice_index xs i) is ∙ page_word k b i p c found less page) }

-- a run of words, copied from the page
pub copied_run : (k b w n p : ℕ) (old new : Contents) (lent into : List ℕ) → Keeps old new → entry_of_block new.words b ≡ Some k → p ≡ frame_page new.words k → w + n ≤ 512 → lent ≡ page_at new.words p → into ≡ take n (drop w lent) → IsRun (reads old) b w n into
copied_run k b w n p old new lent into h found page fits is copy = record {
  each = λ i less.
      ap (λ (xs : List ℕ). slice_index xs i) copy ∙ get_or-take n (drop w lent) i 0 less ∙ get_or-drop w lent i 0 ∙ ap (λ (xs : List ℕ). slice_index xs (w + i)) is ∙ page_word k b (w + i) p new found (omega (arith, fits, less)) page ∙ ap (λ (f : BlockWords). f b (w + i)) h.reads;
}
