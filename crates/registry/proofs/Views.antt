-- A machine that is read as the blocks that memory and disk stand for.
use Rattle.std.specs.Prelude.{◌≡◌, ◌≢◌, ◌⊎◌, ℕ, suc, ◌+◌, ◌-◌, ◌*◌, ◌<◌, ◌≤◌, ◌==◌, ◌||◌, ◌&&◌, if◌then◌else◌, Bool, true, false, List, length, slice_index, slice_index_or, slice_set, take, drop, Option, Some, None, is_some, refl}
use Rattle.std.proofs.Common.{◌∙◌, ap, sym, subst, inl, inr, arith, get_or-set_same, get_or-set_other}
use Rattle.std.proofs.lemmas.Bool.{cases_eq, eq-eqb, ne_eqb}
use Rattle.std.proofs.lemmas.List.{get_or_default, get_or-take, get_or-drop, length-drop, length-take-le}
use Rattle.rio_base.specs.declared.places.Block.{Block}
use Rattle.rio_base.specs.Blocks.{BlockWords, IsRun}
use Rattle.rio_base.specs.Disks.{block_at}
use Rattle.rio_base.specs.Machine.{Contents, Running}
use Rattle.rio_base.specs.Memory.{page_at}
use Rattle.rio_model.specs.Cover.{entry_of_block, holds, last_of, stands}
use Rattle.rio_model.specs.CoverLookups.{cover_at, cover_home}
use Rattle.rio_model.specs.Registry.{frames_of, is_valid, page_of_entry, tag_at, tag_block}
use Rattle.registry.specs.Views.{ListsEntries, ViewSound, Viewed, entry_mark, is_at_hand, is_held}

-- ---- the table of entries

-- entry k is of block x
pub noted_here : (words entries : List ℕ) (k x b : ℕ) → x ≡ tag_block (tag_at words k) → is_valid (tag_at words k) ≡ true → x < length entries → slice_index (slice_set entries x (k + 1)) b ≡ (if holds words b k then k + 1 else slice_index entries b)
noted_here words entries k x b of_block valid within = from (cases_eq x b)
  where
    held : (t : Bool) → (tag_block (tag_at words k) == b) ≡ t → (if holds words b k then k + 1 else slice_index entries b) ≡ (if t then k + 1 else slice_index entries b)
    held t e = ap (λ (v : Bool). if v && (tag_block (tag_at words k) == b) then k + 1 else slice_index entries b) valid ∙ ap (λ (v : Bool). if v then k + 1 else slice_index entries b) e

    from : (x ≡ b) ⊎ (x ≢ b) → slice_index (slice_set entries x (k + 1)) b ≡ (if holds words b k then k + 1 else slice_index entries b)
    from (inl e) = subst (λ n. slice_index (slice_set entries x (k + 1)) n ≡ k + 1) e (get_or-set_same entries x (k + 1) 0 within) ∙ sym (held true (eq-eqb _ b (sym of_block ∙ e)))
    from (inr n) = get_or-set_other entries x b (k + 1) 0 (λ e. n (sym e)) ∙ sym (held false (ne_eqb _ b (λ e. n (of_block ∙ e))))

-- entry k is of no block below
pub held_not : (words : List ℕ) (b k : ℕ) → (is_valid (tag_at words k) ≡ false) ⊎ (tag_block (tag_at words k) ≢ b) → holds words b k ≡ false
held_not words b k (inl e) = ap (λ (v : Bool). v && (tag_block (tag_at words k) == b)) e
held_not words b k (inr n) = by (is_valid (tag_at words k))
  where
    by : (v : Bool) → (v && (tag_block (tag_at words k) == b)) ≡ false
    by true = ne_eqb _ b n
    by false = refl

pub noted_nowhere : (words : List ℕ) (b k old : ℕ) → (is_valid (tag_at words k) ≡ false) ⊎ (tag_block (tag_at words k) ≢ b) → old ≡ (if holds words b k then k + 1 else old)
noted_nowhere words b k old none = sym (ap (λ (v : Bool). if v then k + 1 else old) (held_not words b k none))

last_next : (t : ℕ → Bool) (k next : ℕ) → next ≡ suc k → last_of t next ≡ (if t k then Some k else last_of t k)
unfolding last_of
last_next t k next e = subst (λ n. last_of t n ≡ (if t k then Some k else last_of t k)) (sym e) refl

-- one entry more is noted
pub noted_next : (words : List ℕ) (b k old new : ℕ) → old ≡ entry_mark (last_of (holds words b) k) → new ≡ (if holds words b k then k + 1 else old) → new ≡ entry_mark (last_of (holds words b) (k + 1))
noted_next words b k old new was is = is ∙ by (holds words b k) ∙ sym (ap entry_mark (last_next (holds words b) k (k + 1) (omega arith)))
  where
    by : (t : Bool) → (if t then k + 1 else old) ≡ entry_mark (if t then Some k else last_of (holds words b) k)
    by true = refl
    by false = was

pub noted_none : (words : List ℕ) (b old : ℕ) → old ≡ 0 → old ≡ entry_mark (last_of (holds words b) 0)
unfolding last_of
noted_none words b old e = e

pub noted_all : (words : List ℕ) (count : ℕ) (entries : List ℕ) → length entries ≡ count → ((b : ℕ) → b < count → slice_index entries b ≡ entry_mark (last_of (holds words b) (frames_of words))) → ListsEntries words count entries
unfolding entry_of_block
noted_all words count entries size h = record { count = size; each = h }

pub mark_none : (o : Option ℕ) (n : ℕ) → n ≡ entry_mark o → n ≡ 0 → o ≡ None
mark_none None n e z = refl
mark_none (Some k) n e z = let f : n ≡ k + 1 = e in absurd (omega (arith, f, z))

pub mark_some : (o : Option ℕ) (n : ℕ) → n ≡ entry_mark o → n ≢ 0 → o ≡ Some (n - 1)
mark_some None n e s = absurd (s e)
mark_some (Some k) n e s = let f : n ≡ k + 1 = e in ap Some (omega (arith, f))

-- a mark as it is read from the table
pub mark_read : (words : List ℕ) (blocks b n : ℕ) (entries : List ℕ) → ListsEntries words blocks entries → b < blocks → n ≡ slice_index_or entries b n → n ≡ entry_mark (entry_of_block words b)
mark_read words blocks b n entries table within read = read ∙ get_or_default entries b n 0 (omega (arith, within, table.count)) ∙ table.each b within

-- ---- words at hand

pub hand_entry : (words : List ℕ) (held : Option Block) (b n : ℕ) → n ≡ entry_mark (entry_of_block words b) → n ≢ 0 → is_at_hand words held b ≡ true
hand_entry words held b n e s = ap (λ (o : Option ℕ). is_some o || is_held held b) (mark_some (entry_of_block words b) n e s)

pub hand_held : (words : List ℕ) (held : Option Block) (b n : ℕ) → n ≡ entry_mark (entry_of_block words b) → n ≡ 0 → is_at_hand words held b ≡ is_held held b
hand_held words held b n e z = ap (λ (o : Option ℕ). is_some o || is_held held b) (mark_none (entry_of_block words b) n e z)

pub hand_read : (words : List ℕ) (held : Option Block) (b : ℕ) → is_held held b ≡ true → is_at_hand words held b ≡ true
hand_read words held b h = by (is_some (entry_of_block words b))
  where
    by : (e : Bool) → (e || is_held held b) ≡ true
    by true = refl
    by false = h

pub hand_sure : (words : List ℕ) (held : Option Block) (b : ℕ) → is_some (entry_of_block words b) ≡ true → is_at_hand words held b ≡ true
hand_sure words held b e = ap (λ (s : Bool). s || is_held held b) e

page_word : (words : List ℕ) (p w : ℕ) → w < 512 → slice_index (page_at words p) w ≡ slice_index words (512 * p + w)
page_word words p w less = get_or-take 512 (drop (512 * p) words) w 0 less ∙ get_or-drop (512 * p) words w 0

pub page_count : (words : List ℕ) (p : ℕ) → 512 * p + 512 ≤ length words → length (page_at words p) ≡ 512
page_count words p room = length-take-le 512 (drop (512 * p) words) (omega (arith, length-drop (512 * p) words, room))

-- the page that counts for the entry of a block
pub entry_run : (c : Contents) (b n p : ℕ) (lent : List ℕ) → n ≡ entry_mark (entry_of_block c.words b) → n ≢ 0 → p ≡ page_of_entry c.words (n - 1) → lent ≡ page_at c.words p → IsRun (stands c) b 0 512 lent
entry_run c b n p lent mark some page is = record {
  each = λ i less. subst (λ x. slice_index lent i ≡ stands c b x) (omega arith)
      (ap (λ (xs : List ℕ). slice_index xs i) is ∙ page_word c.words p i less ∙ ap (λ q. slice_index c.words (512 * q + i)) page
      ∙ sym (cover_at (page_of_entry c.words) c.words c.disk b i (n - 1) (mark_some (entry_of_block c.words b) n mark some) less));
}

-- the disk's block, where no entry has it
pub home_run : (c : Contents) (b n : ℕ) (lent : List ℕ) → n ≡ entry_mark (entry_of_block c.words b) → n ≡ 0 → lent ≡ block_at c.disk b → IsRun (stands c) b 0 512 lent
home_run c b n lent mark none is = record {
  each = λ i less. subst (λ x. slice_index lent i ≡ stands c b x) (omega arith)
      (ap (λ (xs : List ℕ). slice_index xs i) is ∙ sym (cover_home (page_of_entry c.words) c.words c.disk b i (mark_none (entry_of_block c.words b) n mark none) less));
}

stands_viewed : (c d : Contents) (r s : Running) → Viewed c d r s → stands d ≡ stands c
stands_viewed c d r s h = ap (λ (m : Contents). stands m) h.rest

-- a word, and a run of words, of a block that was made ready
pub word_viewed : (c d : Contents) (r s : Running) (b w : ℕ) (lent : List ℕ) → Viewed c d r s → IsRun (stands d) b 0 512 lent → w < 512 → slice_index lent w ≡ stands c b w
word_viewed c d r s b w lent h run less = run.each w less ∙ ap (stands d b) (omega arith) ∙ ap (λ (f : BlockWords). f b w) (stands_viewed c d r s h)

pub run_viewed : (c d : Contents) (r s : Running) (b w n : ℕ) (lent into : List ℕ) → Viewed c d r s → IsRun (stands d) b 0 512 lent → w + n ≤ 512 → into ≡ take n (drop w lent) → IsRun (stands c) b w n into
run_viewed c d r s b w n lent into h run fits copy = record {
  each = λ i less. ap (λ (xs : List ℕ). slice_index xs i) copy ∙ get_or-take n (drop w lent) i 0 less ∙ get_or-drop w lent i 0 ∙ word_viewed c d r s b (w + i) lent h run (omega (arith, fits, less));
}

-- what holds is so still of a machine that was only read, with another room and another block in it
pub sound_viewed : (c d : Contents) (r s : Running) (entries block room : List ℕ) (held now : Option Block) → ViewSound c r entries block held → Viewed c d r s → length room ≡ 512 → ((b : ℕ) → is_held now b ≡ true → room ≡ block_at c.disk b) → ViewSound d s entries room now
sound_viewed c d r s entries block room held now sound h size has =
    subst (λ (m : Contents). ViewSound m s entries room now) (sym h.rest) (subst (λ (q : Running). ViewSound (record c { faults = d.faults }) q entries room now) (sym h.run) (record {
      layout = sound.layout;
      rules = sound.rules;
      closed = sound.closed;
      table = sound.table;
      room = size;
      reading = has;
    }))
