-- From a prepared size of a directory, and entries that are to be stored in it, to a prepared change of the directory.
use Rattle.directories.proofs.Common.{◌≡◌, ◌≢◌, ℕ, zero, suc, ◌+◌, ◌-◌, ◌*◌, ◌/◌, ◌%◌, ◌<◌, ◌≤◌, ◌⊎◌, ◌++◌, true, false, cond, List, [], ◌∷◌, length, map, take, refl, sym, ap, subst, ◌∙◌, arith, inl, inr, None, Option, Some, Contains, Ino, PageName, VolumeShape, free_blocks, BlockWords, Seen, Kept, numbers, Inode, IsInode, inode_words, PlansSize, free_beside, given_node, planned_node, wanted_blocks, word_edit, Edit, SizeChange, page_old, Held, held, held_of, Slot, AtPage, AtTable, Placed, HasSlot, IsFree, placed_at, volume_layout, edited, run_edits, Bears, LeavesInUse, Ready}
use Rattle.std.proofs.Common.{length-take}
use Rattle.std.specs.Prelude.{not, slice_index}
use Rattle.std.specs.List.{AllByRecursion, filter}
use Rattle.rio_base.specs.Layout.{half}
use Rattle.node_pages.proofs.Skipped.{left_apart, left_are_free}
use Rattle.node_pages.specs.Changes.{Apart, EditsTable, is_among, size_update}
use Rattle.rio_model.proofs.GrowthRules.{few_tables}
use Rattle.rio_model.proofs.HeldRules.{counts_of}
use Rattle.rio_model.proofs.PlacedRules.{first_table, table_page}
use Rattle.rio_model.proofs.UpdateRules.{edited_on, edited_out}
use Rattle.rio_model.specs.Updates.{EditsNode, Turns, Update, WordEdit}
use Rattle.directories.specs.Contents.{AllGoInto, all_edits, entry_edits, sized_to, with_entries}
use Rattle.directories.specs.Plans.{InThreeBlocks, PlansDir, SameBlocks, TakesLowest, dir_update}
use Rattle.directories.specs.Reading.{CanReadDir}
use Rattle.directories.specs.declared.changes.DirChange.{DirChange}
use Rattle.directories.specs.declared.storing.EntryWords.{EntryWords}
use Rattle.directories.proofs.CanRead.{dir_held}
use Rattle.directories.proofs.EntriesHeld.{BlocksApart, InSlots, PagesHold, directory_held}

-- a change of size with the words of entries that are to be stored
pub record AddsEntries (own : Ino) (sized : SizeChange) (entries : List EntryWords) (c : DirChange) : Type 0 where
  pub dir : c.dir ≡ own
  pub inode : c.inode ≡ sized.inode
  pub edits : map word_edit c.edits ≡ map word_edit sized.edits ++ all_edits entries
  pub taken : c.taken ≡ sized.taken
  pub freed : c.freed ≡ sized.freed

-- ---- edits, each of them

all_on : (P : WordEdit → Type 0) (xs ys : List WordEdit) → AllByRecursion P xs → AllByRecursion P ys → AllByRecursion P (xs ++ ys)
all_on P [] ys a b = b
all_on P (x ∷ xs) ys a b = (a.0, all_on P xs ys a.1 b)

all_as : (P Q : WordEdit → Type 0) (xs : List WordEdit) → ((e : WordEdit) → P e → Q e) → AllByRecursion P xs → AllByRecursion Q xs
all_as P Q [] told a = tt
all_as P Q (x ∷ xs) told a = (told x a.0, all_as P Q xs told a.1)

all_words : (P : Edit → Type 0) (Q : WordEdit → Type 0) (es : List Edit) → ((e : Edit) → P e → Q (word_edit e)) → AllByRecursion P es → AllByRecursion Q (map word_edit es)
all_words P Q [] told a = tt
all_words P Q (e ∷ es) told a = (told e a.0, all_words P Q es told a.1)

each_word : (P : WordEdit → Type 0) (es : List Edit) (e : Edit) → AllByRecursion P (map word_edit es) → Contains es e → P (word_edit e)
each_word P [] e all (k, few, is) = absurd (omega (arith, few))
each_word P (d ∷ es) e all (zero, few, is) = subst (λ x. P (word_edit x)) is all.0
each_word P (d ∷ es) e all (suc k, few, is) = each_word P es e all.1 (k, omega (arith, few), is)

-- an edit of a page of a node
abbrev EditsPage : Placed → WordEdit → Type 0
EditsPage m e = ((p : ℕ) × HasSlot m (AtPage p) × (m.block (AtPage p) ≡ e.block)) × (e.word < 512)

run_pages : (m : Placed) (p b : ℕ) (value : ℕ → ℕ) (count first : ℕ) → HasSlot m (AtPage p) → m.block (AtPage p) ≡ b → first + count ≤ 512 → AllByRecursion (EditsPage m) (run_edits b value first count)
run_pages m p b value zero first has at few = tt
run_pages m p b value (suc count) first has at few = (((p, has, at), omega (arith, few)), run_pages m p b value count (first + 1) has at (omega (arith, few)))

entries_pages : (m : Placed) (slots : List ℕ) (puts : List EntryWords) → AllGoInto m slots puts → AllByRecursion (EditsPage m) (all_edits puts)
entries_pages m [] [] into = tt
entries_pages m [] (e ∷ puts) into = absurd into
entries_pages m (j ∷ slots) [] into = absurd into
entries_pages m (j ∷ slots) (e ∷ puts) into = all_on (EditsPage m) (entry_edits e) (all_edits puts)
    (run_pages m (j / 64) e.block.0 (λ w. slice_index e.words (w - e.first)) 8 e.first into.0.page (sym into.0.block) (let first = into.0.first in omega (arith, first)))
    (entries_pages m slots puts into.1)

-- edits of pages leave the tables, and edits of tables the pages
pages_only : (m : Placed) (k : ℕ) (es : List WordEdit) → BlocksApart m → HasSlot m (AtTable k) → AllByRecursion (EditsPage m) es → AllByRecursion (λ (e : WordEdit). e.block ≢ m.block (AtTable k)) es
pages_only m k es apart has all = all_as (EditsPage m) (λ (e : WordEdit). e.block ≢ m.block (AtTable k)) es (λ e on same. table_page k on.0.0 (apart (AtTable k) (AtPage on.0.0) has on.0.1 (sym (on.0.2 ∙ same)))) all

tables_only : (m : Placed) (p : ℕ) (es : List Edit) → BlocksApart m → HasSlot m (AtPage p) → AllByRecursion (EditsTable m) es → AllByRecursion (λ (e : WordEdit). e.block ≢ m.block (AtPage p)) (map word_edit es)
tables_only m p es apart has all = all_words (EditsTable m) (λ (e : WordEdit). e.block ≢ m.block (AtPage p)) es (λ e on same. table_page on.0.0 p (apart (AtTable on.0.0) (AtPage p) on.0.1 has (on.0.2 ∙ same))) all

-- ---- the blocks of two entries

block_first : List EntryWords → ℕ
block_first [] = 0
block_first (e ∷ puts) = e.block.0

block_second : List EntryWords → ℕ
block_second [] = 0
block_second (e ∷ puts) = block_first puts

abbrev InOneOf : ℕ → ℕ → ℕ → WordEdit → Type 0
InOneOf table first second e = (e.block ≡ table) ⊎ (e.block ≡ first) ⊎ (e.block ≡ second)

run_block : (P : WordEdit → Type 0) (b : ℕ) (value : ℕ → ℕ) (count first : ℕ) → ((w : ℕ) → P (record { block = b; word = w; value = value w })) → AllByRecursion P (run_edits b value first count)
run_block P b value zero first all = tt
run_block P b value (suc count) first all = (all first, run_block P b value count (first + 1) all)

two_blocks : (table : ℕ) (puts : List EntryWords) → length puts ≤ 2 → AllByRecursion (InOneOf table (block_first puts) (block_second puts)) (all_edits puts)
unfolding block_first block_second
two_blocks table [] few = tt
two_blocks table (e ∷ []) few = all_on (InOneOf table e.block.0 0) (entry_edits e) [] (run_block (InOneOf table e.block.0 0) e.block.0 (λ w. slice_index e.words (w - e.first)) 8 e.first (λ w. inr (inl refl))) tt
two_blocks table (e ∷ d ∷ []) few = all_on (InOneOf table e.block.0 d.block.0) (entry_edits e) (all_edits (d ∷ []))
    (run_block (InOneOf table e.block.0 d.block.0) e.block.0 (λ w. slice_index e.words (w - e.first)) 8 e.first (λ w. inr (inl refl)))
    (all_on (InOneOf table e.block.0 d.block.0) (entry_edits d) [] (run_block (InOneOf table e.block.0 d.block.0) d.block.0 (λ w. slice_index d.words (w - d.first)) 8 d.first (λ w. inr (inr refl))) tt)
two_blocks table (a ∷ b ∷ c ∷ puts) few = absurd (omega (arith, few))

-- ---- the update

turns_more : (shape : VolumeShape) (n m : Placed) (u : Update) (more : List WordEdit) → Turns shape n m u → AllByRecursion (EditsPage m) more → Turns shape n m (record u { edits = u.edits ++ more })
turns_more shape n m u more h in_pages = record {
  shape_fits = h.shape_fits;
  ino = h.ino;
  old_fits = h.old_fits;
  new_fits = h.new_fits;
  gains = h.gains;
  loses = h.loses;
  taken = h.taken;
  freed = h.freed;
  edits = all_on (EditsNode m) u.edits more h.edits (all_as (EditsPage m) (EditsNode m) more (λ e on. (AtPage on.0.0, on.0.1, on.0.2)) in_pages);
  kind = h.kind;
  size = h.size;
  direct = h.direct;
  indirect = h.indirect;
  later = λ f lies p past has.
      ap (λ (g : BlockWords). half (g (m.block (AtTable 0)) ((p - 24) / 2)) p) (edited_on u.edits more f)
      ∙ ap (λ w. half w p) (edited_out more (edited f u.edits) (m.block (AtTable 0)) ((p - 24) / 2) (pages_only m 0 more h.new_fits.apart (first_table m p has past) in_pages))
      ∙ h.later f lies p past has;
}

update_of : ℕ → Inode → List WordEdit → List ℕ → List ℕ → Update
update_of i n edits taken freed = record { ino = i; inode = inode_words n; edits = edits; taken = taken; freed = freed }

update_as : (i j : ℕ) (a b : Inode) (d e : List WordEdit) (s t v w : List ℕ) → i ≡ j → a ≡ b → d ≡ e → s ≡ t → v ≡ w → update_of i a d s v ≡ update_of j b e t w
update_as i j a b d e s t v w same_ino same_inode same_edits same_taken same_freed = cc

-- ---- the blocks that are taken

none_skipped : (xs : List ℕ) → filter (λ b. not (is_among [] b)) xs ≡ xs
none_skipped [] = refl
none_skipped (x ∷ xs) = ap (λ ys. x ∷ ys) (none_skipped xs)

as_many_free : (n : ℕ) (xs ys : List ℕ) → ys ≡ take n xs → length ys ≡ n → n ≤ length xs
as_many_free n xs ys is count = let cut = sym (ap length is) ∙ count in let most = length-take n xs in omega (arith, cut, most)

-- a block of a directory has no name
no_name : (d : ℕ) (n : Placed) (s : Slot) (name : Option PageName) → n.kind ≡ 1 → Bears d n s name → name ≡ None
no_name d n (AtTable k) name dir bears = bears
no_name d n (AtPage p) None dir bears = refl
no_name d n (AtPage p) (Some name) dir bears = absurd (bears.0 dir)

-- ---- all of it

-- it is the change of the directory: each word below the new size was the directory's, or is an entry's that is stored
pub dir_planned : (shape : VolumeShape) (x : Seen) (k : Kept) (y : Seen) (j : Kept) (dir : Ino) (len : ℕ) (inode : Inode) (change : SizeChange) (slots : List ℕ) (entries : List EntryWords) (becomes : Held → Held → Type 0) (c : DirChange) → CanReadDir shape x dir.0 → Ready shape x k → LeavesInUse (volume_layout shape x.words) x k y j → IsInode x.words dir.0 inode → PlansSize shape x.words y j dir.0 inode len [] change → AddsEntries dir change entries c → AllGoInto (planned_node x.words dir.0 inode len change) slots entries → length entries ≤ 2 → ((w : ℕ) → 8 * w < len → (8 * w < inode.size) ⊎ InSlots slots w) → becomes (held_of shape x.words dir.0) (sized_to len (with_entries (held_of shape x.words dir.0) slots entries)) → PlansDir shape x.words y j dir.0 becomes c
unfolding update_of
dir_planned shape x k y j dir len inode change slots entries becomes c can ready leaves is plans adds into few all does = record {
  dir = ap (λ (i : Ino). i.0) adds.dir;
  node = m;
  holds = sized_to len (with_entries h slots entries);
  turns = subst (Turns shape n m) (sym same_update) (turns_more shape n m (size_update dir.0 change) (all_edits entries) plans.turns in_pages);
  from = plans.from;
  takes = takes;
  made = made;
  was_dir = can.dir;
  is_dir = kind;
  does = does;
  words = λ e on. each_word (λ (e : WordEdit). e.word < 512) c.edits e (subst (AllByRecursion (λ (e : WordEdit). e.word < 512)) (sym adds.edits) (all_on (λ (e : WordEdit). e.word < 512) (map word_edit change.edits) (all_edits entries) (all_words (EditsTable m) (λ (e : WordEdit). e.word < 512) change.edits (λ e on. on.1) plans.tables) (all_as (EditsPage m) (λ (e : WordEdit). e.word < 512) (all_edits entries) (λ e on. on.1) in_pages))) on;
  few = three;
  firm = λ s has. elim (plans.turns.gains s has) [
    | inl old ↦ subst (λ b. j.loose b ≡ false) old.2 (leaves.firm.owned dir.0 old.0 (record { ino = can.ino; slot = old.1 }))
    | inr new ↦ plans.staged.firm (m.block s) new
  ];
  unnamed = λ s has on. elim (plans.turns.gains s has) [
    | inl old ↦ subst (λ b. y.names b ≡ None) old.2 (no_name dir.0 n old.0 _ can.dir (leaves.named.each dir.0 can.ino old.0 old.1 (subst (λ b. y.cached b ≡ true) (sym old.2) on)))
    | inr new ↦ no_name dir.0 m s _ kind (plans.staged.named s has new on)
  ];
}
  where
    n : Placed
    n = placed_at x.words dir.0

    m : Placed
    m = planned_node x.words dir.0 inode len change

    h : Held
    h = held_of shape x.words dir.0

    kind : m.kind ≡ 1
    kind = is.kind ∙ can.dir

    in_pages : AllByRecursion (EditsPage m) (all_edits entries)
    in_pages = entries_pages m slots entries into

    same_update : dir_update c ≡ record (size_update dir.0 change) { edits = map word_edit change.edits ++ all_edits entries }
    same_update = update_as c.dir.0 dir.0 c.inode change.inode (map word_edit c.edits) (map word_edit change.edits ++ all_edits entries) (numbers c.taken) (numbers change.taken) (numbers c.freed) (numbers change.freed) (ap (λ (i : Ino). i.0) adds.dir) adds.inode adds.edits (ap numbers adds.taken) (ap numbers adds.freed)

    room : wanted_blocks inode.size len ≤ length (free_beside shape x.words [])
    room = as_many_free (wanted_blocks inode.size len) (free_beside shape x.words []) (numbers change.taken) plans.lowest plans.count

    takes : TakesLowest shape x.words n.size m.size (numbers c.taken)
    takes = record {
      lowest = ap numbers adds.taken ∙ plans.lowest ∙ ap (take (wanted_blocks inode.size len)) (none_skipped (free_blocks shape x.words)) ∙ ap (λ s. take (wanted_blocks s len) (free_blocks shape x.words)) is.size;
      free = λ t below. subst (λ bs. t < length (numbers bs) → IsFree (volume_layout shape x.words) (slice_index (numbers bs) t)) (sym adds.taken) (λ under. (left_are_free shape x.words [] (wanted_blocks inode.size len) (numbers change.taken) ready.order.mapped plans.lowest room t (omega (arith, under, plans.count))).0) below;
      once = subst (λ bs. Apart (numbers bs)) (sym adds.taken) (left_apart shape x.words [] (wanted_blocks inode.size len) (numbers change.taken) plans.lowest room);
    }

    three : InThreeBlocks c.edits
    three = record {
      table = m.block (AtTable 0);
      first = block_first entries;
      second = block_second entries;
      each = λ e on. each_word in_one c.edits e (subst (AllByRecursion in_one) (sym adds.edits) (all_on in_one (map word_edit change.edits) (all_edits entries) (all_words (EditsTable m) in_one change.edits (λ e on. inl (sym on.0.2 ∙ ap (λ k. m.block (AtTable k)) (few_tables len on.0.0 on.0.1.within).0)) plans.tables) (two_blocks (m.block (AtTable 0)) entries few))) on;
    }
      where
        in_one : WordEdit → Type 0
        in_one = InOneOf (m.block (AtTable 0)) (block_first entries) (block_second entries)

    known : (g : BlockWords) → SameBlocks m y.words g → PagesHold (edited g (map word_edit change.edits)) m (λ w. 8 * w < inode.size) h.word
    known g same w below has =
        edited_out (map word_edit change.edits) g (m.block (AtPage (w / 512))) (w % 512) (tables_only m (w / 512) change.edits plans.turns.new_fits.apart has plans.tables)
        ∙ same (AtPage (w / 512)) has (w % 512)
        ∙ ap (λ b. y.words b (w % 512)) (page_old (given_node x.words dir.0 inode) len (w / 512) (numbers change.taken) (omega (arith, below)))
        ∙ leaves.words.owned dir.0 (AtPage (w / 512)) (record { ino = can.ino; slot = own }) (w % 512)
        ∙ sym (ap (λ b. cond b (x.words (n.block (AtPage (w / 512))) (w % 512)) 0) (counts_of n.kind n.size w own.used (let size = is.size in omega (arith, below, size))))
        ∙ sym (ap (λ (k : Held). k.word w) (dir_held shape x dir.0 can))
      where
        own : HasSlot n (AtPage (w / 512))
        own = record { used = (let one = can.dir in omega (arith, one)); within = (let size = is.size in omega (arith, below, size)) }

    made : (g : BlockWords) → SameBlocks m y.words g → held (edited g (map word_edit c.edits)) m ≡ sized_to len (with_entries h slots entries)
    made g same =
        ap (λ es. held (edited g es) m) adds.edits
        ∙ ap (λ (k : BlockWords). held k m) (edited_on (map word_edit change.edits) (all_edits entries) g)
        ∙ directory_held slots entries (edited g (map word_edit change.edits)) m (λ w. 8 * w < inode.size) h (omega (arith, kind)) (ap (λ (k : Held). k.kind) (dir_held shape x dir.0 can) ∙ sym is.kind) plans.turns.new_fits.apart into (known g same) all
