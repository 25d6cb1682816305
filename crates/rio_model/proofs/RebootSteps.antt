-- What each step of a reboot keeps: nothing, a block written, a sync, an entry marked dirty, a stop between two boots.
use Rattle.rio_model.proofs.Common.{Bool, List, Some, ap, arith, cases_Bool, cases_eq, drop, false, inl, inr, is_pending, length, refl, slice_index, slice_set, subst, sym, true, true_false, used_bit, Contents, VolumeShape, ℕ, ◌&&◌, ◌*◌, ◌+◌, ◌<◌, ◌==◌, ◌∙◌, ◌≡◌, ◌≢◌, ◌⊎◌, []}
use Rattle.std.proofs.Common.{get_or-set_same, get_or-set_other}
use Rattle.std.proofs.lemmas.List.{get_or-take, get_or-drop, length-set}
use Rattle.rio_base.specs.Disks.{block_at}
use Rattle.rio_base.specs.Image.{registry_pages}
use Rattle.rio_base.specs.Machine.{WritesBlock}
use Rattle.rio_base.specs.Memory.{page_at}
use Rattle.rio_model.specs.Cover.{HeldEntry, MayLeave, Narrows, cover_by, dirty_entry, entry_of_block, has_dirty, holds, home_word, stands, stands_on}
use Rattle.rio_model.specs.CoverLookups.{found_is}
use Rattle.rio_model.specs.Registry.{BlockRule, IsValid, KeepsRegistry, OneEntry, frames_of, is_data, is_dirty, is_valid, page_of_entry, tag_at, tag_block, with_dirty}
use Rattle.rio_model.specs.Standing.{Brings, Endures, IsHome, IsSettled, Restorable, Sound, StandsBut, none_apart}
use Rattle.rio_model.proofs.CoverChanges.{cover_written, found_kept, page_word_one, stands_kept}
use Rattle.rio_model.proofs.CoverLookups.{found_at, found_same, frames_one, header_one, tag_one}
use Rattle.rio_model.proofs.CoverStands.{narrows_refl, narrows_trans}
use Rattle.rio_model.proofs.CoverSteps.{Retagged, dirty_of, dirty_some, disk_same, hold_dirtied, pending_same, registry_retagged}
use Rattle.rio_model.proofs.HeldEntries.{narrows_held}
use Rattle.rio_model.proofs.RegistryRules.{dirtied_block, dirtied_data, dirtied_dirty, dirtied_valid}

-- ---- the relation

pub stands_refl : (apart : ℕ → Bool) (c : Contents) → StandsBut apart c c
stands_refl apart c = record { each = λ d m. (d, m, λ b w out. refl) }

pub stands_trans : (apart : ℕ → Bool) (a b c : Contents) → StandsBut apart a b → StandsBut apart b c → StandsBut apart a c
stands_trans apart a b c h k = record {
  each = λ d m.
      let one = k.each d m in
      let two = h.each one.0 one.1 in
      (two.0, two.1, λ x w out. one.2 x w out ∙ two.2 x w out);
}

pub endures_refl : (apart : ℕ → Bool) (c : Contents) → Endures apart c c
endures_refl apart c = record { could = stands_refl apart c; standing = λ b w out. refl; narrows = narrows_refl c.words; image = λ n i. i; sound = λ shape s. s }

pub endures_trans : (apart : ℕ → Bool) (a b c : Contents) → Endures apart a b → Endures apart b c → Endures apart a c
endures_trans apart a b c h k = record { could = stands_trans apart a b c h.could k.could; standing = λ x w out. k.standing x w out ∙ h.standing x w out; narrows = narrows_trans a.words b.words c.words h.narrows k.narrows; image = λ n i. k.image n (h.image n i); sound = λ shape s. k.sound shape (h.sound shape s) }

-- more blocks are apart
pub endures_wider : (p q : ℕ → Bool) (old new : Contents) → ((b : ℕ) → p b ≡ true → q b ≡ true) → Endures p old new → Endures q old new
endures_wider p q old new more h = record {
  could = record { each = λ d m. let one = h.could.each d m in (one.0, one.1, λ b w out. one.2 b w (still b out (cases_Bool (p b)))) };
  standing = λ b w out. h.standing b w (still b out (cases_Bool (p b)));
  narrows = h.narrows;
  image = h.image;
  sound = h.sound;
}
  where
    still : (b : ℕ) → q b ≡ false → (p b ≡ true) ⊎ (p b ≡ false) → p b ≡ false
    still b out (inl e) = absurd (true_false (sym (more b e) ∙ out))
    still b out (inr e) = e

pub endures_widened : (apart : ℕ → Bool) (old new : Contents) → Endures none_apart old new → Endures apart old new
endures_widened apart old new h = endures_wider none_apart apart old new (λ b e. absurd (true_false (sym e))) h

pub image_then : (apart : ℕ → Bool) (a b : Contents) (n m : ℕ) → Restorable a n → Endures apart a b → m ≡ n → Restorable b m
image_then apart a b n m i h same = subst (Restorable b) (sym same) (h.image n i)

pub narrows_words : (old new : List ℕ) → new ≡ old → Narrows old new
narrows_words old new e = subst (Narrows old) (sym e) (narrows_refl old)

-- the same words, and as many blocks
pub image_same : (n : ℕ) (old new : Contents) → new.words ≡ old.words → length new.disk ≡ length old.disk → Restorable old n → Restorable new n
image_same n old new words count i = record {
  header = rw words i.header;
  sizes = rw words i.sizes;
  protected = rw words i.protected;
  scratch_pages = rw words i.scratch_pages;
  rules = rw words i.rules;
  on_disk = λ k v. subst (λ (ws : List ℕ). tag_block (tag_at ws k) < length new.disk) (sym words) (subst (λ m. tag_block (tag_at old.words k) < m) (sym count) (i.on_disk k (subst (λ (ws : List ℕ). IsValid ws k) words v)));
}

-- ---- steps that bring pages to the disk

pub brings_refl : (c : Contents) → Brings c c
brings_refl c = record { endures = endures_refl none_apart c; found = λ b. refl }

pub brings_trans : (a b c : Contents) → Brings a b → Brings b c → Brings a c
brings_trans a b c h k = record { endures = endures_trans none_apart a b c h.endures k.endures; found = λ x. k.found x ∙ h.found x }

pub brings_words : (old new : Contents) → Endures none_apart old new → new.words ≡ old.words → Brings old new
brings_words old new h words = record { endures = h; found = λ b. ap (λ (ws : List ℕ). entry_of_block ws b) words }

-- each entry is as it was, but for its mark
pub brings_held : (old new : Contents) → Endures none_apart old new → frames_of new.words ≡ frames_of old.words → ((k : ℕ) → HeldEntry k old.words new.words) → Brings old new
brings_held old new h frames held = record { endures = h; found = λ b. found_same old.words new.words b frames (λ j less. same j b (held j)) }
  where
    same : (j b : ℕ) → HeldEntry j old.words new.words → holds new.words b j ≡ holds old.words b j
    same j b e = ap (λ x. x && (tag_block (tag_at new.words j) == b)) e.valid ∙ ap (λ x. is_valid (tag_at old.words j) && (x == b)) e.block

-- ---- block b, which has an entry, is written: whatever it holds then, the page counts

abbrev back : (b : ℕ) (old : Contents) (d : List (List ℕ)) → List (List ℕ)
back b old d = slice_set d b (block_at old.disk b)

back_other : (b : ℕ) (old : Contents) (d : List (List ℕ)) (c : ℕ) → c ≢ b → block_at (back b old d) c ≡ block_at d c
back_other b old d c n = get_or-set_other d b c (block_at old.disk b) [] n

-- with the block as it was, what may be left now might have been left before
leaves_written : (b : ℕ) (old new : Contents) (d : List (List ℕ)) → WritesBlock b old new → b < length old.disk → length (block_at old.disk b) ≡ 512 → MayLeave new d → MayLeave old (back b old d)
leaves_written b old new d h room whole m = record {
  count = long ∙ m.count ∙ h.count;
  whole = λ c less. whole_at c (subst (λ x. c < x) long less) (cases_eq c b);
  kept = λ c firm. kept_at c firm (cases_eq c b);
}
  where
    long : length (back b old d) ≡ length d
    long = length-set d b (block_at old.disk b)

    here : b < length d → block_at (back b old d) b ≡ block_at old.disk b
    here less = get_or-set_same d b (block_at old.disk b) [] less

    whole_at : (c : ℕ) → c < length d → (c ≡ b) ⊎ (c ≢ b) → length (block_at (back b old d) c) ≡ 512
    whole_at c less (inl e) = subst (λ x. length (block_at (back b old d) x) ≡ 512) (sym e) (ap (λ (l : List ℕ). length l) (here (subst (λ x. x < length d) e less)) ∙ whole)
    whole_at c less (inr n) = ap (λ (l : List ℕ). length l) (back_other b old d c n) ∙ m.whole c less

    kept_at : (c : ℕ) → is_pending old.pending c ≡ false → (c ≡ b) ⊎ (c ≢ b) → block_at (back b old d) c ≡ block_at old.disk c
    kept_at c firm (inl e) = subst (λ x. block_at (back b old d) x ≡ block_at old.disk x) (sym e) (here (subst (λ n. b < n) (sym (m.count ∙ h.count)) room))
    kept_at c firm (inr n) = back_other b old d c n ∙ m.kept c (h.marks c n ∙ firm) ∙ h.others c n

stands_written : (b k : ℕ) (old new : Contents) (d : List (List ℕ)) → WritesBlock b old new → entry_of_block old.words b ≡ Some k → stands_on new d ≡ stands_on old (back b old d)
stands_written b k old new d h found = subst (λ (ws : List ℕ). cover_by (page_of_entry ws) ws d ≡ cover_by (page_of_entry old.words) old.words (back b old d)) (sym h.words)
    (cover_written b k (page_of_entry old.words) old.words (back b old d) d found (λ c n w. ap (λ (l : List ℕ). slice_index l w) (sym (back_other b old d c n))))

-- the block's entry is dirty
sound_written : (b k : ℕ) (old new : Contents) (shape : VolumeShape) → WritesBlock b old new → entry_of_block old.words b ≡ Some k → is_dirty (tag_at old.words k) ≡ true → b < length old.disk → length (block_at old.disk b) ≡ 512 → BlockRule old.words → Sound old shape → Sound new shape
sound_written b k old new shape h found dirty room whole rule s = record {
  written = λ d m c p u. written d m c p u (cases_eq c b);
  clean = λ j v c w less. clean j (subst (λ (ws : List ℕ). IsValid ws j) h.words v) (ap (λ (ws : List ℕ). is_dirty (tag_at ws j)) (sym h.words) ∙ c) w less;
}
  where
    written : (d : List (List ℕ)) → MayLeave new d → (c : ℕ) → is_pending new.pending c ≡ true → used_bit shape (stands_on new d) c ≡ 1 → (c ≡ b) ⊎ (c ≢ b) → has_dirty new.words c ≡ true
    written d m c p u (inl e) = ap (λ (ws : List ℕ). has_dirty ws c) h.words ∙ ap (has_dirty old.words) e ∙ ap (dirty_entry old.words) found ∙ dirty
    written d m c p u (inr n) = ap (λ (ws : List ℕ). has_dirty ws c) h.words ∙ s.written (back b old d) (leaves_written b old new d h room whole m) c (sym (h.marks c n) ∙ p) (ap (λ f. used_bit shape f c) (sym (stands_written b k old new d h found)) ∙ u)

    clean : (j : ℕ) → IsValid old.words j → is_dirty (tag_at old.words j) ≡ false → (w : ℕ) → w < 512 → slice_index new.words (512 * page_of_entry new.words j + w) ≡ home_word new.disk (tag_block (tag_at new.words j)) w
    clean j v c w less = subst (λ (ws : List ℕ). slice_index ws (512 * page_of_entry ws j + w) ≡ home_word new.disk (tag_block (tag_at ws j)) w) (sym h.words)
        (s.clean j v c w less ∙ ap (λ (xs : List ℕ). slice_index xs w) (sym (h.others (tag_block (tag_at old.words j)) (λ e. true_false (sym dirty ∙ ap (λ x. is_dirty (tag_at old.words x)) (rule k j (found_is old.words b k found).0 v ((found_is old.words b k found).1 ∙ sym e)) ∙ c)))))

pub endures_written : (n b k : ℕ) (old new : Contents) → Restorable old n → WritesBlock b old new → IsValid old.words k → is_dirty (tag_at old.words k) ≡ true → b ≡ tag_block (tag_at old.words k) → length (block_at old.disk b) ≡ 512 → Endures none_apart old new
endures_written n b k old new i h v dirty same whole = record {
  could = record { each = λ d m. (back b old d, leaves_written b old new d h room whole m, λ c w out. ap (λ (f : ℕ → ℕ → ℕ). f c w) (stands_written b k old new d h found)) };
  standing = λ c w out. ap (λ (ws : List ℕ). cover_by (page_of_entry ws) ws new.disk c w) h.words ∙ ap (λ (f : ℕ → ℕ → ℕ). f c w) (cover_written b k (page_of_entry old.words) old.words old.disk new.disk found (λ x n y. ap (λ (l : List ℕ). slice_index l y) (h.others x n)));
  narrows = narrows_words old.words new.words h.words;
  image = λ m j. image_same m old new h.words h.count j;
  sound = λ shape s. sound_written b k old new shape h found dirty room whole i.rules.blocks s;
}
  where
    found : entry_of_block old.words b ≡ Some k
    found = found_at old.words b k i.rules.blocks v (sym same)

    room : b < length old.disk
    room = subst (λ x. x < length old.disk) (sym same) (i.on_disk k v)

-- ---- nothing but marks and counts changes, and no mark is new

leaves_marked : (old new : Contents) (d : List (List ℕ)) → new.disk ≡ old.disk → ((b : ℕ) → is_pending new.pending b ≡ true → is_pending old.pending b ≡ true) → MayLeave new d → MayLeave old d
leaves_marked old new d disk marks m = record {
  count = m.count ∙ ap (λ (l : List (List ℕ)). length l) disk;
  whole = m.whole;
  kept = λ c firm. m.kept c (unmarked c firm (cases_Bool (is_pending new.pending c))) ∙ ap (λ (l : List (List ℕ)). block_at l c) disk;
}
  where
    unmarked : (c : ℕ) → is_pending old.pending c ≡ false → (is_pending new.pending c ≡ true) ⊎ (is_pending new.pending c ≡ false) → is_pending new.pending c ≡ false
    unmarked c firm (inl e) = absurd (true_false (sym (marks c e) ∙ firm))
    unmarked c firm (inr e) = e

standing_marked : (old new : Contents) → new.words ≡ old.words → new.disk ≡ old.disk → (b w : ℕ) → stands new b w ≡ stands old b w
standing_marked old new words disk b w = ap (λ (ws : List ℕ). cover_by (page_of_entry ws) ws new.disk b w) words ∙ ap (λ (d : List (List ℕ)). stands_on old d b w) disk

sound_marked : (old new : Contents) (shape : VolumeShape) → new.words ≡ old.words → new.disk ≡ old.disk → ((b : ℕ) → is_pending new.pending b ≡ true → is_pending old.pending b ≡ true) → Sound old shape → Sound new shape
sound_marked old new shape words disk marks s = record {
  written = λ d m b p u. ap (λ (ws : List ℕ). has_dirty ws b) words ∙ s.written d (leaves_marked old new d disk marks m) b (marks b p) (ap (λ (ws : List ℕ). used_bit shape (cover_by (page_of_entry ws) ws d) b) (sym words) ∙ u);
  clean = λ k v c w less. subst (λ (ws : List ℕ). slice_index ws (512 * page_of_entry ws k + w) ≡ home_word new.disk (tag_block (tag_at ws k)) w) (sym words)
      (s.clean k (subst (λ (ws : List ℕ). IsValid ws k) words v) (ap (λ (ws : List ℕ). is_dirty (tag_at ws k)) (sym words) ∙ c) w less ∙ ap (λ (d : List (List ℕ)). home_word d (tag_block (tag_at old.words k)) w) (sym disk));
}

-- as a sync leaves it
pub endures_marked : (old new : Contents) → new.words ≡ old.words → new.disk ≡ old.disk → ((b : ℕ) → is_pending new.pending b ≡ true → is_pending old.pending b ≡ true) → Endures none_apart old new
endures_marked old new words disk marks = record {
  could = record { each = λ d m. (d, leaves_marked old new d disk marks m, λ c w out. ap (λ (ws : List ℕ). cover_by (page_of_entry ws) ws d c w) words) };
  standing = λ b w out. standing_marked old new words disk b w;
  narrows = narrows_words old.words new.words words;
  image = λ n i. image_same n old new words (ap (λ (d : List (List ℕ)). length d) disk) i;
  sound = λ shape s. sound_marked old new shape words disk marks s;
}

-- as a read leaves it
pub endures_read : (old new : Contents) → new ≡ record old { faults = new.faults } → Endures none_apart old new
endures_read old new e = endures_marked old new (ap (λ (c : Contents). c.words) e) (ap (λ (c : Contents). c.disk) e) (λ b p. ap (λ (c : Contents). is_pending c.pending b) (sym e) ∙ p)

-- ---- a stop: the next machine has the words, and on its disk, of which nothing is pending, what the stop left

pub stands_stopped : (old new : Contents) → new.words ≡ old.words → MayLeave old new.disk → ((b : ℕ) → is_pending new.pending b ≡ false) → StandsBut none_apart old new
stands_stopped old new words left none = record {
  each = λ d m. (
    d,
    record {
      count = m.count ∙ left.count;
      whole = m.whole;
      kept = λ b firm. m.kept b (none b) ∙ left.kept b firm;
    },
    λ b w out. ap (λ (ws : List ℕ). cover_by (page_of_entry ws) ws d b w) words,
  );
}

-- ---- entry k changes

pub leaves_words : (old new : Contents) (d : List (List ℕ)) → new ≡ record old { words = new.words } → MayLeave new d → MayLeave old d
leaves_words old new d rest m = leaves_marked old new d (disk_same old new rest) (λ b e. ap (λ p. is_pending p b) (sym (pending_same old new rest)) ∙ e) m

pub image_one : (n k : ℕ) (old new : Contents) → new ≡ record old { words = new.words } → OneEntry k old.words new.words → KeepsRegistry new.words → (IsValid new.words k → tag_block (tag_at new.words k) < length old.disk) → Restorable old n → Restorable new n
image_one n k old new rest one rules mine i = record {
  header = record { magic = header_one k old.words new.words 0 one (omega arith) ∙ i.header.magic; version = header_one k old.words new.words 1 one (omega arith) ∙ i.header.version };
  sizes = rw (frames_one k old.words new.words one, header_one k old.words new.words 3 one (omega arith)) i.sizes;
  protected = one.count ∙ i.protected ∙ ap (λ f. 512 * (17 + registry_pages f + f)) (sym (frames_one k old.words new.words one));
  scratch_pages = i.scratch_pages ∙ ap (λ c. 512 * c) (sym (header_one k old.words new.words 3 one (omega arith)));
  rules = rules;
  on_disk = λ j v. subst (λ (d : List (List ℕ)). tag_block (tag_at new.words j) < length d) (sym (disk_same old new rest)) (at j v (cases_eq j k));
}
  where
    at : (j : ℕ) → IsValid new.words j → (j ≡ k) ⊎ (j ≢ k) → tag_block (tag_at new.words j) < length old.disk
    at j v (inl e) = subst (λ x. tag_block (tag_at new.words x) < length old.disk) (sym e) (mine (subst (IsValid new.words) e v))
    at j v (inr n) =
        let t = tag_one k j old.words new.words one n in
        rw t (i.on_disk j (record { within = subst (λ f. j < f) (frames_one k old.words new.words one) v.within; valid = ap is_valid (sym t) ∙ v.valid }))

-- an entry that is marked dirty says of its page what it said
pub held_dirtied : (k : ℕ) (old new : List ℕ) → Retagged k (with_dirty (tag_at old k)) old new → HeldEntry k old new
held_dirtied k old new r = record {
  valid = ap is_valid r.tag ∙ dirtied_valid (tag_at old k);
  named = ap is_data r.tag ∙ dirtied_data (tag_at old k);
  block = ap tag_block r.tag ∙ dirtied_block (tag_at old k);
  file = r.file;
  index = r.index;
  size = r.size;
  shadow = r.shadow;
}

pub now_dirty : (k : ℕ) (old new : List ℕ) → Retagged k (with_dirty (tag_at old k)) old new → is_dirty (tag_at new k) ≡ true
now_dirty k old new r = ap is_dirty r.tag ∙ dirtied_dirty (tag_at old k)

-- the clean pages of the other entries are the disk's blocks still
pub clean_other : (k j : ℕ) (old new : Contents) (shape : VolumeShape) → new.disk ≡ old.disk → OneEntry k old.words new.words → k < frames_of old.words → j ≢ k → Sound old shape → IsValid new.words j → is_dirty (tag_at new.words j) ≡ false → (w : ℕ) → w < 512 → slice_index new.words (512 * page_of_entry new.words j + w) ≡ home_word new.disk (tag_block (tag_at new.words j)) w
clean_other k j old new shape disk one within ne s v c w less =
    let t = tag_one k j old.words new.words one ne in
    page_word_one k j w old.words new.words one within (λ e. absurd (ne e))
    ∙ s.clean j (record { within = subst (λ f. j < f) (frames_one k old.words new.words one) v.within; valid = ap is_valid (sym t) ∙ v.valid }) (ap is_dirty (sym t) ∙ c) w less
    ∙ rw (t, disk) refl

sound_dirtied : (k : ℕ) (old new : Contents) (shape : VolumeShape) → new ≡ record old { words = new.words } → IsValid old.words k → Retagged k (with_dirty (tag_at old.words k)) old.words new.words → ((d : List (List ℕ)) → stands_on new d ≡ stands_on old d) → Sound old shape → Sound new shape
sound_dirtied k old new shape rest v r same s = record {
  written = λ d m b p u. still b (s.written d (leaves_words old new d rest m) b (ap (λ x. is_pending x b) (sym (pending_same old new rest)) ∙ p) (ap (λ f. used_bit shape f b) (sym (same d)) ∙ u));
  clean = λ j w c x less. clean j w c x less (cases_eq j k);
}
  where
    held : HeldEntry k old.words new.words
    held = held_dirtied k old.words new.words r

    dirty : (j : ℕ) → is_dirty (tag_at old.words j) ≡ true → (j ≡ k) ⊎ (j ≢ k) → is_dirty (tag_at new.words j) ≡ true
    dirty j d (inl e) = subst (λ x. is_dirty (tag_at new.words x) ≡ true) (sym e) (now_dirty k old.words new.words r)
    dirty j d (inr ne) = ap is_dirty (tag_one k j old.words new.words r.one ne) ∙ d

    still : (b : ℕ) → has_dirty old.words b ≡ true → has_dirty new.words b ≡ true
    still b d =
        let j = dirty_some old.words b d in
        dirty_of new.words b j.0 (found_kept k b old.words new.words r.one held.valid held.block ∙ j.1) ∙ dirty j.0 j.2 (cases_eq j.0 k)

    clean : (j : ℕ) → IsValid new.words j → is_dirty (tag_at new.words j) ≡ false → (w : ℕ) → w < 512 → (j ≡ k) ⊎ (j ≢ k) → slice_index new.words (512 * page_of_entry new.words j + w) ≡ home_word new.disk (tag_block (tag_at new.words j)) w
    clean j w c x less (inl e) = absurd (true_false (sym (now_dirty k old.words new.words r) ∙ ap (λ y. is_dirty (tag_at new.words y)) (sym e) ∙ c))
    clean j w c x less (inr ne) = clean_other k j old new shape (disk_same old new rest) r.one v.within ne s w c x less

-- entry k is marked dirty
pub endures_dirtied : (n k : ℕ) (old new : Contents) → Restorable old n → new ≡ record old { words = new.words } → IsValid old.words k → Retagged k (with_dirty (tag_at old.words k)) old.words new.words → Endures none_apart old new
endures_dirtied m k old new j rest v r = record {
  could = record { each = λ d m. (d, leaves_words old new d rest m, λ c w out. ap (λ (f : ℕ → ℕ → ℕ). f c w) (same d)) };
  standing = λ c w out. ap (λ (d : List (List ℕ)). stands_on new d c w) (disk_same old new rest) ∙ ap (λ (f : ℕ → ℕ → ℕ). f c w) (same old.disk);
  narrows = narrows_held k old.words new.words j.rules.blocks r.one held;
  image = λ n i. image_one n k old new rest r.one (registry_retagged k _ old.words new.words i.rules v r (hold_dirtied (tag_at old.words k))) (λ w. subst (λ x. x < length old.disk) (sym held.block) (i.on_disk k v)) i;
  sound = λ shape s. sound_dirtied k old new shape rest v r same s;
}
  where
    held : HeldEntry k old.words new.words
    held = held_dirtied k old.words new.words r

    same : (d : List (List ℕ)) → stands_on new d ≡ stands_on old d
    same d = stands_kept k old.words new.words d r.one v.within held.valid held.block r.shadow

-- ---- pages that the disk has

pub page_word : (words : List ℕ) (p w : ℕ) → w < 512 → slice_index (page_at words p) w ≡ slice_index words (512 * p + w)
page_word words p w less = get_or-take 512 (drop (512 * p) words) w 0 less ∙ get_or-drop (512 * p) words w 0

-- the disk has the page that was written
pub home_written : (old new : Contents) (k b p : ℕ) → new.words ≡ old.words → b ≡ tag_block (tag_at old.words k) → p ≡ page_of_entry old.words k → block_at new.disk b ≡ page_at old.words p → IsHome new k
home_written old new k b p words block page e = subst (λ (ws : List ℕ). IsHome (record new { words = ws }) k) (sym words) (record {
  same = λ w less.
      ap (λ q. slice_index old.words (512 * q + w)) (sym page) ∙ sym (page_word old.words p w less) ∙ ap (λ (xs : List ℕ). slice_index xs w) (sym e) ∙ ap (λ x. home_word new.disk x w) block;
})

-- the block that was read is the page
pub home_read : (old new : Contents) (k b p : ℕ) → new ≡ record old { faults = new.faults } → b ≡ tag_block (tag_at old.words k) → p ≡ page_of_entry old.words k → block_at old.disk b ≡ page_at new.words p → IsHome new k
home_read old new k b p e block page same =
    let words = ap (λ (c : Contents). c.words) e in
    let disk = ap (λ (c : Contents). c.disk) e in
    home_written old new k b p words block page (ap (λ (d : List (List ℕ)). block_at d b) disk ∙ same ∙ ap (λ (ws : List ℕ). page_at ws p) words)

-- a write of one entry's block leaves those of the others
pub home_beside : (old new : Contents) (k j b : ℕ) → KeepsRegistry old.words → WritesBlock b old new → IsValid old.words k → b ≡ tag_block (tag_at old.words k) → IsValid old.words j → j ≢ k → IsHome old j → IsHome new j
home_beside old new k j b rules h v same w ne d = subst (λ (ws : List ℕ). IsHome (record new { words = ws }) j) (sym h.words) (record {
  same = λ x less.
      d.same x less ∙ ap (λ (xs : List ℕ). slice_index xs x) (sym (h.others (tag_block (tag_at old.words j)) (λ e. ne (rules.blocks j k w v (e ∙ same)))));
})

-- the same words and blocks
pub home_same : (old new : Contents) (k : ℕ) → new.words ≡ old.words → new.disk ≡ old.disk → IsHome old k → IsHome new k
home_same old new k words disk h = subst (λ (ws : List ℕ). IsHome (record new { words = ws }) k) (sym words) (record { same = λ w less. h.same w less ∙ ap (λ (d : List (List ℕ)). home_word d (tag_block (tag_at old.words k)) w) (sym disk) })

-- entry k alone changes: the pages of the others are where they were
pub home_one : (old new : Contents) (k j : ℕ) → new.disk ≡ old.disk → OneEntry k old.words new.words → k < frames_of old.words → j ≢ k → IsHome old j → IsHome new j
home_one old new k j disk one within ne h = record {
  same = λ w less. page_word_one k j w old.words new.words one within (λ e. absurd (ne e)) ∙ h.same w less ∙ rw (tag_one k j old.words new.words one ne, disk) refl;
}

-- another entry is settled still
pub settled_other : (old new : Contents) (k j : ℕ) → new.disk ≡ old.disk → OneEntry k old.words new.words → k < frames_of old.words → j ≢ k → IsSettled old j → IsSettled new j
settled_other old new k j disk one within ne h = record {
  clean = λ v c. home_one old new k j disk one within ne (h.clean (record { within = subst (λ f. j < f) (frames_one k old.words new.words one) v.within; valid = ap is_valid (sym tag) ∙ v.valid }) (ap is_dirty (sym tag) ∙ c));
}
  where
    tag : tag_at new.words j ≡ tag_at old.words j
    tag = tag_one k j old.words new.words one ne
