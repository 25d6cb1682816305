-- What a dump's blocks hold, by what was written to them.
use Rattle.std.specs.Prelude.{◌≡◌, ◌≢◌, ◌==◌, ℕ, ◌+◌, ◌*◌, ◌/◌, ◌%◌, ◌<◌, ◌≤◌, ◌⊎◌, Bool, true, false, List, [], length, slice_index, replicate, take, drop, set, Result, Ok, Err, OnOk, OnErr, refl, if◌then◌else◌}
use Rattle.std.proofs.Common.{◌∙◌, sym, subst, ap, inl, inr, arith, eq-eqb, get_or-set_other, get_or-set_same, get_or-take, get_or-drop}
use Rattle.std.proofs.lemmas.Bool.{cases_eq, cases_lt}
use Rattle.std.proofs.lemmas.List.{ext_get_or, get_or-replicate, get_or_past, length-replicate, length-set}
use Rattle.rio_base.specs.Disks.{DiskContents, block_at, is_pending, with_synced, with_torn, with_written}
use Rattle.rio_base.specs.Image.{AreImageSizes, image_pages}
use Rattle.rio_base.specs.Rules.{true_false}
use Rattle.rio_base.specs.declared.failures.DiskFail.{DiskFail}
use Rattle.rio_base.specs.declared.failures.DiskFail.TheVariants.{Fault, Stopped}
use Rattle.dump_area.specs.DumpSteps.{WritesDump}
use Rattle.dump_area.specs.Held.{HasImage, HasZerosBehind, HoldsImage, IsDumpable, IsHeld, IsSameDisk, IsSettled, MayLeave, NeverMixed, dump_magic, is_open}
use Rattle.dump_area.specs.Phases.{HasWords, HoldsNone, HoldsOnly, IsShut, KeepsHeld, OnlyFront}

-- ---- images

-- an image has 50 pages at least
pub image_least : (words : List ℕ) → IsDumpable words → 512 * 50 ≤ length words
image_least words h = omega (arith, h.long, h.sizes.least_frames, h.sizes.least_scratch)

-- the first page of an image tells how many it has, and they are all of it
pub dumpable_pages : (words : List ℕ) → IsDumpable words → HasImage words (length words / 512)
dumpable_pages words h = record { header = h.header; sizes = h.sizes; many = omega (arith, h.long) }

pub pages_dumpable : (words : List ℕ) (pages : ℕ) → HasImage words pages → length words ≡ 512 * pages → IsDumpable words
pages_dumpable words pages h long = record { header = h.header; sizes = h.sizes; long = long ∙ ap (λ n. 512 * n) h.many }

pub dumpable_long : (words : List ℕ) (pages : ℕ) → HasImage words pages → IsDumpable words → length words ≡ 512 * pages
dumpable_long words pages h k = k.long ∙ ap (λ n. 512 * n) (sym h.many)

-- two images are one where their words are, as far as both go
pub one_image : (a b : List ℕ) → IsDumpable a → IsDumpable b → ((i : ℕ) → i < length a → i < length b → slice_index a i ≡ slice_index b i) → a ≡ b
one_image a b h k same = ext_get_or 0 a b long (λ i less. same i less (subst (λ n. i < n) long less))
  where
    word : (i : ℕ) → i < 4 → slice_index a i ≡ slice_index b i
    word i less = same i (omega (arith, less, image_least a h)) (omega (arith, less, image_least b k))

    long : length a ≡ length b
    long = h.long ∙ ap (λ f. 512 * image_pages f (slice_index a 3)) (word 2 (omega arith)) ∙ ap (λ c. 512 * image_pages (slice_index b 2) c) (word 3 (omega arith)) ∙ sym k.long

-- blocks hold the words of one image at most
pub one_held : (blocks : List (List ℕ)) (a b : List ℕ) → IsHeld blocks a → IsHeld blocks b → a ≡ b
one_held blocks a b h k = one_image a b h.image k.image (λ i less more. h.each i less ∙ sym (k.each i more))

-- ---- what is left after a stop

-- other blocks hold it too, where their block 0 is open and the blocks behind it are the same
held_behind : (from to : List (List ℕ)) (held : List ℕ) → length from ≡ length to → is_open to ≡ true → ((b : ℕ) → b ≢ 0 → block_at from b ≡ block_at to b) → IsHeld from held → IsHeld to held
held_behind from to held count opened same h = record {
  opened = opened;
  image = h.image;
  room = subst (λ n. length held < 512 * n) count h.room;
  each = λ i less. h.each i less ∙ ap (λ ws. slice_index ws (i % 512)) (same (1 + i / 512) (λ e. absurd (omega (arith, e))));
}

-- nothing is pending, and the blocks are as before
pub keeps_same : (old new : DiskContents) → IsSettled new → new.blocks ≡ old.blocks → KeepsHeld old.blocks new
keeps_same old new settled same left may held h = held_behind left old.blocks held (may.count ∙ ap length same) opened (λ b n. all b) h
  where
    all : (b : ℕ) → block_at left b ≡ block_at old.blocks b
    all b = may.settled b (settled b) ∙ ap (λ bs. block_at bs b) same

    opened : is_open old.blocks ≡ true
    opened = ap (λ (ws : List ℕ). slice_index ws 0 == dump_magic) (sym (all 0)) ∙ h.opened

-- nothing is pending: what is left holds what the blocks hold
pub left_held : (d : DiskContents) (left : List (List ℕ)) (held : List ℕ) → IsSettled d → MayLeave d left → IsHeld d.blocks held → IsHeld left held
left_held d left held settled may h = held_behind d.blocks left held (sym may.count) (ap (λ (ws : List ℕ). slice_index ws 0 == dump_magic) (may.settled 0 (settled 0)) ∙ h.opened) (λ b n. sym (may.settled b (settled b))) h

-- block 0 alone was changed, and was open before
pub keeps_front : (old new : DiskContents) → is_open old.blocks ≡ true → OnlyFront old new → KeepsHeld old.blocks new
keeps_front old new opened front left may held h = held_behind left old.blocks held (may.count ∙ front.disk.count) opened (λ b n. may.settled b (front.settled b n) ∙ front.blocks b n) h

-- block 0 is shut for certain
pub shut_none : (d : DiskContents) → IsShut d → HoldsNone d
shut_none d h left may held k = true_false (sym k.opened ∙ ap (λ (ws : List ℕ). slice_index ws 0 == dump_magic) (may.settled 0 h.settled) ∙ h.shut)

-- block 0 alone was changed, and the blocks behind it have the words of an image
pub front_only : (words : List ℕ) (old new : DiskContents) → IsDumpable words → HasWords (length words) words old.blocks → OnlyFront old new → HoldsOnly words new
front_only words old new image has front left may held h = one_image held words h.image image (λ i less more. h.each i less ∙ ap (λ ws. slice_index ws (i % 512)) (behind (1 + i / 512) (λ e. absurd (omega (arith, e)))) ∙ sym (has i more))
  where
    behind : (b : ℕ) → b ≢ 0 → block_at left b ≡ block_at old.blocks b
    behind b n = may.settled b (front.settled b n) ∙ front.blocks b n

-- and block 0 is open
pub front_held : (words : List ℕ) (old new : DiskContents) → IsDumpable words → length words < 512 * length old.blocks → HasWords (length words) words old.blocks → OnlyFront old new → slice_index (block_at new.blocks 0) 0 ≡ dump_magic → IsHeld new.blocks words
front_held words old new image room has front opened = record {
  opened = eq-eqb _ _ opened;
  image = image;
  room = subst (λ n. length words < 512 * n) (sym front.disk.count) room;
  each = λ i less. has i less ∙ ap (λ ws. slice_index ws (i % 512)) (sym (front.blocks (1 + i / 512) (λ e. absurd (omega (arith, e)))));
}

pub mixed_keeps : (words : List ℕ) (old : List (List ℕ)) (new : DiskContents) → KeepsHeld old new → NeverMixed words old new
mixed_keeps words old new keeps left may held h = inr (keeps left may held h)

pub mixed_none : (words : List ℕ) (old : List (List ℕ)) (new : DiskContents) → HoldsNone new → NeverMixed words old new
mixed_none words old new none left may held h = absurd (none left may held h)

pub mixed_only : (words : List ℕ) (old : List (List ℕ)) (new : DiskContents) → HoldsOnly words new → NeverMixed words old new
mixed_only words old new only left may held h = inl (only left may held h)

-- ---- the disk stays the same

same_disk : (old new : DiskContents) → length new.blocks ≡ length old.blocks → new.around ≡ old.around → IsSameDisk old new
same_disk old new count around = record { count = count; around = around }

pub same_none : (d : DiskContents) → IsSameDisk d d
same_none d = record { count = refl; around = refl }

pub same_then : (a b c : DiskContents) → IsSameDisk a b → IsSameDisk b c → IsSameDisk a c
same_then a b c h k = record { count = k.count ∙ h.count; around = k.around ∙ h.around }

pub same_read : (old new : DiskContents) → new ≡ record old { faults = new.faults } → IsSameDisk old new
same_read old new e = record { count = ap (λ (d : DiskContents). length d.blocks) e; around = ap (λ (d : DiskContents). d.around) e }

-- a sync
pub synced_disk : (answer : Result (Unit {0}) DiskFail) (old new : DiskContents) → OnOk answer (new ≡ with_synced old new.faults) → OnErr answer (new ≡ record old { faults = new.faults }) → IsSameDisk old new
synced_disk (Ok x) old new ok err = record { count = ap (λ (d : DiskContents). length d.blocks) ok; around = ap (λ (d : DiskContents). d.around) ok }
synced_disk (Err e) old new ok err = same_read old new err

-- ---- writes

-- what a write of block b leaves so, however it ends
pub record Writes (b : ℕ) (old new : DiskContents) : Type 0 where
  pub disk : IsSameDisk old new
  pub others : (c : ℕ) → c ≢ b → block_at new.blocks c ≡ block_at old.blocks c
  pub marks : (c : ℕ) → c ≢ b → is_pending new.pending c ≡ is_pending old.pending c

written : (b : ℕ) (words : List ℕ) (old new : DiskContents) → new ≡ with_written old b words new.faults → Writes b old new
written b words old new e = record {
  disk = record { count = ap (λ (d : DiskContents). length d.blocks) e ∙ length-set old.blocks b words; around = ap (λ (d : DiskContents). d.around) e };
  others = λ c n. ap (λ (d : DiskContents). block_at d.blocks c) e ∙ get_or-set_other old.blocks b c words [] n;
  marks = λ c n. ap (λ (d : DiskContents). is_pending d.pending c) e ∙ get_or-set_other old.pending b c true false n;
}

cut_off : (before : Bool) (b : ℕ) (old new : DiskContents) → new ≡ (if before then old else with_torn old b) → Writes b old new
cut_off true b old new e = record { disk = same_disk old new (ap (λ (d : DiskContents). length d.blocks) e) (ap (λ (d : DiskContents). d.around) e); others = λ c n. ap (λ (d : DiskContents). block_at d.blocks c) e; marks = λ c n. ap (λ (d : DiskContents). is_pending d.pending c) e }
cut_off false b old new e = record {
  disk = same_disk old new (ap (λ (d : DiskContents). length d.blocks) e) (ap (λ (d : DiskContents). d.around) e);
  others = λ c n. ap (λ (d : DiskContents). block_at d.blocks c) e;
  marks = λ c n. ap (λ (d : DiskContents). is_pending d.pending c) e ∙ get_or-set_other old.pending b c true false n;
}

pub writes_one : (answer : Result (Unit {0}) DiskFail) (before : Bool) (b : ℕ) (words : List ℕ) (old new : DiskContents) → WritesDump answer before b words old new → Writes b old new
writes_one (Ok x) before b words old new h = written b words old new h.ok
writes_one (Err Fault) before b words old new h = let torn = h.fault refl in written b torn.0 old new torn.2
writes_one (Err Stopped) before b words old new h = cut_off before b old new (h.stopped refl)

pub writes_front : (old new : DiskContents) → IsSettled old → Writes 0 old new → OnlyFront old new
writes_front old new settled w = record { disk = w.disk; blocks = w.others; settled = λ b n. w.marks b n ∙ settled b }

pub writes_shut : (b : ℕ) (old new : DiskContents) → 0 ≢ b → Writes b old new → IsShut old → IsShut new
writes_shut b old new n w h = record {
  settled = w.marks 0 n ∙ h.settled;
  shut = ap (λ (ws : List ℕ). slice_index ws 0 == dump_magic) (w.others 0 n) ∙ h.shut;
}

-- ---- syncs

pub clear_marks : (n b : ℕ) → is_pending (replicate n false) b ≡ false
clear_marks n b = from (cases_lt b n)
  where
    from : (b < n) ⊎ (n ≤ b) → is_pending (replicate n false) b ≡ false
    from (inl less) = get_or-replicate n b false false less
    from (inr past) = get_or_past (replicate n false) b false (subst (λ k. k ≤ b) (sym (length-replicate n false)) past)

pub synced_all : (old new : DiskContents) → new ≡ with_synced old new.faults → IsSettled new
synced_all old new e b = ap (λ (d : DiskContents). is_pending d.pending b) e ∙ clear_marks (length old.blocks) b

pub synced_settled : (answer : Result (Unit {0}) DiskFail) (old new : DiskContents) → OnOk answer (new ≡ with_synced old new.faults) → OnOk answer (IsSettled new)
synced_settled (Ok x) old new ok = synced_all old new ok
synced_settled (Err e) old new ok = tt

pub synced_blocks : (answer : Result (Unit {0}) DiskFail) (old new : DiskContents) → OnOk answer (new ≡ with_synced old new.faults) → OnErr answer (new ≡ record old { faults = new.faults }) → new.blocks ≡ old.blocks
synced_blocks (Ok x) old new ok err = ap (λ (d : DiskContents). d.blocks) ok
synced_blocks (Err e) old new ok err = ap (λ (d : DiskContents). d.blocks) err

-- a block that isn't pending before isn't after
pub synced_marks : (answer : Result (Unit {0}) DiskFail) (old new : DiskContents) (b : ℕ) → OnOk answer (new ≡ with_synced old new.faults) → OnErr answer (new ≡ record old { faults = new.faults }) → is_pending old.pending b ≡ false → is_pending new.pending b ≡ false
synced_marks (Ok x) old new b ok err h = synced_all old new ok b
synced_marks (Err e) old new b ok err h = ap (λ (d : DiskContents). is_pending d.pending b) err ∙ h

pub synced_front : (answer : Result (Unit {0}) DiskFail) (old mid new : DiskContents) → OnlyFront old mid → OnOk answer (new ≡ with_synced mid new.faults) → OnErr answer (new ≡ record mid { faults = new.faults }) → OnlyFront old new
synced_front answer old mid new h ok err =
    let same = synced_blocks answer mid new ok err in
    record {
      disk = same_then old mid new h.disk (synced_disk answer mid new ok err);
      blocks = λ b n. ap (λ bs. block_at bs b) same ∙ h.blocks b n;
      settled = λ b n. synced_marks answer mid new b ok err (h.settled b n);
    }

pub synced_shut : (answer : Result (Unit {0}) DiskFail) (old new : DiskContents) → IsShut old → OnOk answer (new ≡ with_synced old new.faults) → OnErr answer (new ≡ record old { faults = new.faults }) → IsShut new
synced_shut answer old new h ok err = record { settled = synced_marks answer old new 0 ok err h.settled; shut = ap (λ bs. is_open bs) (synced_blocks answer old new ok err) ∙ h.shut }

pub has_words_same : (n : ℕ) (words : List ℕ) (from to : List (List ℕ)) → to ≡ from → HasWords n words from → HasWords n words to
has_words_same n words from to same h = subst (λ (bs : List (List ℕ)). HasWords n words bs) (sym same) h

-- ---- block 0's other words

zero_word : (n i : ℕ) → slice_index (replicate n 0) i ≡ 0
zero_word n i = from (cases_lt i n)
  where
    from : (i < n) ⊎ (n ≤ i) → slice_index (replicate n 0) i ≡ 0
    from (inl less) = get_or-replicate n i 0 0 less
    from (inr past) = get_or_past (replicate n 0) i 0 (subst (λ k. k ≤ i) (sym (length-replicate n 0)) past)

pub front_zeros : (words : List ℕ) (n first : ℕ) → words ≡ replicate n 0 → HasZerosBehind (set words 0 first)
front_zeros words n first e i behind = get_or-set_other words 0 i first 0 (λ at. absurd (omega (arith, at, behind))) ∙ ap (λ (ws : List ℕ). slice_index ws i) e ∙ zero_word n i

-- such words are written to block 0, and synced
pub synced_zeros : (answer : Result (Unit {0}) DiskFail) (old mid new : DiskContents) (words room : List ℕ) → words ≡ room → 0 < length old.blocks → mid ≡ with_written old 0 words mid.faults → HasZerosBehind room → OnOk answer (new ≡ with_synced mid new.faults) → OnOk answer (HasZerosBehind (block_at new.blocks 0))
synced_zeros (Ok x) old mid new words room is block wrote zeros ok = λ i behind. ap (λ (ws : List ℕ). slice_index ws i) (ap (λ (d : DiskContents). block_at d.blocks 0) ok ∙ ap (λ (d : DiskContents). block_at d.blocks 0) wrote ∙ get_or-set_same old.blocks 0 words [] block ∙ is) ∙ zeros i behind
synced_zeros (Err e) old mid new words room is block wrote zeros ok = tt

-- ---- pages

-- one more page is written
pub has_page : (p : ℕ) (words page : List ℕ) (old new : DiskContents) → page ≡ take 512 (drop (512 * p) words) → 1 + p < length old.blocks → new ≡ with_written old (1 + p) page new.faults → HasWords (512 * p) words old.blocks → HasWords (512 * (p + 1)) words new.blocks
has_page p words page old new is room e h i less = from (cases_eq (i / 512) p)
  where
    here : block_at new.blocks (1 + p) ≡ page
    here = ap (λ (d : DiskContents). block_at d.blocks (1 + p)) e ∙ get_or-set_same old.blocks (1 + p) page [] room

    word : slice_index page (i % 512) ≡ slice_index words (512 * p + i % 512)
    word = ap (λ ws. slice_index ws (i % 512)) is ∙ get_or-take 512 (drop (512 * p) words) (i % 512) 0 (omega arith) ∙ get_or-drop (512 * p) words (i % 512) 0

    from : (i / 512 ≡ p) ⊎ (i / 512 ≢ p) → slice_index words i ≡ slice_index (block_at new.blocks (1 + i / 512)) (i % 512)
    from (inl same) =
        ap (slice_index words) (omega (arith, same)) ∙ sym word ∙ ap (λ ws. slice_index ws (i % 512)) (sym here) ∙ ap (λ q. slice_index (block_at new.blocks (1 + q)) (i % 512)) (sym same)
    from (inr n) =
        h i (omega (arith, less, n)) ∙ ap (λ ws. slice_index ws (i % 512)) (sym (ap (λ (d : DiskContents). block_at d.blocks (1 + i / 512)) e ∙ get_or-set_other old.blocks (1 + p) (1 + i / 512) page [] (λ q. n (omega (arith, q)))))

-- ---- what is read

first_block : (blocks : List (List ℕ)) (i : ℕ) → i < 4 → slice_index (block_at blocks (1 + i / 512)) (i % 512) ≡ slice_index (block_at blocks 1) i
first_block blocks i less =
    let block : i / 512 ≡ 0 = omega (arith, less) in
    let place : i % 512 ≡ i = omega (arith, less) in
    ap (λ b. slice_index (block_at blocks (1 + b)) (i % 512)) block ∙ ap (slice_index (block_at blocks 1)) place

-- the words of as many blocks as an image has are held
pub held_read : (blocks : List (List ℕ)) (pages : ℕ) (words : List ℕ) → HoldsImage blocks pages → length words ≡ 512 * pages → HasWords (512 * pages) words blocks → IsHeld blocks words
held_read blocks pages words h long has = record {
  opened = h.opened;
  image = record {
    header = record { magic = word 0 (omega arith) ∙ h.image.header.magic; version = word 1 (omega arith) ∙ h.image.header.version };
    sizes = subst (λ f. AreImageSizes f (slice_index words 3)) (sym (word 2 (omega arith))) (subst (λ c. AreImageSizes (slice_index (block_at blocks 1) 2) c) (sym (word 3 (omega arith))) h.image.sizes);
    long = long ∙ ap (λ n. 512 * n) (h.image.many ∙ ap (λ f. image_pages f (slice_index (block_at blocks 1) 3)) (sym (word 2 (omega arith))) ∙ ap (λ c. image_pages (slice_index words 2) c) (sym (word 3 (omega arith))));
  };
  room = omega (arith, long, h.room);
  each = λ i less. has i (subst (λ n. i < n) long less);
}
  where
    least : 50 ≤ pages
    least = omega (arith, h.image.many, h.image.sizes.least_frames, h.image.sizes.least_scratch)

    word : (i : ℕ) → i < 4 → slice_index words i ≡ slice_index (block_at blocks 1) i
    word i less = has i (omega (arith, less, least)) ∙ first_block blocks i less

-- blocks that hold words hold an image of so many pages
pub held_image : (blocks : List (List ℕ)) (words : List ℕ) → IsHeld blocks words → HoldsImage blocks (length words / 512)
held_image blocks words h = record {
  opened = h.opened;
  image = record {
    header = record { magic = sym (word 0 (omega arith)) ∙ h.image.header.magic; version = sym (word 1 (omega arith)) ∙ h.image.header.version };
    sizes = subst (λ f. AreImageSizes f (slice_index (block_at blocks 1) 3)) (word 2 (omega arith)) (subst (λ c. AreImageSizes (slice_index words 2) c) (word 3 (omega arith)) h.image.sizes);
    many = many ∙ ap (λ f. image_pages f (slice_index words 3)) (word 2 (omega arith)) ∙ ap (λ c. image_pages (slice_index (block_at blocks 1) 2) c) (word 3 (omega arith));
  };
  room = omega (arith, h.room, h.image.long);
}
  where
    many : length words / 512 ≡ image_pages (slice_index words 2) (slice_index words 3)
    many = omega (arith, h.image.long)

    word : (i : ℕ) → i < 4 → slice_index words i ≡ slice_index (block_at blocks 1) i
    word i less = h.each i (omega (arith, less, image_least words h.image)) ∙ first_block blocks i less

-- where no block is open, or the first page is no image's, or the blocks are too few, nothing is held
pub none_shut : (blocks : List (List ℕ)) → is_open blocks ≡ false → (held : List ℕ) → IsHeld blocks held → ⊥
none_shut blocks shut held h = true_false (sym h.opened ∙ shut)

pub none_image : (blocks : List (List ℕ)) → ((pages : ℕ) → HasImage (block_at blocks 1) pages → ⊥) → (held : List ℕ) → IsHeld blocks held → ⊥
none_image blocks n held h = n (length held / 512) (held_image blocks held h).image

pub none_few : (blocks : List (List ℕ)) → length blocks < 2 → (held : List ℕ) → IsHeld blocks held → ⊥
none_few blocks few held h = absurd (omega (arith, few, h.room, image_least held h.image))

pub none_room : (blocks : List (List ℕ)) (pages : ℕ) → HasImage (block_at blocks 1) pages → length blocks ≤ pages → (held : List ℕ) → IsHeld blocks held → ⊥
none_room blocks pages image few held h =
    let holds = held_image blocks held h in
    absurd (omega (arith, few, holds.room, holds.image.many, image.many))
